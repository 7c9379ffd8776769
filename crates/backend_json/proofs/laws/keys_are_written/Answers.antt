use Rattle.backend_json.proofs.KeysWritten.{keys_are_written}
use Rattle.backend_json.proofs.laws.keys_are_written.Goals as goal

pub returns : goal.returns
returns c = keys_are_written
