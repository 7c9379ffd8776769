use Rattle.entry_codec.proofs.Issuing.{join_nonces_once}
use Rattle.entry_codec.proofs.laws.join_nonces_once.Goals as goal

pub returns : goal.returns
returns c = join_nonces_once
