use Rattle.backend_json.proofs.Order.{names_ascend}
use Rattle.backend_json.proofs.laws.names_ascend.Goals as goal

pub returns : goal.returns
returns c = names_ascend
