use Rattle.ns_core.proofs.Rules.{causes_ascend}
use Rattle.ns_core.proofs.laws.causes_ascend.Goals as goal

pub returns : goal.returns
returns c = causes_ascend
