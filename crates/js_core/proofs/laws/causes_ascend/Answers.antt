use Rattle.js_core.proofs.Order.{causes_ascend}
use Rattle.js_core.proofs.laws.causes_ascend.Goals as goal

pub returns : goal.returns
returns c = causes_ascend
