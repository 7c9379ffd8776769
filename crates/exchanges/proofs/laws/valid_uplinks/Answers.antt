use Rattle.exchanges.proofs.Counting.{valid_uplinks}
use Rattle.exchanges.proofs.laws.valid_uplinks.Goals as goal

pub returns : goal.returns
returns c = valid_uplinks
