use Rattle.roam_core.proofs.Parts.{numbers_rise}
use Rattle.roam_core.proofs.laws.numbers_rise.Goals as goal

pub returns : goal.returns
returns c = numbers_rise
