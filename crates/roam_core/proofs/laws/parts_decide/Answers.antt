use Rattle.roam_core.proofs.Parts.{parts_decide}
use Rattle.roam_core.proofs.laws.parts_decide.Goals as goal

pub returns : goal.returns
returns c = parts_decide
