use Rattle.roam_core.proofs.Entitled.{lines_agree}
use Rattle.roam_core.proofs.laws.lines_agree.Goals as goal

pub returns : goal.returns
returns c = lines_agree
