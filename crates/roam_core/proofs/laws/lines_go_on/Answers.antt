use Rattle.roam_core.proofs.GoingOn.{lines_go_on}
use Rattle.roam_core.proofs.laws.lines_go_on.Goals as goal

pub returns : goal.returns
returns c = lines_go_on
