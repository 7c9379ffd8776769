use Rattle.roam_core.proofs.Entitled.{kept_agree}
use Rattle.roam_core.proofs.laws.kept_agree.Goals as goal

pub returns : goal.returns
returns c = kept_agree
