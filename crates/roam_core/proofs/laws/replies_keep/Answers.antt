use Rattle.roam_core.proofs.Keeping.{replies_keep}
use Rattle.roam_core.proofs.laws.replies_keep.Goals as goal

pub returns : goal.returns
returns c = replies_keep
