use Rattle.roam_core.proofs.Fitting.{entries_fit}
use Rattle.roam_core.proofs.laws.entries_fit.Goals as goal

pub returns : goal.returns
returns c = entries_fit
