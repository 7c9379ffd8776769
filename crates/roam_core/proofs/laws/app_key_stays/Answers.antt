use Rattle.roam_core.proofs.AppKeyRuns.{app_key_stays}
use Rattle.roam_core.proofs.laws.app_key_stays.Goals as goal

pub returns : goal.returns
returns c = app_key_stays
