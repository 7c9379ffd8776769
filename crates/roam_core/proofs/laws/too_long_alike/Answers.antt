use Rattle.roam_core.proofs.Long.{too_long_alike}
use Rattle.roam_core.proofs.laws.too_long_alike.Goals as goal

pub returns : goal.returns
returns c = too_long_alike
