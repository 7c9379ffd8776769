use Rattle.std.proofs.Common.{refl}
use Rattle.aes_cmac.specs.Mac.{chained, Holds}
use Rattle.aes_cmac.proofs.cmac.CmacKey.begin.Goals as goal

pub returns : goal.returns
unfolding chained Holds
returns c = (c.self.view_is, refl, refl)
