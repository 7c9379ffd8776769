use Rattle.aes_cmac.proofs.Unseen.{none_is}
use Rattle.aes_cmac.proofs.rounds.unseen_zeros.Goals as goal

pub returns : goal.returns
returns c = none_is c.args.x c.fits-x
