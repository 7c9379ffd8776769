use Rattle.entry_codec.proofs.Issuing.{dev_nonces_once}
use Rattle.entry_codec.proofs.laws.dev_nonces_once.Goals as goal

pub returns : goal.returns
returns c = dev_nonces_once
