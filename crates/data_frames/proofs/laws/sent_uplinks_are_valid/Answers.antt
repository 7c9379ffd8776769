use Rattle.data_frames.proofs.Written.{sent_is_valid}
use Rattle.data_frames.proofs.laws.sent_uplinks_are_valid.Goals as goal

pub returns : goal.returns
returns c = sent_is_valid
