use Rattle.data_frames.proofs.Written.{down_has_mic}
use Rattle.data_frames.proofs.laws.downlinks_have_their_mic.Goals as goal

pub returns : goal.returns
returns c = down_has_mic
