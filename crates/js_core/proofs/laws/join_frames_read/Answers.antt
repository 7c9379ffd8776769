use Rattle.js_core.proofs.JoinFrames.{join_frames_read}
use Rattle.js_core.proofs.laws.join_frames_read.Goals as goal

pub returns : goal.returns
returns c = join_frames_read
