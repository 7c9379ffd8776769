use Rattle.exchanges.proofs.Reading.{data_read}
use Rattle.exchanges.proofs.laws.data_frames_read.Goals as goal

pub returns : goal.returns
returns c = data_read
