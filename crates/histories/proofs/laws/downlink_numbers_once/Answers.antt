use Rattle.histories.proofs.Downlinks.{downlink_numbers_once}
use Rattle.histories.proofs.laws.downlink_numbers_once.Goals as goal

pub returns : goal.returns
returns c = downlink_numbers_once
