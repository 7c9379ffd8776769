use Rattle.wire_ids.proofs.Decisions.{reply_enters}
use Rattle.wire_ids.proofs.laws.entries_are_of_successes.Goals as goal

pub returns : goal.returns
returns g c = reply_enters
