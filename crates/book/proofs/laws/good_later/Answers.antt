use Rattle.book.proofs.Receipting.{good_later}
use Rattle.book.proofs.laws.good_later.Goals as goal

pub returns : goal.returns
returns c = good_later
