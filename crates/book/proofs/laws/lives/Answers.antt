use Rattle.book.proofs.Living.{lives}
use Rattle.book.proofs.laws.lives.Goals as goal

pub returns : goal.returns
returns c = lives
