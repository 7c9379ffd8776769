use Rattle.std.proofs.Common.{arith, sym, ◌∙◌}
use Rattle.keepers.proofs.journal_keeper.JournalKeeperKeeper.read.Goals as goal

pub returns-in-Ok-clause-doubts : goal.returns-in-Ok-clause-doubts
returns-in-Ok-clause-doubts g c = λ tried old. ((λ r is. old.0 r (sym c.read.ensures.records ∙ is)), omega (arith, old.1, c.read.ensures.end), c.read.ensures.doubts tried old.2)

pub returns-in-Err-DiskFault-clause-doubts : goal.returns-in-Err-DiskFault-clause-doubts
returns-in-Err-DiskFault-clause-doubts g c = λ tried old. ((λ r is. old.0 r (sym c.read.ensures.records ∙ is)), omega (arith, old.1, c.read.ensures.end), c.read.ensures.doubts tried old.2)

pub returns-in-Err-clause-doubts : goal.returns-in-Err-clause-doubts
returns-in-Err-clause-doubts g c = λ tried old. ((λ r is. old.0 r (sym c.read.ensures.records ∙ is)), omega (arith, old.1, c.read.ensures.end), c.read.ensures.doubts tried old.2)
