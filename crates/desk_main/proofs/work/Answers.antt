use Rattle.desk_top.proofs.StatusLemmas.{usage_told}
use Rattle.desk_main.proofs.work.Goals as goal

pub returns-clause-usage : goal.returns-clause-usage
returns-clause-usage g c = λ other. rw c.from-2.ensures (usage_told _ _ c.run-status.ensures.ends)
