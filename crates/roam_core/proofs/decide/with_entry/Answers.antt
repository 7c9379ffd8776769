use Rattle.std.proofs.Common.{ap}
use Rattle.wire_ids.specs.declared.decision.Decision.TheVariants as decision
use Rattle.entries.specs.declared.entry.Entry.{Entry}
use Rattle.roam_core.specs.Decided.{RoamDecision}
use Rattle.roam_core.proofs.decide.with_entry.Goals as goal

pub returns-in_ok-entry-in-Accept-clause-value : goal.returns-in_ok-entry-in-Accept-clause-value
returns-in_ok-entry-in-Accept-clause-value c =
    let accept : Entry → RoamDecision = λ e. decision.Accept c.in-Accept.answer e in
    λ head same. rw c.in-Accept.is (ap accept (c.in_ok-entry-in-Accept.ensures.value head same))
