use Rattle.js_core.proofs.Causes.{accepted_said}
use Rattle.js_core.proofs.decide.join_decision.Goals as goal

pub returns-in_ok-members-in-Ok : goal.returns-in_ok-members-in-Ok
returns-in_ok-members-in-Ok g c =
    rw (c.outcome_of-outcome.ensures, c.change-change.ensures)
    (accepted_said _ _ _ _ _ _ _ _ _ _ _ _ c.in-Ok.ensures.accepted c.in-Ok.ensures.up c.in-Ok.ensures.step c.in_ok-members-in-Ok.ensures)
