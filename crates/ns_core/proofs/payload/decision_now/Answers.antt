use Rattle.std.proofs.Common.{◌∙◌}
use Rattle.std.proofs.lemmas.Result.{IfOk-weaker}
use Rattle.js_core.specs.Found.{found_now}
use Rattle.ns_core.proofs.Payloads.{queued_said, refused_said}
use Rattle.ns_core.proofs.payload.decision_now.Goals as goal

pub returns-in-Err : goal.returns-in-Err
returns-in-Err c =
    let said = refused_said c.args.tables.now c.args.state.now.now c.args.head c.args.request.now c.in-Err.refusal c.in-Err.ensures.refused in
    IfOk-weaker c.refusal_decision.result _ _ (λ d h. h ∙ said) c.refusal_decision.ensures

pub returns-in-Ok : goal.returns-in-Ok
returns-in-Ok c =
    let said = queued_said c.args.tables.now c.args.state.now.now c.args.head c.args.request.now (found_now c.in-Ok.device) c.in-Ok.ensures.accepted c.in-Ok.ensures.device in
    IfOk-weaker c.queued_with.result _ _ (λ d h. h ∙ said) c.queued_with.ensures
