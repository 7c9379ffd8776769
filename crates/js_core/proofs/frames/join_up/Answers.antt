use Rattle.std.proofs.Common.{sym, arith}
use Rattle.js_core.proofs.JoinFrames.{fault_read, form_read}
use Rattle.js_core.proofs.frames.join_up.Goals as goal

pub returns-in-Ok-clause-fields : goal.returns-in-Ok-clause-fields
returns-in-Ok-clause-fields c = sym (form_read c.args.frame.now _ c.in-Ok.ensures.form)

pub returns-in-Err-clause-fields : goal.returns-in-Err-clause-fields
returns-in-Err-clause-fields c = sym (fault_read c.args.frame.now _ (λ i. omega (arith, c.type_inv.frame i)) c.in-Err.ensures.fault)
