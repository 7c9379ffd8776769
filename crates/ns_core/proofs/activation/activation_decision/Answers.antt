use Rattle.std.proofs.Common.{◌≡◌, List, ℕ, Some, subst}
use Rattle.wire_ids.specs.Rules.{first_rule}
use Rattle.key_vault.specs.Table.{nwk_at}
use Rattle.entry_codec.specs.Machine.{lapse}
use Rattle.js_core.specs.Home.{home_rules_at, sender_found}
use Rattle.ns_core.proofs.Rules.{step_refused}
use Rattle.ns_core.proofs.activation.activation_decision.Goals as goal

pub returns-in-Err : goal.returns-in-Err
returns-in-Err g c =
    let config = c.args.tables.now in
    let nwk = nwk_at c.args.vault.now in
    let m = lapse c.args.now.0 c.args.state.now.now in
    let found = sender_found config m c.args.up.now in
    let first = subst (λ (frame : List ℕ). first_rule (home_rules_at nwk frame (Some c.args.up.now) found) ≡ Some c.in-Err.refusal) c.as_slice-frame.ensures c.in-Err.ensures.refused in
    rw c.refused.ensures (step_refused config nwk m c.args.head c.args.request.now c.args.up.now found c.requires.sized c.in-Err.refusal first)
