use Rattle.std.proofs.Common.{◌≡◌, Some, None, IfErr, IfOk, List, sym, subst}
use Rattle.backend_json.specs.declared.refusal.Refusal.{Refusal}
use Rattle.key_vault.specs.Table.{nwk_at}
use Rattle.wire_ids.specs.Rules.{Rule, first_rule}
use Rattle.js_core.proofs.Homes.{found_there, home_rules_lapsed, step_there, unspent_there}
use Rattle.js_core.proofs.home.home_step.Goals as goal

pub returns-clause-refused : goal.returns-clause-refused
returns-clause-refused g c =
    subst (λ (rules : List (Rule Refusal)). IfErr c.step_now.result (λ r. first_rule rules ≡ Some r))
    (sym (home_rules_lapsed c.args.tables.now c.args.state.now.now (nwk_at c.args.vault.now) c.args.now.0 c.args.frame.now c.args.up.now)) c.step_now.ensures.refused

pub returns-clause-accepted : goal.returns-clause-accepted
returns-clause-accepted g c =
    subst (λ (rules : List (Rule Refusal)). IfOk c.step_now.result (λ s. first_rule rules ≡ None))
    (sym (home_rules_lapsed c.args.tables.now c.args.state.now.now (nwk_at c.args.vault.now) c.args.now.0 c.args.frame.now c.args.up.now)) c.step_now.ensures.accepted

pub returns-clause-found : goal.returns-clause-found
returns-clause-found g c = found_there c.args.tables.now c.args.state.now.now c.args.now.0 c.args.up.now c.step_now.result c.step_now.ensures.found

pub returns-clause-step : goal.returns-clause-step
returns-clause-step g c = step_there (nwk_at c.args.vault.now) c.args.frame.now c.args.now.0 c.args.up.now c.step_now.result c.step_now.ensures.step

pub returns-clause-unspent : goal.returns-clause-unspent
returns-clause-unspent g c = unspent_there c.args.now.0 c.step_now.result c.step_now.ensures.unspent
