-- What the first rule that holds, or none, makes of a request.
use Rattle.std.proofs.Common.{◌≡◌, ℕ, Bool, true, false, cond, List, [], ◌∷◌, Some, None, refl, sym, ap, ◌∙◌}
use Rattle.wire_ids.specs.Rules.{Rule, first_rule}
use Rattle.wire_ids.specs.declared.decision.Decision.TheVariants as decision
use Rattle.agreements.specs.Walk.{Config}
use Rattle.agreements.specs.declared.rows.DeviceRow.{DeviceRow}
use Rattle.backend_json.specs.declared.answer.Answer.TheVariants.{Headed}
use Rattle.backend_json.specs.declared.answer.JoinAnswer.{JoinAnswer}
use Rattle.backend_json.specs.declared.head.Head.{Head}
use Rattle.backend_json.specs.declared.request.JoinRequest.{JoinRequest}
use Rattle.entry_codec.specs.Machine.{Machine}
use Rattle.entry_codec.specs.declared.device.Device.{Device}
use Rattle.join_frames.specs.declared.join_up.JoinUp.{JoinUp}
use Rattle.js_core.specs.declared.activation.Activation.{Activation}
use Rattle.js_core.specs.declared.step.JoinStep.{JoinStep}
use Rattle.js_core.specs.Found.{found_of}
use Rattle.js_core.specs.Frames.{join_up_of}
use Rattle.js_core.specs.Replies.{JsDecision, accepted, join_members, join_success, outcome_of, refuses}
use Rattle.js_core.specs.Rules.{by_rules, join_rules}
use Rattle.js_core.specs.Steps.{change_of, is_spent, step_of}

first_step : {C D : Type 0} (answer : C → D) (r : Rule C) (rs : List (Rule C)) (success : D) (cause : C) (b : Bool)
    → (first_rule rs ≡ Some cause → by_rules answer rs success ≡ answer cause)
    → cond b (Some r.cause) (first_rule rs) ≡ Some cause → cond b (answer r.cause) (by_rules answer rs success) ≡ answer cause
first_step answer r rs success cause true later e = let same : r.cause ≡ cause = cc in ap answer same
first_step answer r rs success cause false later e = later e

pub first_said : {C D : Type 0} (answer : C → D) (rules : List (Rule C)) (success : D) (cause : C) → first_rule rules ≡ Some cause → by_rules answer rules success ≡ answer cause
first_said answer [] success cause e = absurd cc
first_said answer (r ∷ rs) success cause e = first_step answer r rs success cause r.holds (first_said answer rs success cause) e

none_step : {C D : Type 0} (answer : C → D) (r : Rule C) (rs : List (Rule C)) (success : D) (b : Bool)
    → (first_rule rs ≡ None → by_rules answer rs success ≡ success)
    → cond b (Some r.cause) (first_rule rs) ≡ None → cond b (answer r.cause) (by_rules answer rs success) ≡ success
none_step answer r rs success true later e = absurd cc
none_step answer r rs success false later e = later e

pub none_said : {C D : Type 0} (answer : C → D) (rules : List (Rule C)) (success : D) → first_rule rules ≡ None → by_rules answer rules success ≡ success
none_said answer [] success e = refl
none_said answer (r ∷ rs) success e = none_step answer r rs success r.holds (none_said answer rs success) e

success_is : (c : Config) (nwk app : ℕ → List ℕ) (m : Machine) (activation : Activation) (head : Head) (request : JoinRequest) (up : JoinUp) (number : ℕ) (row : DeviceRow) (kept : Device)
    → join_up_of request.phy_payload ≡ Some up → found_of c m request.dev_eui ≡ Some (record { device = number; row = row; kept = kept }) → is_spent kept ≡ false
    → join_success c nwk app m activation head request ≡ accepted c nwk app activation head request up (record { device = number; row = row; kept = kept })
unfolding join_success
success_is c nwk app m activation head request up number row kept is_up is_found unspent = rw (is_up, is_found, unspent) refl

-- a request that is accepted, with its members and its step
pub accepted_said : (c : Config) (nwk app : ℕ → List ℕ) (m : Machine) (activation : Activation) (head : Head) (request : JoinRequest) (up : JoinUp) (number : ℕ) (row : DeviceRow) (step : JoinStep) (members : JoinAnswer)
    → first_rule (join_rules c nwk m activation head request) ≡ None → join_up_of request.phy_payload ≡ Some up
    → (kept : Device) × (found_of c m request.dev_eui ≡ Some (record { device = number; row = row; kept = kept })) × (is_spent kept ≡ false) × (step ≡ step_of (nwk number) request.phy_payload up kept)
    → members ≡ join_members c (nwk number) (app number) activation head request up row step.seed
    → (let d : JsDecision = decision.Accept (Headed head (outcome_of activation members)) (change_of number step None) in
    d ≡ by_rules (refuses head) (join_rules c nwk m activation head request) (join_success c nwk app m activation head request))
accepted_said c nwk app m activation head request up number row step members none is_up found is_members =
    let made : JsDecision = accepted c nwk app activation head request up (record { device = number; row = row; kept = found.0 }) in
    let same : decision.Accept (Headed head (outcome_of activation members)) (change_of number step None) ≡ made = rw (is_members, found.3) refl in
    same ∙ (sym (success_is c nwk app m activation head request up number row found.0 is_up found.1 found.2) ∙ sym (none_said (refuses head) (join_rules c nwk m activation head request) (join_success c nwk app m activation head request) none))
