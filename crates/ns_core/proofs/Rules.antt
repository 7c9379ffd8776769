-- What an UplinkReq comes to, case by case.
use Rattle.std.proofs.Common.{◌≡◌, ℕ, Bool, true, false, cond, List, [], ◌∷◌, ◌++◌, Option, Some, None, is_none, refl, sym, ap, ◌∙◌}
use Rattle.wire_ids.specs.Rules.{Rule, first_rule}
use Rattle.wire_ids.specs.declared.decision.Decision.TheVariants as decision
use Rattle.agreements.specs.Walk.{Config}
use Rattle.backend_json.specs.Refusals.{row_of}
use Rattle.backend_json.specs.declared.head.Head.{Head}
use Rattle.backend_json.specs.declared.refusal.Refusal.{Refusal}
use Rattle.backend_json.specs.declared.refusal.Refusal.TheVariants as cause
use Rattle.backend_json.specs.declared.request.UplinkRequest.{UplinkRequest}
use Rattle.entries.specs.declared.change.OwnContext.{OwnContext}
use Rattle.entry_codec.specs.Machine.{Machine}
use Rattle.join_frames.specs.declared.join_up.JoinUp.{JoinUp}
use Rattle.js_core.specs.Found.{Found}
use Rattle.js_core.specs.Frames.{join_up_of, wrong_size}
use Rattle.js_core.specs.Home.{home_rules_at, sender_found}
use Rattle.js_core.specs.Replies.{JsDecision, refuses}
use Rattle.js_core.specs.Rules.{by_rules}
use Rattle.js_core.specs.Steps.{step_of}
use Rattle.js_core.specs.declared.step.JoinStep.{JoinStep}
use Rattle.js_core.proofs.Causes.{first_said, none_said}
use Rattle.exchanges.specs.Frames.{addr_of, is_data}
use Rattle.ns_core.specs.Heard.{Heard, Join, Data, Neither, heard_by, heard_of}
use Rattle.ns_core.specs.Own.{own_context}
use Rattle.ns_core.specs.Replies.{activated_with, counted_with, duplicate_answer, success_at, uplink_decided, uplink_success}
use Rattle.ns_core.specs.Rules.{CausesAscend, no_address, uplink_rules, uplink_rules_at}
use Rattle.ns_core.specs.Speakers.{Speaker, count_of, is_duplicate, speaker_of}
use Rattle.exchanges.specs.declared.valid.Count.{Count}

-- ---- rules behind others

some_then : {C : Type 0} (b : Bool) (c r : C) (rest more : Option C) → (rest ≡ Some r → more ≡ Some r) → cond b (Some c) rest ≡ Some r → cond b (Some c) more ≡ Some r
some_then true c r rest more f e = e
some_then false c r rest more f e = f e

more_some : {C : Type 0} (rules more : List (Rule C)) (r : C) → first_rule rules ≡ Some r → first_rule (rules ++ more) ≡ Some r
more_some [] more r e = absurd cc
more_some (x ∷ xs) more r e = some_then x.holds x.cause r (first_rule xs) (first_rule (xs ++ more)) (more_some xs more r) e

none_then : {C : Type 0} (b : Bool) (c : C) (rest more last : Option C) → (rest ≡ None → more ≡ last) → cond b (Some c) rest ≡ None → cond b (Some c) more ≡ last
none_then true c rest more last f e = absurd cc
none_then false c rest more last f e = f e

more_none : {C : Type 0} (rules more : List (Rule C)) → first_rule rules ≡ None → first_rule (rules ++ more) ≡ first_rule more
more_none [] more e = refl
more_none (x ∷ xs) more e = none_then x.holds x.cause (first_rule xs) (first_rule (xs ++ more)) (first_rule more) (more_none xs more) e

-- ---- what is heard

pub heard_join : (c : Config) (m : Machine) (frame : List ℕ) (up : JoinUp) → join_up_of frame ≡ Some up → heard_of c m frame ≡ Join up (sender_found c m up)
unfolding heard_of
heard_join c m frame up is = ap (heard_by c m frame) is

heard_rest : (c : Config) (m : Machine) (frame : List ℕ) (form : Bool) → join_up_of frame ≡ None → is_data frame ≡ form
    → heard_of c m frame ≡ (let d : Heard = cond form (Data (speaker_of c m (addr_of frame))) Neither in d)
unfolding heard_of
heard_rest c m frame form none is = ap (heard_by c m frame) none ∙ ap (λ (b : Bool). let d : Heard = cond b (Data (speaker_of c m (addr_of frame))) Neither in d) is

pub heard_data : (c : Config) (m : Machine) (frame : List ℕ) → join_up_of frame ≡ None → is_data frame ≡ true → heard_of c m frame ≡ Data (speaker_of c m (addr_of frame))
heard_data c m frame none is = heard_rest c m frame true none is

pub heard_neither : (c : Config) (m : Machine) (frame : List ℕ) → join_up_of frame ≡ None → is_data frame ≡ false → heard_of c m frame ≡ Neither
heard_neither c m frame none is = heard_rest c m frame false none is

module _ (c : Config) (nwk : ℕ → List ℕ) (m : Machine) (head : Head) (request : UplinkRequest) where
  -- what a request comes to by what is heard
  abbrev pub comes : Heard → JsDecision
  comes heard = by_rules (refuses head) (uplink_rules_at c nwk m request heard) (success_at c nwk m head request heard)

  pub decided_as : (heard : Heard) → heard_of c m request.phy_payload ≡ heard → comes heard ≡ uplink_decided c nwk m head request
  unfolding uplink_decided uplink_rules uplink_success
  decided_as heard is = ap comes (sym is)

  size_by : (heard : Heard) → wrong_size request.phy_payload ≡ true → comes heard ≡ refuses head cause.Size
  size_by heard wrong = rw wrong refl

  pub size_said : wrong_size request.phy_payload ≡ true → refuses head cause.Size ≡ uplink_decided c nwk m head request
  size_said wrong = sym (size_by (heard_of c m request.phy_payload) wrong) ∙ decided_as (heard_of c m request.phy_payload) refl

  neither_by : wrong_size request.phy_payload ≡ false → comes Neither ≡ refuses head cause.Frame
  neither_by sized = rw sized refl

  pub frame_said : wrong_size request.phy_payload ≡ false → join_up_of request.phy_payload ≡ None → is_data request.phy_payload ≡ false → refuses head cause.Frame ≡ uplink_decided c nwk m head request
  frame_said sized none other = sym (neither_by sized) ∙ decided_as Neither (heard_neither c m request.phy_payload none other)

  -- ---- joins and rejoins

  module _ (up : JoinUp) (found : Option Found) (sized : wrong_size request.phy_payload ≡ false) where
    abbrev last_rule : List (Rule Refusal)
    last_rule = record { cause = cause.AddressesSpent; holds = no_address c nwk m request (Join up found) } ∷ []

    rules_are : first_rule (uplink_rules_at c nwk m request (Join up found)) ≡ first_rule (home_rules_at nwk request.phy_payload (Some up) found ++ last_rule)
    rules_are = rw sized refl

    pub step_refused : (r : Refusal) → first_rule (home_rules_at nwk request.phy_payload (Some up) found) ≡ Some r → refuses head r ≡ comes (Join up found)
    step_refused r e = sym (first_said (refuses head) (uplink_rules_at c nwk m request (Join up found)) _ r (rules_are ∙ more_some (home_rules_at nwk request.phy_payload (Some up) found) last_rule r e))

    stepped : first_rule (home_rules_at nwk request.phy_payload (Some up) found) ≡ None → (b : Bool) → no_address c nwk m request (Join up found) ≡ b
        → first_rule (uplink_rules_at c nwk m request (Join up found)) ≡ (let o : Option Refusal = cond b (Some cause.AddressesSpent) None in o)
    stepped e b is = rules_are ∙ more_none (home_rules_at nwk request.phy_payload (Some up) found) last_rule e ∙ ap (λ (x : Bool). let o : Option Refusal = cond x (Some cause.AddressesSpent) None in o) is

  address_in : (up : JoinUp) (f : Found) (step : JoinStep) (own : Option OwnContext) → step ≡ step_of (nwk f.device) request.phy_payload up f.kept → own_context c m step.used f ≡ own
      → no_address c nwk m request (Join up (Some f)) ≡ is_none own
  address_in up f step own is e = ap (λ (s : JoinStep). is_none (own_context c m s.used f)) (sym is) ∙ ap (λ (o : Option OwnContext). is_none o) e

  pub none_left : (up : JoinUp) (f : Found) (step : JoinStep) (found : Option Found) → wrong_size request.phy_payload ≡ false → first_rule (home_rules_at nwk request.phy_payload (Some up) found) ≡ None → found ≡ Some f
      → step ≡ step_of (nwk f.device) request.phy_payload up f.kept → own_context c m step.used f ≡ None → refuses head cause.AddressesSpent ≡ comes (Join up found)
  none_left up f step found sized e there is none =
      let spent : no_address c nwk m request (Join up found) ≡ true = ap (λ (o : Option Found). no_address c nwk m request (Join up o)) there ∙ address_in up f step None is none in
      sym (first_said (refuses head) (uplink_rules_at c nwk m request (Join up found)) _ cause.AddressesSpent (stepped up found sized e true spent))

  success_in : (up : JoinUp) (f : Found) (step : JoinStep) (own : OwnContext) → step ≡ step_of (nwk f.device) request.phy_payload up f.kept → own_context c m step.used f ≡ Some own
      → success_at c nwk m head request (Join up (Some f)) ≡ activated_with nwk head up f step (Some own)
  success_in up f step own is e =
      ap (λ (s : JoinStep). activated_with nwk head up f s (own_context c m s.used f)) (sym is) ∙ ap (activated_with nwk head up f step) e

  pub activated_said : (up : JoinUp) (f : Found) (step : JoinStep) (own : OwnContext) (found : Option Found) → wrong_size request.phy_payload ≡ false → first_rule (home_rules_at nwk request.phy_payload (Some up) found) ≡ None → found ≡ Some f
      → step ≡ step_of (nwk f.device) request.phy_payload up f.kept → own_context c m step.used f ≡ Some own → activated_with nwk head up f step (Some own) ≡ comes (Join up found)
  activated_said up f step own found sized e there is some =
      let free : no_address c nwk m request (Join up found) ≡ false = ap (λ (o : Option Found). no_address c nwk m request (Join up o)) there ∙ address_in up f step (Some own) is some in
      sym (
      none_said (refuses head) (uplink_rules_at c nwk m request (Join up found)) _ (stepped up found sized e false free)
      ∙ ap (λ (o : Option Found). success_at c nwk m head request (Join up o)) there
      ∙ success_in up f step own is some
      )

  -- ---- data uplinks

  pub no_speaker : (speaker : Option Speaker) → wrong_size request.phy_payload ≡ false → speaker ≡ None → refuses head cause.Address ≡ comes (Data speaker)
  no_speaker speaker sized none = rw (none, sized) refl

  pub duplicate_said : (speaker : Option Speaker) (s : Speaker) → wrong_size request.phy_payload ≡ false → speaker ≡ Some s → is_duplicate request.phy_payload s ≡ true
      → (let d : JsDecision = decision.Reply (duplicate_answer head s) in d ≡ comes (Data speaker))
  duplicate_said speaker s sized is same = rw (is, sized, same) refl

  pub wrong_said : (speaker : Option Speaker) (s : Speaker) → wrong_size request.phy_payload ≡ false → speaker ≡ Some s → is_duplicate request.phy_payload s ≡ false
      → count_of nwk request.phy_payload request.data_rate s ≡ None → refuses head cause.Mic ≡ comes (Data speaker)
  wrong_said speaker s sized is new none = rw (is, sized, new, none) refl

  pub counted_said : (speaker : Option Speaker) (s : Speaker) (v : Count) → wrong_size request.phy_payload ≡ false → speaker ≡ Some s → is_duplicate request.phy_payload s ≡ false
      → count_of nwk request.phy_payload request.data_rate s ≡ Some v → counted_with nwk head request s (Some v) ≡ comes (Data speaker)
  counted_said speaker s v sized is new some = rw (is, sized, new, some) refl

-- ---- their order

pub causes_ascend : CausesAscend
unfolding uplink_rules row_of
causes_ascend c nwk m request = refl
