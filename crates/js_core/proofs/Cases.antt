-- A request comes to a refusal, to a join that is accepted, to an application's key or to a home; and to the same one under all root
-- keys with these NwkKeys.
use Rattle.std.proofs.Common.{◌≡◌, ℕ, ◌==◌, Bool, true, false, cond, not, List, Option, Some, None, slice_get, refl, sym, ap, ◌∙◌, subst, eqb-true}
use Rattle.std.proofs.lemmas.List.Quantifiers.{position-Some}
use Rattle.std.proofs.lemmas.Option.{get_or_from_slice_get}
use Rattle.wire_ids.specs.Rules.{Rule, first_rule}
use Rattle.wire_ids.proofs.Decisions.{none_holds}
use Rattle.wire_ids.specs.declared.decision.Decision.TheVariants as decision
use Rattle.wire_ids.specs.declared.eui.Eui.{Eui}
use Rattle.agreements.specs.Walk.{Config}
use Rattle.agreements.specs.LookUps.{device_place}
use Rattle.agreements.specs.declared.rows.DeviceRow.{DeviceRow}
use Rattle.backend_json.specs.declared.answer.Answer.TheVariants.{Headed}
use Rattle.backend_json.specs.declared.answer.Outcome.TheVariants.{HomeNSAns}
use Rattle.backend_json.specs.declared.head.Head.{Head}
use Rattle.backend_json.specs.declared.refusal.Refusal.{Refusal}
use Rattle.backend_json.specs.declared.refusal.Refusal.TheVariants as cause
use Rattle.backend_json.specs.declared.request.AppSKeyRequest.{AppSKeyRequest}
use Rattle.backend_json.specs.declared.request.JoinRequest.{JoinRequest}
use Rattle.backend_json.specs.declared.request.Request.{Request}
use Rattle.backend_json.specs.declared.request.Request.TheVariants.{AppSKeyReq, HomeNSReq, JoinReq, RejoinReq, Unknown, UplinkReq, XmitDataReq, XmitUplink}
use Rattle.entry_codec.specs.Machine.{Machine}
use Rattle.entry_codec.specs.declared.device.Device.{Device}
use Rattle.entry_codec.specs.declared.device.KeptSeed.{KeptSeed}
use Rattle.join_frames.specs.declared.join_up.JoinUp.{JoinUp}
use Rattle.js_core.specs.declared.activation.Activation.{Activation}
use Rattle.js_core.specs.declared.activation.Activation.TheVariants as by
use Rattle.js_core.specs.Found.{Found, found_at, found_of, found_with}
use Rattle.js_core.specs.Frames.{join_up_of}
use Rattle.js_core.specs.Parties.{is_net}
use Rattle.js_core.specs.Replies.{JsDecision, accepted, app_s_key_reply, app_s_key_success_at, app_s_key_success_with, home_ns_success_at, join_success, join_success_at, js_decided, refuses, seed_with, success_of}
use Rattle.js_core.specs.Rules.{app_s_key_rules_at, by_rules, is_no_session, join_rules, rules_of, wrong_home}
use Rattle.js_core.specs.Rules as rule
use Rattle.js_core.specs.Steps as step
use Rattle.js_core.proofs.Causes.{first_said, none_said}

-- ---- what is found

-- where a device stands in the tables and in the state
pub record StandsAt (c : Config) (m : Machine) (dev : Eui) (f : Found) : Type 0 where
  pub is_place : device_place dev c.devices ≡ Some f.device
  pub is_row : slice_get c.devices f.device ≡ Some f.row
  pub is_kept : slice_get m.devices f.device ≡ Some f.kept

with_found : (device : ℕ) (row : Option DeviceRow) (kept : Option Device) (f : Found) → found_with device row kept ≡ Some f → (device ≡ f.device) × (row ≡ Some f.row) × (kept ≡ Some f.kept)
with_found device None kept f e = absurd cc
with_found device (Some row) None f e = absurd cc
with_found device (Some row) (Some kept) f e = let same : record { device = device; row = row; kept = kept } ≡ f = cc in (ap (λ (g : Found). g.device) same, ap (λ (g : Found). Some g.row) same, ap (λ (g : Found). Some g.kept) same)

at_found : (c : Config) (m : Machine) (dev : Eui) (place : Option ℕ) (f : Found) → device_place dev c.devices ≡ place → found_at c m place ≡ Some f → StandsAt c m dev f
at_found c m dev None f is e = absurd cc
at_found c m dev (Some device) f is e =
    let both = with_found device (slice_get c.devices device) (slice_get m.devices device) f e in
    record {
      is_place = is ∙ ap (λ (n : ℕ). let o : Option ℕ = Some n in o) both.0;
      is_row = subst (λ (n : ℕ). slice_get c.devices n ≡ Some f.row) both.0 both.1;
      is_kept = subst (λ (n : ℕ). slice_get m.devices n ≡ Some f.kept) both.0 both.2;
    }

pub stands_at : (c : Config) (m : Machine) (dev : Eui) (f : Found) → found_of c m dev ≡ Some f → StandsAt c m dev f
unfolding found_of
stands_at c m dev f e = at_found c m dev (device_place dev c.devices) f refl e

pub found_there : (c : Config) (m : Machine) (dev : Eui) (f : Found) → StandsAt c m dev f → found_of c m dev ≡ Some f
unfolding found_of
found_there c m dev f is = rw (is.is_place, is.is_row, is.is_kept) refl

-- the row that is found has the DevEUI
pub found_row : (dev : Eui) (rows : List DeviceRow) (at : ℕ) (row : DeviceRow) → device_place dev rows ≡ Some at → slice_get rows at ≡ Some row → (row.dev_eui.0 == dev.0) ≡ true
found_row dev rows at row place is =
    ap (λ (r : DeviceRow). r.dev_eui.0 == dev.0) (sym (get_or_from_slice_get rows at row row is))
    ∙ (position-Some (λ (r : DeviceRow). r.dev_eui.0 == dev.0) rows at row place).1

abbrev eui : ℕ → Eui
eui n = record { 0 = n }

pub same_eui : (a b : Eui) → a.0 ≡ b.0 → a ≡ b
same_eui a b e = ap eui e

pub found_name : (c : Config) (m : Machine) (dev : Eui) (f : Found) → StandsAt c m dev f → f.row.dev_eui ≡ dev
found_name c m dev f is = same_eui _ _ (eqb-true _ _ (found_row dev c.devices f.device f.row is.is_place is.is_row))

-- ---- the cases

-- a join- or rejoin-request that no rule refuses, and what it finds
pub record IsJoin (c : Config) (nwk : ℕ → List ℕ) (m : Machine) (activation : Activation) (head : Head) (request : JoinRequest) (up : JoinUp) (f : Found) : Type 0 where
  pub is_up : join_up_of request.phy_payload ≡ Some up
  pub is_found : found_of c m request.dev_eui ≡ Some f
  pub home : is_net f.row.home head.sender ≡ true
  pub awake : f.kept.suspended ≡ false
  pub valid : step.wrong_mic (nwk f.device) request.phy_payload up f.row f.kept ≡ false
  pub above : step.low_counter (nwk f.device) request.phy_payload up f.kept ≡ false
  pub unspent : step.is_spent f.kept ≡ false

-- an application that gets its key, and what it finds
pub record IsAsked (c : Config) (m : Machine) (request : AppSKeyRequest) (f : Found) (seed : KeptSeed) : Type 0 where
  pub is_found : found_of c m request.dev_eui ≡ Some f
  pub right : is_no_session request f.kept ≡ false
  pub is_seed : seed_with request.session_key_id.join_nonce f.kept ≡ Some seed

-- R holds of what both come to, in each case
pub record HoldsInCases (c : Config) (nwk app app' : ℕ → List ℕ) (m : Machine) (head : Head) (R : JsDecision → JsDecision → Type 0) : Type 0 where
  pub refusal : (why : Refusal) → R (refuses head why) (refuses head why)
  pub join : (activation : Activation) (request : JoinRequest) (up : JoinUp) (f : Found) → IsJoin c nwk m activation head request up f
      → R (accepted c nwk app activation head request up f) (accepted c nwk app' activation head request up f)
  pub app_s_key : (request : AppSKeyRequest) (f : Found) (seed : KeptSeed) → IsAsked c m request f seed
      → R (app_s_key_reply c app head request f seed.seed) (app_s_key_reply c app' head request f seed.seed)
  pub home_ns : (f : Found) → (let d : JsDecision = decision.Reply (Headed head (HomeNSAns (record { h_net_id = f.row.home }))) in R d d)

not_not : (b : Bool) → not b ≡ false → b ≡ true
not_not true h = refl
not_not false h = absurd cc

module _ (c : Config) (nwk app app' : ℕ → List ℕ) (m : Machine) (head : Head) (R : JsDecision → JsDecision → Type 0) (holds : HoldsInCases c nwk app app' m head R) where
  by_first : (rules : List (Rule Refusal)) (success success' : JsDecision) (first : Option Refusal) → first_rule rules ≡ first → (first_rule rules ≡ None → R success success')
      → R (by_rules (refuses head) rules success) (by_rules (refuses head) rules success')
  by_first rules success success' (Some why) e then = rw (first_said (refuses head) rules success why e, first_said (refuses head) rules success' why e) (holds.refusal why)
  by_first rules success success' None e then = rw (none_said (refuses head) rules success e, none_said (refuses head) rules success' e) (then e)

  ruled : (rules : List (Rule Refusal)) (success success' : JsDecision) → (first_rule rules ≡ None → R success success') → R (by_rules (refuses head) rules success) (by_rules (refuses head) rules success')
  ruled rules success success' then = by_first rules success success' (first_rule rules) refl then

  -- ---- joins and rejoins

  spent_case : (activation : Activation) (request : JoinRequest) (up : JoinUp) (f : Found) (spent : Bool) → (spent ≡ false → IsJoin c nwk m activation head request up f)
      → R (cond spent (refuses head cause.Spent) (accepted c nwk app activation head request up f)) (cond spent (refuses head cause.Spent) (accepted c nwk app' activation head request up f))
  spent_case activation request up f true is = holds.refusal cause.Spent
  spent_case activation request up f false is = holds.join activation request up f (is refl)

  found_case : (activation : Activation) (request : JoinRequest) (up : Option JoinUp) (found : Option Found)
      → join_up_of request.phy_payload ≡ up → found_of c m request.dev_eui ≡ found → wrong_home head found ≡ false → rule.is_suspended found ≡ false
      → rule.wrong_mic nwk request.phy_payload up found ≡ false → rule.low_counter nwk request.phy_payload up found ≡ false
      → R (join_success_at c nwk app activation head request up found) (join_success_at c nwk app' activation head request up found)
  found_case activation request None found is_up is_found home awake valid above = holds.refusal cause.Frame
  found_case activation request (Some up) None is_up is_found home awake valid above = holds.refusal cause.Device
  found_case activation request (Some up) (Some f) is_up is_found home awake valid above =
      spent_case activation request up f (step.is_spent f.kept) (λ unspent. record {
        is_up = is_up;
        is_found = is_found;
        home = not_not _ home;
        awake = awake;
        valid = valid;
        above = above;
        unspent = unspent;
      })

  join_case : (activation : Activation) (request : JoinRequest) → first_rule (join_rules c nwk m activation head request) ≡ None
      → R (join_success c nwk app m activation head request) (join_success c nwk app' m activation head request)
  unfolding join_rules join_success
  join_case activation request e =
      let device = (none_holds (join_rules c nwk m activation head request) e).1.1.1 in
      let step = device.1.1.1 in
      found_case activation request _ _ refl refl device.0 device.1.0 step.0 step.1.0

  -- ---- applications

  seed_case : (request : AppSKeyRequest) (f : Found) (seed : Option KeptSeed) → found_of c m request.dev_eui ≡ Some f → is_no_session request f.kept ≡ false → seed_with request.session_key_id.join_nonce f.kept ≡ seed
      → R (app_s_key_success_with c app head request f seed) (app_s_key_success_with c app' head request f seed)
  seed_case request f None is_found right found = holds.refusal cause.Session
  seed_case request f (Some seed) is_found right found = holds.app_s_key request f seed (record { is_found = is_found; right = right; is_seed = found })

  session_case : (request : AppSKeyRequest) (found : Option Found) → found_of c m request.dev_eui ≡ found → rule.wrong_session request found ≡ false
      → R (app_s_key_success_at c app head request found) (app_s_key_success_at c app' head request found)
  session_case request None is_found right = holds.refusal cause.Device
  session_case request (Some f) is_found right = seed_case request f _ is_found right refl

  app_s_key_case : (request : AppSKeyRequest) → first_rule (app_s_key_rules_at head request (found_of c m request.dev_eui)) ≡ None
      → R (app_s_key_success_at c app head request (found_of c m request.dev_eui)) (app_s_key_success_at c app' head request (found_of c m request.dev_eui))
  app_s_key_case request e = session_case request _ refl (none_holds (app_s_key_rules_at head request (found_of c m request.dev_eui)) e).1.0

  -- ---- homes

  home_ns_case : (found : Option Found) → R (home_ns_success_at head found) (home_ns_success_at head found)
  home_ns_case None = holds.refusal cause.Device
  home_ns_case (Some f) = holds.home_ns f

  -- ---- all requests

  request_case : (request : Request) → first_rule (rules_of c nwk m head request) ≡ None → R (success_of c nwk app m head request) (success_of c nwk app' m head request)
  request_case (JoinReq request) e = join_case by.Join request e
  request_case (RejoinReq request) e = join_case by.Rejoin request e
  request_case (AppSKeyReq request) e = app_s_key_case request e
  request_case (HomeNSReq request) e = home_ns_case (found_of c m request.dev_eui)
  request_case (UplinkReq request) e = holds.refusal cause.«Type»
  request_case (XmitDataReq request) e = holds.refusal cause.«Type»
  request_case (XmitUplink request) e = holds.refusal cause.«Type»
  request_case Unknown e = holds.refusal cause.«Type»

  pub by_cases : (request : Request) → R (js_decided c nwk app m head request) (js_decided c nwk app' m head request)
  unfolding js_decided
  by_cases request = ruled (rules_of c nwk m head request) _ _ (request_case request)
