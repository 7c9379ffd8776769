-- A request to a network server comes to a refusal, to a session that begins, to a duplicate's answer, to an uplink that counts, or to a payload that waits.
use Rattle.std.proofs.Common.{◌≡◌, ℕ, Bool, true, false, cond, not, List, Option, Some, None, refl}
use Rattle.wire_ids.specs.Rules.{Rule, first_rule}
use Rattle.wire_ids.proofs.Decisions.{none_holds}
use Rattle.wire_ids.specs.declared.decision.Decision.TheVariants as decision
use Rattle.agreements.specs.Walk.{Config}
use Rattle.backend_json.specs.declared.head.Head.{Head}
use Rattle.backend_json.specs.declared.refusal.Refusal.{Refusal}
use Rattle.backend_json.specs.declared.refusal.Refusal.TheVariants as cause
use Rattle.backend_json.specs.declared.request.Request.{Request}
use Rattle.backend_json.specs.declared.request.Request.TheVariants.{AppSKeyReq, HomeNSReq, JoinReq, RejoinReq, UplinkReq, Unknown, XmitDataReq, XmitUplink}
use Rattle.backend_json.specs.declared.request.UplinkRequest.{UplinkRequest}
use Rattle.backend_json.specs.declared.request.XmitDataRequest.{XmitDataRequest}
use Rattle.entries.specs.declared.change.OwnContext.{OwnContext}
use Rattle.entry_codec.specs.Machine.{Machine}
use Rattle.join_frames.specs.declared.join_up.JoinUp.{JoinUp}
use Rattle.js_core.specs.Found.{Found, found_of}
use Rattle.js_core.specs.Frames.{join_up_of}
use Rattle.js_core.specs.Home.{sender_found}
use Rattle.js_core.specs.Replies.{JsDecision, refuses}
use Rattle.js_core.specs.Rules.{by_rules}
use Rattle.js_core.specs.Steps as step
use Rattle.js_core.specs.Steps.{step_of, used_seed}
use Rattle.js_core.proofs.Causes.{first_said, none_said}
use Rattle.exchanges.specs.Frames.{addr_of, is_data}
use Rattle.ns_core.specs.Heard.{Heard, Join, Data, Neither, heard_by, heard_of}
use Rattle.ns_core.specs.Own.{own_context}
use Rattle.ns_core.specs.Payloads.{is_full, low_number, payload_decided, payload_rules_at, payload_success_at, too_large, wrong_device, wrong_session}
use Rattle.ns_core.specs.Replies.{activated_with, counted_with, duplicate_answer, ns_decided, success_at, uplink_decided, uplink_success}
use Rattle.ns_core.specs.Rules.{uplink_rules, uplink_rules_at}
use Rattle.ns_core.specs.Speakers.{Speaker, count_of, is_duplicate, speaker_of}
use Rattle.exchanges.specs.declared.valid.Count.{Count}
use Rattle.ns_core.proofs.Payloads.{payload_at}

-- a join- or rejoin-request that no rule refuses, and what it finds
pub record IsActivation (c : Config) (nwk : ℕ → List ℕ) (m : Machine) (request : UplinkRequest) (up : JoinUp) (f : Found) (own : OwnContext) : Type 0 where
  pub is_up : join_up_of request.phy_payload ≡ Some up
  pub is_found : sender_found c m up ≡ Some f
  pub home : f.kept.is_home ≡ true
  pub valid : step.wrong_mic (nwk f.device) request.phy_payload up f.row f.kept ≡ false
  pub above : step.low_counter (nwk f.device) request.phy_payload up f.kept ≡ false
  pub is_own : own_context c m (used_seed (nwk f.device) request.phy_payload up f.kept) f ≡ Some own

-- a data uplink that no rule refuses, and who sent it
pub record IsUplink (c : Config) (nwk : ℕ → List ℕ) (m : Machine) (request : UplinkRequest) (s : Speaker) (v : Count) : Type 0 where
  pub is_up : is_data request.phy_payload ≡ true
  pub is_speaker : speaker_of c m (addr_of request.phy_payload) ≡ Some s
  pub new : is_duplicate request.phy_payload s ≡ false
  pub is_count : count_of nwk request.phy_payload request.data_rate s ≡ Some v

-- a payload that no rule refuses, and its device
pub record IsPayload (c : Config) (m : Machine) (head : Head) (request : XmitDataRequest) (f : Found) : Type 0 where
  pub is_found : found_of c m request.dev_eui ≡ Some f
  pub few : too_large request ≡ false
  pub device : wrong_device head (Some f) ≡ false
  pub session : wrong_session request (Some f) ≡ false
  pub next : low_number request (Some f) ≡ false
  pub room : is_full (Some f) ≡ false

-- P holds in each case of a gateway's request
pub record HoldsInCases (c : Config) (nwk : ℕ → List ℕ) (m : Machine) (head : Head) (P : JsDecision → Type 0) : Type 0 where
  pub refusal : (why : Refusal) → P (refuses head why)
  pub activation : (request : UplinkRequest) (up : JoinUp) (f : Found) (own : OwnContext) → IsActivation c nwk m request up f own
      → P (activated_with nwk head up f (step_of (nwk f.device) request.phy_payload up f.kept) (Some own))
  pub duplicate : (s : Speaker) → (let d : JsDecision = decision.Reply (duplicate_answer head s) in P d)
  pub uplink : (request : UplinkRequest) (s : Speaker) (v : Count) → IsUplink c nwk m request s v → P (counted_with nwk head request s (Some v))

not_not : (b : Bool) → not b ≡ false → b ≡ true
not_not true h = refl
not_not false h = absurd cc

by_first : (head : Head) (P : JsDecision → Type 0) → ((why : Refusal) → P (refuses head why)) → (rules : List (Rule Refusal)) (success : JsDecision) (first : Option Refusal) → first_rule rules ≡ first → (first_rule rules ≡ None → P success)
    → P (by_rules (refuses head) rules success)
by_first head P refusal rules success (Some why) e then = rw (first_said (refuses head) rules success why e) (refusal why)
by_first head P refusal rules success None e then = rw (none_said (refuses head) rules success e) (then e)

-- P holds of what a payload comes to where it holds of the refusals and of success
pub payload_case : (c : Config) (m : Machine) (head : Head) (P : JsDecision → Type 0) → ((why : Refusal) → P (refuses head why)) → (request : XmitDataRequest)
    → ((f : Found) → IsPayload c m head request f → P (payload_success_at head request (Some f))) → P (payload_decided c m head request)
unfolding payload_decided
payload_case c m head P refusal request holds = by (found_of c m request.dev_eui) refl
  where
    by : (found : Option Found) → found_of c m request.dev_eui ≡ found → P (payload_at head request found)
    by None is = by_first head P refusal (payload_rules_at head request None) _ (first_rule (payload_rules_at head request None)) refl (λ none. refusal cause.Device)
    by (Some f) is = by_first head P refusal (payload_rules_at head request (Some f)) _ (first_rule (payload_rules_at head request (Some f))) refl (λ none.
        let each = none_holds (payload_rules_at head request (Some f)) none in
        holds f (record {
          is_found = is;
          few = each.0;
          device = each.1.0;
          session = each.1.1.1.0;
          next = each.1.1.1.1.0;
          room = each.1.1.1.1.1.0;
        }))

module _ (c : Config) (nwk : ℕ → List ℕ) (m : Machine) (head : Head) (P : JsDecision → Type 0) (holds : HoldsInCases c nwk m head P) where
  own_case : (request : UplinkRequest) (up : JoinUp) (f : Found) (own : Option OwnContext) → own_context c m (used_seed (nwk f.device) request.phy_payload up f.kept) f ≡ own
      → ((o : OwnContext) → own ≡ Some o → IsActivation c nwk m request up f o) → P (activated_with nwk head up f (step_of (nwk f.device) request.phy_payload up f.kept) own)
  own_case request up f None is then = holds.refusal cause.AddressesSpent
  own_case request up f (Some own) is then = holds.activation request up f own (then own refl)

  count_case : (request : UplinkRequest) (s : Speaker) (v : Option Count) → is_data request.phy_payload ≡ true → speaker_of c m (addr_of request.phy_payload) ≡ Some s → is_duplicate request.phy_payload s ≡ false
      → count_of nwk request.phy_payload request.data_rate s ≡ v → P (counted_with nwk head request s v)
  count_case request s None up is new counts = holds.refusal cause.Mic
  count_case request s (Some v) up is new counts = holds.uplink request s v (record { is_up = up; is_speaker = is; new = new; is_count = counts })

  spoken_case : (request : UplinkRequest) (s : Speaker) (same : Bool) → is_data request.phy_payload ≡ true → speaker_of c m (addr_of request.phy_payload) ≡ Some s → is_duplicate request.phy_payload s ≡ same
      → (let d : JsDecision = decision.Reply (duplicate_answer head s) in P (cond same d (counted_with nwk head request s (count_of nwk request.phy_payload request.data_rate s))))
  spoken_case request s true up is same = holds.duplicate s
  spoken_case request s false up is new = count_case request s (count_of nwk request.phy_payload request.data_rate s) up is new refl

  -- what a request comes to by what is heard
  abbrev comes : UplinkRequest → Heard → JsDecision
  comes request heard = by_rules (refuses head) (uplink_rules_at c nwk m request heard) (success_at c nwk m head request heard)

  join_case : (request : UplinkRequest) (up : JoinUp) (found : Option Found) → join_up_of request.phy_payload ≡ Some up → sender_found c m up ≡ found → P (comes request (Join up found))
  join_case request up None is_up is_found = by_first head P holds.refusal (uplink_rules_at c nwk m request (Join up None)) _ (first_rule (uplink_rules_at c nwk m request (Join up None))) refl (λ none. holds.refusal cause.Device)
  join_case request up (Some f) is_up is_found = by_first head P holds.refusal (uplink_rules_at c nwk m request (Join up (Some f))) _ (first_rule (uplink_rules_at c nwk m request (Join up (Some f)))) refl (λ none.
      let each = none_holds (uplink_rules_at c nwk m request (Join up (Some f))) none in
      own_case request up f (own_context c m (used_seed (nwk f.device) request.phy_payload up f.kept) f) refl (λ own is. record {
        is_up = is_up;
        is_found = is_found;
        home = not_not f.kept.is_home each.1.1.0;
        valid = each.1.1.1.1.1.1.0;
        above = each.1.1.1.1.1.1.1.0;
        is_own = is;
      }))

  data_case : (request : UplinkRequest) (speaker : Option Speaker) → is_data request.phy_payload ≡ true → speaker_of c m (addr_of request.phy_payload) ≡ speaker → P (comes request (Data speaker))
  data_case request None up is = by_first head P holds.refusal (uplink_rules_at c nwk m request (Data None)) _ (first_rule (uplink_rules_at c nwk m request (Data None))) refl (λ none. holds.refusal cause.Address)
  data_case request (Some s) up is = by_first head P holds.refusal (uplink_rules_at c nwk m request (Data (Some s))) _ (first_rule (uplink_rules_at c nwk m request (Data (Some s)))) refl
      (λ none. spoken_case request s (is_duplicate request.phy_payload s) up is refl)

  neither_case : (request : UplinkRequest) → P (comes request Neither)
  neither_case request = by_first head P holds.refusal (uplink_rules_at c nwk m request Neither) _ (first_rule (uplink_rules_at c nwk m request Neither)) refl (λ none. holds.refusal cause.Frame)

  rest_case : (request : UplinkRequest) (form : Bool) → is_data request.phy_payload ≡ form → (let d : Heard = Data (speaker_of c m (addr_of request.phy_payload)) in P (comes request (cond form d Neither)))
  rest_case request true is = data_case request (speaker_of c m (addr_of request.phy_payload)) is refl
  rest_case request false is = neither_case request

  heard_case : (request : UplinkRequest) (up : Option JoinUp) → join_up_of request.phy_payload ≡ up → P (comes request (heard_by c m request.phy_payload up))
  heard_case request (Some up) is = join_case request up (sender_found c m up) is refl
  heard_case request None is = rest_case request (is_data request.phy_payload) refl

  pub uplink_case : (request : UplinkRequest) → P (uplink_decided c nwk m head request)
  unfolding uplink_decided uplink_rules uplink_success heard_of
  uplink_case request = heard_case request (join_up_of request.phy_payload) refl

  pub by_cases : ((request : XmitDataRequest) (f : Found) → IsPayload c m head request f → P (payload_success_at head request (Some f))) → (request : Request) → P (ns_decided c nwk m head request)
  unfolding ns_decided
  by_cases payload (UplinkReq request) = uplink_case request
  by_cases payload (XmitDataReq request) = payload_case c m head P holds.refusal request (payload request)
  by_cases payload (XmitUplink request) = holds.refusal cause.«Type»
  by_cases payload (JoinReq request) = holds.refusal cause.«Type»
  by_cases payload (RejoinReq request) = holds.refusal cause.«Type»
  by_cases payload (AppSKeyReq request) = holds.refusal cause.«Type»
  by_cases payload (HomeNSReq request) = holds.refusal cause.«Type»
  by_cases payload Unknown = holds.refusal cause.«Type»
