-- The entry that a line makes fits.
use Rattle.std.proofs.Common.{◌≡◌, ℕ, ◌<◌, ◌^◌, List, Bool, true, false, Option, Some, None, refl, sym, ap, ◌∙◌, subst}
use Rattle.std.specs.List.{list_any}
use Rattle.std.specs.Prelude.{IsTrue, nat_lt, slice_get}
use Rattle.wire_ids.specs.Lists.{at_place, holds_of}
use Rattle.wire_ids.specs.declared.decision.Decision.TheVariants as decision
use Rattle.wire_ids.specs.declared.party.Sender.{Sender}
use Rattle.key_vault.specs.Table.{app_at, nwk_at}
use Rattle.agreements.specs.Walk.{Config}
use Rattle.backend_json.specs.declared.head.Head.{Head}
use Rattle.backend_json.specs.declared.request.JoinRequest.{JoinRequest}
use Rattle.backend_json.specs.declared.request.Request.{Request}
use Rattle.backend_json.specs.declared.request.Request.TheVariants.{AppSKeyReq, HomeNSReq, JoinReq, RejoinReq, UplinkReq, Unknown, XmitDataReq, XmitUplink}
use Rattle.backend_json.specs.declared.request.UplinkRequest.{UplinkRequest}
use Rattle.backend_json.specs.declared.request.XmitDataRequest.{XmitDataRequest}
use Rattle.entries.specs.declared.change.Change.{Change}
use Rattle.entries.specs.declared.entry.Entry.{Entry}
use Rattle.entry_codec.specs.Fits.{fits, fits_change, fits_event, names_there}
use Rattle.entry_codec.specs.Kept.{kept_answer}
use Rattle.entry_codec.specs.LookUps.{is_asked, is_same_sender, is_sender}
use Rattle.entry_codec.specs.Machine.{Machine, change_wakes, lapse, ready, wake, wakes}
use Rattle.entry_codec.specs.Sound.{IsSound}
use Rattle.entry_codec.proofs.Sound.{sound_lapsed}
use Rattle.entry_codec.specs.declared.device.KeptSeed.{KeptSeed}
use Rattle.entry_codec.specs.declared.parties.Holder.{Holder}
use Rattle.entry_codec.proofs.Ready.{senders_then}
use Rattle.entry_codec.proofs.Stays.{stays-ready}
use Rattle.join_frames.specs.declared.join_up.JoinUp.{JoinUp}
use Rattle.join_frames.specs.declared.join_up.JoinUp.TheVariants.{Join, Rejoin02, Rejoin1}
use Rattle.js_core.specs.Found.{Found}
use Rattle.js_core.specs.Parties.{is_known}
use Rattle.js_core.specs.Replies.{JsDecision, accepted, js_decided}
use Rattle.js_core.specs.Steps.{is_not_above, next_seed, seed_place}
use Rattle.js_core.specs.declared.activation.Activation.{Activation}
use Rattle.js_core.proofs.Cases.{IsJoin, by_cases, stands_at}
use Rattle.ns_core.specs.Payloads.{payload_decided}
use Rattle.ns_core.specs.Replies.{ns_decided, uplink_decided}
use Rattle.ns_core.proofs.Cases as ns
use Rattle.roam_core.specs.Decided.{by_part, entry_in, judged_at}
use Rattle.roam_core.specs.Desk.{Desk}
use Rattle.roam_core.specs.Entering.{CanEnter, EntriesFit}
use Rattle.roam_core.specs.Lines.{reaction}
use Rattle.roam_core.proofs.Hearing.{AreNamed, activation_fits, named_lapsed, names_of_state, payload_fits, uplink_fits}
use Rattle.roam_core.proofs.Outcomes as outcome
use Rattle.roam_core.proofs.Ranges.{InRange}
use Rattle.roam_core.proofs.Stepping.{above, next_above, none_valid, used_fits}
use Rattle.roam_core.proofs.Waking.{wake_unread}

-- the change of a request that is accepted fits
abbrev Fits : Sender → Machine → JsDecision → Type 0
Fits sender m (decision.Repeat text) = Unit {0}
Fits sender m (decision.Reply answer) = Unit {0}
Fits sender m (decision.Accept answer change) = IsTrue (fits_change sender change m)
Fits sender m (decision.AskPeer peer question change) = Unit {0}

module _ (c : Config) (nwk app : ℕ → List ℕ) (m : Machine) (head : Head) where
  join_fits : (activation : Activation) (request : JoinRequest) (up : JoinUp) (f : Found) → IsJoin c nwk m activation head request up f → Fits head.sender m (accepted c nwk app activation head request up f)
  unfolding fits_change
  join_fits activation request (Join join_eui dev_eui nonce mic) f is =
      let kept = (stands_at c m request.dev_eui f is.is_found).is_kept in
      rw (kept, above nonce f.kept.dev_nonce is.above, next_above f.kept.join_nonce) refl
  join_fits activation request (Rejoin02 kind net dev_eui count mic) f is = by (seed_place (nwk f.device) request.phy_payload f.kept) refl
    where
      by : (o : Option ℕ) → seed_place (nwk f.device) request.phy_payload f.kept ≡ o → Fits head.sender m (accepted c nwk app activation head request (Rejoin02 kind net dev_eui count mic) f)
      by None e = absurd (none_valid (seed_place (nwk f.device) request.phy_payload f.kept) e is.valid)
      by (Some place) e =
          let kept = (stands_at c m request.dev_eui f is.is_found).is_kept in
          let low : holds_of (λ (s : KeptSeed). is_not_above count s.rj_count0) (slice_get f.kept.seeds.items place) ≡ false =
          ap (λ (p : Option ℕ). holds_of (λ (s : KeptSeed). is_not_above count s.rj_count0) (at_place f.kept.seeds.items p)) (sym e) ∙ is.above in
          let seed : KeptSeed = record { seed = next_seed (Rejoin02 kind net dev_eui count mic) f.kept; rj_count0 = None } in
          rw (e, kept, used_fits (nwk f.device) request.phy_payload kind count place f.kept seed e low, next_above f.kept.join_nonce) refl
  join_fits activation request (Rejoin1 join_eui dev_eui count mic) f is =
      let kept = (stands_at c m request.dev_eui f is.is_found).is_kept in
      rw (kept, above count f.kept.rj_count1 is.above, next_above f.kept.join_nonce) refl

  decided_fits : (request : _) → Fits head.sender m (js_decided c nwk app m head request)
  decided_fits request = by_cases c nwk app app m head (λ left right. Fits head.sender m left) (record {
    refusal = λ why. tt;
    join = join_fits;
    app_s_key = λ asked f seed is. tt;
    home_ns = λ f. tt;
  }) request

-- the sender of a request that is accepted has a row, and what it changes fits once the context that it names is active
record Enters (c : Config) (sender : Sender) (m : Machine) (change : Change) : Type 0 where
  pub known : is_known c sender ≡ true
  pub fits : IsTrue (fits_change sender change (wake (change_wakes change m) m))

abbrev Entering : Config → Sender → Machine → JsDecision → Type 0
Entering c sender m (decision.Repeat text) = Unit {0}
Entering c sender m (decision.Reply answer) = Unit {0}
Entering c sender m (decision.Accept answer change) = Enters c sender m change
Entering c sender m (decision.AskPeer peer question change) = Unit {0}

entering_of : (c : Config) (sender : Sender) (m : Machine) (d : JsDecision) → is_known c sender ≡ true → ((who : Option Holder) → Fits sender (wake who m) d) → Entering c sender m d
entering_of c sender m (decision.Repeat text) known fit = tt
entering_of c sender m (decision.Reply answer) known fit = tt
entering_of c sender m (decision.Accept answer change) known fit = record { known = known; fits = fit (change_wakes change m) }
entering_of c sender m (decision.AskPeer peer question change) known fit = tt

decided_enters : (c : Config) (nwk app : ℕ → List ℕ) (m : Machine) (head : Head) (request : _) → is_known c head.sender ≡ true → Entering c head.sender m (js_decided c nwk app m head request)
decided_enters c nwk app m head request known =
    entering_of c head.sender m (js_decided c nwk app m head request) known
    (λ who. subst (λ (d : JsDecision). Fits head.sender (wake who m) d) (wake_unread c nwk app who m head request) (decided_fits c nwk app (wake who m) head request))

heard_enters : (c : Config) (nwk : ℕ → List ℕ) (m : Machine) (head : Head) (request : UplinkRequest) → AreNamed c m → IsSound m → is_known c head.sender ≡ true → Entering c head.sender m (uplink_decided c nwk m head request)
heard_enters c nwk m head request names sound known = ns.uplink_case c nwk m head (Entering c head.sender m) (record {
  refusal = λ why. tt;
  activation = λ asked up f own is. record { known = known; fits = activation_fits c nwk m head.sender asked up f own is };
  duplicate = λ s. tt;
  uplink = λ asked s v is. record { known = known; fits = uplink_fits c nwk m head.sender asked s v names sound is };
}) request

payload_enters : (c : Config) (m : Machine) (head : Head) (request : XmitDataRequest) → IsSound m → is_known c head.sender ≡ true → request.f_cnt_down < 2 ^ 32 → Entering c head.sender m (payload_decided c m head request)
payload_enters c m head request sound known range =
    ns.payload_case c m head (Entering c head.sender m) (λ why. tt) request (λ f is. record { known = known; fits = payload_fits c m head request f sound range is })

part_enters : (c : Config) (nwk app : ℕ → List ℕ) (m : Machine) (head : Head) (request : Request) → InRange request → AreNamed c m → IsSound m → is_known c head.sender ≡ true → Entering c head.sender m (by_part c nwk app m head request)
unfolding ns_decided
part_enters c nwk app m head (JoinReq request) range names sound known = decided_enters c nwk app m head (JoinReq request) known
part_enters c nwk app m head (RejoinReq request) range names sound known = decided_enters c nwk app m head (RejoinReq request) known
part_enters c nwk app m head (AppSKeyReq request) range names sound known = decided_enters c nwk app m head (AppSKeyReq request) known
part_enters c nwk app m head (HomeNSReq request) range names sound known = decided_enters c nwk app m head (HomeNSReq request) known
part_enters c nwk app m head (UplinkReq request) range names sound known = heard_enters c nwk m head request names sound known
part_enters c nwk app m head (XmitDataReq request) range names sound known = payload_enters c m head request sound known range
part_enters c nwk app m head (XmitUplink request) range names sound known = decided_enters c nwk app m head (XmitUplink request) known
part_enters c nwk app m head Unknown range names sound known = decided_enters c nwk app m head Unknown known

judged_enters : (c : Config) (nwk app : ℕ → List ℕ) (m : Machine) (head : Head) (request : Request) (kept : Option (List ℕ)) (asked : Bool) → InRange request → AreNamed c m → IsSound m → Entering c head.sender m (judged_at c nwk app m head request kept asked)
judged_enters c nwk app m head request kept asked range names sound = outcome.judged_is c nwk app m head request (Entering c head.sender m) kept asked (record {
  refusal = λ why. tt;
  repeat = λ text is. tt;
  decides = part_enters c nwk app m head request range names sound;
})

-- ---- the entry

entry_fits : (c : Config) (s : Desk) (now : ℕ) (head : Head) (body : List ℕ) (answer : _) (change : Change) → CanEnter c s.now now → Enters c head.sender (lapse now s.now) change → IsTrue (fits s.now (entry_in head body now answer change))
unfolding fits fits_event names_there ready wakes
entry_fits c s now head body answer change can is =
    let e = entry_in head body now answer change in
    let who = wakes e.event (lapse now s.now) in
    let sender : is_sender head.sender (wake who (lapse now s.now)) ≡ true = ap (λ (ss : List Sender). list_any (is_same_sender head.sender) ss) (senders_then who now s.now) ∙ can.senders head.sender is.known in
    let begun : nat_lt 0 (wake who (lapse now s.now)).entries ≡ true = ap (λ (n : ℕ). nat_lt 0 n) (stays-ready s.now e).entries ∙ can.begun in
    rw (can.time, begun, sender, is.fits) refl

pub entries_fit : EntriesFit
unfolding reaction
entries_fit c keys s body now e places sound can is_made =
    let a = outcome.accepted c keys s body now e is_made in
    let m = lapse now s.now in
    let names = named_lapsed now c s.now (names_of_state c s.now places can.state) in
    let enters : Enters c a.head.sender m a.change = subst (Entering c a.head.sender m) a.accepts (judged_enters c (nwk_at keys) (app_at keys) m a.head a.request (kept_answer a.head.sender body s.kept) (is_asked body m) a.in_range names (sound_lapsed now s.now sound)) in
    subst (λ (x : Entry). IsTrue (fits s.now x)) (sym a.is_entry) (entry_fits c s now a.head body a.answer a.change can enters)
