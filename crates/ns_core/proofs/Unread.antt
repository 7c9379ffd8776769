-- The home network doesn't look at the AppKeys in the rows of its tables.
use Rattle.std.proofs.Common.{◌≡◌, ℕ, Bool, true, false, cond, List, Option, Some, None, option_map, slice_get, refl, sym, ap, ◌∙◌}
use Rattle.std.proofs.lemmas.Option.{slice_get-map}
use Rattle.wire_ids.specs.declared.address.DevAddr.{DevAddr}
use Rattle.wire_ids.specs.declared.eui.Eui.{Eui}
use Rattle.agreements.specs.Walk.{Config}
use Rattle.agreements.specs.declared.rows.DeviceRow.{DeviceRow}
use Rattle.backend_json.specs.declared.head.Head.{Head}
use Rattle.backend_json.specs.declared.request.Request.{Request}
use Rattle.backend_json.specs.declared.request.Request.TheVariants.{AppSKeyReq, HomeNSReq, JoinReq, RejoinReq, UplinkReq, Unknown, XmitDataReq, XmitUplink}
use Rattle.backend_json.specs.declared.request.UplinkRequest.{UplinkRequest}
use Rattle.backend_json.specs.declared.request.XmitDataRequest.{XmitDataRequest}
use Rattle.entries.specs.declared.used_seed.UsedSeed.{UsedSeed}
use Rattle.entry_codec.specs.LookUps.{live_context}
use Rattle.entry_codec.specs.Machine.{Machine}
use Rattle.entry_codec.specs.declared.parties.Holder.{Holder}
use Rattle.entry_codec.specs.declared.parties.Holder.TheVariants as holder
use Rattle.entry_codec.specs.declared.parties.LiveContext.{LiveContext}
use Rattle.join_frames.specs.declared.join_up.JoinUp.{JoinUp}
use Rattle.join_frames.specs.declared.join_up.JoinUp.TheVariants as up
use Rattle.js_core.specs.Found.{Found}
use Rattle.js_core.specs.Frames.{dev_eui_of, join_up_of}
use Rattle.js_core.specs.Replies.{JsDecision, refuses}
use Rattle.js_core.specs.Rules.{by_rules}
use Rattle.js_core.specs.Steps.{used_seed}
use Rattle.js_core.proofs.Unread.{SameBare, bare, erased, found_bare, of_bare}
use Rattle.exchanges.specs.Frames.{addr_of, is_data}
use Rattle.ns_core.specs.Heard.{Heard, Join, Data, Neither, heard_by, heard_of}
use Rattle.ns_core.specs.Own.{own_address, own_context}
use Rattle.ns_core.specs.Payloads.{payload_decided}
use Rattle.ns_core.specs.Replies.{accept_members, ns_decided, success_at, uplink_decided, uplink_success}
use Rattle.ns_core.specs.Rules.{uplink_rules, uplink_rules_at}
use Rattle.ns_core.proofs.Payloads.{payload_at}
use Rattle.ns_core.specs.Speakers.{Speaker, context_at, name_of, speaker_at, speaker_of, speaker_with}

-- ---- who is heard

row_name : (o : Option DeviceRow) → option_map (λ (row : DeviceRow). row.dev_eui) (option_map erased o) ≡ option_map (λ (row : DeviceRow). row.dev_eui) o
row_name None = refl
row_name (Some row) = refl

name_bare : (c : Config) (who : Holder) → name_of (bare c) who ≡ name_of c who
name_bare c (holder.Device device) = ap (option_map (λ (row : DeviceRow). row.dev_eui)) (slice_get-map erased c.devices device) ∙ row_name (slice_get c.devices device)
name_bare c (holder.Visitor dev) = refl

at_bare : (c : Config) (m : Machine) (live : Option LiveContext) → speaker_at (bare c) m live ≡ speaker_at c m live
at_bare c m None = refl
at_bare c m (Some live) = ap (λ (name : Option Eui). speaker_with live name (context_at live m)) (name_bare c live.holder)

speaker_bare : (c : Config) (m : Machine) (addr : DevAddr) → speaker_of (bare c) m addr ≡ speaker_of c m addr
unfolding speaker_of
speaker_bare c m addr = at_bare c m (live_context addr m)

-- ---- what is heard

abbrev heard_bare : Heard → Heard
heard_bare (Join u found) = Join u (option_map found_bare found)
heard_bare (Data speaker) = Data speaker
heard_bare Neither = Neither

by_bare : (c : Config) (m : Machine) (frame : List ℕ) (u : Option JoinUp) → heard_by (bare c) m frame u ≡ heard_bare (heard_by c m frame u)
by_bare c m frame (Some u) = ap (λ (found : Option Found). Join u found) (of_bare c m (dev_eui_of u))
by_bare c m frame None = by (is_data frame)
  where
    by : (b : Bool) → (let x : Heard = Data (speaker_of (bare c) m (addr_of frame)) in let y : Heard = Data (speaker_of c m (addr_of frame)) in cond b x Neither ≡ heard_bare (cond b y Neither))
    by true = ap (λ (s : Option Speaker). Data s) (speaker_bare c m (addr_of frame))
    by false = refl

of_heard : (c : Config) (m : Machine) (frame : List ℕ) → heard_of (bare c) m frame ≡ heard_bare (heard_of c m frame)
unfolding heard_of
of_heard c m frame = by_bare c m frame (join_up_of frame)

-- ---- decisions

own_bare : (c : Config) (m : Machine) (used : Option UsedSeed) (f : Found) → own_context (bare c) m used (found_bare f) ≡ own_context c m used f
unfolding own_context own_address
own_bare c m None f = refl
own_bare c m (Some used) f = refl

module _ (c : Config) (nwk : ℕ → List ℕ) (m : Machine) (head : Head) (request : UplinkRequest) where
  abbrev comes : Config → Heard → JsDecision
  comes tables heard = by_rules (refuses head) (uplink_rules_at tables nwk m request heard) (success_at tables nwk m head request heard)

  abbrev used_by : JoinUp → Found → Option UsedSeed
  used_by u f = used_seed (nwk f.device) request.phy_payload u f.kept

  as_bare : (heard : Heard) → comes (bare c) (heard_bare heard) ≡ comes c heard
  unfolding accept_members
  as_bare (Join (up.Join join_eui dev_eui nonce mic) None) = refl
  as_bare (Join (up.Join join_eui dev_eui nonce mic) (Some f)) = rw (own_bare c m (used_by (up.Join join_eui dev_eui nonce mic) f) f) refl
  as_bare (Join (up.Rejoin02 kind net dev_eui count mic) None) = refl
  as_bare (Join (up.Rejoin02 kind net dev_eui count mic) (Some f)) = rw (own_bare c m (used_by (up.Rejoin02 kind net dev_eui count mic) f) f) refl
  as_bare (Join (up.Rejoin1 join_eui dev_eui count mic) None) = refl
  as_bare (Join (up.Rejoin1 join_eui dev_eui count mic) (Some f)) = rw (own_bare c m (used_by (up.Rejoin1 join_eui dev_eui count mic) f) f) refl
  as_bare (Data speaker) = refl
  as_bare Neither = refl

  uplink_bare : uplink_decided (bare c) nwk m head request ≡ uplink_decided c nwk m head request
  unfolding uplink_decided uplink_rules uplink_success
  uplink_bare = ap (comes (bare c)) (of_heard c m request.phy_payload) ∙ as_bare (heard_of c m request.phy_payload)

found_then : (head : Head) (request : XmitDataRequest) (found : Option Found) → payload_at head request (option_map found_bare found) ≡ payload_at head request found
found_then head request None = refl
found_then head request (Some f) = refl

payload_bare : (c : Config) (m : Machine) (head : Head) (request : XmitDataRequest) → payload_decided (bare c) m head request ≡ payload_decided c m head request
unfolding payload_decided
payload_bare c m head request = ap (payload_at head request) (of_bare c m request.dev_eui) ∙ found_then head request _

decided_bare : (c : Config) (nwk : ℕ → List ℕ) (m : Machine) (head : Head) (request : Request) → ns_decided (bare c) nwk m head request ≡ ns_decided c nwk m head request
unfolding ns_decided
decided_bare c nwk m head (UplinkReq request) = uplink_bare c nwk m head request
decided_bare c nwk m head (XmitDataReq request) = payload_bare c m head request
decided_bare c nwk m head (XmitUplink request) = refl
decided_bare c nwk m head (JoinReq request) = refl
decided_bare c nwk m head (RejoinReq request) = refl
decided_bare c nwk m head (AppSKeyReq request) = refl
decided_bare c nwk m head (HomeNSReq request) = refl
decided_bare c nwk m head Unknown = refl

-- over two tables that are the same but for AppKeys a request comes to the same
pub unread : (c c' : Config) → SameBare c c' → (nwk : ℕ → List ℕ) (m : Machine) (head : Head) (request : Request) → ns_decided c nwk m head request ≡ ns_decided c' nwk m head request
unread c c' same nwk m head request =
    sym (decided_bare c nwk m head request) ∙ (ap (λ (x : Config). ns_decided x nwk m head request) same ∙ decided_bare c' nwk m head request)
