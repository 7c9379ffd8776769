-- The join server doesn't look at the AppKeys in the rows of its tables: it is given root keys beside them.
use Rattle.std.proofs.Common.{◌≡◌, ℕ, ◌+◌, ◌==◌, Bool, cond, List, [], ◌∷◌, map, Option, Some, None, option_map, refl, sym, ap, ap₂, ◌∙◌, nat_lt, not, slice_get}
use Rattle.std.specs.List.{position, prefix_len}
use Rattle.std.proofs.lemmas.List.{length-map}
use Rattle.std.proofs.lemmas.Option.{slice_get-map}
use Rattle.wire_ids.specs.declared.eui.Eui.{Eui}
use Rattle.agreements.specs.Walk.{Config}
use Rattle.agreements.specs.LookUps.{device_place}
use Rattle.agreements.specs.declared.rows.DeviceRow.{DeviceRow}
use Rattle.backend_json.specs.declared.head.Head.{Head}
use Rattle.backend_json.specs.declared.request.AppSKeyRequest.{AppSKeyRequest}
use Rattle.backend_json.specs.declared.request.JoinRequest.{JoinRequest}
use Rattle.backend_json.specs.declared.request.Request.{Request}
use Rattle.backend_json.specs.declared.request.Request.TheVariants.{AppSKeyReq, HomeNSReq, JoinReq, RejoinReq, Unknown, UplinkReq, XmitDataReq, XmitUplink}
use Rattle.entry_codec.specs.Machine.{Machine}
use Rattle.entry_codec.specs.declared.device.Device.{Device}
use Rattle.entry_codec.specs.declared.device.KeptSeed.{KeptSeed}
use Rattle.join_frames.specs.declared.join_up.JoinUp.{JoinUp}
use Rattle.join_frames.specs.declared.join_up.JoinUp.TheVariants.{Join, Rejoin02, Rejoin1}
use Rattle.js_core.specs.declared.activation.Activation.{Activation}
use Rattle.js_core.specs.declared.activation.Activation.TheVariants as by
use Rattle.js_core.specs.AppKey.{row_with_app_key, with_app_key}
use Rattle.js_core.specs.Found.{Found, found_at, found_of, found_with}
use Rattle.js_core.specs.Frames.{join_up_of}
use Rattle.js_core.specs.Replies.{JsDecision, answer_keys, app_s_key_answer, app_s_key_success_at, app_s_key_success_with, for_application, for_network, home_ns_success_at, join_members, join_success, join_success_at, js_decided, refuses, seed_with}
use Rattle.js_core.specs.Rules.{app_s_key_rules_at, by_rules, home_ns_rules_at, join_rules, join_rules_at}
use Rattle.js_core.proofs.Changes.{map-changed}

abbrev pub erased : DeviceRow → DeviceRow
erased row = row_with_app_key [] row

-- the tables without AppKeys
abbrev pub bare : Config → Config
bare c = record c { devices = map erased c.devices }

prefix_len-map : {X Y : Type 0} (p : Y → Bool) (f : X → Y) (xs : List X) → prefix_len p (map f xs) ≡ prefix_len (λ x. p (f x)) xs
prefix_len-map p f [] = refl
prefix_len-map p f (x ∷ xs) = ap (λ n. cond (p (f x)) (1 + n) 0) (prefix_len-map p f xs)

position-map : {X Y : Type 0} (p : Y → Bool) (f : X → Y) (xs : List X) → position p (map f xs) ≡ position (λ x. p (f x)) xs
position-map p f xs = ap₂ (λ i n. cond (nat_lt i n) (Some i) None) (prefix_len-map (λ y. not (p y)) f xs) (length-map xs f)

place_bare : (dev : Eui) (rows : List DeviceRow) → device_place dev (map erased rows) ≡ device_place dev rows
place_bare dev rows = position-map (λ (r : DeviceRow). r.dev_eui.0 == dev.0) erased rows

-- ---- the device that is found

abbrev pub found_bare : Found → Found
found_bare f = record f { row = erased f.row }

with_bare : (device : ℕ) (row : Option DeviceRow) (kept : Option Device) → found_with device (option_map erased row) kept ≡ option_map found_bare (found_with device row kept)
with_bare device None kept = refl
with_bare device (Some row) None = refl
with_bare device (Some row) (Some kept) = refl

at_bare : (c : Config) (m : Machine) (place : Option ℕ) → found_at (bare c) m place ≡ option_map found_bare (found_at c m place)
at_bare c m None = refl
at_bare c m (Some device) =
    ap (λ (row : Option DeviceRow). found_with device row (slice_get m.devices device)) (slice_get-map erased c.devices device)
    ∙ with_bare device (slice_get c.devices device) (slice_get m.devices device)

pub of_bare : (c : Config) (m : Machine) (dev : Eui) → found_of (bare c) m dev ≡ option_map found_bare (found_of c m dev)
unfolding found_of
of_bare c m dev = ap (found_at (bare c) m) (place_bare dev c.devices) ∙ at_bare c m (device_place dev c.devices)

-- ---- requests

module _ (c : Config) (nwk app : ℕ → List ℕ) (head : Head) where
  abbrev join_at : Config → Activation → JoinRequest → Option JoinUp → Option Found → JsDecision
  join_at tables activation request up found = by_rules (refuses head) (join_rules_at nwk activation head request up found) (join_success_at tables nwk app activation head request up found)

  join_bare : (activation : Activation) (request : JoinRequest) (up : Option JoinUp) (found : Option Found)
      → join_at (bare c) activation request up (option_map found_bare found) ≡ join_at c activation request up found
  unfolding join_members answer_keys for_network for_application
  join_bare activation request None None = refl
  join_bare activation request None (Some f) = refl
  join_bare activation request (Some up) None = refl
  join_bare activation request (Some (Join join_eui dev_eui nonce mic)) (Some f) = refl
  join_bare activation request (Some (Rejoin02 kind net dev_eui count mic)) (Some f) = refl
  join_bare activation request (Some (Rejoin1 join_eui dev_eui count mic)) (Some f) = refl

  seed_bare : (request : AppSKeyRequest) (f : Found) (seed : Option KeptSeed) → app_s_key_success_with (bare c) app head request (found_bare f) seed ≡ app_s_key_success_with c app head request f seed
  unfolding app_s_key_answer for_application
  seed_bare request f None = refl
  seed_bare request f (Some seed) = refl

  abbrev app_s_key_at : Config → AppSKeyRequest → Option Found → JsDecision
  app_s_key_at tables request found = by_rules (refuses head) (app_s_key_rules_at head request found) (app_s_key_success_at tables app head request found)

  app_s_key_bare : (request : AppSKeyRequest) (found : Option Found) → app_s_key_at (bare c) request (option_map found_bare found) ≡ app_s_key_at c request found
  app_s_key_bare request None = refl
  app_s_key_bare request (Some f) = ap (λ (success : JsDecision). by_rules (refuses head) (app_s_key_rules_at head request (Some f)) success) (seed_bare request f (seed_with request.session_key_id.join_nonce f.kept))

  abbrev home_ns_at : Option Found → JsDecision
  home_ns_at found = by_rules (refuses head) (home_ns_rules_at found) (home_ns_success_at head found)

  home_ns_bare : (found : Option Found) → home_ns_at (option_map found_bare found) ≡ home_ns_at found
  home_ns_bare None = refl
  home_ns_bare (Some f) = refl

  pub decided_bare : (m : Machine) (request : Request) → js_decided (bare c) nwk app m head request ≡ js_decided c nwk app m head request
  unfolding js_decided join_rules join_success
  decided_bare m (JoinReq request) =
      ap (join_at (bare c) by.Join request (join_up_of request.phy_payload)) (of_bare c m request.dev_eui) ∙ join_bare by.Join request _ _
  decided_bare m (RejoinReq request) =
      ap (join_at (bare c) by.Rejoin request (join_up_of request.phy_payload)) (of_bare c m request.dev_eui) ∙ join_bare by.Rejoin request _ _
  decided_bare m (AppSKeyReq request) = ap (app_s_key_at (bare c) request) (of_bare c m request.dev_eui) ∙ app_s_key_bare request _
  decided_bare m (HomeNSReq request) = ap home_ns_at (of_bare c m request.dev_eui) ∙ home_ns_bare _
  decided_bare m (UplinkReq request) = refl
  decided_bare m (XmitDataReq request) = refl
  decided_bare m (XmitUplink request) = refl
  decided_bare m Unknown = refl

-- two tables that are the same but for AppKeys
abbrev pub SameBare : Config → Config → Type 0
SameBare c c' = bare c ≡ bare c'

pub same_bare : (d : ℕ) (key : List ℕ) (c : Config) → SameBare c (with_app_key d key c)
unfolding with_app_key
same_bare d key c = ap (λ (rows : List DeviceRow). record c { devices = rows }) (sym (map-changed erased d (row_with_app_key key) (λ row. refl) c.devices))

-- under the same root keys a request comes to the same over both
pub unread : (c c' : Config) → SameBare c c' → (nwk app : ℕ → List ℕ) (m : Machine) (head : Head) (request : Request) → js_decided c nwk app m head request ≡ js_decided c' nwk app m head request
unread c c' same nwk app m head request =
    sym (decided_bare c nwk app head m request) ∙ (ap (λ (x : Config). js_decided x nwk app m head request) same ∙ decided_bare c' nwk app head m request)
