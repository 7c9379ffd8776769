-- What lapses isn't looked at.
use Rattle.std.proofs.Common.{◌≡◌, ℕ, List, Option, Some, None, option_map, refl, ap, ◌∙◌, slice_get}
use Rattle.std.proofs.lemmas.Option.{slice_get-map}
use Rattle.wire_ids.specs.declared.eui.Eui.{Eui}
use Rattle.agreements.specs.LookUps.{device_place}
use Rattle.agreements.specs.Walk.{Config}
use Rattle.agreements.specs.declared.rows.DeviceRow.{DeviceRow}
use Rattle.backend_json.specs.declared.head.Head.{Head}
use Rattle.backend_json.specs.declared.request.AppSKeyRequest.{AppSKeyRequest}
use Rattle.backend_json.specs.declared.request.JoinRequest.{JoinRequest}
use Rattle.backend_json.specs.declared.request.Request.{Request}
use Rattle.backend_json.specs.declared.request.Request.TheVariants.{AppSKeyReq, HomeNSReq, JoinReq, RejoinReq, Unknown, UplinkReq, XmitDataReq, XmitUplink}
use Rattle.entry_codec.specs.Devices.{lapsed}
use Rattle.entry_codec.specs.Machine.{Machine, lapse}
use Rattle.entry_codec.specs.declared.device.Device.{Device}
use Rattle.join_frames.specs.declared.join_up.JoinUp.{JoinUp}
use Rattle.join_frames.specs.declared.join_up.JoinUp.TheVariants.{Join, Rejoin02, Rejoin1}
use Rattle.js_core.specs.declared.activation.Activation.{Activation}
use Rattle.js_core.specs.declared.activation.Activation.TheVariants as by
use Rattle.js_core.specs.Found.{Found, found_at, found_of, found_with}
use Rattle.js_core.specs.Frames.{join_up_of}
use Rattle.js_core.specs.Replies.{JsDecision, app_s_key_success_at, home_ns_success_at, join_success, join_success_at, js_decided, refuses}
use Rattle.js_core.specs.Rules.{app_s_key_rules_at, by_rules, home_ns_rules_at, join_rules, join_rules_at}
use Rattle.js_core.specs.Steps.{seed_place}

abbrev pub found_lapsed : ℕ → Found → Found
found_lapsed at f = record f { kept = lapsed at f.kept }

with_lapsed : (at device : ℕ) (row : Option DeviceRow) (kept : Option Device) → found_with device row (option_map (lapsed at) kept) ≡ option_map (found_lapsed at) (found_with device row kept)
with_lapsed at device None kept = refl
with_lapsed at device (Some row) None = refl
with_lapsed at device (Some row) (Some kept) = refl

at_lapsed : (c : Config) (m : Machine) (at : ℕ) (place : Option ℕ) → found_at c (lapse at m) place ≡ option_map (found_lapsed at) (found_at c m place)
unfolding lapse
at_lapsed c m at None = refl
at_lapsed c m at (Some device) =
    ap (found_with device (slice_get c.devices device)) (slice_get-map (lapsed at) m.devices device)
    ∙ with_lapsed at device (slice_get c.devices device) (slice_get m.devices device)

pub of_lapsed : (c : Config) (m : Machine) (at : ℕ) (dev : Eui) → found_of c (lapse at m) dev ≡ option_map (found_lapsed at) (found_of c m dev)
unfolding found_of
of_lapsed c m at dev = at_lapsed c m at (device_place dev c.devices)

module _ (c : Config) (nwk app : ℕ → List ℕ) (at : ℕ) (head : Head) where
  abbrev join_at : Activation → JoinRequest → Option JoinUp → Option Found → JsDecision
  join_at activation request up found = by_rules (refuses head) (join_rules_at nwk activation head request up found) (join_success_at c nwk app activation head request up found)

  join_lapsed : (activation : Activation) (request : JoinRequest) (up : Option JoinUp) (found : Option Found)
      → join_at activation request up (option_map (found_lapsed at) found) ≡ join_at activation request up found
  unfolding lapsed seed_place
  join_lapsed activation request None None = refl
  join_lapsed activation request None (Some f) = refl
  join_lapsed activation request (Some up) None = refl
  join_lapsed activation request (Some (Join join_eui dev_eui nonce mic)) (Some f) = refl
  join_lapsed activation request (Some (Rejoin02 kind net dev_eui count mic)) (Some f) = refl
  join_lapsed activation request (Some (Rejoin1 join_eui dev_eui count mic)) (Some f) = refl

  abbrev app_s_key_at : AppSKeyRequest → Option Found → JsDecision
  app_s_key_at request found = by_rules (refuses head) (app_s_key_rules_at head request found) (app_s_key_success_at c app head request found)

  app_s_key_lapsed : (request : AppSKeyRequest) (found : Option Found) → app_s_key_at request (option_map (found_lapsed at) found) ≡ app_s_key_at request found
  unfolding lapsed
  app_s_key_lapsed request None = refl
  app_s_key_lapsed request (Some f) = refl

  abbrev home_ns_at : Option Found → JsDecision
  home_ns_at found = by_rules (refuses head) (home_ns_rules_at found) (home_ns_success_at head found)

  home_ns_lapsed : (found : Option Found) → home_ns_at (option_map (found_lapsed at) found) ≡ home_ns_at found
  home_ns_lapsed None = refl
  home_ns_lapsed (Some f) = refl

  pub lapse_unread : (m : Machine) (request : Request) → js_decided c nwk app (lapse at m) head request ≡ js_decided c nwk app m head request
  unfolding js_decided join_rules join_success
  lapse_unread m (JoinReq request) =
      ap (join_at by.Join request (join_up_of request.phy_payload)) (of_lapsed c m at request.dev_eui) ∙ join_lapsed by.Join request _ _
  lapse_unread m (RejoinReq request) =
      ap (join_at by.Rejoin request (join_up_of request.phy_payload)) (of_lapsed c m at request.dev_eui) ∙ join_lapsed by.Rejoin request _ _
  lapse_unread m (AppSKeyReq request) = ap (app_s_key_at request) (of_lapsed c m at request.dev_eui) ∙ app_s_key_lapsed request _
  lapse_unread m (HomeNSReq request) = ap home_ns_at (of_lapsed c m at request.dev_eui) ∙ home_ns_lapsed _
  lapse_unread m (UplinkReq request) = refl
  lapse_unread m (XmitDataReq request) = refl
  lapse_unread m (XmitUplink request) = refl
  lapse_unread m Unknown = refl
