-- Which contexts a device has isn't looked at.
use Rattle.std.proofs.Common.{◌≡◌, ℕ, zero, suc, List, [], ◌∷◌, Option, Some, None, option_map, slice_get, refl, ap, ◌∙◌}
use Rattle.wire_ids.specs.Lists.{changed}
use Rattle.wire_ids.proofs.Lists.{changed-cons}
use Rattle.wire_ids.specs.declared.eui.Eui.{Eui}
use Rattle.contexts.specs.Slots.{activated}
use Rattle.contexts.specs.declared.slots.Slots.{Slots}
use Rattle.agreements.specs.LookUps.{device_place}
use Rattle.agreements.specs.Walk.{Config}
use Rattle.agreements.specs.declared.rows.DeviceRow.{DeviceRow}
use Rattle.backend_json.specs.declared.head.Head.{Head}
use Rattle.backend_json.specs.declared.request.AppSKeyRequest.{AppSKeyRequest}
use Rattle.backend_json.specs.declared.request.JoinRequest.{JoinRequest}
use Rattle.backend_json.specs.declared.request.Request.{Request}
use Rattle.backend_json.specs.declared.request.Request.TheVariants.{AppSKeyReq, HomeNSReq, JoinReq, RejoinReq, UplinkReq, Unknown, XmitDataReq, XmitUplink}
use Rattle.entry_codec.specs.Devices.{in_slots}
use Rattle.entry_codec.specs.Machine.{Machine, wake}
use Rattle.entry_codec.specs.declared.device.Device.{Device}
use Rattle.entry_codec.specs.declared.parties.Holder.{Holder}
use Rattle.entry_codec.specs.declared.parties.Holder.TheVariants as holder
use Rattle.join_frames.specs.declared.join_up.JoinUp.{JoinUp}
use Rattle.join_frames.specs.declared.join_up.JoinUp.TheVariants.{Join, Rejoin02, Rejoin1}
use Rattle.js_core.specs.declared.activation.Activation.{Activation}
use Rattle.js_core.specs.declared.activation.Activation.TheVariants as by
use Rattle.js_core.specs.Found.{Found, found_at, found_of, found_with}
use Rattle.js_core.specs.Frames.{join_up_of}
use Rattle.js_core.specs.Replies.{JsDecision, app_s_key_success_at, home_ns_success_at, join_success, join_success_at, js_decided, refuses}
use Rattle.js_core.specs.Rules.{app_s_key_rules_at, by_rules, home_ns_rules_at, join_rules, join_rules_at}
use Rattle.js_core.specs.Steps.{seed_place}

-- ---- the same device with other contexts

pub record Other (o woken : Option Device) : Type 0 where
  pub slots : Slots → Slots
  pub is : woken ≡ option_map (in_slots slots) o

as_it_is : (o : Option Device) → o ≡ option_map (in_slots (λ s. s)) o
as_it_is None = refl
as_it_is (Some d) = refl

other-changed : (k : ℕ) (f : Slots → Slots) (ds : List Device) (i : ℕ) → Other (slice_get ds i) (slice_get (changed k (in_slots f) ds) i)
other-changed k f [] i = record { slots = λ s. s; is = refl }
other-changed zero f (x ∷ xs) zero = record { slots = f; is = refl }
other-changed zero f (x ∷ xs) (suc i) = record { slots = λ s. s; is = as_it_is (slice_get xs i) }
other-changed (suc k) f (x ∷ xs) zero = rw (changed-cons x xs k (in_slots f)) (record { slots = λ s. s; is = refl })
other-changed (suc k) f (x ∷ xs) (suc i) = rw (changed-cons x xs k (in_slots f)) (other-changed k f xs i)

pub other-wake : (who : Option Holder) (m : Machine) (i : ℕ) → Other (slice_get m.devices i) (slice_get (wake who m).devices i)
other-wake None m i = record { slots = λ s. s; is = as_it_is (slice_get m.devices i) }
other-wake (Some (holder.Device k)) m i = other-changed k activated m.devices i
other-wake (Some (holder.Visitor dev)) m i = record { slots = λ s. s; is = as_it_is (slice_get m.devices i) }

-- ---- what is found

abbrev found_in : (Slots → Slots) → Found → Found
found_in g f = record f { kept = in_slots g f.kept }

record FoundOther (o woken : Option Found) : Type 0 where
  pub slots : Slots → Slots
  pub is : woken ≡ option_map (found_in slots) o

with_other : (g : Slots → Slots) (device : ℕ) (row : Option DeviceRow) (kept : Option Device) → found_with device row (option_map (in_slots g) kept) ≡ option_map (found_in g) (found_with device row kept)
with_other g device None kept = refl
with_other g device (Some row) None = refl
with_other g device (Some row) (Some kept) = refl

at_other : (c : Config) (who : Option Holder) (m : Machine) (place : Option ℕ) → FoundOther (found_at c m place) (found_at c (wake who m) place)
at_other c who m None = record { slots = λ s. s; is = refl }
at_other c who m (Some device) =
    let other = other-wake who m device in
    record { slots = other.slots; is = ap (found_with device (slice_get c.devices device)) other.is ∙ with_other other.slots device (slice_get c.devices device) (slice_get m.devices device) }

of_other : (c : Config) (who : Option Holder) (m : Machine) (dev : Eui) → FoundOther (found_of c m dev) (found_of c (wake who m) dev)
unfolding found_of
of_other c who m dev = at_other c who m (device_place dev c.devices)

-- ---- decisions

module _ (c : Config) (nwk app : ℕ → List ℕ) (head : Head) (g : Slots → Slots) where
  abbrev join_at : Activation → JoinRequest → Option JoinUp → Option Found → JsDecision
  join_at activation request up found = by_rules (refuses head) (join_rules_at nwk activation head request up found) (join_success_at c nwk app activation head request up found)

  join_other : (activation : Activation) (request : JoinRequest) (up : Option JoinUp) (found : Option Found)
      → join_at activation request up (option_map (found_in g) found) ≡ join_at activation request up found
  unfolding seed_place
  join_other activation request None None = refl
  join_other activation request None (Some f) = refl
  join_other activation request (Some up) None = refl
  join_other activation request (Some (Join join_eui dev_eui nonce mic)) (Some f) = refl
  join_other activation request (Some (Rejoin02 kind net dev_eui count mic)) (Some f) = refl
  join_other activation request (Some (Rejoin1 join_eui dev_eui count mic)) (Some f) = refl

  abbrev app_s_key_at : AppSKeyRequest → Option Found → JsDecision
  app_s_key_at request found = by_rules (refuses head) (app_s_key_rules_at head request found) (app_s_key_success_at c app head request found)

  app_s_key_other : (request : AppSKeyRequest) (found : Option Found) → app_s_key_at request (option_map (found_in g) found) ≡ app_s_key_at request found
  app_s_key_other request None = refl
  app_s_key_other request (Some f) = refl

  abbrev home_ns_at : Option Found → JsDecision
  home_ns_at found = by_rules (refuses head) (home_ns_rules_at found) (home_ns_success_at head found)

  home_ns_other : (found : Option Found) → home_ns_at (option_map (found_in g) found) ≡ home_ns_at found
  home_ns_other None = refl
  home_ns_other (Some f) = refl

-- a context that is made active changes no decision
pub wake_unread : (c : Config) (nwk app : ℕ → List ℕ) (who : Option Holder) (m : Machine) (head : Head) (request : Request) → js_decided c nwk app (wake who m) head request ≡ js_decided c nwk app m head request
unfolding js_decided join_rules join_success
wake_unread c nwk app who m head (JoinReq request) =
    let other = of_other c who m request.dev_eui in
    ap (join_at c nwk app head other.slots by.Join request (join_up_of request.phy_payload)) other.is ∙ join_other c nwk app head other.slots by.Join request _ _
wake_unread c nwk app who m head (RejoinReq request) =
    let other = of_other c who m request.dev_eui in
    ap (join_at c nwk app head other.slots by.Rejoin request (join_up_of request.phy_payload)) other.is ∙ join_other c nwk app head other.slots by.Rejoin request _ _
wake_unread c nwk app who m head (AppSKeyReq request) =
    let other = of_other c who m request.dev_eui in
    ap (app_s_key_at c nwk app head other.slots request) other.is ∙ app_s_key_other c nwk app head other.slots request _
wake_unread c nwk app who m head (HomeNSReq request) =
    let other = of_other c who m request.dev_eui in
    ap (home_ns_at c nwk app head other.slots) other.is ∙ home_ns_other c nwk app head other.slots _
wake_unread c nwk app who m head (UplinkReq request) = refl
wake_unread c nwk app who m head (XmitDataReq request) = refl
wake_unread c nwk app who m head (XmitUplink request) = refl
wake_unread c nwk app who m head Unknown = refl
