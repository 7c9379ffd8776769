-- Who is heard under an address.
use Rattle.std.specs.Prelude.{ℕ, ◌<◌, List, slice_get, Bool, not, Option, Some, None, option_map, option_and_then, is_none, if◌then◌else◌, ◌&&◌}
use Rattle.std.specs.Str.{bytes_eq}
use Rattle.wire_ids.specs.declared.address.DevAddr.{DevAddr}
use Rattle.wire_ids.specs.declared.eui.Eui.{Eui}
use Rattle.wire_ids.specs.declared.keys.SessionKeys.{SessionKeys}
use Rattle.key_vault.specs.Keys.{network_keys}
use Rattle.agreements.specs.Walk.{Config}
use Rattle.agreements.specs.declared.rows.DeviceRow.{DeviceRow}
use Rattle.contexts.specs.declared.context.Context.{Context}
use Rattle.contexts.specs.declared.context.Origin.{Origin}
use Rattle.contexts.specs.declared.context.Origin.TheVariants.{Given, Seeded}
use Rattle.contexts.specs.declared.slots.Slots.{Slots}
use Rattle.entry_codec.specs.LookUps.{live_context, slots_of}
use Rattle.entry_codec.specs.Machine.{Machine}
use Rattle.entry_codec.specs.declared.parties.Holder.{Holder}
use Rattle.entry_codec.specs.declared.parties.Holder.TheVariants as holder
use Rattle.entry_codec.specs.declared.parties.LiveContext.{LiveContext}
use Rattle.exchanges.specs.Valid.{up_valid}
use Rattle.ns_core.specs.declared.speaker.Speaking.{Speaking}
use Rattle.ns_core.specs.declared.speaker.Valid.{Valid}
use Rattle.exchanges.specs.declared.valid.Count.{Count}

-- a device of the tables or a visitor, with one of its contexts
pub record Speaker : Type 0 where
  pub holder : Holder
  pub dev_eui : Eui
  pub pending : Bool
  pub context : Context

abbrev pub name_of : Config → Holder → Option Eui
name_of c (holder.Device device) = option_map (λ (row : DeviceRow). row.dev_eui) (slice_get c.devices device)
name_of c (holder.Visitor dev) = Some dev

abbrev pub in_slot : Bool → Slots → Option Context
in_slot pending s = if pending then s.pending else s.active

abbrev pub context_at : LiveContext → Machine → Option Context
context_at live m = option_and_then (in_slot live.pending) (slots_of (Some live.holder) m)

abbrev pub speaker_with : LiveContext → Option Eui → Option Context → Option Speaker
speaker_with live None context = None
speaker_with live (Some dev) None = None
speaker_with live (Some dev) (Some context) = Some (record { holder = live.holder; dev_eui = dev; pending = live.pending; context = context })

abbrev pub speaker_at : Config → Machine → Option LiveContext → Option Speaker
speaker_at c m None = None
speaker_at c m (Some live) = speaker_with live (name_of c live.holder) (context_at live m)

-- who has the live context with this address
unfoldable pub speaker_of : Config → Machine → DevAddr → Option Speaker
speaker_of c m addr = speaker_at c m (live_context addr m)

-- the same of the speaker that the code found
abbrev pub speaker_now : Speaking → Speaker
speaker_now s = record { holder = s.holder; dev_eui = s.dev_eui; pending = s.pending; context = s.context.now }

-- and of what is valid of a frame of theirs
abbrev pub count_in : Valid → Count
count_in v = v.count

-- a device is one of so many rows
abbrev pub HasRow : ℕ → Holder → Type 0
HasRow count (holder.Device device) = device < count
HasRow count (holder.Visitor dev) = Unit {0}

-- ---- keys

-- those of a device are derived from its context's seed; a visitor's were given with the context
abbrev pub keys_of : (ℕ → List ℕ) → Holder → Origin → Option SessionKeys
keys_of nwk (holder.Device device) (Seeded seed) = Some (network_keys (nwk device) seed)
keys_of nwk (holder.Visitor dev) (Seeded seed) = None
keys_of nwk who (Given number keys) = Some keys

-- ---- what is heard

-- the frame is the last one that was accepted
abbrev pub is_duplicate : List ℕ → Speaker → Bool
is_duplicate frame s = bytes_eq s.context.frame.items frame

abbrev pub valid_under : Speaker → List ℕ → ℕ → Option SessionKeys → Option Count
valid_under s frame rate None = None
valid_under s frame rate (Some keys) = up_valid keys s.context frame rate

-- the full counter and the channel of a frame, where it is valid
unfoldable pub count_of : (ℕ → List ℕ) → List ℕ → ℕ → Speaker → Option Count
count_of nwk frame rate s = valid_under s frame rate (keys_of nwk s.holder s.context.origin)

-- no duplicate, and not valid
abbrev pub is_wrong : (ℕ → List ℕ) → List ℕ → ℕ → Speaker → Bool
is_wrong nwk frame rate s = not (is_duplicate frame s) && is_none (count_of nwk frame rate s)
