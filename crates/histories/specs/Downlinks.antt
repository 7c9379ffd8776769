-- The numbers of the downlinks in a history (LoRaWAN 1.1, 4.3.1.5).
use Rattle.std.specs.Prelude.{◌≡◌, ◌≢◌, ℕ, List, length, Option, Some, None, option_map, Bool, true, false, AllPairs}
use Rattle.std.specs.List.{filter}
use Rattle.wire_ids.specs.declared.eui.Eui.{Eui}
use Rattle.agreements.specs.LookUps.{AreFound as HasPlaces}
use Rattle.agreements.specs.Walk.{Config}
use Rattle.contexts.specs.Queue.{first_of}
use Rattle.contexts.specs.Slots.{woken}
use Rattle.contexts.specs.declared.context.Context.{Context}
use Rattle.contexts.specs.declared.context.Item.{Item}
use Rattle.contexts.specs.declared.context.Origin.{Origin}
use Rattle.contexts.specs.declared.slots.Slots.{Slots}
use Rattle.entries.specs.declared.change.Change.{Change}
use Rattle.entries.specs.declared.change.Change.TheVariants as change
use Rattle.entries.specs.declared.change.Downlink.{Downlink}
use Rattle.entries.specs.declared.change.Downlink.TheVariants as down
use Rattle.entries.specs.declared.change.Uplink.{Uplink}
use Rattle.entries.specs.declared.entry.Entry.{Entry}
use Rattle.entries.specs.declared.entry.Event.{Event}
use Rattle.entries.specs.declared.entry.Event.TheVariants as event
use Rattle.entry_codec.specs.Empty.{empty}
use Rattle.entry_codec.specs.Issues.{IsAbove, issues}
use Rattle.entry_codec.specs.LookUps.{slots_of}
use Rattle.entry_codec.specs.Machine.{Machine, after, holder_of, ready}
use Rattle.entry_codec.specs.Replay.{AllFit}

-- ---- counters

-- the network's own downlinks, and those of the application
pub data Counter : Type 0 where
  NFCntDown : Counter
  AFCntDown : Counter

-- one counter of one context: the device's, with its seed or with the keys of one entry
pub record ContextCounter : Type 0 where
  pub dev_eui : Eui
  pub origin : Origin
  pub counter : Counter

abbrev pub counter_of : Eui → Context → Counter → ContextCounter
counter_of dev c counter = record { dev_eui = dev; origin = c.origin; counter = counter }

-- ---- the number of a downlink

-- an empty one has the next NFCntDown; an item has the AFCntDown under which the application encrypted it
abbrev pub number_in : Downlink → Eui → Context → Option (ContextCounter × ℕ)
number_in down.Nothing dev c = None
number_in down.Empty dev c = Some (counter_of dev c NFCntDown, c.next_n)
number_in down.FirstItem dev c = option_map (λ (item : Item). (counter_of dev c AFCntDown, item.number)) (first_of c)

abbrev pub number_at : Uplink → Option Context → Option (ContextCounter × ℕ)
number_at u None = None
number_at u (Some c) = number_in u.down u.dev_eui c

-- the context that an uplink names is the active one by then
abbrev pub heard_under : Bool → Option Slots → Option Context
heard_under pending None = None
heard_under pending (Some s) = (woken pending s).active

abbrev pub up_number : Uplink → Machine → Option (ContextCounter × ℕ)
up_number u m = number_at u (heard_under u.pending (slots_of (holder_of u.dev_eui m) m))

abbrev pub change_number : Change → Machine → Option (ContextCounter × ℕ)
change_number (change.Up u) m = up_number u m
change_number (change.Passive p) m = up_number p.up m
change_number _ m = None

abbrev pub event_number : Event → Machine → Option (ContextCounter × ℕ)
event_number (event.Kept request c) m = change_number c m
event_number _ m = None

-- the number that an entry issues, by the state at which it is looked at
abbrev pub issued : Machine → Entry → Option (ContextCounter × ℕ)
issued m e = event_number e.event (ready m e)

-- ---- which entries have a downlink

abbrev pub is_down : Downlink → Bool
is_down down.Nothing = false
is_down _ = true

abbrev pub change_has_down : Change → Bool
change_has_down (change.Up u) = is_down u.down
change_has_down (change.Passive p) = is_down p.up.down
change_has_down _ = false

abbrev pub event_has_down : Event → Bool
event_has_down (event.Kept request c) = change_has_down c
event_has_down _ = false

abbrev pub has_down : Entry → Bool
has_down e = event_has_down e.event

-- ---- all

-- none is issued under one counter twice, each is above those before it, and each downlink has one
pub record IssuesOnce (m : Machine) (es : List Entry) : Type 0 where
  pub once : AllPairs (λ x y. x ≢ y) (issues after issued m es)
  pub rising : AllPairs IsAbove (issues after issued m es)
  pub each : length (issues after issued m es) ≡ length (filter has_down es)

-- over every list of entries that fit
abbrev pub DownlinkNumbersOnce : Type 0
DownlinkNumbersOnce = (c : Config) (es : List Entry) → HasPlaces c.devices → AllFit (empty c) es → IssuesOnce (empty c) es
