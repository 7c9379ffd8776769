-- What holds of every state that entries led to.
use Rattle.std.specs.Prelude.{◌≡◌, ◌≢◌, ℕ, ◌+◌, ◌<◌, ◌≤◌, ◌||◌, List, length, filter_map, Option, Some, None, Bool, false, is_some, not, IsTrue, if◌then◌else◌, sum_by}
use Rattle.std.specs.List.{AllByRecursion}
use Rattle.wire_ids.specs.declared.address.DevAddr.{DevAddr}
use Rattle.wire_ids.specs.declared.party.Sender.{Sender}
use Rattle.wire_ids.specs.declared.party.Sender.TheVariants.{Network, Party}
use Rattle.contexts.specs.Sound.{IsSoundSlots}
use Rattle.contexts.specs.declared.context.Context.{Context}
use Rattle.contexts.specs.declared.context.Origin.{Origin}
use Rattle.contexts.specs.declared.context.Origin.TheVariants.{Given, Seeded}
use Rattle.contexts.specs.declared.slots.Slots.{Slots}
use Rattle.entry_codec.specs.Devices.{net_of}
use Rattle.entry_codec.specs.LookUps.{home_among, is_addr, is_among, slot_has}
use Rattle.entry_codec.specs.Machine.{Machine, ask_number, held_number, visitor_number}
use Rattle.entry_codec.specs.Ordered.{IsRisingBy}
use Rattle.entry_codec.specs.declared.device.Device.{Device}
use Rattle.entry_codec.specs.declared.device.Granted.{Granted}
use Rattle.entry_codec.specs.declared.device.KeptSeed.{KeptSeed}
use Rattle.entry_codec.specs.declared.parties.OpenAsk.{OpenAsk}
use Rattle.entry_codec.specs.declared.parties.Visitor.{Visitor}

-- ---- contexts of one device

abbrev pub OnSlot : (Context → Type 0) → Option Context → Type 0
OnSlot P None = Unit {0}
OnSlot P (Some c) = P c

-- the origin of a device's own context: a seed whose JoinNonce it was given
abbrev pub IsSeededTo : ℕ → Origin → Type 0
IsSeededTo join_nonce (Seeded seed) = seed.nonce ≤ join_nonce
IsSeededTo join_nonce (Given number keys) = ⊥

-- the origin of a visitor's context: keys that came with an entry
abbrev pub IsGivenBefore : ℕ → Origin → Type 0
IsGivenBefore entries (Seeded seed) = ⊥
IsGivenBefore entries (Given number keys) = number < entries

abbrev pub Differ : Option Context → Option Context → Type 0
Differ None pending = Unit {0}
Differ (Some a) None = Unit {0}
Differ (Some a) (Some b) = a.origin ≢ b.origin

-- the contexts of one holder, each of whose origins is of one kind
pub record AreSlots (IsOrigin : Origin → Type 0) (s : Slots) : Type 0 where
  pub sound : IsSoundSlots s
  pub active : OnSlot (λ (c : Context). IsOrigin c.origin) s.active
  pub pending : OnSlot (λ (c : Context). IsOrigin c.origin) s.pending
  pub differ : Differ s.active s.pending

abbrev pub has_context : Slots → Bool
has_context s = is_some s.active || is_some s.pending

-- ---- devices

abbrev pub HasNonceTo : ℕ → KeptSeed → Type 0
HasNonceTo join_nonce kept = kept.seed.nonce ≤ join_nonce

abbrev pub network_of : Sender → Option ℕ
network_of (Network net) = Some net
network_of (Party id) = None

-- the NetIDs that have a row
abbrev pub networks : List Sender → List ℕ
networks senders = filter_map network_of senders

abbrev pub HasRow : List Sender → Granted → Type 0
HasRow senders g = IsTrue (is_among senders (Network g.net))

pub record IsSoundDevice (senders : List Sender) (d : Device) : Type 0 where
  pub seeds : length d.seeds.items ≤ 4
  pub nonces : AllByRecursion (HasNonceTo d.join_nonce) d.seeds.items
  pub slots : AreSlots (IsSeededTo d.join_nonce) d.slots
  pub home : IsTrue (d.is_home || not (has_context d.slots))
  pub granted : IsRisingBy net_of d.granted.items
  pub known : AllByRecursion (HasRow senders) d.granted.items

-- ---- visitors

pub record IsSoundVisitor (entries : ℕ) (devices : List Device) (v : Visitor) : Type 0 where
  pub slots : AreSlots (IsGivenBefore entries) v.slots
  pub stranger : home_among v.dev_eui devices ≡ false

-- ---- addresses

abbrev pub count_if : Bool → ℕ
count_if b = if b then 1 else 0

abbrev pub slots_use : DevAddr → Slots → ℕ
slots_use addr s = count_if (slot_has addr s.active) + count_if (slot_has addr s.pending)

abbrev pub device_uses : DevAddr → Device → ℕ
device_uses addr d = slots_use addr d.slots

abbrev pub visitor_uses : DevAddr → Visitor → ℕ
visitor_uses addr v = slots_use addr v.slots

abbrev pub ask_uses : DevAddr → OpenAsk → ℕ
ask_uses addr a = count_if (is_addr addr a.target.dev_addr)

-- how many contexts and open asks have the address
abbrev pub uses : DevAddr → Machine → ℕ
uses addr m = sum_by (device_uses addr) m.devices + sum_by (visitor_uses addr) m.visitors + sum_by (ask_uses addr) m.asks

-- ---- all

abbrev pub IsNumberedBelow : ℕ → OpenAsk → Type 0
IsNumberedBelow entries a = a.number < entries

-- what holds of a state, whose numbers of entries are below this one
pub record IsSoundTo (entries : ℕ) (m : Machine) : Type 0 where
  pub few_devices : length m.devices ≤ 4096
  pub few_networks : length (networks m.senders) ≤ 32
  pub few_visitors : length m.visitors ≤ 1024
  pub few_held : length m.held ≤ 4096
  pub few_asks : length m.asks ≤ 64
  pub devices : AllByRecursion (IsSoundDevice m.senders) m.devices
  pub visitors : AllByRecursion (IsSoundVisitor entries m.devices) m.visitors
  pub visitors_in_order : IsRisingBy visitor_number m.visitors
  pub held_in_order : IsRisingBy held_number m.held
  pub asks_in_order : IsRisingBy ask_number m.asks
  pub asks_before : AllByRecursion (IsNumberedBelow entries) m.asks
  pub addresses : (addr : DevAddr) → uses addr m ≤ 1

abbrev pub IsSound : Machine → Type 0
IsSound m = IsSoundTo m.entries m
