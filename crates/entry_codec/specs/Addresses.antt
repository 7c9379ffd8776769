-- Who has which address, and the table of it.
use Rattle.std.specs.Prelude.{◌≡◌, ℕ, ◌==◌, ◌&&◌, ◌||◌, not, slice_get, Option, Some, None, is_some, option_map, Bool, true, false, if◌then◌else◌}
use Rattle.std.specs.List.{list_any}
use Rattle.wire_ids.specs.Lists.{holds_of}
use Rattle.wire_ids.specs.declared.address.DevAddr.{DevAddr}
use Rattle.wire_ids.specs.declared.eui.Eui.{Eui}
use Rattle.address_table.specs.Table.{Table, knows, owner_of}
use Rattle.address_table.specs.declared.owner.Owner.{Owner}
use Rattle.address_table.specs.declared.owner.Owner.TheVariants as owner
use Rattle.entries.specs.declared.ask.Effect.{Effect}
use Rattle.entries.specs.declared.ask.Effect.TheVariants as effect
use Rattle.entries.specs.declared.change.Change.{Change}
use Rattle.entries.specs.declared.change.Change.TheVariants as change
use Rattle.entries.specs.declared.entry.Event.{Event}
use Rattle.entries.specs.declared.entry.Event.TheVariants as event
use Rattle.entry_codec.specs.LookUps.{asks_for, device_has, visitor_has}
use Rattle.entry_codec.specs.Machine.{Machine, has_number, holder_of, is_open, is_visitor, visits}
use Rattle.entry_codec.specs.declared.addresses.Touched.{Touched}
use Rattle.entry_codec.specs.declared.parties.Holder.{Holder}
use Rattle.entry_codec.specs.declared.parties.Holder.TheVariants as holder
use Rattle.entry_codec.specs.declared.parties.OpenAsk.{OpenAsk}
use Rattle.entry_codec.specs.declared.parties.Visitor.{Visitor}

-- ---- owners

abbrev pub is_guest_with : Eui → DevAddr → Visitor → Bool
is_guest_with dev addr v = is_visitor dev v && visitor_has addr v

abbrev pub is_ask_with : ℕ → DevAddr → OpenAsk → Bool
is_ask_with number addr a = has_number number a && asks_for addr a

-- the owner has the address
unfoldable pub has : Owner → DevAddr → Machine → Bool
has (owner.Device device) addr m = holds_of (device_has addr) (slice_get m.devices device)
has (owner.Visitor dev) addr m = list_any (is_guest_with dev addr) m.visitors
has (owner.Ask number) addr m = list_any (is_ask_with number addr) m.asks

abbrev pub one_has : Option Owner → DevAddr → Machine → Bool
one_has None addr m = false
one_has (Some o) addr m = has o addr m

unfoldable pub is_same_owner : Owner → Owner → Bool
is_same_owner (owner.Device a) (owner.Device b) = a == b
is_same_owner (owner.Visitor a) (owner.Visitor b) = a.0 == b.0
is_same_owner (owner.Ask a) (owner.Ask b) = a == b
is_same_owner a b = false

abbrev pub is_the_owner : Option Owner → Owner → Bool
is_the_owner None o = false
is_the_owner (Some own) o = is_same_owner own o

abbrev pub is_an_ask : Owner → Bool
is_an_ask (owner.Ask number) = true
is_an_ask o = false

-- ---- the table

-- the table has each address that it knows under its owner, but for those of these owners
pub record IsTableBut (out : Owner → Bool) (t : Table) (m : Machine) : Type 0 where
  pub there : (o : Owner) (addr : DevAddr) → knows addr t ≡ true → owner_of addr t ≡ Some o → (has o addr m ≡ true) × (out o ≡ false)
  pub all : (o : Owner) (addr : DevAddr) → knows addr t ≡ true → has o addr m ≡ true → out o ≡ false → owner_of addr t ≡ Some o

abbrev pub IsTable : Table → Machine → Type 0
IsTable t m = IsTableBut (λ (o : Owner). false) t m

-- these addresses are taken out
pub record TakenOut (gone : DevAddr → Bool) (old new : Table) : Type 0 where
  pub known : (addr : DevAddr) → knows addr new ≡ knows addr old
  pub owners : (addr : DevAddr) → owner_of addr new ≡ (if gone addr then None else owner_of addr old)

-- these addresses are put in, as this owner's
pub record PutIn (own : Option Owner) (new_ones : DevAddr → Bool) (old new : Table) : Type 0 where
  pub known : (addr : DevAddr) → knows addr new ≡ true → knows addr old ≡ true
  pub owners : (addr : DevAddr) → knows addr new ≡ true → owner_of addr new ≡ (if new_ones addr then own else owner_of addr old)

-- ---- what ends

abbrev pub guest_ended : ℕ → DevAddr → Visitor → Bool
guest_ended at addr v = not (visits at v) && visitor_has addr v

abbrev pub ask_ended : ℕ → DevAddr → OpenAsk → Bool
ask_ended at addr a = not (is_open at a) && asks_for addr a

abbrev pub has_ended : ℕ → DevAddr → Machine → Bool
has_ended at addr m = list_any (guest_ended at addr) m.visitors || list_any (ask_ended at addr) m.asks

-- ---- whose addresses an event may change

abbrev pub owner_by : Holder → Owner
owner_by (holder.Device device) = owner.Device device
owner_by (holder.Visitor dev) = owner.Visitor dev

-- who has contexts, of an owner
abbrev pub holder_by : Option Owner → Option Holder
holder_by None = None
holder_by (Some (owner.Device device)) = Some (holder.Device device)
holder_by (Some (owner.Visitor dev)) = Some (holder.Visitor dev)
holder_by (Some (owner.Ask number)) = None

-- a join without a context, an uplink under the active context and a payload leave all addresses as they are
abbrev pub touched_by_change : Change → Machine → Option Owner
touched_by_change (change.Join j) m = if is_some j.own then Some (owner.Device j.device) else None
touched_by_change (change.Rejoin j) m = Some (owner.Device j.device)
touched_by_change (change.Lent l) m = Some (owner.Device l.device)
touched_by_change (change.Up u) m = if u.pending then option_map owner_by (holder_of u.dev_eui m) else None
touched_by_change (change.Passive p) m = option_map owner_by (holder_of p.up.dev_eui m)
touched_by_change (change.Queue q) m = None
touched_by_change (change.Dropped d) m = Some (owner.Visitor d.dev_eui)

abbrev pub touched_by_effect : Effect → Option Owner
touched_by_effect (effect.Visitor n) = Some (owner.Visitor n.dev_eui)
touched_by_effect _ = None

abbrev pub visitor_owner : Eui → Owner
visitor_owner dev = owner.Visitor dev

abbrev pub ask_owner : ℕ → Owner
ask_owner number = owner.Ask number

unfoldable pub touched_by : Event → Machine → Touched
touched_by event.Opened m = record { holder = None; closed = None; asked = None; all_asks = true }
touched_by (event.Tables text) m = record { holder = None; closed = None; asked = None; all_asks = false }
touched_by (event.Kept request c) m = record { holder = touched_by_change c m; closed = None; asked = None; all_asks = false }
touched_by (event.Asked a) m = record { holder = option_map visitor_owner a.target.dev_eui; closed = option_map ask_owner a.closes; asked = Some (owner.Ask m.entries); all_asks = false }
touched_by (event.Told t) m = record { holder = touched_by_effect t.effect; closed = Some (owner.Ask t.ask); asked = None; all_asks = false }
touched_by (event.Suspend device) m = record { holder = Some (owner.Device device); closed = None; asked = None; all_asks = false }
touched_by (event.Resume device) m = record { holder = Some (owner.Device device); closed = None; asked = None; all_asks = false }

-- the owner is one of them
abbrev pub touches : Touched → Owner → Bool
touches t o = t.all_asks && is_an_ask o || (is_the_owner t.asked o || (is_the_owner t.closed o || is_the_owner t.holder o))
