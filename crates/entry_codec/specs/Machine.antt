-- The state that decisions read, as plain data, and what an entry makes of it.
use Rattle.std.specs.Prelude.{ℕ, ◌+◌, ◌*◌, ◌^◌, ◌==◌, ◌&&◌, nat_lt, not, List, [], ◌∷◌, ◌++◌, map, find, position, slice_get, Option, Some, None, Bool, true, false, if◌then◌else◌}
use Rattle.std.specs.List.{filter, list_any}
use Rattle.wire_ids.specs.Lists.{changed, changed_first, holds_of}
use Rattle.wire_ids.specs.declared.address.DevAddr.{DevAddr}
use Rattle.wire_ids.specs.declared.eui.Eui.{Eui}
use Rattle.wire_ids.specs.declared.party.Sender.{Sender}
use Rattle.wire_ids.specs.declared.party.Sender.TheVariants.{Network, Party}
use Rattle.contexts.specs.Contexts.{fresh_of}
use Rattle.contexts.specs.Slots.{activated, offered, on_active}
use Rattle.contexts.specs.declared.context.Context.{Context}
use Rattle.contexts.specs.declared.context.Item.{Item}
use Rattle.contexts.specs.declared.context.Origin.TheVariants.{Given}
use Rattle.contexts.specs.declared.slots.Slots.{Slots}
use Rattle.entries.specs.declared.ask.AskOutcome.{AskOutcome}
use Rattle.entries.specs.declared.ask.Effect.{Effect}
use Rattle.entries.specs.declared.ask.Effect.TheVariants as effect
use Rattle.entries.specs.declared.ask.HeldCount.{HeldCount}
use Rattle.entries.specs.declared.ask.HeldSession.{HeldSession}
use Rattle.entries.specs.declared.ask.NewAsk.{NewAsk}
use Rattle.entries.specs.declared.ask.NewVisitor.{NewVisitor}
use Rattle.entries.specs.declared.ask.RejoinCount.{RejoinCount}
use Rattle.entries.specs.declared.change.Change.{Change}
use Rattle.entries.specs.declared.change.Change.TheVariants as change
use Rattle.entries.specs.declared.change.RoamingKind.{RoamingKind}
use Rattle.entries.specs.declared.change.RoamingKind.TheVariants as kind
use Rattle.entries.specs.declared.change.Lending.{Lending}
use Rattle.entries.specs.declared.change.PassiveUplink.{PassiveUplink}
use Rattle.entries.specs.declared.change.Queued.{Queued}
use Rattle.entries.specs.declared.change.Uplink.{Uplink}
use Rattle.entries.specs.declared.entry.Entry.{Entry}
use Rattle.entries.specs.declared.entry.Event.{Event}
use Rattle.entries.specs.declared.entry.Event.TheVariants as event
use Rattle.entry_codec.specs.Devices.{called_back, heard, in_slots, joined, lapsed, lent_out, marked, queued, rejoined, uses_pending, with_grant}
use Rattle.entry_codec.specs.Ordered.{put_in}
use Rattle.entry_codec.specs.declared.device.Device.{Device}
use Rattle.entry_codec.specs.declared.device.Granted.{Granted}
use Rattle.entry_codec.specs.declared.device.LentTo.{LentTo}
use Rattle.entry_codec.specs.declared.parties.Holder.{Holder}
use Rattle.entry_codec.specs.declared.parties.Holder.TheVariants as holder
use Rattle.entry_codec.specs.declared.parties.OpenAsk.{OpenAsk}
use Rattle.entry_codec.specs.declared.parties.Visitor.{Visitor}

pub record Machine : Type 0 where
  pub devices : List Device  -- one for each of the tables, in their order
  pub visitors : List Visitor  -- by DevEUI
  pub held : List HeldSession  -- the held passive sessions, by NetID and address
  pub asks : List OpenAsk  -- by number
  pub senders : List Sender  -- those that have a row, in the order of their bytes
  pub moment : ℕ  -- of the last entry
  pub entries : ℕ  -- how many there were

-- ---- devices and visitors by name; what a step doesn't name stays

abbrev pub on_device : ℕ → (Device → Device) → Machine → Machine
on_device device f m = record m { devices = changed device f m.devices }

abbrev pub is_dev : Eui → Device → Bool
is_dev dev d = d.dev_eui.0 == dev.0

-- the number of the device with this DevEUI
abbrev pub place_of : Eui → Machine → Option ℕ
place_of dev m = position (is_dev dev) m.devices

abbrev pub on_place : Option ℕ → (Device → Device) → Machine → Machine
on_place None f m = m
on_place (Some device) f m = on_device device f m

abbrev pub visitor_number : Visitor → ℕ
visitor_number v = v.dev_eui.0

abbrev pub is_visitor : Eui → Visitor → Bool
is_visitor dev v = v.dev_eui.0 == dev.0

abbrev pub in_visitor : (Slots → Slots) → Visitor → Visitor
in_visitor f v = record v { slots = f v.slots }

abbrev pub on_visitor : Eui → (Slots → Slots) → Machine → Machine
on_visitor dev f m = record m { visitors = changed_first (is_visitor dev) (in_visitor f) m.visitors }

-- who has contexts: a device of the tables by its number, or a visitor
abbrev pub on_slots : Option Holder → (Slots → Slots) → Machine → Machine
on_slots None f m = m
on_slots (Some (holder.Device device)) f m = on_device device (in_slots f) m
on_slots (Some (holder.Visitor dev)) f m = on_visitor dev f m

abbrev pub is_home : Device → Bool
is_home d = d.is_home

abbrev pub visitor_named : Eui → List Visitor → Option Holder
visitor_named dev vs = if list_any (is_visitor dev) vs then Some (holder.Visitor dev) else None

abbrev pub home_or_visitor : Eui → Option ℕ → Machine → Option Holder
home_or_visitor dev None m = visitor_named dev m.visitors
home_or_visitor dev (Some device) m =
    if holds_of is_home (slice_get m.devices device) then Some (holder.Device device) else visitor_named dev m.visitors

-- a device at home here, or else a visitor
unfoldable pub holder_of : Eui → Machine → Option Holder
holder_of dev m = home_or_visitor dev (place_of dev m) m

-- ---- lapse

abbrev pub visits : ℕ → Visitor → Bool
visits at v = nat_lt at v.until.0

abbrev pub is_held : ℕ → HeldSession → Bool
is_held at h = nat_lt at h.until.0

abbrev pub is_open : ℕ → OpenAsk → Bool
is_open at a = nat_lt at a.ends.0

-- what ends at this moment, or ended before, is gone
unfoldable pub lapse : ℕ → Machine → Machine
lapse at m = record m {
  devices = map (lapsed at) m.devices;
  visitors = filter (visits at) m.visitors;
  held = filter (is_held at) m.held;
  asks = filter (is_open at) m.asks;
}

-- ---- asks by number

abbrev pub ask_number : OpenAsk → ℕ
ask_number a = a.number

abbrev pub has_number : ℕ → OpenAsk → Bool
has_number n a = a.number == n

abbrev pub is_other : ℕ → OpenAsk → Bool
is_other n a = not (has_number n a)

abbrev pub open_ask : ℕ → Machine → Option OpenAsk
open_ask n m = find (has_number n) m.asks

-- without the ask that is closed
abbrev pub without : Option ℕ → List OpenAsk → List OpenAsk
without None asks = asks
without (Some n) asks = filter (is_other n) asks

abbrev pub ask_of : ℕ → NewAsk → OpenAsk
ask_of number a = record { number = number; sender = a.sender; body = a.body; target = a.target; ends = a.ends }

-- ---- the state at which an entry is looked at

abbrev pub visitor_waking : Option Eui → Option RejoinCount → Option Holder
visitor_waking None count = None
visitor_waking (Some dev) None = None
visitor_waking (Some dev) (Some count) = if count.pending then Some (holder.Visitor dev) else None

abbrev pub change_wakes : Change → Machine → Option Holder
change_wakes (change.Rejoin j) m = if holds_of (uses_pending j.used) (slice_get m.devices j.device) then Some (holder.Device j.device) else None
change_wakes _ m = None

-- whose pending context an event makes active first: that of a rejoin by its seed, or of a visitor that is heard under it
unfoldable pub wakes : Event → Machine → Option Holder
wakes (event.Kept request c) m = change_wakes c m
wakes (event.Asked a) m = visitor_waking a.target.dev_eui a.target.rejoin
wakes _ m = None

abbrev pub wake : Option Holder → Machine → Machine
wake who m = on_slots who activated m

unfoldable pub ready : Machine → Entry → Machine
ready m e = wake (wakes e.event (lapse e.moment.0 m)) (lapse e.moment.0 m)

-- ---- what a peer's answer makes

abbrev pub given_context : ℕ → NewVisitor → Context
given_context number n = fresh_of n.dev_addr (Given number n.keys) n.radio

abbrev pub new_visitor : ℕ → NewVisitor → Visitor
new_visitor number n = record { dev_eui = n.dev_eui; home = n.home; until = n.until; slots = record { active = None; pending = Some (given_context number n) } }

-- the active context stays
abbrev pub renewed : ℕ → NewVisitor → Visitor → Visitor
renewed number n v = record v { home = n.home; until = n.until; slots = offered (given_context number n) v.slots }

unfoldable pub visit : ℕ → NewVisitor → List Visitor → List Visitor
visit number n vs = put_in visitor_number (new_visitor number n) (renewed number n) vs

-- a held session by its NetID and address
abbrev pub session_number : ℕ → ℕ → ℕ
session_number net addr = net * 2 ^ 32 + addr

abbrev pub held_number : HeldSession → ℕ
held_number h = session_number h.net h.dev_addr.0

unfoldable pub hold : HeldSession → List HeldSession → List HeldSession
hold h hs = put_in held_number h (λ (old : HeldSession). h) hs

abbrev pub is_session : ℕ → DevAddr → HeldSession → Bool
is_session net addr h = held_number h == session_number net addr.0

abbrev pub held_session : ℕ → DevAddr → Machine → Option HeldSession
held_session net addr m = find (is_session net addr) m.held

unfoldable pub move_count : HeldCount → List HeldSession → List HeldSession
move_count c hs = changed_first (is_session c.net c.dev_addr) (λ (h : HeldSession). record h { count = c.count }) hs

-- ---- the cases

abbrev pub lent_to : Lending → LentTo
lent_to l = record { net = l.net; until = l.until }

abbrev pub item_of : Queued → Item
item_of q = record { number = q.number; port = q.port; confirmed = q.confirmed; payload = record { items = q.payload } }

-- an uplink, of the holder in one state, changes another
abbrev pub heard_in : Uplink → Option Holder → Machine → Machine
heard_in u who m = on_slots who (heard u.pending u.count u.frame u.down) m

abbrev pub on_up : Uplink → Machine → Machine
on_up u m = heard_in u (holder_of u.dev_eui m) m

abbrev pub granted_by : PassiveUplink → Granted
granted_by p = record { net = p.net; until = p.until }

abbrev pub on_passive : PassiveUplink → Machine → Machine
on_passive p m = heard_in p.up (holder_of p.up.dev_eui m) (on_place (place_of p.up.dev_eui m) (with_grant (granted_by p)) m)

-- the sender is this network
abbrev pub is_the_network : Sender → ℕ → Bool
is_the_network (Network own) net = net == own
is_the_network (Party party) net = false

-- a held session of a network for a device
abbrev pub is_held_for : Sender → Eui → HeldSession → Bool
is_held_for sender dev h = is_the_network sender h.net && h.dev_eui.0 == dev.0

abbrev pub on_dropped : RoamingKind → Sender → Eui → Machine → Machine
on_dropped kind.Held sender dev m = record m { held = filter (λ (h : HeldSession). not (is_held_for sender dev h)) m.held }
on_dropped kind.Lent sender dev m = on_place (place_of dev m) called_back m
on_dropped kind.Visitor sender dev m = record m { visitors = filter (λ (v : Visitor). not (is_visitor dev v)) m.visitors }

unfoldable pub on_change : Sender → Change → Machine → Machine
on_change sender (change.Join j) m = on_device j.device (joined j.counter j.join_nonce j.own) m
on_change sender (change.Rejoin j) m = on_device j.device (rejoined j.used j.counter j.join_nonce j.own) m
on_change sender (change.Lent l) m = on_device l.device (lent_out l.used l.counter l.join_nonce (lent_to l)) m
on_change sender (change.Up u) m = on_up u m
on_change sender (change.Passive p) m = on_passive p m
on_change sender (change.Queue q) m = on_device q.device (queued (item_of q)) m
on_change sender (change.Dropped d) m = on_dropped d.what sender d.dev_eui m

abbrev pub with_count : ℕ → Context → Context
with_count count c = record c { rj0 = Some count }

-- the context under which a visitor's rejoin was heard, which is active by now, keeps its RJcount0
abbrev pub with_rejoin : Option Eui → Option RejoinCount → Machine → Machine
with_rejoin None count m = m
with_rejoin (Some dev) None m = m
with_rejoin (Some dev) (Some count) m = on_visitor dev (on_active (with_count count.count)) m

abbrev pub asked : NewAsk → Machine → Machine
asked a m = record m { asks = without a.closes m.asks ++ ask_of m.entries a ∷ [] }

unfoldable pub on_effect : ℕ → Effect → Machine → Machine
on_effect number effect.Nothing m = m
on_effect number (effect.Visitor n) m = record m { visitors = visit number n m.visitors }
on_effect number (effect.Held h) m = record m { held = hold h m.held }
on_effect number (effect.Counter c) m = record m { held = move_count c m.held }

abbrev pub closed : ℕ → Machine → Machine
closed number m = record m { asks = filter (is_other number) m.asks }

abbrev pub on_told : AskOutcome → Machine → Machine
on_told t m = on_effect m.entries t.effect (closed t.ask m)

unfoldable pub on_event : Event → Machine → Machine
on_event event.Opened m = record m { asks = [] }
on_event (event.Tables text) m = m
on_event (event.Kept request c) m = on_change request.sender c m
on_event (event.Asked a) m = with_rejoin a.target.dev_eui a.target.rejoin (asked a m)
on_event (event.Told t) m = on_told t m
on_event (event.Suspend device) m = on_device device (marked true) m
on_event (event.Resume device) m = on_device device (marked false) m

-- the moment is kept, and the entry is counted
abbrev pub entered : ℕ → Machine → Machine
entered at m = record m { moment = at; entries = m.entries + 1 }

abbrev pub after : Machine → Entry → Machine
after m e = entered e.moment.0 (on_event e.event (ready m e))
