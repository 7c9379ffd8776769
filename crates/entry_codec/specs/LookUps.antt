-- What decisions look for in a state.
use Rattle.std.specs.Prelude.{ℕ, ◌==◌, ◌&&◌, ◌||◌, not, List, find, position, slice_get, Option, Some, None, option_map, Bool, true, false, is_some}
use Rattle.std.specs.List.{filter, list_any}
use Rattle.std.specs.Str.{bytes_eq}
use Rattle.wire_ids.specs.Lists.{at_place, holds_of}
use Rattle.wire_ids.specs.declared.address.DevAddr.{DevAddr}
use Rattle.wire_ids.specs.declared.eui.Eui.{Eui}
use Rattle.wire_ids.specs.declared.party.PeerId.{PeerId}
use Rattle.wire_ids.specs.declared.party.PeerId.TheVariants as peer
use Rattle.wire_ids.specs.declared.party.Sender.{Sender}
use Rattle.wire_ids.specs.declared.party.Sender.TheVariants.{Network, Party}
use Rattle.contexts.specs.declared.context.Context.{Context}
use Rattle.contexts.specs.declared.slots.Slots.{Slots}
use Rattle.entry_codec.specs.Machine.{Machine, is_dev, is_home, is_other, is_visitor, place_of}
use Rattle.entry_codec.specs.declared.device.Device.{Device}
use Rattle.entry_codec.specs.declared.parties.Holder.{Holder}
use Rattle.entry_codec.specs.declared.parties.Holder.TheVariants as holder
use Rattle.entry_codec.specs.declared.parties.LiveContext.{LiveContext}
use Rattle.entry_codec.specs.declared.parties.OpenAsk.{OpenAsk}
use Rattle.entry_codec.specs.declared.parties.Visitor.{Visitor}

-- ---- parties

abbrev pub is_same_sender : Sender → Sender → Bool
is_same_sender (Network a) (Network b) = a == b
is_same_sender (Network a) (Party b) = false
is_same_sender (Party a) (Network b) = false
is_same_sender (Party a) (Party b) = a.0 == b.0

-- the sender is one of these
abbrev pub is_among : List Sender → Sender → Bool
is_among senders sender = list_any (is_same_sender sender) senders

-- of a network that is asked, that it is one of these; a join server is no sender
abbrev pub peer_among : List Sender → PeerId → Bool
peer_among senders (peer.Network net) = is_among senders (Network net)
peer_among senders (peer.JoinServer id) = true

-- the sender has a row
abbrev pub is_sender : Sender → Machine → Bool
is_sender sender m = is_among m.senders sender

abbrev pub is_network : ℕ → Machine → Bool
is_network net m = is_sender (Network net) m

-- the peer has a row, where it is a network
abbrev pub knows_peer : PeerId → Machine → Bool
knows_peer peer m = peer_among m.senders peer

abbrev pub home_among : Eui → List Device → Bool
home_among dev devices = holds_of is_home (at_place devices (position (is_dev dev) devices))

abbrev pub device_named : Eui → Machine → Option Device
device_named dev m = at_place m.devices (place_of dev m)

-- the device is at home here
abbrev pub at_home : Eui → Machine → Bool
at_home dev m = home_among dev m.devices

abbrev pub visitor_of : Eui → Machine → Option Visitor
visitor_of dev m = find (is_visitor dev) m.visitors

abbrev pub has_visitor : Eui → Machine → Bool
has_visitor dev m = list_any (is_visitor dev) m.visitors

abbrev pub device_slots : Device → Slots
device_slots d = d.slots

abbrev pub visitor_slots : Visitor → Slots
visitor_slots v = v.slots

-- the contexts of a device or a visitor
unfoldable pub slots_of : Option Holder → Machine → Option Slots
slots_of None m = None
slots_of (Some (holder.Device device)) m = option_map device_slots (slice_get m.devices device)
slots_of (Some (holder.Visitor dev)) m = option_map visitor_slots (visitor_of dev m)

-- ---- addresses

abbrev pub slot_has : DevAddr → Option Context → Bool
slot_has addr None = false
slot_has addr (Some c) = c.addr.0 == addr.0

unfoldable pub slots_have : DevAddr → Slots → Bool
slots_have addr s = slot_has addr s.active || slot_has addr s.pending

abbrev pub device_has : DevAddr → Device → Bool
device_has addr d = slots_have addr d.slots

abbrev pub visitor_has : DevAddr → Visitor → Bool
visitor_has addr v = slots_have addr v.slots

abbrev pub is_addr : DevAddr → Option DevAddr → Bool
is_addr addr None = false
is_addr addr (Some a) = a.0 == addr.0

abbrev pub asks_for : DevAddr → OpenAsk → Bool
asks_for addr a = is_addr addr a.target.dev_addr

-- a context has the address
unfoldable pub lives : DevAddr → Machine → Bool
lives addr m = list_any (device_has addr) m.devices || list_any (visitor_has addr) m.visitors

-- a context or an open ask has the address
unfoldable pub is_taken : DevAddr → Machine → Bool
is_taken addr m = lives addr m || list_any (asks_for addr) m.asks

-- a context, or an open ask beside this one
unfoldable pub is_taken_beside : ℕ → DevAddr → Machine → Bool
is_taken_beside number addr m = lives addr m || list_any (asks_for addr) (filter (is_other number) m.asks)

abbrev pub leaves_slots : DevAddr → Slots → Bool
leaves_slots addr s = is_some s.pending && slot_has addr s.active

-- the address is that of an active context in whose place the pending one comes
unfoldable pub leaves : DevAddr → Option Holder → Machine → Bool
leaves addr who m = holds_of (leaves_slots addr) (slots_of who m)

abbrev pub visitor_with : DevAddr → Machine → Option Holder
visitor_with addr m = option_map (λ (v : Visitor). holder.Visitor v.dev_eui) (find (visitor_has addr) m.visitors)

abbrev pub holder_from : DevAddr → Option ℕ → Machine → Option Holder
holder_from addr (Some device) m = Some (holder.Device device)
holder_from addr None m = visitor_with addr m

-- who has the context with this address
unfoldable pub holder_with : DevAddr → Machine → Option Holder
holder_with addr m = holder_from addr (position (device_has addr) m.devices) m

abbrev pub is_active_at : DevAddr → Slots → Bool
is_active_at addr s = slot_has addr s.active

abbrev pub live_at : DevAddr → Option Holder → Machine → Option LiveContext
live_at addr None m = None
live_at addr (Some who) m = Some (record { holder = who; pending = not (holds_of (is_active_at addr) (slots_of (Some who) m)) })

-- the context with this address: whose it is, and whether it is the pending one
unfoldable pub live_context : DevAddr → Machine → Option LiveContext
live_context addr m = live_at addr (holder_with addr m) m

-- ---- kept bodies

abbrev pub has_body : List ℕ → OpenAsk → Bool
has_body body a = bytes_eq a.body body

-- an open ask has this body
abbrev pub is_asked : List ℕ → Machine → Bool
is_asked body m = list_any (has_body body) m.asks
