-- Which entries fit a state.
use Rattle.std.specs.Prelude.{ℕ, ◌^◌, ◌==◌, ◌&&◌, ◌||◌, nat_lt, nat_le, not, length, slice_get, Option, Some, None, Bool, true, false, is_some, if◌then◌else◌}
use Rattle.std.specs.List.{list_any}
use Rattle.wire_ids.specs.Lists.{holds_of}
use Rattle.wire_ids.specs.declared.address.DevAddr.{DevAddr}
use Rattle.wire_ids.specs.declared.eui.Eui.{Eui}
use Rattle.wire_ids.specs.declared.party.Sender.{Sender}
use Rattle.contexts.specs.Slots.{woken}
use Rattle.contexts.specs.declared.context.Context.{Context}
use Rattle.contexts.specs.declared.slots.Slots.{Slots}
use Rattle.entries.specs.declared.ask.AskOutcome.{AskOutcome}
use Rattle.entries.specs.declared.ask.Effect.{Effect}
use Rattle.entries.specs.declared.ask.Effect.TheVariants as effect
use Rattle.entries.specs.declared.ask.HeldSession.{HeldSession}
use Rattle.entries.specs.declared.ask.NewAsk.{NewAsk}
use Rattle.entries.specs.declared.ask.RejoinCount.{RejoinCount}
use Rattle.entries.specs.declared.change.Change.{Change}
use Rattle.entries.specs.declared.change.Change.TheVariants as change
use Rattle.entries.specs.declared.change.Downlink.{Downlink}
use Rattle.entries.specs.declared.change.Downlink.TheVariants as down
use Rattle.entries.specs.declared.change.Joined.{Joined}
use Rattle.entries.specs.declared.change.Lending.{Lending}
use Rattle.entries.specs.declared.change.OwnContext.{OwnContext}
use Rattle.entries.specs.declared.change.PassiveUplink.{PassiveUplink}
use Rattle.entries.specs.declared.change.Rejoined.{Rejoined}
use Rattle.entries.specs.declared.change.RoamingKind.{RoamingKind}
use Rattle.entries.specs.declared.change.RoamingKind.TheVariants as kind
use Rattle.entries.specs.declared.change.Uplink.{Uplink}
use Rattle.entries.specs.declared.entry.Entry.{Entry}
use Rattle.entries.specs.declared.entry.Event.{Event}
use Rattle.entries.specs.declared.entry.Event.TheVariants as event
use Rattle.entries.specs.declared.used_seed.UsedSeed.{UsedSeed}
use Rattle.entries.specs.declared.used_seed.UsedSeed.TheVariants.{Rejoin0, Rejoin1, Rejoin2}
use Rattle.entry_codec.specs.LookUps.{asks_for, at_home, device_named, has_visitor, is_network, is_sender, is_taken, is_taken_beside, knows_peer, slots_of, visitor_of}
use Rattle.entry_codec.specs.Machine.{Machine, held_session, holder_of, is_held_for, is_the_network, lapse, open_ask, ready, without}
use Rattle.entry_codec.specs.declared.device.Device.{Device}
use Rattle.entry_codec.specs.declared.device.KeptSeed.{KeptSeed}
use Rattle.entry_codec.specs.declared.device.LentTo.{LentTo}
use Rattle.entry_codec.specs.declared.parties.OpenAsk.{OpenAsk}
use Rattle.entry_codec.specs.declared.parties.Visitor.{Visitor}

-- above the last one, where there is one
abbrev pub is_above : ℕ → Option ℕ → Bool
is_above n None = true
is_above n (Some last) = nat_lt last n

-- ---- joins and rejoins

-- an own context is a home device's, and its address is free
abbrev pub fits_own : Option OwnContext → Device → Machine → Bool
fits_own None d m = true
fits_own (Some own) d m = d.is_home && not (is_taken own.dev_addr m)

abbrev pub fits_join : Joined → Machine → Device → Bool
fits_join j m d = is_above j.counter d.dev_nonce && nat_lt d.join_nonce j.join_nonce && fits_own j.own d m

abbrev pub is_above_count : ℕ → KeptSeed → Bool
is_above_count n kept = is_above n kept.rj_count0

-- the used seed is there, and the counter is above the last one
abbrev pub fits_used : UsedSeed → ℕ → Device → Bool
fits_used (Rejoin0 place) n d = holds_of (is_above_count n) (slice_get d.seeds.items place)
fits_used Rejoin1 n d = is_above n d.rj_count1
fits_used (Rejoin2 place) n d = holds_of (is_above_count n) (slice_get d.seeds.items place)

abbrev pub fits_rejoin : Rejoined → Machine → Device → Bool
fits_rejoin j m d = fits_used j.used j.counter d && nat_lt d.join_nonce j.join_nonce && fits_own j.own d m

abbrev pub fits_step : Option UsedSeed → ℕ → Device → Bool
fits_step None n d = is_above n d.dev_nonce
fits_step (Some used) n d = fits_used used n d

abbrev pub fits_lending : Lending → Device → Bool
fits_lending l d = fits_step l.used l.counter d && nat_lt d.join_nonce l.join_nonce

-- ---- uplinks and queues

abbrev pub can_answer : Downlink → Context → Bool
can_answer down.Nothing c = true
can_answer down.Empty c = nat_lt c.next_n (2 ^ 32)
can_answer down.FirstItem c = nat_lt 0 (length c.queue.items)

-- the count is above the last one, and there is the number or the item of the downlink
abbrev pub can_hear : ℕ → Downlink → Context → Bool
can_hear count down c = is_above count c.last && can_answer down c

abbrev pub is_there : Bool → Slots → Bool
is_there pending s = if pending then is_some s.pending else is_some s.active

-- the context that an uplink names is there, and can hear it
unfoldable pub fits_slots : Bool → ℕ → Downlink → Slots → Bool
fits_slots pending count down s = is_there pending s && holds_of (can_hear count down) (woken pending s).active

abbrev pub fits_up : Uplink → Machine → Bool
fits_up u m = nat_le (length u.frame) 255 && holds_of (fits_slots u.pending u.count u.down) (slots_of (holder_of u.dev_eui m) m)

abbrev pub fits_passive : PassiveUplink → Machine → Bool
fits_passive p m = is_network p.net m && at_home p.up.dev_eui m && fits_up p.up m

-- the number has 32 bits and isn't below the next, and there is a place in the queue
abbrev pub takes : ℕ → Context → Bool
takes number c = nat_lt number (2 ^ 32) && nat_le c.next_a number && nat_lt (length c.queue.items) 8

-- there is an active context that takes an item of this number
unfoldable pub can_queue : ℕ → Device → Bool
can_queue number d = holds_of (takes number) d.slots.active

-- ---- what is dropped

abbrev pub is_lent_to : Sender → LentTo → Bool
is_lent_to sender l = is_the_network sender l.net

abbrev pub is_lent_by : Sender → Device → Bool
is_lent_by sender d = holds_of (is_lent_to sender) d.lent

-- the same, while the lending lasts
abbrev pub is_lent_at : ℕ → Sender → Device → Bool
is_lent_at at sender d = holds_of (λ (l : LentTo). nat_lt at l.until.0 && is_lent_to sender l) d.lent

abbrev pub is_guest_of : Sender → Visitor → Bool
is_guest_of sender v = is_the_network sender v.home

-- what the sender drops is there
abbrev pub fits_dropped : RoamingKind → Sender → Eui → Machine → Bool
fits_dropped kind.Held sender dev m = list_any (is_held_for sender dev) m.held
fits_dropped kind.Lent sender dev m = holds_of (is_lent_by sender) (device_named dev m)
fits_dropped kind.Visitor sender dev m = holds_of (is_guest_of sender) (visitor_of dev m)

unfoldable pub fits_change : Sender → Change → Machine → Bool
fits_change sender (change.Join j) m = holds_of (fits_join j m) (slice_get m.devices j.device)
fits_change sender (change.Rejoin j) m = holds_of (fits_rejoin j m) (slice_get m.devices j.device)
fits_change sender (change.Lent l) m = is_network l.net m && holds_of (fits_lending l) (slice_get m.devices l.device)
fits_change sender (change.Up u) m = fits_up u m
fits_change sender (change.Passive p) m = fits_passive p m
fits_change sender (change.Queue q) m = nat_le (length q.payload) 242 && holds_of (can_queue q.number) (slice_get m.devices q.device)
fits_change sender (change.Dropped d) m = fits_dropped d.what sender d.dev_eui m

-- ---- asks

abbrev pub is_free : Option DevAddr → Machine → Bool
is_free None m = true
is_free (Some addr) m = not (is_taken addr m)

abbrev pub closes_open : Option ℕ → Machine → Bool
closes_open None m = true
closes_open (Some number) m = is_some (open_ask number m)

abbrev pub is_counted_below : ℕ → Context → Bool
is_counted_below count c = is_above count c.rj0

abbrev pub counts_above : ℕ → Visitor → Bool
counts_above count v = holds_of (is_counted_below count) v.slots.active

-- the visitor's context is there, and the RJcount0 above its last one
abbrev pub fits_count : Option Eui → Option RejoinCount → Machine → Bool
fits_count dev None m = true
fits_count None (Some count) m = false
fits_count (Some dev) (Some count) m = holds_of (counts_above count.count) (visitor_of dev m)

-- the same of a state in which the visitor's pending context isn't active yet
abbrev pub counts_before : Option Eui → Option RejoinCount → Machine → Bool
counts_before dev None m = true
counts_before None (Some count) m = false
counts_before (Some dev) (Some count) m = holds_of (λ (v : Visitor). holds_of (is_counted_below count.count) (woken count.pending v.slots).active) (visitor_of dev m)

-- its sender and the network that it asks have rows, the ask that it closes is open, and there is a place among 64
unfoldable pub may_ask : NewAsk → Machine → Bool
may_ask a m = is_sender a.sender m && knows_peer a.target.peer m && closes_open a.closes m && nat_lt (length (without a.closes m.asks)) 64

unfoldable pub fits_asked : NewAsk → Machine → Bool
fits_asked a m = may_ask a m && is_free a.target.dev_addr m && fits_count a.target.dev_eui a.target.rejoin m

-- ---- what a peer's answer makes; decisions look at these three tests too

-- the device may visit: it isn't at home here, nobody but its ask has the address, and it visits or there is room
unfoldable pub can_visit : ℕ → Eui → DevAddr → Machine → Bool
can_visit ask dev addr m = not (at_home dev m) && not (is_taken_beside ask addr m) && (has_visitor dev m || nat_lt (length m.visitors) 1024)

abbrev pub is_later : ℕ → HeldSession → Bool
is_later count h = nat_lt h.count count

abbrev pub has_room_to_hold : ℕ → Option HeldSession → Machine → Bool
has_room_to_hold count None m = nat_lt (length m.held) 4096
has_room_to_hold count (Some h) m = is_later count h

-- the session may be held: its count is above the one of the session of this network and address, or there is room for a new one
unfoldable pub can_hold : ℕ → DevAddr → ℕ → Machine → Bool
can_hold net addr count m = has_room_to_hold count (held_session net addr m) m

-- the session of this network and address is held, and the count is above its own
unfoldable pub can_move : ℕ → DevAddr → ℕ → Machine → Bool
can_move net addr count m = holds_of (is_later count) (held_session net addr m)

unfoldable pub fits_effect : ℕ → Effect → Machine → OpenAsk → Bool
fits_effect ask effect.Nothing m a = true
fits_effect ask (effect.Visitor n) m a = is_network n.home m && asks_for n.dev_addr a && can_visit ask n.dev_eui n.dev_addr m
fits_effect ask (effect.Held h) m a = is_network h.net m && can_hold h.net h.dev_addr h.count m
fits_effect ask (effect.Counter c) m a = is_network c.net m && can_move c.net c.dev_addr c.count m

abbrev pub fits_told : AskOutcome → Machine → Bool
fits_told t m = holds_of (fits_effect t.ask t.effect m) (open_ask t.ask m)

-- ---- all entries

abbrev pub is_marked : Bool → Device → Bool
is_marked suspended d = if suspended then d.suspended else not d.suspended

-- an event fits a state in which what has ended is gone, and its named context is active
unfoldable pub fits_event : Event → Machine → Bool
fits_event event.Opened m = nat_lt 0 m.entries
fits_event (event.Tables text) m = m.entries == 0
fits_event (event.Kept request c) m = nat_lt 0 m.entries && is_sender request.sender m && fits_change request.sender c m
fits_event (event.Asked a) m = nat_lt 0 m.entries && fits_asked a m
fits_event (event.Told t) m = nat_lt 0 m.entries && fits_told t m
fits_event (event.Suspend device) m = nat_lt 0 m.entries && holds_of (is_marked false) (slice_get m.devices device)
fits_event (event.Resume device) m = nat_lt 0 m.entries && holds_of (is_marked true) (slice_get m.devices device)

-- the moment isn't below the last one and is at most 2^53, and there is a number for one more entry
abbrev pub is_time : ℕ → Machine → Bool
is_time at m = nat_le m.moment at && nat_le at (2 ^ 53) && nat_lt m.entries (2 ^ 63)

abbrev pub has_pending : Visitor → Bool
has_pending v = is_some v.slots.pending

abbrev pub pending_is_there : Option Eui → Option RejoinCount → Machine → Bool
pending_is_there None count m = true
pending_is_there (Some dev) None m = true
pending_is_there (Some dev) (Some count) m = if count.pending then holds_of has_pending (visitor_of dev m) else true

-- the pending context that an event makes active first is there
unfoldable pub names_there : Event → Machine → Bool
names_there (event.Asked a) m = pending_is_there a.target.dev_eui a.target.rejoin m
names_there _ m = true

unfoldable pub fits : Machine → Entry → Bool
fits m e = is_time e.moment.0 m && names_there e.event (lapse e.moment.0 m) && fits_event e.event (ready m e)
