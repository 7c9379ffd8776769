-- What is past of a counter stays so at every entry that fits.
use Rattle.std.proofs.Common.{◌≡◌, ℕ, ◌+◌, ◌<◌, ◌≤◌, true, false, Option, Some, None, ap, arith}
use Rattle.std.specs.Prelude.{IsTrue, ◌&&◌, nat_le, nat_lt, length, position, slice_get}
use Rattle.std.specs.List.{AllByRecursion}
use borrow.Author.Tests.{ltb-true}
use Rattle.wire_ids.specs.Lists.{holds_of}
use Rattle.wire_ids.specs.declared.eui.Eui.{Eui}
use Rattle.wire_ids.specs.declared.party.Sender.{Sender}
use Rattle.wire_ids.proofs.Lists.{all_changed, all_changed_there, all_map}
use Rattle.contexts.specs.Slots.{activated, on_active}
use Rattle.contexts.specs.declared.context.Origin.{Origin}
use Rattle.contexts.specs.declared.context.Origin.TheVariants.{Given, Seeded}
use Rattle.contexts.specs.declared.slots.Slots.{Slots}
use Rattle.entries.specs.declared.ask.Effect.{Effect}
use Rattle.entries.specs.declared.ask.Effect.TheVariants as effect
use Rattle.entries.specs.declared.ask.NewVisitor.{NewVisitor}
use Rattle.entries.specs.declared.ask.RejoinCount.{RejoinCount}
use Rattle.entries.specs.declared.change.Change.{Change}
use Rattle.entries.specs.declared.change.Change.TheVariants as change
use Rattle.entries.specs.declared.change.Joined.{Joined}
use Rattle.entries.specs.declared.change.Lending.{Lending}
use Rattle.entries.specs.declared.change.Rejoined.{Rejoined}
use Rattle.entries.specs.declared.change.RoamingKind.{RoamingKind}
use Rattle.entries.specs.declared.change.RoamingKind.TheVariants as kind
use Rattle.entries.specs.declared.change.Uplink.{Uplink}
use Rattle.entries.specs.declared.entry.Entry.{Entry}
use Rattle.entries.specs.declared.entry.Event.{Event}
use Rattle.entries.specs.declared.entry.Event.TheVariants as event
use Rattle.entry_codec.specs.Devices.{called_back, heard, in_slots, joined, lapsed, lent_out, marked, queued, rejoined, with_grant}
use Rattle.entry_codec.specs.Fits.{can_queue, fits, fits_change, fits_event, fits_join, fits_lending, fits_own, fits_rejoin, fits_step, fits_used, is_above}
use Rattle.entry_codec.specs.LookUps.{is_network, is_sender}
use Rattle.entry_codec.specs.Machine.{Machine, after, asked, closed, entered, given_context, granted_by, holder_of, in_visitor, is_visitor, item_of, lapse, lent_to, new_visitor, on_change, on_device, on_dropped, on_effect, on_event, on_place, on_slots, on_visitor, place_of, ready, renewed, visit, visitor_number, visits, wake, wakes, with_count, with_rejoin}
use Rattle.entry_codec.specs.declared.device.Device.{Device}
use Rattle.entry_codec.specs.declared.parties.Holder.{Holder}
use Rattle.entry_codec.specs.declared.parties.Holder.TheVariants as holder
use Rattle.entry_codec.specs.declared.parties.Visitor.{Visitor}
use Rattle.entry_codec.proofs.Bools.{and_left, and_right}
use Rattle.entry_codec.proofs.Ordered.{all_filter, all_put}
use Rattle.entry_codec.proofs.SoundDevices.{IsSame, same-called_back, same-in_slots, same-joined, same-lapsed, same-lent_out, same-marked, same-queued, same-rejoined, same-with_grant}
use Rattle.entry_codec.proofs.Stays.{fits_its_event}
use Rattle.entry_codec.proofs.Sums.{at_some}
use Rattle.histories.specs.Downlinks.{ContextCounter}
use Rattle.histories.proofs.Contexts.{PastSlots, past-activated, past-counted, past-heard, past-offered}
use Rattle.histories.proofs.Devices.{PastDevice, PastOf, past-called_back, past-in_slots, past-joined, past-lapsed, past-lent_out, past-marked, past-queued, past-rejoined, past-step, past-with_grant}

-- ---- what is past in a state

abbrev pub PastVisitor : ContextCounter → ℕ → Visitor → Type 0
PastVisitor k n v = v.dev_eui.0 ≡ k.dev_eui.0 → PastSlots k n v.slots

-- given keys came with an entry before
abbrev pub CameBefore : ℕ → Origin → Type 0
CameBefore entries (Seeded seed) = Unit {0}
CameBefore entries (Given number keys) = number < entries

-- each context that has the counter is above the number, and no new one has it again
pub record Past (k : ContextCounter) (n : ℕ) (m : Machine) : Type 0 where
  pub before : CameBefore m.entries k.origin
  pub devices : AllByRecursion (PastDevice k n) m.devices
  pub visitors : AllByRecursion (PastVisitor k n) m.visitors

before-more : (a b : ℕ) → a ≤ b → (o : Origin) → CameBefore a o → CameBefore b o
before-more a b le (Seeded seed) h = tt
before-more a b le (Given number keys) h = omega (arith, le, h)

-- ---- new numbers and new keys

pub rises-join : (j : Joined) (m : Machine) (d : Device) → IsTrue (fits_join j m d) → d.join_nonce < j.join_nonce
rises-join j m d h = ltb-true d.join_nonce j.join_nonce (and_right (is_above j.counter d.dev_nonce) (nat_lt d.join_nonce j.join_nonce) (and_left (is_above j.counter d.dev_nonce && nat_lt d.join_nonce j.join_nonce) (fits_own j.own d m) h))

pub rises-rejoin : (j : Rejoined) (m : Machine) (d : Device) → IsTrue (fits_rejoin j m d) → d.join_nonce < j.join_nonce
rises-rejoin j m d h = ltb-true d.join_nonce j.join_nonce (and_right (fits_used j.used j.counter d) (nat_lt d.join_nonce j.join_nonce) (and_left (fits_used j.used j.counter d && nat_lt d.join_nonce j.join_nonce) (fits_own j.own d m) h))

pub rises-lend : (l : Lending) (d : Device) → IsTrue (fits_lending l d) → d.join_nonce < l.join_nonce
rises-lend l d h = ltb-true d.join_nonce l.join_nonce (and_right (fits_step l.used l.counter d) (nat_lt d.join_nonce l.join_nonce) h)

pub keys_apart : (v : NewVisitor) (entries : ℕ) (o : Origin) → CameBefore entries o → Given entries v.keys ≡ o → ⊥
keys_apart v entries (Seeded seed) h e = absurd cc
keys_apart v entries (Given number keys) h e = apart (ap number_in e)
  where
    number_in : Origin → ℕ
    number_in (Seeded seed) = 0
    number_in (Given x y) = x

    apart : entries ≡ number → ⊥
    apart same = omega (arith, h, same)

-- ---- steps of a state

module _ (k : ContextCounter) (n : ℕ) where
  past-on_device : (i : ℕ) (f : Device → Device) (m : Machine) → IsSame f → ((d : Device) → slice_get m.devices i ≡ Some d → PastOf k n d → PastOf k n (f d)) → Past k n m → Past k n (on_device i f m)
  past-on_device i f m same step h = record {
    before = h.before;
    devices = all_changed (PastDevice k n) i f m.devices (λ d there p. past-step k n f d same (step d there) p) h.devices;
    visitors = h.visitors;
  }

  pub past-on_place : (o : Option ℕ) (f : Device → Device) (m : Machine) → IsSame f → ((d : Device) → PastOf k n d → PastOf k n (f d)) → Past k n m → Past k n (on_place o f m)
  past-on_place None f m same step h = h
  past-on_place (Some i) f m same step h = past-on_device i f m same (λ d there. step d) h

  past-on_visitor : (dev : Eui) (f : Slots → Slots) (m : Machine) → ((s : Slots) → PastSlots k n s → PastSlots k n (f s)) → Past k n m → Past k n (on_visitor dev f m)
  past-on_visitor dev f m step h = record {
    before = h.before;
    devices = h.devices;
    visitors = all_changed_there (PastVisitor k n) (in_visitor f) m.visitors (position (is_visitor dev) m.visitors) (λ v p e. step v.slots (p e)) h.visitors;
  }

  past-on_slots : (who : Option Holder) (f : Slots → Slots) (m : Machine) → ((s : Slots) → PastSlots k n s → PastSlots k n (f s)) → Past k n m → Past k n (on_slots who f m)
  past-on_slots None f m step h = h
  past-on_slots (Some (holder.Device i)) f m step h = past-on_device i (in_slots f) m (same-in_slots f) (λ d there p. past-in_slots k n f d (step d.slots) p) h
  past-on_slots (Some (holder.Visitor dev)) f m step h = past-on_visitor dev f m step h

  -- ---- the state at which an entry is looked at

  past-lapse : (at : ℕ) (m : Machine) → Past k n m → Past k n (lapse at m)
  unfolding lapse
  past-lapse at m h = record {
    before = h.before;
    devices = all_map (PastDevice k n) (lapsed at) m.devices (λ d p. past-step k n (lapsed at) d (same-lapsed at) (past-lapsed k n at d) p) h.devices;
    visitors = all_filter (PastVisitor k n) (visits at) m.visitors h.visitors;
  }

  past-wake : (who : Option Holder) (m : Machine) → Past k n m → Past k n (wake who m)
  past-wake who m h = past-on_slots who activated m (λ s p. past-activated k n s p) h

  pub past-ready : (m : Machine) (e : Entry) → Past k n m → Past k n (ready m e)
  unfolding ready
  past-ready m e h = past-wake (wakes e.event (lapse e.moment.0 m)) (lapse e.moment.0 m) (past-lapse e.moment.0 m h)

  -- ---- changes

  past-heard_in : (u : Uplink) (who : Option Holder) (m : Machine) → Past k n m → Past k n (on_slots who (heard u.pending u.count u.frame u.down) m)
  past-heard_in u who m h = past-on_slots who (heard u.pending u.count u.frame u.down) m (λ s p. past-heard k n u.pending u.count u.frame u.down s p) h

  past-dropped : (what : RoamingKind) (sender : Sender) (dev : Eui) (m : Machine) → Past k n m → Past k n (on_dropped what sender dev m)
  past-dropped kind.Held sender dev m h = record { before = h.before; devices = h.devices; visitors = h.visitors }
  past-dropped kind.Lent sender dev m h = past-on_place (place_of dev m) called_back m same-called_back (λ d p. past-called_back k n d p) h
  past-dropped kind.Visitor sender dev m h = record { before = h.before; devices = h.devices; visitors = all_filter (PastVisitor k n) _ m.visitors h.visitors }

  past-change : (sender : Sender) (c : Change) (m : Machine) → IsTrue (fits_change sender c m) → Past k n m → Past k n (on_change sender c m)
  unfolding on_change fits_change
  past-change sender (change.Join j) m fit h = past-on_device j.device (joined j.counter j.join_nonce j.own) m (same-joined j.counter j.join_nonce j.own)
      (λ d there p. past-joined k n j.counter j.join_nonce j.own d (rises-join j m d (at_some (fits_join j m) (slice_get m.devices j.device) d there fit)) p) h
  past-change sender (change.Rejoin j) m fit h = past-on_device j.device (rejoined j.used j.counter j.join_nonce j.own) m (same-rejoined j.used j.counter j.join_nonce j.own)
      (λ d there p. past-rejoined k n j.used j.counter j.join_nonce j.own d (rises-rejoin j m d (at_some (fits_rejoin j m) (slice_get m.devices j.device) d there fit)) p) h
  past-change sender (change.Lent l) m fit h = past-on_device l.device (lent_out l.used l.counter l.join_nonce (lent_to l)) m (same-lent_out l.used l.counter l.join_nonce (lent_to l))
      (λ d there p. past-lent_out k n l.used l.counter l.join_nonce (lent_to l) d
      (rises-lend l d (at_some (fits_lending l) (slice_get m.devices l.device) d there (and_right (is_network l.net m) (holds_of (fits_lending l) (slice_get m.devices l.device)) fit))) p) h
  past-change sender (change.Up u) m fit h = past-heard_in u (holder_of u.dev_eui m) m h
  past-change sender (change.Passive p) m fit h = past-heard_in p.up (holder_of p.up.dev_eui m) (on_place (place_of p.up.dev_eui m) (with_grant (granted_by p)) m)
      (past-on_place (place_of p.up.dev_eui m) (with_grant (granted_by p)) m (same-with_grant (granted_by p)) (λ d q. past-with_grant k n (granted_by p) d q) h)
  past-change sender (change.Queue q) m fit h = past-on_device q.device (queued (item_of q)) m (same-queued (item_of q))
      (λ d there p. past-queued k n (item_of q) d (at_some (can_queue q.number) (slice_get m.devices q.device) d there (and_right (nat_le (length q.payload) 242) (holds_of (can_queue q.number) (slice_get m.devices q.device)) fit)) p) h
  past-change sender (change.Dropped d) m fit h = past-dropped d.what sender d.dev_eui m h

  -- ---- asks, and what their peers answer

  past-rejoin : (dev : Option Eui) (count : Option RejoinCount) (m : Machine) → Past k n m → Past k n (with_rejoin dev count m)
  past-rejoin None count m h = h
  past-rejoin (Some dev) None m h = h
  past-rejoin (Some dev) (Some count) m h = past-on_visitor dev (on_active (with_count count.count)) m (λ s p. past-counted k n count.count s p) h

  past-visit : (v : NewVisitor) (m : Machine) → Past k n m → AllByRecursion (PastVisitor k n) (visit m.entries v m.visitors)
  unfolding visit
  past-visit v m h =
      let apart = keys_apart v m.entries k.origin h.before in
      all_put (PastVisitor k n) (PastVisitor k n) visitor_number (new_visitor m.entries v) (renewed m.entries v) m.visitors
      (λ e. record { active = tt; pending = λ same. absurd (apart same) }) (λ x p. p) (λ x is p e. past-offered k n (given_context m.entries v) x.slots apart (p e)) h.visitors

  past-effect : (t : ℕ) (e : Effect) (m : Machine) → Past k n m → Past k n (on_effect m.entries e (closed t m))
  unfolding on_effect
  past-effect t effect.Nothing m h = record { before = h.before; devices = h.devices; visitors = h.visitors }
  past-effect t (effect.Visitor v) m h = record { before = h.before; devices = h.devices; visitors = past-visit v m h }
  past-effect t (effect.Held s) m h = record { before = h.before; devices = h.devices; visitors = h.visitors }
  past-effect t (effect.Counter c) m h = record { before = h.before; devices = h.devices; visitors = h.visitors }

  -- ---- all entries

  past-event : (e : Event) (m : Machine) → IsTrue (fits_event e m) → Past k n m → Past k n (on_event e m)
  unfolding on_event fits_event
  past-event event.Opened m fit h = record { before = h.before; devices = h.devices; visitors = h.visitors }
  past-event (event.Tables text) m fit h = h
  past-event (event.Kept r c) m fit h = past-change r.sender c m (and_right (nat_lt 0 m.entries && is_sender r.sender m) (fits_change r.sender c m) fit) h
  past-event (event.Asked a) m fit h = past-rejoin a.target.dev_eui a.target.rejoin (asked a m) (record { before = h.before; devices = h.devices; visitors = h.visitors })
  past-event (event.Told t) m fit h = past-effect t.ask t.effect m h
  past-event (event.Suspend device) m fit h = past-on_device device (marked true) m (same-marked true) (λ d there p. past-marked k n true d p) h
  past-event (event.Resume device) m fit h = past-on_device device (marked false) m (same-marked false) (λ d there p. past-marked k n false d p) h

  pub past-entered : (at : ℕ) (m : Machine) → Past k n m → Past k n (entered at m)
  past-entered at m h = record { before = before-more m.entries (m.entries + 1) (omega arith) k.origin h.before; devices = h.devices; visitors = h.visitors }

  pub past-after : (m : Machine) (e : Entry) → IsTrue (fits m e) → Past k n m → Past k n (after m e)
  past-after m e fit h = past-entered e.moment.0 (on_event e.event (ready m e)) (past-event e.event (ready m e) (fits_its_event m e fit) (past-ready m e h))
