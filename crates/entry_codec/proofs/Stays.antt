-- What no entry changes but the number of entries: the names of the devices.
use Rattle.std.proofs.Common.{◌≡◌, ℕ, ◌<◌, ◌^◌, true, false, List, [], ◌∷◌, map, Option, Some, None, refl, ap, ◌∙◌}
use Rattle.std.specs.Prelude.{IsTrue, ◌&&◌, nat_le, nat_lt}
use borrow.Author.Tests.{ltb-true}
use Rattle.wire_ids.specs.declared.eui.Eui.{Eui}
use Rattle.wire_ids.specs.declared.party.Sender.{Sender}
use Rattle.contexts.specs.Slots.{activated}
use Rattle.contexts.specs.declared.slots.Slots.{Slots}
use Rattle.entries.specs.declared.ask.Effect.{Effect}
use Rattle.entries.specs.declared.ask.Effect.TheVariants as effect
use Rattle.entries.specs.declared.ask.RejoinCount.{RejoinCount}
use Rattle.entries.specs.declared.change.Change.{Change}
use Rattle.entries.specs.declared.change.Change.TheVariants as change
use Rattle.entries.specs.declared.change.RoamingKind.{RoamingKind}
use Rattle.entries.specs.declared.change.RoamingKind.TheVariants as kind
use Rattle.entries.specs.declared.entry.Entry.{Entry}
use Rattle.entries.specs.declared.entry.Event.{Event}
use Rattle.entries.specs.declared.entry.Event.TheVariants as event
use Rattle.entry_codec.specs.Devices.{called_back, heard, in_slots, joined, lapsed, lent_out, marked, queued, rejoined, with_grant}
use Rattle.entry_codec.specs.Fits.{fits, fits_event, is_time, names_there}
use Rattle.entry_codec.specs.Index.{device_number, names}
use Rattle.entry_codec.specs.Machine.{Machine, after, asked, closed, granted_by, holder_of, item_of, lapse, lent_to, on_change, on_device, on_dropped, on_effect, on_event, on_place, on_slots, place_of, ready, wake, wakes, with_rejoin}
use Rattle.entry_codec.specs.declared.device.Device.{Device}
use Rattle.entry_codec.specs.declared.parties.Holder.{Holder}
use Rattle.entry_codec.specs.declared.parties.Holder.TheVariants as holder
use Rattle.entry_codec.proofs.Bools.{and_left, and_right}
use Rattle.entry_codec.proofs.Names.{map-changed}
use Rattle.entry_codec.proofs.SoundDevices.{IsSame, same-called_back, same-in_slots, same-joined, same-lapsed, same-lent_out, same-marked, same-queued, same-rejoined, same-with_grant}

-- what stays: the devices' names, and the number of entries
pub record Stays (m k : Machine) : Type 0 where
  pub names : names k.devices ≡ names m.devices
  pub entries : k.entries ≡ m.entries

stays-on_device : (i : ℕ) (f : Device → Device) (m : Machine) → IsSame f → Stays m (on_device i f m)
stays-on_device i f m same = record { names = map-changed device_number i f m.devices (λ d. ap (λ (e : Eui). e.0) (same.name d)); entries = refl }

stays-on_place : (o : Option ℕ) (f : Device → Device) (m : Machine) → IsSame f → Stays m (on_place o f m)
stays-on_place None f m same = record { names = refl; entries = refl }
stays-on_place (Some i) f m same = stays-on_device i f m same

stays-on_slots : (who : Option Holder) (f : Slots → Slots) (m : Machine) → Stays m (on_slots who f m)
stays-on_slots None f m = record { names = refl; entries = refl }
stays-on_slots (Some (holder.Device i)) f m = stays-on_device i (in_slots f) m (same-in_slots f)
stays-on_slots (Some (holder.Visitor dev)) f m = record { names = refl; entries = refl }

stays_then : (m k l : Machine) → Stays m k → Stays k l → Stays m l
stays_then m k l a b = record { names = b.names ∙ a.names; entries = b.entries ∙ a.entries }

stays-dropped : (k : RoamingKind) (sender : Sender) (dev : Eui) (m : Machine) → Stays m (on_dropped k sender dev m)
stays-dropped kind.Held sender dev m = record { names = refl; entries = refl }
stays-dropped kind.Lent sender dev m = stays-on_place (place_of dev m) called_back m same-called_back
stays-dropped kind.Visitor sender dev m = record { names = refl; entries = refl }

stays-change : (sender : Sender) (c : Change) (m : Machine) → Stays m (on_change sender c m)
unfolding on_change
stays-change sender (change.Join j) m = stays-on_device j.device (joined j.counter j.join_nonce j.own) m (same-joined j.counter j.join_nonce j.own)
stays-change sender (change.Rejoin j) m = stays-on_device j.device (rejoined j.used j.counter j.join_nonce j.own) m (same-rejoined j.used j.counter j.join_nonce j.own)
stays-change sender (change.Lent l) m = stays-on_device l.device (lent_out l.used l.counter l.join_nonce (lent_to l)) m (same-lent_out l.used l.counter l.join_nonce (lent_to l))
stays-change sender (change.Up u) m = stays-on_slots (holder_of u.dev_eui m) (heard u.pending u.count u.frame u.down) m
stays-change sender (change.Passive p) m =
    let k = on_place (place_of p.up.dev_eui m) (with_grant (granted_by p)) m in
    stays_then m k (on_slots (holder_of p.up.dev_eui m) (heard p.up.pending p.up.count p.up.frame p.up.down) k)
    (stays-on_place (place_of p.up.dev_eui m) (with_grant (granted_by p)) m (same-with_grant (granted_by p))) (stays-on_slots (holder_of p.up.dev_eui m) (heard p.up.pending p.up.count p.up.frame p.up.down) k)
stays-change sender (change.Queue q) m = stays-on_device q.device (queued (item_of q)) m (same-queued (item_of q))
stays-change sender (change.Dropped d) m = stays-dropped d.what sender d.dev_eui m

stays-rejoin : (dev : Option Eui) (count : Option RejoinCount) (m : Machine) → Stays m (with_rejoin dev count m)
stays-rejoin None count m = record { names = refl; entries = refl }
stays-rejoin (Some dev) None m = record { names = refl; entries = refl }
stays-rejoin (Some dev) (Some count) m = record { names = refl; entries = refl }

stays-effect : (n t : ℕ) (e : Effect) (m : Machine) → Stays m (on_effect n e (closed t m))
unfolding on_effect
stays-effect n t effect.Nothing m = record { names = refl; entries = refl }
stays-effect n t (effect.Visitor v) m = record { names = refl; entries = refl }
stays-effect n t (effect.Held s) m = record { names = refl; entries = refl }
stays-effect n t (effect.Counter c) m = record { names = refl; entries = refl }

pub stays-event : (e : Event) (m : Machine) → Stays m (on_event e m)
unfolding on_event
stays-event event.Opened m = record { names = refl; entries = refl }
stays-event (event.Tables t) m = record { names = refl; entries = refl }
stays-event (event.Kept r c) m = stays-change r.sender c m
stays-event (event.Asked a) m = let k = stays-rejoin a.target.dev_eui a.target.rejoin (asked a m) in record { names = k.names; entries = k.entries }
stays-event (event.Told t) m = stays-effect m.entries t.ask t.effect m
stays-event (event.Suspend i) m = stays-on_device i (marked true) m (same-marked true)
stays-event (event.Resume i) m = stays-on_device i (marked false) m (same-marked false)

pub stays-wake : (who : Option Holder) (m : Machine) → Stays m (wake who m)
stays-wake who m = stays-on_slots who activated m

map-same : (f : Device → Device) (ds : List Device) → IsSame f → names (map f ds) ≡ names ds
map-same f ds same = names-mapped ds
  where
    names-mapped : (ds : List Device) → names (map f ds) ≡ names ds
    names-mapped [] = refl
    names-mapped (d ∷ ds) = rw (same.name d, names-mapped ds) refl

pub stays-lapse : (at : ℕ) (m : Machine) → Stays m (lapse at m)
unfolding lapse
stays-lapse at m = record { names = map-same (lapsed at) m.devices (same-lapsed at); entries = refl }

pub stays-ready : (m : Machine) (e : Entry) → Stays m (ready m e)
unfolding ready
stays-ready m e = stays_then m (lapse e.moment.0 m) (wake (wakes e.event (lapse e.moment.0 m)) (lapse e.moment.0 m)) (stays-lapse e.moment.0 m) (stays-wake (wakes e.event (lapse e.moment.0 m)) (lapse e.moment.0 m))

pub ready_is : (m : Machine) (e : Entry) (l w : Machine) (who : Option Holder) → l ≡ lapse e.moment.0 m → who ≡ wakes e.event l → w ≡ wake who l → w ≡ ready m e
unfolding ready
ready_is m e l w who el ewho ew = ew ∙ ap (λ (x : Option Holder). wake x l) ewho ∙ ap (λ (k : Machine). wake (wakes e.event k) k) el

pub names-after : (m : Machine) (e : Entry) → names (after m e).devices ≡ names m.devices
names-after m e = (stays-event e.event (ready m e)).names ∙ (stays-ready m e).names

-- ---- what an entry that fits has

pub fits_its_event : (m : Machine) (e : Entry) → IsTrue (fits m e) → IsTrue (fits_event e.event (ready m e))
unfolding fits
fits_its_event m e h = and_right (is_time e.moment.0 m && names_there e.event (lapse e.moment.0 m)) (fits_event e.event (ready m e)) h

-- there is a number for one more entry
pub one_more : (m : Machine) (e : Entry) → IsTrue (fits m e) → m.entries < 2 ^ 63
unfolding fits
one_more m e h = ltb-true m.entries (2 ^ 63) (and_right (nat_le m.moment e.moment.0 && nat_le e.moment.0 (2 ^ 53)) (nat_lt m.entries (2 ^ 63)) (and_left (is_time e.moment.0 m) (names_there e.event (lapse e.moment.0 m)) (and_left (is_time e.moment.0 m && names_there e.event (lapse e.moment.0 m)) (fits_event e.event (ready m e)) h)))
