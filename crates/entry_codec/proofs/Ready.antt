-- What is asked of the state at which an entry is looked at, asked of the state before.
use Rattle.std.proofs.Common.{◌≡◌, ℕ, ◌+◌, ◌≤◌, Bool, true, false, cond, List, length, map, Option, Some, None, option_map, refl, sym, ap, subst, ◌∙◌, arith}
use Rattle.std.specs.Prelude.{◌&&◌, ◌||◌, find, is_some, nat_lt, not, position, slice_get, sum_by}
use Rattle.std.specs.List.{list_any}
use Rattle.std.proofs.lemmas.List.{length-map}
use Rattle.std.proofs.lemmas.Option.{slice_get-map}
use Rattle.wire_ids.specs.Lists.{at_place, changed, changed_there, holds_of}
use Rattle.wire_ids.specs.declared.address.DevAddr.{DevAddr}
use Rattle.wire_ids.specs.declared.eui.Eui.{Eui}
use Rattle.wire_ids.specs.declared.party.PeerId.{PeerId}
use Rattle.wire_ids.specs.declared.party.PeerId.TheVariants as peer
use Rattle.wire_ids.specs.declared.party.Sender.{Sender}
use Rattle.wire_ids.specs.declared.party.Sender.TheVariants.{Network}
use Rattle.entry_codec.specs.declared.device.KeptSeed.{KeptSeed}
use Rattle.entry_codec.specs.declared.parties.OpenAsk.{OpenAsk}
use Rattle.entries.specs.declared.ask.NewAsk.{NewAsk}
use Rattle.entry_codec.specs.declared.device.LentTo.{LentTo}
use Rattle.contexts.specs.Slots.{activated, activated_by, woken}
use Rattle.contexts.specs.declared.context.Context.{Context}
use Rattle.contexts.specs.declared.slots.Slots.{Slots}
use Rattle.entries.specs.declared.ask.RejoinCount.{RejoinCount}
use Rattle.entries.specs.declared.change.Change.{Change}
use Rattle.entries.specs.declared.change.Change.TheVariants as change
use Rattle.entries.specs.declared.change.Joined.{Joined}
use Rattle.entries.specs.declared.change.Lending.{Lending}
use Rattle.entries.specs.declared.change.OwnContext.{OwnContext}
use Rattle.entries.specs.declared.change.Rejoined.{Rejoined}
use Rattle.entries.specs.declared.entry.Event.{Event}
use Rattle.entries.specs.declared.entry.Event.TheVariants as event
use Rattle.entries.specs.declared.used_seed.UsedSeed.{UsedSeed}
use Rattle.entries.specs.declared.used_seed.UsedSeed.TheVariants.{Rejoin0, Rejoin1, Rejoin2}
use Rattle.entry_codec.specs.Devices.{in_slots, lapsed, still_lent, uses_pending}
use Rattle.entry_codec.specs.Fits.{can_queue, closes_open, counts_above, counts_before, is_counted_below, is_lent_at, is_lent_by, is_marked, is_lent_to, may_ask, fits_count, fits_join, fits_lending, fits_own, fits_rejoin, fits_step, fits_used, is_above, is_above_count}
use Rattle.entry_codec.specs.LookUps.{asks_for, at_home, is_same_sender, is_sender, knows_peer, device_has, device_named, device_slots, is_taken, leaves, leaves_slots, lives, slot_has, slots_have, slots_of, visitor_has, visitor_of, visitor_slots}
use Rattle.entry_codec.specs.Machine.{Machine, change_wakes, has_number, home_or_visitor, holder_of, in_visitor, is_home, is_visitor, lapse, place_of, visitor_named, visitor_waking, wake, wakes, without}
use Rattle.entry_codec.specs.Sound.{IsSound, ask_uses, count_if, device_uses, slots_use, uses, visitor_uses}
use Rattle.entry_codec.specs.declared.device.Device.{Device}
use Rattle.entry_codec.specs.declared.parties.Holder.{Holder}
use Rattle.entry_codec.specs.declared.parties.Holder.TheVariants as holder
use Rattle.entry_codec.specs.declared.parties.Visitor.{Visitor}
use Rattle.std.proofs.lemmas.List.Folds.{find_at}
use Rattle.entry_codec.proofs.Ordered.{place_found}
use Rattle.entry_codec.proofs.Places.{find-place}
use Rattle.entry_codec.proofs.Sound.{place-mapped, position-mapped, prefix_len-changed}
use Rattle.entry_codec.proofs.SoundDevices.{same-lapsed}
use Rattle.entry_codec.proofs.Sums.{any_counted, element-changed, any_map, holds_of-changed, holds_of-map, holds_same, sum_by-change}

-- ---- a device after the lapse

pub device_lapsed : (p : Device → Bool) (at : ℕ) (ds : List Device) (i : ℕ) → holds_of p (slice_get (map (lapsed at) ds) i) ≡ holds_of (λ d. p (lapsed at d)) (slice_get ds i)
device_lapsed p at ds i = ap (holds_of p) (slice_get-map (lapsed at) ds i) ∙ holds_of-map p (lapsed at) (slice_get ds i)

-- what a lapse doesn't touch
device_as : (p : Device → Bool) (at : ℕ) (ds : List Device) (i : ℕ) → ((d : Device) → p (lapsed at d) ≡ p d) → holds_of p (slice_get (map (lapsed at) ds) i) ≡ holds_of p (slice_get ds i)
device_as p at ds i same = device_lapsed p at ds i ∙ holds_same (λ d. p (lapsed at d)) p same (slice_get ds i)

pub has-lapsed : (addr : DevAddr) (at : ℕ) (d : Device) → device_has addr (lapsed at d) ≡ device_has addr d
unfolding lapsed
has-lapsed addr at d = refl

pub any_lapsed : (addr : DevAddr) (at : ℕ) (ds : List Device) → list_any (device_has addr) (map (lapsed at) ds) ≡ list_any (device_has addr) ds
any_lapsed addr at ds = any_map (device_has addr) (lapsed at) (has-lapsed addr at) ds

devices_lapse : (at : ℕ) (m : Machine) → (lapse at m).devices ≡ map (lapsed at) m.devices
unfolding lapse
devices_lapse at m = refl

pub any_lapse : (addr : DevAddr) (at : ℕ) (m : Machine) → list_any (device_has addr) (lapse at m).devices ≡ list_any (device_has addr) m.devices
any_lapse addr at m = ap (list_any (device_has addr)) (devices_lapse at m) ∙ any_lapsed addr at m.devices

pub length_lapse : (at : ℕ) (m : Machine) → length (lapse at m).devices ≡ length m.devices
length_lapse at m = ap (λ (ds : List Device). length ds) (devices_lapse at m) ∙ length-map m.devices (lapsed at)

pub place_with : (addr : DevAddr) (at : ℕ) (m : Machine) → position (device_has addr) (lapse at m).devices ≡ position (device_has addr) m.devices
place_with addr at m = ap (λ (ds : List Device). position (device_has addr) ds) (devices_lapse at m) ∙ position-mapped (device_has addr) (lapsed at) m.devices (has-lapsed addr at)

-- what a lapse doesn't touch, of a state
lapse_as : (p : Device → Bool) (at : ℕ) (m : Machine) (i : ℕ) → ((d : Device) → p (lapsed at d) ≡ p d) → holds_of p (slice_get (lapse at m).devices i) ≡ holds_of p (slice_get m.devices i)
lapse_as p at m i same = ap (λ (ds : List Device). holds_of p (slice_get ds i)) (devices_lapse at m) ∙ device_as p at m.devices i same

mark-lapsed : (suspended : Bool) (at : ℕ) (d : Device) → is_marked suspended (lapsed at d) ≡ is_marked suspended d
unfolding lapsed
mark-lapsed suspended at d = refl

pub mark_lapse : (suspended : Bool) (at : ℕ) (m : Machine) (i : ℕ) → holds_of (is_marked suspended) (slice_get (lapse at m).devices i) ≡ holds_of (is_marked suspended) (slice_get m.devices i)
mark_lapse suspended at m i = lapse_as (is_marked suspended) at m i (mark-lapsed suspended at)

queue-lapsed : (number at : ℕ) (d : Device) → can_queue number (lapsed at d) ≡ can_queue number d
unfolding lapsed can_queue
queue-lapsed number at d = refl

pub queue_lapse : (number at : ℕ) (m : Machine) (i : ℕ) → holds_of (can_queue number) (slice_get (lapse at m).devices i) ≡ holds_of (can_queue number) (slice_get m.devices i)
queue_lapse number at m i = lapse_as (can_queue number) at m i (queue-lapsed number at)

pub place_lapse : (dev : Eui) (at : ℕ) (m : Machine) → place_of dev (lapse at m) ≡ place_of dev m
unfolding lapse
place_lapse dev at m = place-mapped dev (lapsed at) m.devices (same-lapsed at)

home-lapsed : (at : ℕ) (d : Device) → is_home (lapsed at d) ≡ is_home d
unfolding lapsed
home-lapsed at d = refl

slots-lapsed : (at : ℕ) (o : Option Device) → option_map device_slots (option_map (lapsed at) o) ≡ option_map device_slots o
unfolding lapsed
slots-lapsed at None = refl
slots-lapsed at (Some d) = refl

-- the contexts of a device after the lapse
pub slots_lapse : (at : ℕ) (m : Machine) (i : ℕ) → option_map device_slots (slice_get (lapse at m).devices i) ≡ option_map device_slots (slice_get m.devices i)
slots_lapse at m i = ap (λ (ds : List Device). option_map device_slots (slice_get ds i)) (devices_lapse at m) ∙ ap (option_map device_slots) (slice_get-map (lapsed at) m.devices i) ∙ slots-lapsed at (slice_get m.devices i)

home_by : (dev : Eui) (o : Option ℕ) (at : ℕ) (m : Machine) → home_or_visitor dev o (lapse at m) ≡ cond (holds_of is_home (at_place m.devices o)) (option_map (λ n. holder.Device n) o) (visitor_named dev (lapse at m).visitors)
unfolding lapse
home_by dev None at m = refl
home_by dev (Some i) at m = ap (λ (b : Bool). cond b (Some (holder.Device i)) (visitor_named dev (lapse at m).visitors)) (device_as is_home at m.devices i (home-lapsed at))

-- who has contexts by this name after the lapse
pub holder_lapse : (dev : Eui) (at : ℕ) (m : Machine) → holder_of dev (lapse at m) ≡ cond (at_home dev m) (option_map (λ n. holder.Device n) (place_of dev m)) (visitor_named dev (lapse at m).visitors)
unfolding holder_of
holder_lapse dev at m = ap (λ (o : Option ℕ). home_or_visitor dev o (lapse at m)) (place_lapse dev at m) ∙ home_by dev (place_of dev m) at m

pending-lapsed : (used : UsedSeed) (at : ℕ) (d : Device) → uses_pending used (lapsed at d) ≡ uses_pending used d
unfolding uses_pending lapsed
pending-lapsed (Rejoin0 place) at d = refl
pending-lapsed Rejoin1 at d = refl
pending-lapsed (Rejoin2 place) at d = refl

change_wakes-lapse : (c : Change) (at : ℕ) (m : Machine) → change_wakes c (lapse at m) ≡ change_wakes c m
unfolding lapse
change_wakes-lapse (change.Join j) at m = refl
change_wakes-lapse (change.Rejoin j) at m = ap (λ (b : Bool). cond b (Some (holder.Device j.device)) None) (device_as (uses_pending j.used) at m.devices j.device (pending-lapsed j.used at))
change_wakes-lapse (change.Lent l) at m = refl
change_wakes-lapse (change.Up u) at m = refl
change_wakes-lapse (change.Passive p) at m = refl
change_wakes-lapse (change.Queue q) at m = refl
change_wakes-lapse (change.Dropped d) at m = refl

-- whose pending context becomes active is the same before the lapse
pub wakes_lapse : (e : Event) (at : ℕ) (m : Machine) → wakes e (lapse at m) ≡ wakes e m
unfolding wakes
wakes_lapse event.Opened at m = refl
wakes_lapse (event.Tables t) at m = refl
wakes_lapse (event.Kept r c) at m = change_wakes-lapse c at m
wakes_lapse (event.Asked a) at m = refl
wakes_lapse (event.Told t) at m = refl
wakes_lapse (event.Suspend i) at m = refl
wakes_lapse (event.Resume i) at m = refl

-- ---- a rejoin, whose pending context may be active

used_as : (used : UsedSeed) (n : ℕ) (d e : Device) → e.seeds.items ≡ d.seeds.items → e.rj_count1 ≡ d.rj_count1 → fits_used used n e ≡ fits_used used n d
used_as (Rejoin0 place) n d e seeds count = ap (λ (ks : List KeptSeed). holds_of (is_above_count n) (slice_get ks place)) seeds
used_as Rejoin1 n d e seeds count = ap (is_above n) count
used_as (Rejoin2 place) n d e seeds count = ap (λ (ks : List KeptSeed). holds_of (is_above_count n) (slice_get ks place)) seeds

own_as : (own : Option OwnContext) (m : Machine) (d e : Device) → e.is_home ≡ d.is_home → fits_own own e m ≡ fits_own own d m
own_as None m d e home = refl
own_as (Some own) m d e home = ap (λ (b : Bool). b && not (is_taken own.dev_addr m)) home

-- a device that a lapse and an activation leave as it is for a rejoin
record IsAlike (d e : Device) : Type 0 where
  pub seeds : e.seeds.items ≡ d.seeds.items
  pub count : e.rj_count1 ≡ d.rj_count1
  pub nonce : e.join_nonce ≡ d.join_nonce
  pub home : e.is_home ≡ d.is_home

rejoin_as : (j : Rejoined) (m : Machine) (d e : Device) → IsAlike d e → fits_rejoin j m e ≡ fits_rejoin j m d
rejoin_as j m d e a =
    ap (λ (x : Bool). x && nat_lt e.join_nonce j.join_nonce && fits_own j.own e m) (used_as j.used j.counter d e a.seeds a.count)
    ∙ ap (λ (n : ℕ). fits_used j.used j.counter d && nat_lt n j.join_nonce && fits_own j.own e m) a.nonce
    ∙ ap (λ (x : Bool). fits_used j.used j.counter d && nat_lt d.join_nonce j.join_nonce && x) (own_as j.own m d e a.home)

join_as : (j : Joined) (m : Machine) (d e : Device) → e.dev_nonce ≡ d.dev_nonce → IsAlike d e → fits_join j m e ≡ fits_join j m d
join_as j m d e dev_nonce a =
    ap (λ (o : Option ℕ). is_above j.counter o && nat_lt e.join_nonce j.join_nonce && fits_own j.own e m) dev_nonce
    ∙ ap (λ (n : ℕ). is_above j.counter d.dev_nonce && nat_lt n j.join_nonce && fits_own j.own e m) a.nonce
    ∙ ap (λ (x : Bool). is_above j.counter d.dev_nonce && nat_lt d.join_nonce j.join_nonce && x) (own_as j.own m d e a.home)

join-lapsed : (j : Joined) (k : Machine) (at : ℕ) (d : Device) → fits_join j k (lapsed at d) ≡ fits_join j k d
unfolding lapsed
join-lapsed j k at d = join_as j k d (lapsed at d) refl (record { seeds = refl; count = refl; nonce = refl; home = refl })

-- the device of a join, as it is before the lapse
pub join_lapse : (j : Joined) (k : Machine) (at : ℕ) (m : Machine) (i : ℕ) → holds_of (fits_join j k) (slice_get (lapse at m).devices i) ≡ holds_of (fits_join j k) (slice_get m.devices i)
join_lapse j k at m i = lapse_as (fits_join j k) at m i (join-lapsed j k at)

step_as : (used : Option UsedSeed) (n : ℕ) (d e : Device) → e.dev_nonce ≡ d.dev_nonce → IsAlike d e → fits_step used n e ≡ fits_step used n d
step_as None n d e dev_nonce a = ap (is_above n) dev_nonce
step_as (Some used) n d e dev_nonce a = used_as used n d e a.seeds a.count

lending_as : (l : Lending) (d e : Device) → e.dev_nonce ≡ d.dev_nonce → IsAlike d e → fits_lending l e ≡ fits_lending l d
lending_as l d e dev_nonce a =
    ap (λ (x : Bool). x && nat_lt e.join_nonce l.join_nonce) (step_as l.used l.counter d e dev_nonce a) ∙ ap (λ (n : ℕ). fits_step l.used l.counter d && nat_lt n l.join_nonce) a.nonce

lending-lapsed : (l : Lending) (at : ℕ) (d : Device) → fits_lending l (lapsed at d) ≡ fits_lending l d
unfolding lapsed
lending-lapsed l at d = lending_as l d (lapsed at d) refl (record { seeds = refl; count = refl; nonce = refl; home = refl })

pub lending_lapse : (l : Lending) (at : ℕ) (m : Machine) (i : ℕ) → holds_of (fits_lending l) (slice_get (lapse at m).devices i) ≡ holds_of (fits_lending l) (slice_get m.devices i)
lending_lapse l at m i = lapse_as (fits_lending l) at m i (lending-lapsed l at)

rejoin-lapsed : (j : Rejoined) (k : Machine) (at : ℕ) (d : Device) → fits_rejoin j k (lapsed at d) ≡ fits_rejoin j k d
unfolding lapsed
rejoin-lapsed j k at d = rejoin_as j k d (lapsed at d) (record { seeds = refl; count = refl; nonce = refl; home = refl })

rejoin_awake : (j : Rejoined) (k : Machine) (who : Option Holder) (m : Machine) (i : ℕ) → holds_of (fits_rejoin j k) (slice_get (wake who m).devices i) ≡ holds_of (fits_rejoin j k) (slice_get m.devices i)
rejoin_awake j k None m i = refl
rejoin_awake j k (Some (holder.Device device)) m i = holds_of-changed (fits_rejoin j k) device i (in_slots activated) m.devices (λ d. rejoin_as j k d (in_slots activated d) (record { seeds = refl; count = refl; nonce = refl; home = refl }))
rejoin_awake j k (Some (holder.Visitor dev)) m i = refl

rejoin_lapse : (j : Rejoined) (k : Machine) (at : ℕ) (m : Machine) (i : ℕ) → holds_of (fits_rejoin j k) (slice_get (lapse at m).devices i) ≡ holds_of (fits_rejoin j k) (slice_get m.devices i)
unfolding lapse
rejoin_lapse j k at m i = device_as (fits_rejoin j k) at m.devices i (rejoin-lapsed j k at)

-- the device of a rejoin, as it is before
pub rejoin_ready : (j : Rejoined) (k : Machine) (who : Option Holder) (at : ℕ) (m : Machine) (i : ℕ) → holds_of (fits_rejoin j k) (slice_get (wake who (lapse at m)).devices i) ≡ holds_of (fits_rejoin j k) (slice_get m.devices i)
rejoin_ready j k who at m i = rejoin_awake j k who (lapse at m) i ∙ rejoin_lapse j k at m i

-- ---- what an activation doesn't touch

pub asks_awake : (who : Option Holder) (m : Machine) → (wake who m).asks ≡ m.asks
asks_awake None m = refl
asks_awake (Some (holder.Device i)) m = refl
asks_awake (Some (holder.Visitor dev)) m = refl

pub senders_awake : (who : Option Holder) (m : Machine) → (wake who m).senders ≡ m.senders
senders_awake None m = refl
senders_awake (Some (holder.Device i)) m = refl
senders_awake (Some (holder.Visitor dev)) m = refl

pub entries_awake : (who : Option Holder) (m : Machine) → (wake who m).entries ≡ m.entries
entries_awake None m = refl
entries_awake (Some (holder.Device i)) m = refl
entries_awake (Some (holder.Visitor dev)) m = refl

senders_lapse : (at : ℕ) (m : Machine) → (lapse at m).senders ≡ m.senders
unfolding lapse
senders_lapse at m = refl

entries_lapse : (at : ℕ) (m : Machine) → (lapse at m).entries ≡ m.entries
unfolding lapse
entries_lapse at m = refl

pub senders_then : (who : Option Holder) (at : ℕ) (m : Machine) → (wake who (lapse at m)).senders ≡ m.senders
senders_then who at m = senders_awake who (lapse at m) ∙ senders_lapse at m

pub entries_then : (who : Option Holder) (at : ℕ) (m : Machine) → (wake who (lapse at m)).entries ≡ m.entries
entries_then who at m = entries_awake who (lapse at m) ∙ entries_lapse at m

-- ---- addresses, once a pending context is active

use_as : (addr : DevAddr) (s : Slots) (o : Option Context) → o ≡ s.pending → slots_use addr (activated_by o s) + count_if (is_some o && slot_has addr s.active) ≡ slots_use addr s
use_as addr s None e = omega arith
use_as addr s (Some c) e = subst (λ (p : Option Context). count_if (slot_has addr (Some c)) + 0 + count_if (slot_has addr s.active) ≡ count_if (slot_has addr s.active) + count_if (slot_has addr p)) e (omega arith)

use-activated : (addr : DevAddr) (s : Slots) → slots_use addr (activated s) + count_if (leaves_slots addr s) ≡ slots_use addr s
use-activated addr s = use_as addr s s.pending refl

device_use : (addr : DevAddr) (i : ℕ) (ds : List Device) (o : Option Device) → slice_get ds i ≡ o → sum_by (device_uses addr) (changed i (in_slots activated) ds) + count_if (holds_of (leaves_slots addr) (option_map device_slots o)) ≡ sum_by (device_uses addr) ds
device_use addr i ds None e = rw e (omega arith)
device_use addr i ds (Some d) e = omega (arith, sum_by-change (device_uses addr) i (in_slots activated) ds d e, use-activated addr d.slots)

visitor_use : (addr : DevAddr) (p : Visitor → Bool) (vs : List Visitor) (o : Option ℕ) → position p vs ≡ o → sum_by (visitor_uses addr) (changed_there (in_visitor activated) vs o) + count_if (holds_of (leaves_slots addr) (option_map visitor_slots (find p vs))) ≡ sum_by (visitor_uses addr) vs
visitor_use addr p vs o e = by o (find-place p vs o e)
  where
    by : (o : Option ℕ) → find p vs ≡ at_place vs o → sum_by (visitor_uses addr) (changed_there (in_visitor activated) vs o) + count_if (holds_of (leaves_slots addr) (option_map visitor_slots (find p vs))) ≡ sum_by (visitor_uses addr) vs
    by None f = rw f (omega arith)
    by (Some i) f = rw f (at i (slice_get vs i) refl)
      where
        at : (i : ℕ) (q : Option Visitor) → slice_get vs i ≡ q → sum_by (visitor_uses addr) (changed i (in_visitor activated) vs) + count_if (holds_of (leaves_slots addr) (option_map visitor_slots (slice_get vs i))) ≡ sum_by (visitor_uses addr) vs
        at i None g = rw g (omega arith)
        at i (Some v) g =
            let gone : holds_of (leaves_slots addr) (option_map visitor_slots (slice_get vs i)) ≡ leaves_slots addr v.slots = ap (λ (o : Option Visitor). holds_of (leaves_slots addr) (option_map visitor_slots o)) g in
            omega (arith, sum_by-change (visitor_uses addr) i (in_visitor activated) vs v g, use-activated addr v.slots, ap count_if gone)

uses_awake : (addr : DevAddr) (who : Option Holder) (m : Machine) → uses addr (wake who m) + count_if (leaves addr who m) ≡ uses addr m
unfolding leaves slots_of
uses_awake addr None m = omega arith
uses_awake addr (Some (holder.Device i)) m = omega (arith, device_use addr i m.devices (slice_get m.devices i) refl)
uses_awake addr (Some (holder.Visitor dev)) m = omega (arith, visitor_use addr (is_visitor dev) m.visitors (position (is_visitor dev) m.visitors) refl)

or_counted : (a b : Bool) → (a || b) ≡ nat_lt 0 (count_if a + count_if b)
or_counted true true = refl
or_counted true false = refl
or_counted false true = refl
or_counted false false = refl

slots_counted : (addr : DevAddr) (s : Slots) → slots_have addr s ≡ nat_lt 0 (slots_use addr s)
unfolding slots_have
slots_counted addr s = or_counted (slot_has addr s.active) (slot_has addr s.pending)

one_counted : (b : Bool) → b ≡ nat_lt 0 (count_if b)
one_counted true = refl
one_counted false = refl

three_counted : (a b c : ℕ) → (nat_lt 0 a || nat_lt 0 b || nat_lt 0 c) ≡ nat_lt 0 (a + b + c)
three_counted a b c = grind arith

-- an address is taken exactly where somebody uses it
taken_counted : (addr : DevAddr) (m : Machine) → is_taken addr m ≡ nat_lt 0 (uses addr m)
unfolding is_taken lives
taken_counted addr m =
    rw (any_counted (device_has addr) (device_uses addr) (λ d. slots_counted addr d.slots) m.devices, any_counted (visitor_has addr) (visitor_uses addr) (λ v. slots_counted addr v.slots) m.visitors, any_counted (asks_for addr) (ask_uses addr) (λ a. one_counted (asks_for addr a)) m.asks)
    (three_counted (sum_by (device_uses addr) m.devices) (sum_by (visitor_uses addr) m.visitors) (sum_by (ask_uses addr) m.asks))

left_one : (a b : ℕ) (l : Bool) → a + count_if l ≡ b → b ≤ 1 → nat_lt 0 a ≡ (not l && nat_lt 0 b)
left_one a b true e le = grind arith
left_one a b false e le = grind arith

-- an address is taken then exactly where it is taken now, and isn't that of the context that goes
pub taken_awake : (addr : DevAddr) (who : Option Holder) (m : Machine) → IsSound m → is_taken addr (wake who m) ≡ (not (leaves addr who m) && is_taken addr m)
taken_awake addr who m h =
    taken_counted addr (wake who m) ∙ left_one (uses addr (wake who m)) (uses addr m) (leaves addr who m) (uses_awake addr who m) (h.addresses addr)
    ∙ ap (λ (b : Bool). not (leaves addr who m) && b) (sym (taken_counted addr m))

-- ---- the count of a visitor's rejoin, once its pending context is active

find-changed : {X : Type 0} (p : X → Bool) (f : X → X) (xs : List X) (o : Option ℕ) → ((x : X) → p (f x) ≡ p x) → position p xs ≡ o → find p (changed_there f xs o) ≡ option_map f (find p xs)
find-changed p f xs None same e = rw (find-place p xs None e) refl
find-changed {X} p f xs (Some i) same e =
    find_at p (changed i f xs) ∙ ap (slice_get (changed i f xs)) (prefix_len-changed (λ (x : X). not (p x)) i f xs (λ x. ap not (same x)) ∙ sym (place_found p xs i e)) ∙ element-changed i f xs ∙ ap (option_map f) (sym (find-place p xs (Some i) e))

counts_by : (count : RejoinCount) (o : Option Visitor) (b : Bool) → count.pending ≡ b
    → holds_of (counts_above count.count) (option_map (in_visitor (woken b)) o) ≡ holds_of (λ (v : Visitor). holds_of (is_counted_below count.count) (woken count.pending v.slots).active) o
counts_by count None b e = refl
counts_by count (Some v) b e = rw e refl

same_visitor : (o : Option Visitor) → o ≡ option_map (in_visitor (woken false)) o
same_visitor None = refl
same_visitor (Some v) = refl

pub count_awake : (dev : Option Eui) (count : Option RejoinCount) (m : Machine) → fits_count dev count (wake (visitor_waking dev count) m) ≡ counts_before dev count m
count_awake dev None m = refl
count_awake None (Some count) m = refl
count_awake (Some dev) (Some count) m = elim count.pending as (λ b. count.pending ≡ b → holds_of (counts_above count.count) (visitor_of dev (wake (cond b (Some (holder.Visitor dev)) None) m)) ≡ counts_before (Some dev) (Some count) m) [
  | true ↦ λ e. ap (holds_of (counts_above count.count)) (find-changed (is_visitor dev) (in_visitor activated) m.visitors (position (is_visitor dev) m.visitors) (λ v. refl) refl) ∙ counts_by count (visitor_of dev m) true e
  | false ↦ λ e. ap (holds_of (counts_above count.count)) (same_visitor (visitor_of dev m)) ∙ counts_by count (visitor_of dev m) false e
] refl

-- ---- lendings that last

lent_by : (sender : Sender) (at : ℕ) (o : Option LentTo) → holds_of (is_lent_to sender) (still_lent at o) ≡ holds_of (λ (l : LentTo). nat_lt at l.until.0 && is_lent_to sender l) o
lent_by sender at None = refl
lent_by sender at (Some l) = elim (nat_lt at l.until.0) as (λ b. holds_of (is_lent_to sender) (cond b (Some l) None) ≡ (b && is_lent_to sender l)) [ true ↦ refl | false ↦ refl ]

lent_device : (sender : Sender) (at : ℕ) (d : Device) → is_lent_by sender (lapsed at d) ≡ is_lent_at at sender d
unfolding lapsed
lent_device sender at d = lent_by sender at d.lent

lent_at : (sender : Sender) (at : ℕ) (ds : List Device) (o : Option ℕ) → holds_of (is_lent_by sender) (at_place (map (lapsed at) ds) o) ≡ holds_of (is_lent_at at sender) (at_place ds o)
lent_at sender at ds None = refl
lent_at sender at ds (Some i) = device_lapsed (is_lent_by sender) at ds i ∙ holds_same (λ d. is_lent_by sender (lapsed at d)) (is_lent_at at sender) (lent_device sender at) (slice_get ds i)

pub lent_lapse : (sender : Sender) (dev : Eui) (at : ℕ) (m : Machine) → holds_of (is_lent_by sender) (device_named dev (lapse at m)) ≡ holds_of (is_lent_at at sender) (device_named dev m)
lent_lapse sender dev at m =
    ap (λ (o : Option ℕ). holds_of (is_lent_by sender) (at_place (lapse at m).devices o)) (place_lapse dev at m)
    ∙ ap (λ (ds : List Device). holds_of (is_lent_by sender) (at_place ds (place_of dev m))) (devices_lapse at m) ∙ lent_at sender at m.devices (place_of dev m)

knows_as : (p : PeerId) (m k : Machine) → k.senders ≡ m.senders → knows_peer p k ≡ knows_peer p m
knows_as (peer.Network net) m k e = ap (λ (ss : List Sender). list_any (is_same_sender (Network net)) ss) e
knows_as (peer.JoinServer id) m k e = refl

closes_as : (o : Option ℕ) (m k : Machine) → k.asks ≡ m.asks → closes_open o k ≡ closes_open o m
closes_as None m k e = refl
closes_as (Some n) m k e = ap (λ (asks : List OpenAsk). is_some (find (has_number n) asks)) e

pub may_ask_awake : (a : NewAsk) (who : Option Holder) (m : Machine) → may_ask a (wake who m) ≡ may_ask a m
unfolding may_ask
may_ask_awake a who m =
    let k = wake who m in
    ap (λ (ss : List Sender). list_any (is_same_sender a.sender) ss && knows_peer a.target.peer k && closes_open a.closes k && nat_lt (length (without a.closes k.asks)) 64) (senders_awake who m)
    ∙ ap (λ (b : Bool). is_sender a.sender m && b && closes_open a.closes k && nat_lt (length (without a.closes k.asks)) 64) (knows_as a.target.peer m k (senders_awake who m))
    ∙ ap (λ (b : Bool). is_sender a.sender m && knows_peer a.target.peer m && b && nat_lt (length (without a.closes k.asks)) 64) (closes_as a.closes m k (asks_awake who m))
    ∙ ap (λ (asks : List OpenAsk). is_sender a.sender m && knows_peer a.target.peer m && closes_open a.closes m && nat_lt (length (without a.closes asks)) 64) (asks_awake who m)
