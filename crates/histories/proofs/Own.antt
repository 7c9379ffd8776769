-- Each context has an origin of its own holder: a device's a seed that it was given, a visitor's keys that came with an entry.
use Rattle.std.proofs.Common.{◌≡◌, ℕ, ◌+◌, ◌<◌, ◌≤◌, Bool, true, false, List, [], ◌∷◌, map, Option, Some, None, refl, sym, subst, arith}
use Rattle.std.specs.Prelude.{IsTrue, ◌&&◌, ◌^◌, nat_le, nat_lt, length, position, slice_get}
use Rattle.std.specs.List.{AllByRecursion}
use borrow.Author.Tests.{leb-true, ltb-true}
use Rattle.wire_ids.specs.Lists.{changed_there, holds_of}
use Rattle.wire_ids.specs.declared.address.DevAddr.{DevAddr}
use Rattle.wire_ids.specs.declared.eui.Eui.{Eui}
use Rattle.wire_ids.specs.declared.keys.Seed.{Seed}
use Rattle.wire_ids.specs.declared.party.Sender.{Sender}
use Rattle.wire_ids.specs.declared.radio.Radio.{Radio}
use Rattle.wire_ids.proofs.Lists.{all_changed, all_changed_there, all_map, all_more}
use Rattle.agreements.specs.Walk.{Config}
use Rattle.agreements.specs.declared.rows.DeviceRow.{DeviceRow}
use Rattle.contexts.specs.Contexts.{fresh_of}
use Rattle.contexts.specs.Queue.{pushed}
use Rattle.contexts.specs.Slots.{activated, on_active}
use Rattle.contexts.specs.Sound.{IsSoundContext}
use Rattle.contexts.specs.declared.context.Context.{Context}
use Rattle.contexts.specs.declared.context.Item.{Item}
use Rattle.contexts.specs.declared.context.Origin.{Origin}
use Rattle.contexts.specs.declared.context.Origin.TheVariants.{Given, Seeded}
use Rattle.contexts.specs.declared.slots.Slots.{Slots}
use Rattle.contexts.proofs.Sound.{sound-pushed}
use Rattle.entries.specs.declared.ask.Effect.{Effect}
use Rattle.entries.specs.declared.ask.Effect.TheVariants as effect
use Rattle.entries.specs.declared.ask.NewVisitor.{NewVisitor}
use Rattle.entries.specs.declared.ask.RejoinCount.{RejoinCount}
use Rattle.entries.specs.declared.change.Change.{Change}
use Rattle.entries.specs.declared.change.Change.TheVariants as change
use Rattle.entries.specs.declared.change.OwnContext.{OwnContext}
use Rattle.entries.specs.declared.change.RoamingKind.{RoamingKind}
use Rattle.entries.specs.declared.change.RoamingKind.TheVariants as kind
use Rattle.entries.specs.declared.change.Uplink.{Uplink}
use Rattle.entries.specs.declared.entry.Entry.{Entry}
use Rattle.entries.specs.declared.entry.Event.{Event}
use Rattle.entries.specs.declared.entry.Event.TheVariants as event
use Rattle.entries.specs.declared.used_seed.UsedSeed.{UsedSeed}
use Rattle.entry_codec.specs.Devices.{called_back, heard, in_slots, joined, kept_count, lapsed, lent_out, marked, queued, rejoined, seed_of, stepped, with_grant, with_session}
use Rattle.entry_codec.specs.Empty.{empty, new_device}
use Rattle.entry_codec.specs.Fits.{can_queue, fits, fits_change, fits_event, fits_join, fits_lending, fits_rejoin, takes}
use Rattle.entry_codec.specs.LookUps.{is_network, is_sender}
use Rattle.entry_codec.specs.Machine.{Machine, after, asked, closed, given_context, granted_by, holder_of, in_visitor, is_visitor, item_of, lapse, lent_to, new_visitor, on_change, on_device, on_dropped, on_effect, on_event, on_place, on_slots, on_visitor, place_of, ready, renewed, visit, visitor_number, visits, wakes, with_count, with_rejoin}
use Rattle.entry_codec.specs.Ordered.{IsRisingBy, IsRisingFrom}
use Rattle.entry_codec.specs.Sound.{AreSlots, IsGivenBefore, IsSeededTo}
use Rattle.entry_codec.specs.declared.device.Device.{Device}
use Rattle.entry_codec.specs.declared.device.Granted.{Granted}
use Rattle.entry_codec.specs.declared.device.LentTo.{LentTo}
use Rattle.entry_codec.specs.declared.parties.Holder.{Holder}
use Rattle.entry_codec.specs.declared.parties.Holder.TheVariants as holder
use Rattle.entry_codec.specs.declared.parties.Visitor.{Visitor}
use Rattle.entry_codec.proofs.Bools.{and_left, and_right}
use Rattle.entry_codec.proofs.Names.{map-changed}
use Rattle.entry_codec.proofs.Ordered.{all_filter, all_put, rising-put, rising_filter}
use Rattle.entry_codec.proofs.SoundDevices.{nonce-counted, slots-activated, slots-counted, slots-heard, slots-more, slots-offered, slots-on_active}
use Rattle.entry_codec.proofs.Stays.{fits_its_event, stays-event, stays-ready}
use Rattle.entry_codec.proofs.Sums.{at_some}
use Rattle.histories.proofs.Devices.{seed_was_given, seeds_apart}
use Rattle.histories.proofs.Past.{CameBefore, keys_apart, rises-join, rises-lend, rises-rejoin}

abbrev pub OwnDevice : Device → Type 0
OwnDevice d = AreSlots (IsSeededTo d.join_nonce) d.slots

abbrev pub OwnVisitor : ℕ → Visitor → Type 0
OwnVisitor entries v = AreSlots (IsGivenBefore entries) v.slots

pub record Own (entries : ℕ) (m : Machine) : Type 0 where
  pub devices : AllByRecursion OwnDevice m.devices
  pub visitors : AllByRecursion (OwnVisitor entries) m.visitors
  pub in_order : IsRisingBy visitor_number m.visitors

-- ---- origins

seeded-more : (a b : ℕ) → a ≤ b → (o : Origin) → IsSeededTo a o → IsSeededTo b o
seeded-more a b le (Seeded seed) h = omega (arith, le, h)
seeded-more a b le (Given number keys) h = h

given-more : (a b : ℕ) → a ≤ b → (o : Origin) → IsGivenBefore a o → IsGivenBefore b o
given-more a b le (Seeded seed) h = h
given-more a b le (Given number keys) h = omega (arith, le, h)

pub keys_before : (entries : ℕ) (o : Origin) → IsGivenBefore entries o → CameBefore entries o
keys_before entries (Seeded seed) h = tt
keys_before entries (Given number keys) h = h

own-more : (a b : ℕ) (m : Machine) → a ≤ b → Own a m → Own b m
own-more a b m le h = record {
  devices = h.devices;
  visitors = all_more (OwnVisitor a) (OwnVisitor b) m.visitors (λ v s. slots-more (IsGivenBefore a) (IsGivenBefore b) v.slots (given-more a b le) s) h.visitors;
  in_order = h.in_order;
}

-- ---- steps of a device

sound-fresh : (addr : DevAddr) (o : Origin) (radio : Radio) → IsSoundContext (fresh_of addr o radio)
sound-fresh addr o radio = record { few = omega arith; rising = omega arith; next_n = omega arith; next_a = omega arith }

own-with_session : (last : ℕ) (seed : Seed) (own : Option OwnContext) (d : Device) → last < d.join_nonce → seed.nonce ≡ d.join_nonce → AreSlots (IsSeededTo last) d.slots → OwnDevice (with_session seed own d)
own-with_session last seed None d lt same h = slots-more (IsSeededTo last) (IsSeededTo d.join_nonce) d.slots (seeded-more last d.join_nonce (omega (arith, lt))) h
own-with_session last seed (Some own) d lt same h = slots-offered (IsSeededTo last) (IsSeededTo d.join_nonce) (fresh_of own.dev_addr (Seeded seed) own.radio) d.slots
    (sound-fresh own.dev_addr (Seeded seed) own.radio) (omega (arith, same)) (seeded-more last d.join_nonce (omega (arith, lt)))
    (λ o k e. seeds_apart last seed (omega (arith, lt, same)) o (seed_was_given last o k) (sym e)) h

own-joined : (counter nonce : ℕ) (own : Option OwnContext) (d : Device) → d.join_nonce < nonce → OwnDevice d → OwnDevice (joined counter nonce own d)
unfolding joined
own-joined counter nonce own d lt h = own-with_session d.join_nonce (seed_of counter nonce d) own (record d { dev_nonce = Some counter; join_nonce = nonce }) lt refl h

own-rejoined : (used : UsedSeed) (counter nonce : ℕ) (own : Option OwnContext) (d : Device) → d.join_nonce < nonce → OwnDevice d → OwnDevice (rejoined used counter nonce own d)
unfolding rejoined
own-rejoined used counter nonce own d lt h =
    let new : Device = record d { join_nonce = nonce } in
    own-with_session d.join_nonce (seed_of counter nonce d) own (kept_count used counter new) (omega (arith, lt, nonce-counted used counter new)) (sym (nonce-counted used counter new))
    (subst (λ (s : Slots). AreSlots (IsSeededTo d.join_nonce) s) (sym (slots-counted used counter new)) h)

own-stepped : (used : Option UsedSeed) (counter nonce : ℕ) (d : Device) → d.join_nonce < nonce → OwnDevice d → OwnDevice (stepped used counter nonce d)
own-stepped None counter nonce d lt h = own-joined counter nonce None d lt h
own-stepped (Some used) counter nonce d lt h = own-rejoined used counter nonce None d lt h

own-lent_out : (used : Option UsedSeed) (counter nonce : ℕ) (to : LentTo) (d : Device) → d.join_nonce < nonce → OwnDevice d → OwnDevice (lent_out used counter nonce to d)
unfolding lent_out
own-lent_out used counter nonce to d lt h = own-stepped used counter nonce d lt h

own-lapsed : (at : ℕ) (d : Device) → OwnDevice d → OwnDevice (lapsed at d)
unfolding lapsed
own-lapsed at d h = h

own-marked : (suspended : Bool) (d : Device) → OwnDevice d → OwnDevice (marked suspended d)
unfolding marked
own-marked suspended d h = h

own-called_back : (d : Device) → OwnDevice d → OwnDevice (called_back d)
unfolding called_back
own-called_back d h = h

own-with_grant : (g : Granted) (d : Device) → OwnDevice d → OwnDevice (with_grant g d)
unfolding with_grant
own-with_grant g d h = h

sound-taken_in : (item : Item) (c : Context) → IsTrue (takes item.number c) → IsSoundContext c → IsSoundContext (pushed item c)
sound-taken_in item c h sound =
    let numbers = and_left (nat_lt item.number (2 ^ 32) && nat_le c.next_a item.number) (nat_lt (length c.queue.items) 8) h in
    sound-pushed item c (leb-true c.next_a item.number (and_right (nat_lt item.number (2 ^ 32)) (nat_le c.next_a item.number) numbers)) (ltb-true item.number (2 ^ 32) (and_left (nat_lt item.number (2 ^ 32)) (nat_le c.next_a item.number) numbers))
    (ltb-true (length c.queue.items) 8 (and_right (nat_lt item.number (2 ^ 32) && nat_le c.next_a item.number) (nat_lt (length c.queue.items) 8) h)) sound

own-queued : (item : Item) (d : Device) → IsTrue (can_queue item.number d) → OwnDevice d → OwnDevice (queued item d)
unfolding queued can_queue
own-queued item d can h =
    slots-on_active (IsSeededTo d.join_nonce) (pushed item) d.slots (λ c. refl) (λ c there sound. sound-taken_in item c (at_some (takes item.number) d.slots.active c there can) sound) h

-- ---- steps of a state

-- a step that keeps whose the origins are
abbrev KeepsOrigins : (Slots → Slots) → Type 1
KeepsOrigins f = (P : Origin → Type 0) (s : Slots) → AreSlots P s → AreSlots P (f s)

own-on_device : (n i : ℕ) (f : Device → Device) (m : Machine) → ((d : Device) → slice_get m.devices i ≡ Some d → OwnDevice d → OwnDevice (f d)) → Own n m → Own n (on_device i f m)
own-on_device n i f m step h = record { devices = all_changed OwnDevice i f m.devices step h.devices; visitors = h.visitors; in_order = h.in_order }

own-on_place : (n : ℕ) (o : Option ℕ) (f : Device → Device) (m : Machine) → ((d : Device) → OwnDevice d → OwnDevice (f d)) → Own n m → Own n (on_place o f m)
own-on_place n None f m step h = h
own-on_place n (Some i) f m step h = own-on_device n i f m (λ d there. step d) h

numbers-changed : (f : Slots → Slots) (vs : List Visitor) (o : Option ℕ) → map visitor_number (changed_there (in_visitor f) vs o) ≡ map visitor_number vs
numbers-changed f vs None = refl
numbers-changed f vs (Some i) = map-changed visitor_number i (in_visitor f) vs (λ v. refl)

own-on_visitor : (n : ℕ) (dev : Eui) (f : Slots → Slots) (m : Machine) → KeepsOrigins f → Own n m → Own n (on_visitor dev f m)
own-on_visitor n dev f m keeps h = record {
  devices = h.devices;
  visitors = all_changed_there (OwnVisitor n) (in_visitor f) m.visitors (position (is_visitor dev) m.visitors) (λ v s. keeps (IsGivenBefore n) v.slots s) h.visitors;
  in_order = subst (IsRisingFrom 0) (sym (numbers-changed f m.visitors (position (is_visitor dev) m.visitors))) h.in_order;
}

own-on_slots : (n : ℕ) (who : Option Holder) (f : Slots → Slots) (m : Machine) → KeepsOrigins f → Own n m → Own n (on_slots who f m)
own-on_slots n None f m keeps h = h
own-on_slots n (Some (holder.Device i)) f m keeps h = own-on_device n i (in_slots f) m (λ d there s. keeps (IsSeededTo d.join_nonce) d.slots s) h
own-on_slots n (Some (holder.Visitor dev)) f m keeps h = own-on_visitor n dev f m keeps h

own-lapse : (n at : ℕ) (m : Machine) → Own n m → Own n (lapse at m)
unfolding lapse
own-lapse n at m h = record {
  devices = all_map OwnDevice (lapsed at) m.devices (own-lapsed at) h.devices;
  visitors = all_filter (OwnVisitor n) (visits at) m.visitors h.visitors;
  in_order = rising_filter visitor_number (visits at) m.visitors h.in_order;
}

own_ready : (n : ℕ) (m : Machine) (e : Entry) → Own n m → Own n (ready m e)
unfolding ready
own_ready n m e h = own-on_slots n (wakes e.event (lapse e.moment.0 m)) activated (lapse e.moment.0 m) (λ P s k. slots-activated P s k) (own-lapse n e.moment.0 m h)

pub own-ready : (m : Machine) (e : Entry) → Own m.entries m → Own (ready m e).entries (ready m e)
own-ready m e h = subst (λ (n : ℕ). Own n (ready m e)) (sym (stays-ready m e).entries) (own_ready m.entries m e h)

-- ---- changes

own-heard : (n : ℕ) (u : Uplink) (who : Option Holder) (m : Machine) → Own n m → Own n (on_slots who (heard u.pending u.count u.frame u.down) m)
own-heard n u who m h = own-on_slots n who (heard u.pending u.count u.frame u.down) m (λ P s k. slots-heard P u.pending u.count u.frame u.down s k) h

own-dropped : (n : ℕ) (what : RoamingKind) (sender : Sender) (dev : Eui) (m : Machine) → Own n m → Own n (on_dropped what sender dev m)
own-dropped n kind.Held sender dev m h = record { devices = h.devices; visitors = h.visitors; in_order = h.in_order }
own-dropped n kind.Lent sender dev m h = own-on_place n (place_of dev m) called_back m own-called_back h
own-dropped n kind.Visitor sender dev m h = record { devices = h.devices; visitors = all_filter (OwnVisitor n) _ m.visitors h.visitors; in_order = rising_filter visitor_number _ m.visitors h.in_order }

own-change : (n : ℕ) (sender : Sender) (c : Change) (m : Machine) → IsTrue (fits_change sender c m) → Own n m → Own n (on_change sender c m)
unfolding on_change fits_change
own-change n sender (change.Join j) m fit h = own-on_device n j.device (joined j.counter j.join_nonce j.own) m
    (λ d there k. own-joined j.counter j.join_nonce j.own d (rises-join j m d (at_some (fits_join j m) (slice_get m.devices j.device) d there fit)) k) h
own-change n sender (change.Rejoin j) m fit h = own-on_device n j.device (rejoined j.used j.counter j.join_nonce j.own) m
    (λ d there k. own-rejoined j.used j.counter j.join_nonce j.own d (rises-rejoin j m d (at_some (fits_rejoin j m) (slice_get m.devices j.device) d there fit)) k) h
own-change n sender (change.Lent l) m fit h = own-on_device n l.device (lent_out l.used l.counter l.join_nonce (lent_to l)) m
    (λ d there k. own-lent_out l.used l.counter l.join_nonce (lent_to l) d
    (rises-lend l d (at_some (fits_lending l) (slice_get m.devices l.device) d there (and_right (is_network l.net m) (holds_of (fits_lending l) (slice_get m.devices l.device)) fit))) k) h
own-change n sender (change.Up u) m fit h = own-heard n u (holder_of u.dev_eui m) m h
own-change n sender (change.Passive p) m fit h = own-heard n p.up (holder_of p.up.dev_eui m) (on_place (place_of p.up.dev_eui m) (with_grant (granted_by p)) m)
    (own-on_place n (place_of p.up.dev_eui m) (with_grant (granted_by p)) m (own-with_grant (granted_by p)) h)
own-change n sender (change.Queue q) m fit h = own-on_device n q.device (queued (item_of q)) m
    (λ d there k. own-queued (item_of q) d (at_some (can_queue q.number) (slice_get m.devices q.device) d there (and_right (nat_le (length q.payload) 242) (holds_of (can_queue q.number) (slice_get m.devices q.device)) fit)) k) h
own-change n sender (change.Dropped d) m fit h = own-dropped n d.what sender d.dev_eui m h

-- ---- asks, and what their peers answer

own-counted : (P : Origin → Type 0) (count : ℕ) (s : Slots) → AreSlots P s → AreSlots P (on_active (with_count count) s)
own-counted P count s h = slots-on_active P (with_count count) s (λ c. refl) (λ c there k. record { few = k.few; rising = k.rising; next_n = k.next_n; next_a = k.next_a }) h

own-rejoin : (n : ℕ) (dev : Option Eui) (count : Option RejoinCount) (m : Machine) → Own n m → Own n (with_rejoin dev count m)
own-rejoin n None count m h = h
own-rejoin n (Some dev) None m h = h
own-rejoin n (Some dev) (Some count) m h = own-on_visitor n dev (on_active (with_count count.count)) m (λ P s k. own-counted P count.count s k) h

own-visit : (v : NewVisitor) (m : Machine) → Own m.entries m → AllByRecursion (OwnVisitor (m.entries + 1)) (visit m.entries v m.visitors)
unfolding visit
own-visit v m h =
    let n = m.entries in
    let sound = sound-fresh v.dev_addr (Given n v.keys) v.radio in
    all_put (OwnVisitor n) (OwnVisitor (n + 1)) visitor_number (new_visitor n v) (renewed n v) m.visitors
    (record { sound = record { active = tt; pending = sound }; active = tt; pending = omega arith; differ = tt })
    (λ x k. slots-more (IsGivenBefore n) (IsGivenBefore (n + 1)) x.slots (given-more n (n + 1) (omega arith)) k)
    (λ x is k. slots-offered (IsGivenBefore n) (IsGivenBefore (n + 1)) (given_context n v) x.slots sound (omega arith) (given-more n (n + 1) (omega arith)) (λ o b e. keys_apart v n o (keys_before n o b) (sym e)) k) h.visitors

visit-in_order : (v : NewVisitor) (m : Machine) → IsRisingBy visitor_number m.visitors → IsRisingBy visitor_number (visit m.entries v m.visitors)
unfolding visit
visit-in_order v m h = rising-put visitor_number (new_visitor m.entries v) (renewed m.entries v) (λ x e. e) m.visitors h

own-effect : (t : ℕ) (e : Effect) (m : Machine) → Own m.entries m → Own (m.entries + 1) (on_effect m.entries e (closed t m))
unfolding on_effect
own-effect t effect.Nothing m h = let k = own-more m.entries (m.entries + 1) m (omega arith) h in record { devices = k.devices; visitors = k.visitors; in_order = k.in_order }
own-effect t (effect.Visitor v) m h = record { devices = h.devices; visitors = own-visit v m h; in_order = visit-in_order v m h.in_order }
own-effect t (effect.Held s) m h = let k = own-more m.entries (m.entries + 1) m (omega arith) h in record { devices = k.devices; visitors = k.visitors; in_order = k.in_order }
own-effect t (effect.Counter c) m h = let k = own-more m.entries (m.entries + 1) m (omega arith) h in record { devices = k.devices; visitors = k.visitors; in_order = k.in_order }

-- ---- all entries

own-event : (e : Event) (m : Machine) → IsTrue (fits_event e m) → Own m.entries m → Own (m.entries + 1) (on_event e m)
unfolding on_event fits_event
own-event event.Opened m fit h = let k = own-more m.entries (m.entries + 1) m (omega arith) h in record { devices = k.devices; visitors = k.visitors; in_order = k.in_order }
own-event (event.Tables text) m fit h = own-more m.entries (m.entries + 1) m (omega arith) h
own-event (event.Kept r c) m fit h =
    own-change (m.entries + 1) r.sender c m (and_right (nat_lt 0 m.entries && is_sender r.sender m) (fits_change r.sender c m) fit) (own-more m.entries (m.entries + 1) m (omega arith) h)
own-event (event.Asked a) m fit h =
    let k = own-more m.entries (m.entries + 1) m (omega arith) h in
    own-rejoin (m.entries + 1) a.target.dev_eui a.target.rejoin (asked a m) (record { devices = k.devices; visitors = k.visitors; in_order = k.in_order })
own-event (event.Told t) m fit h = own-effect t.ask t.effect m h
own-event (event.Suspend device) m fit h = own-on_device (m.entries + 1) device (marked true) m (λ d there k. own-marked true d k) (own-more m.entries (m.entries + 1) m (omega arith) h)
own-event (event.Resume device) m fit h = own-on_device (m.entries + 1) device (marked false) m (λ d there k. own-marked false d k) (own-more m.entries (m.entries + 1) m (omega arith) h)

pub own-after : (m : Machine) (e : Entry) → IsTrue (fits m e) → Own m.entries m → Own (after m e).entries (after m e)
own-after m e fit h =
    let r = ready m e in
    let k : Own ((on_event e.event r).entries + 1) (on_event e.event r) = subst (λ (n : ℕ). Own (n + 1) (on_event e.event r)) (sym (stays-event e.event r).entries) (own-event e.event r (fits_its_event m e fit) (own-ready m e h)) in
    record { devices = k.devices; visitors = k.visitors; in_order = k.in_order }

-- ---- the first state

own-new : (own : ℕ) (rows : List DeviceRow) → AllByRecursion OwnDevice (map (new_device own) rows)
own-new own [] = tt
own-new own (r ∷ rows) = (record { sound = record { active = tt; pending = tt }; active = tt; pending = tt; differ = tt }, own-new own rows)

pub own-empty : (c : Config) → Own (empty c).entries (empty c)
unfolding empty
own-empty c = record { devices = own-new c.desk.net_id c.devices; visitors = tt; in_order = tt }
