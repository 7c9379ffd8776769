-- Nothing that ends later is gone, and no event makes anything end before its own end.
use Rattle.std.proofs.Common.{◌≡◌, ℕ, zero, suc, ◌+◌, ◌<◌, ◌≤◌, Bool, true, false, List, [], ◌∷◌, ◌++◌, length, map, take, get_or, add-one, Option, Some, None, refl, sym, subst, arith}
use Rattle.std.specs.Prelude.{nat_lt, position}
use Rattle.std.specs.List.{AllByRecursion, filter}
use Rattle.wire_ids.specs.declared.eui.Eui.{Eui}
use Rattle.wire_ids.specs.declared.keys.Seed.{Seed}
use Rattle.wire_ids.specs.declared.party.Sender.{Sender}
use Rattle.wire_ids.proofs.Lists.{all_changed, all_changed_there, all_more}
use Rattle.contexts.specs.Slots.{activated, on_active}
use Rattle.contexts.specs.declared.slots.Slots.{Slots}
use Rattle.entries.specs.declared.ask.Effect.{Effect}
use Rattle.entries.specs.declared.ask.Effect.TheVariants as effect
use Rattle.entries.specs.declared.ask.HeldCount.{HeldCount}
use Rattle.entries.specs.declared.ask.HeldSession.{HeldSession}
use Rattle.entries.specs.declared.ask.NewAsk.{NewAsk}
use Rattle.entries.specs.declared.ask.NewVisitor.{NewVisitor}
use Rattle.entries.specs.declared.ask.RejoinCount.{RejoinCount}
use Rattle.entries.specs.declared.change.Change.{Change}
use Rattle.entries.specs.declared.change.Change.TheVariants as change
use Rattle.entries.specs.declared.change.OwnContext.{OwnContext}
use Rattle.entries.specs.declared.change.RoamingKind.{RoamingKind}
use Rattle.entries.specs.declared.change.RoamingKind.TheVariants as kind
use Rattle.entries.specs.declared.entry.Event.{Event}
use Rattle.entries.specs.declared.entry.Event.TheVariants as event
use Rattle.entries.specs.declared.used_seed.UsedSeed.{UsedSeed}
use Rattle.entries.specs.declared.used_seed.UsedSeed.TheVariants.{Rejoin0, Rejoin1, Rejoin2}
use Rattle.entry_codec.specs.Devices.{called_back, heard, in_slots, is_granted, joined, kept_count, lapsed, lent_out, marked, net_of, queued, rejoined, seed_of, still_lent, with_grant, with_session}
use Rattle.entry_codec.specs.Ends.{AskEndsFrom, DeviceEndsFrom, EndsFrom, HeldEndsFrom, IsGrantedFrom, IsLentFrom, VisitorEndsFrom, change_end, effect_end, event_end}
use Rattle.entry_codec.specs.Machine.{Machine, ask_of, asked, closed, entered, granted_by, held_number, hold, holder_of, in_visitor, is_held, is_open, is_other, is_session, is_visitor, item_of, lapse, lent_to, move_count, new_visitor, on_change, on_device, on_dropped, on_effect, on_event, on_place, on_slots, on_visitor, place_of, renewed, visit, visitor_number, visits, wake, with_count, with_rejoin, without}
use Rattle.entry_codec.specs.declared.device.Device.{Device}
use Rattle.entry_codec.specs.declared.device.Granted.{Granted}
use Rattle.entry_codec.specs.declared.device.LentTo.{LentTo}
use Rattle.entry_codec.specs.declared.parties.Holder.{Holder}
use Rattle.entry_codec.specs.declared.parties.Holder.TheVariants as holder
use Rattle.entry_codec.specs.declared.parties.OpenAsk.{OpenAsk}
use Rattle.entry_codec.specs.declared.parties.Visitor.{Visitor}
use Rattle.entry_codec.proofs.Ordered.{all_filter, all_put}

-- ---- a lapse before the first end

filter_all : {X : Type 0} (P : X → Type 0) (p : X → Bool) → ((x : X) → P x → p x ≡ true) → (xs : List X) → AllByRecursion P xs → filter p xs ≡ xs
filter_all P p step [] h = refl
filter_all P p step (x ∷ xs) h = rw (step x h.0, filter_all P p step xs h.1) refl

map_all : {X : Type 0} (P : X → Type 0) (f : X → X) → ((x : X) → P x → f x ≡ x) → (xs : List X) → AllByRecursion P xs → map f xs ≡ xs
map_all P f step [] h = refl
map_all P f step (x ∷ xs) h = rw (step x h.0, map_all P f step xs h.1) refl

is_before : (at end until : ℕ) → at < end → end ≤ until → nat_lt at until ≡ true
is_before at end until lt le = grind arith

lent_still : (at end : ℕ) → at < end → (o : Option LentTo) → IsLentFrom end o → still_lent at o ≡ o
lent_still at end lt None h = refl
lent_still at end lt (Some l) h = rw (is_before at end l.until.0 lt h) refl

device_idle : (at end : ℕ) → at < end → (d : Device) → DeviceEndsFrom end d → lapsed at d ≡ d
unfolding lapsed
device_idle at end lt d h = rw (lent_still at end lt d.lent h.lent, filter_all (IsGrantedFrom end) (is_granted at) (λ g k. is_before at end g.until.0 lt k) d.granted.items h.granted) refl

-- before the least end a lapse changes nothing
pub lapse_idle : (at end : ℕ) (m : Machine) → at < end → EndsFrom end m → lapse at m ≡ m
unfolding lapse
lapse_idle at end m lt h = rw (
  map_all (DeviceEndsFrom end) (lapsed at) (device_idle at end lt) m.devices h.devices,
  filter_all (VisitorEndsFrom end) (visits at) (λ v k. is_before at end v.until.0 lt k) m.visitors h.visitors,
  filter_all (HeldEndsFrom end) (is_held at) (λ s k. is_before at end s.until.0 lt k) m.held h.held,
  filter_all (AskEndsFrom end) (is_open at) (λ a k. is_before at end a.ends.0 lt k) m.asks h.asks,
) refl

-- ---- an earlier moment

IsLentFrom-less : (a b : ℕ) → a ≤ b → (o : Option LentTo) → IsLentFrom b o → IsLentFrom a o
IsLentFrom-less a b le None h = tt
IsLentFrom-less a b le (Some l) h = omega (arith, le, h)

pub device-less : (a b : ℕ) → a ≤ b → (d : Device) → DeviceEndsFrom b d → DeviceEndsFrom a d
device-less a b le d h = record { lent = IsLentFrom-less a b le d.lent h.lent; granted = all_more (IsGrantedFrom b) (IsGrantedFrom a) d.granted.items (λ g k. omega (arith, le, k)) h.granted }

pub ends-less : (a b : ℕ) (m : Machine) → a ≤ b → EndsFrom b m → EndsFrom a m
ends-less a b m le h = record {
  devices = all_more (DeviceEndsFrom b) (DeviceEndsFrom a) m.devices (device-less a b le) h.devices;
  visitors = all_more (VisitorEndsFrom b) (VisitorEndsFrom a) m.visitors (λ v k. omega (arith, le, k)) h.visitors;
  held = all_more (HeldEndsFrom b) (HeldEndsFrom a) m.held (λ s k. omega (arith, le, k)) h.held;
  asks = all_more (AskEndsFrom b) (AskEndsFrom a) m.asks (λ x k. omega (arith, le, k)) h.asks;
}

-- ---- steps of a device

ends-with_session : (at : ℕ) (seed : Seed) (own : Option OwnContext) (d : Device) → DeviceEndsFrom at d → DeviceEndsFrom at (with_session seed own d)
ends-with_session at seed None d h = record { lent = h.lent; granted = h.granted }
ends-with_session at seed (Some own) d h = record { lent = tt; granted = h.granted }

ends-joined : (at counter join_nonce : ℕ) (own : Option OwnContext) (d : Device) → DeviceEndsFrom at d → DeviceEndsFrom at (joined counter join_nonce own d)
unfolding joined
ends-joined at counter join_nonce own d h = ends-with_session at (seed_of counter join_nonce d) own (record d { dev_nonce = Some counter; join_nonce = join_nonce }) (record { lent = h.lent; granted = h.granted })

ends-counted : (at : ℕ) (used : UsedSeed) (counter : ℕ) (d : Device) → DeviceEndsFrom at d → DeviceEndsFrom at (kept_count used counter d)
ends-counted at (Rejoin0 place) counter d h = record { lent = h.lent; granted = h.granted }
ends-counted at Rejoin1 counter d h = record { lent = h.lent; granted = h.granted }
ends-counted at (Rejoin2 place) counter d h = record { lent = h.lent; granted = h.granted }

ends-rejoined : (at : ℕ) (used : UsedSeed) (counter join_nonce : ℕ) (own : Option OwnContext) (d : Device) → DeviceEndsFrom at d → DeviceEndsFrom at (rejoined used counter join_nonce own d)
unfolding rejoined
ends-rejoined at used counter join_nonce own d h = ends-with_session at (seed_of counter join_nonce d) own (kept_count used counter (record d { join_nonce = join_nonce })) (ends-counted at used counter (record d { join_nonce = join_nonce }) (record { lent = h.lent; granted = h.granted }))

ends-lent_out : (at : ℕ) (used : Option UsedSeed) (counter join_nonce : ℕ) (to : LentTo) (d : Device) → at ≤ to.until.0 → DeviceEndsFrom at d → DeviceEndsFrom at (lent_out used counter join_nonce to d)
unfolding lent_out
ends-lent_out at None counter join_nonce to d le h = record { lent = le; granted = (ends-joined at counter join_nonce None d h).granted }
ends-lent_out at (Some used) counter join_nonce to d le h = record { lent = le; granted = (ends-rejoined at used counter join_nonce None d h).granted }

ends-in_slots : (at : ℕ) (f : Slots → Slots) (d : Device) → DeviceEndsFrom at d → DeviceEndsFrom at (in_slots f d)
ends-in_slots at f d h = record { lent = h.lent; granted = h.granted }

ends-queued : (at : ℕ) (item : _) (d : Device) → DeviceEndsFrom at d → DeviceEndsFrom at (queued item d)
unfolding queued
ends-queued at item d h = record { lent = h.lent; granted = h.granted }

ends-marked : (at : ℕ) (suspended : Bool) (d : Device) → DeviceEndsFrom at d → DeviceEndsFrom at (marked suspended d)
unfolding marked
ends-marked at suspended d h = record { lent = h.lent; granted = h.granted }

ends-called_back : (at : ℕ) (d : Device) → DeviceEndsFrom at d → DeviceEndsFrom at (called_back d)
unfolding called_back
ends-called_back at d h = record { lent = tt; granted = h.granted }

ends-with_grant : (at : ℕ) (g : Granted) (d : Device) → at ≤ g.until.0 → DeviceEndsFrom at d → DeviceEndsFrom at (with_grant g d)
unfolding with_grant
ends-with_grant at g d le h = record { lent = h.lent; granted = all_put (IsGrantedFrom at) (IsGrantedFrom at) net_of g (λ (old : Granted). g) d.granted.items le (λ x k. k) (λ x e k. le) h.granted }

-- ---- steps of a state

ends-on_device : (at i : ℕ) (f : Device → Device) (m : Machine) → ((d : Device) → DeviceEndsFrom at d → DeviceEndsFrom at (f d)) → EndsFrom at m → EndsFrom at (on_device i f m)
ends-on_device at i f m step h = record { devices = all_changed (DeviceEndsFrom at) i f m.devices (λ d _ k. step d k) h.devices; visitors = h.visitors; held = h.held; asks = h.asks }

ends-on_place : (at : ℕ) (o : Option ℕ) (f : Device → Device) (m : Machine) → ((d : Device) → DeviceEndsFrom at d → DeviceEndsFrom at (f d)) → EndsFrom at m → EndsFrom at (on_place o f m)
ends-on_place at None f m step h = h
ends-on_place at (Some i) f m step h = ends-on_device at i f m step h

ends-on_visitor : (at : ℕ) (dev : Eui) (f : Slots → Slots) (m : Machine) → EndsFrom at m → EndsFrom at (on_visitor dev f m)
ends-on_visitor at dev f m h = record {
  devices = h.devices;
  visitors = all_changed_there (VisitorEndsFrom at) (in_visitor f) m.visitors (position (is_visitor dev) m.visitors) (λ v k. k) h.visitors;
  held = h.held;
  asks = h.asks;
}

ends-on_slots : (at : ℕ) (who : Option Holder) (f : Slots → Slots) (m : Machine) → EndsFrom at m → EndsFrom at (on_slots who f m)
ends-on_slots at None f m h = h
ends-on_slots at (Some (holder.Device i)) f m h = ends-on_device at i (in_slots f) m (ends-in_slots at f) h
ends-on_slots at (Some (holder.Visitor dev)) f m h = ends-on_visitor at dev f m h

pub ends-wake : (at : ℕ) (who : Option Holder) (m : Machine) → EndsFrom at m → EndsFrom at (wake who m)
ends-wake at who m h = ends-on_slots at who activated m h

ends-dropped : (at : ℕ) (k : RoamingKind) (sender : Sender) (dev : Eui) (m : Machine) → EndsFrom at m → EndsFrom at (on_dropped k sender dev m)
ends-dropped at kind.Held sender dev m h = record { devices = h.devices; visitors = h.visitors; held = all_filter (HeldEndsFrom at) _ m.held h.held; asks = h.asks }
ends-dropped at kind.Lent sender dev m h = ends-on_place at (place_of dev m) called_back m (ends-called_back at) h
ends-dropped at kind.Visitor sender dev m h = record { devices = h.devices; visitors = all_filter (VisitorEndsFrom at) _ m.visitors h.visitors; held = h.held; asks = h.asks }

ends-change : (at : ℕ) (sender : Sender) (c : Change) (m : Machine) → at ≤ change_end c → EndsFrom at m → EndsFrom at (on_change sender c m)
unfolding on_change
ends-change at sender (change.Join j) m le h = ends-on_device at j.device (joined j.counter j.join_nonce j.own) m (ends-joined at j.counter j.join_nonce j.own) h
ends-change at sender (change.Rejoin j) m le h = ends-on_device at j.device (rejoined j.used j.counter j.join_nonce j.own) m (ends-rejoined at j.used j.counter j.join_nonce j.own) h
ends-change at sender (change.Lent l) m le h = ends-on_device at l.device (lent_out l.used l.counter l.join_nonce (lent_to l)) m (λ d k. ends-lent_out at l.used l.counter l.join_nonce (lent_to l) d le k) h
ends-change at sender (change.Up u) m le h = ends-on_slots at (holder_of u.dev_eui m) (heard u.pending u.count u.frame u.down) m h
ends-change at sender (change.Passive p) m le h = ends-on_slots at (holder_of p.up.dev_eui m) (heard p.up.pending p.up.count p.up.frame p.up.down) (on_place (place_of p.up.dev_eui m) (with_grant (granted_by p)) m)
    (ends-on_place at (place_of p.up.dev_eui m) (with_grant (granted_by p)) m (λ d k. ends-with_grant at (granted_by p) d le k) h)
ends-change at sender (change.Queue q) m le h = ends-on_device at q.device (queued (item_of q)) m (ends-queued at (item_of q)) h
ends-change at sender (change.Dropped d) m le h = ends-dropped at d.what sender d.dev_eui m h

ends-rejoin : (at : ℕ) (dev : Option Eui) (count : Option RejoinCount) (m : Machine) → EndsFrom at m → EndsFrom at (with_rejoin dev count m)
ends-rejoin at None count m h = h
ends-rejoin at (Some dev) None m h = h
ends-rejoin at (Some dev) (Some count) m h = ends-on_visitor at dev (on_active (with_count count.count)) m h

ends-last : (at : ℕ) (asks : List OpenAsk) (a : OpenAsk) → AllByRecursion (AskEndsFrom at) asks → at ≤ a.ends.0 → AllByRecursion (AskEndsFrom at) (asks ++ a ∷ [])
ends-last at [] a h le = (le, tt)
ends-last at (x ∷ xs) a h le = (h.0, ends-last at xs a h.1 le)

ends-without : (at : ℕ) (o : Option ℕ) (asks : List OpenAsk) → AllByRecursion (AskEndsFrom at) asks → AllByRecursion (AskEndsFrom at) (without o asks)
ends-without at None asks h = h
ends-without at (Some n) asks h = all_filter (AskEndsFrom at) (is_other n) asks h

ends-asked : (at : ℕ) (a : NewAsk) (m : Machine) → at ≤ a.ends.0 → EndsFrom at m → EndsFrom at (asked a m)
ends-asked at a m le h = record { devices = h.devices; visitors = h.visitors; held = h.held; asks = ends-last at (without a.closes m.asks) (ask_of m.entries a) (ends-without at a.closes m.asks h.asks) le }

ends-closed : (at t : ℕ) (m : Machine) → EndsFrom at m → EndsFrom at (closed t m)
ends-closed at t m h = record { devices = h.devices; visitors = h.visitors; held = h.held; asks = all_filter (AskEndsFrom at) (is_other t) m.asks h.asks }

ends-visit : (at n : ℕ) (new : NewVisitor) (vs : List Visitor) → at ≤ new.until.0 → AllByRecursion (VisitorEndsFrom at) vs → AllByRecursion (VisitorEndsFrom at) (visit n new vs)
unfolding visit
ends-visit at n new vs le h = all_put (VisitorEndsFrom at) (VisitorEndsFrom at) visitor_number (new_visitor n new) (renewed n new) vs le (λ v k. k) (λ v e k. le) h

ends-hold : (at : ℕ) (s : HeldSession) (hs : List HeldSession) → at ≤ s.until.0 → AllByRecursion (HeldEndsFrom at) hs → AllByRecursion (HeldEndsFrom at) (hold s hs)
unfolding hold
ends-hold at s hs le h = all_put (HeldEndsFrom at) (HeldEndsFrom at) held_number s (λ (old : HeldSession). s) hs le (λ x k. k) (λ x e k. le) h

ends-move : (at : ℕ) (c : HeldCount) (hs : List HeldSession) → AllByRecursion (HeldEndsFrom at) hs → AllByRecursion (HeldEndsFrom at) (move_count c hs)
unfolding move_count
ends-move at c hs h = all_changed_there (HeldEndsFrom at) (λ (x : HeldSession). record x { count = c.count }) hs (position (is_session c.net c.dev_addr) hs) (λ x k. k) h

ends-effect : (at n t : ℕ) (e : Effect) (m : Machine) → at ≤ effect_end e → EndsFrom at m → EndsFrom at (on_effect n e (closed t m))
unfolding on_effect
ends-effect at n t effect.Nothing m le h = ends-closed at t m h
ends-effect at n t (effect.Visitor new) m le h = let k = ends-closed at t m h in record { devices = k.devices; visitors = ends-visit at n new m.visitors le h.visitors; held = k.held; asks = k.asks }
ends-effect at n t (effect.Held s) m le h = let k = ends-closed at t m h in record { devices = k.devices; visitors = k.visitors; held = ends-hold at s m.held le h.held; asks = k.asks }
ends-effect at n t (effect.Counter c) m le h = let k = ends-closed at t m h in record { devices = k.devices; visitors = k.visitors; held = ends-move at c m.held h.held; asks = k.asks }

-- what an event leaves ends no earlier than what was there, and than the end that it adds
pub ends-event : (at : ℕ) (e : Event) (m : Machine) → at ≤ event_end e → EndsFrom at m → EndsFrom at (on_event e m)
unfolding on_event event_end
ends-event at event.Opened m le h = record { devices = h.devices; visitors = h.visitors; held = h.held; asks = tt }
ends-event at (event.Tables t) m le h = h
ends-event at (event.Kept r c) m le h = ends-change at r.sender c m le h
ends-event at (event.Asked a) m le h = ends-rejoin at a.target.dev_eui a.target.rejoin (asked a m) (ends-asked at a m le h)
ends-event at (event.Told t) m le h = ends-effect at m.entries t.ask t.effect m le h
ends-event at (event.Suspend i) m le h = ends-on_device at i (marked true) m (ends-marked at true) h
ends-event at (event.Resume i) m le h = ends-on_device at i (marked false) m (ends-marked at false) h

-- ---- the least end, found in one pass

pub all_next : {X : Type 0} (P Q : X → Type 0) (xs : List X) (i : ℕ) (d : X) → ((x : X) → P x → Q x) → AllByRecursion P (take i xs) → i < length xs → Q (get_or xs i d) → AllByRecursion Q (take (i + 1) xs)
all_next {X = X} P Q xs i d more h lt q = subst (λ (n : ℕ). AllByRecursion Q (take n xs)) (sym (add-one i)) (upto xs i h lt q)
  where
    upto : (xs : List X) (i : ℕ) → AllByRecursion P (take i xs) → i < length xs → Q (get_or xs i d) → AllByRecursion Q (take (suc i) xs)
    upto [] i h lt q = absurd (omega (arith, lt))
    upto (x ∷ xs) zero h lt q = (q, tt)
    upto (x ∷ xs) (suc i) h lt q = (more x h.0, upto xs i h.1 (omega (arith, lt)) q)

pub ends-entered : (at moment : ℕ) (m : Machine) → EndsFrom at m → EndsFrom at (entered moment m)
ends-entered at moment m h = record { devices = h.devices; visitors = h.visitors; held = h.held; asks = h.asks }
