-- An entry that fits keeps what holds of every state.
use Rattle.std.proofs.Common.{◌≡◌, ℕ, zero, suc, ◌+◌, ◌<◌, ◌≤◌, Bool, true, false, cond, eqb, List, [], ◌∷◌, ◌++◌, length, map, Option, Some, None, refl, sym, ap, subst, ◌∙◌, arith}
use Rattle.std.specs.Prelude.{IsTrue, ◌==◌, ◌&&◌, ◌||◌, find, nat_le, nat_lt, not, position, slice_get, sum_by}
use Rattle.std.specs.List.{AllByRecursion, filter, list_any, position_or_len, prefix_len}
use borrow.Author.Tests.{ltb-true}
use Rattle.std.proofs.lemmas.Bool.{eqb-true, not-true}
use Rattle.std.proofs.lemmas.List.{length-append, length-map}
use Rattle.std.proofs.lemmas.List.Sums.{sum_by_push}
use Rattle.wire_ids.specs.Lists.{at_place, changed, changed_there, holds_of}
use Rattle.wire_ids.specs.declared.address.DevAddr.{DevAddr}
use Rattle.wire_ids.specs.declared.eui.Eui.{Eui}
use Rattle.wire_ids.specs.declared.party.Sender.{Sender}
use Rattle.wire_ids.proofs.Lists.{all_changed, all_changed_there, all_map, all_more, changed-cons, length-changed, length-filter_le, none_counted, or_left, or_right, sum_by-changed, sum_by-filter_le, sum_by-map_le}
use Rattle.contexts.specs.Slots.{activated, on_active}
use Rattle.contexts.specs.Sound.{IsSoundContext}
use Rattle.contexts.specs.declared.context.Origin.{Origin}
use Rattle.contexts.specs.declared.context.Origin.TheVariants.{Given, Seeded}
use Rattle.contexts.specs.declared.slots.Slots.{Slots}
use Rattle.entries.specs.declared.ask.AskOutcome.{AskOutcome}
use Rattle.entries.specs.declared.ask.Effect.{Effect}
use Rattle.entries.specs.declared.ask.Effect.TheVariants as effect
use Rattle.entries.specs.declared.ask.HeldCount.{HeldCount}
use Rattle.entries.specs.declared.ask.HeldSession.{HeldSession}
use Rattle.entries.specs.declared.ask.NewAsk.{NewAsk}
use Rattle.entries.specs.declared.ask.NewVisitor.{NewVisitor}
use Rattle.entries.specs.declared.ask.RejoinCount.{RejoinCount}
use Rattle.entries.specs.declared.change.Change.{Change}
use Rattle.entries.specs.declared.change.Change.TheVariants as change
use Rattle.entries.specs.declared.change.OwnContext.{OwnContext}
use Rattle.entries.specs.declared.change.RoamingKind.{RoamingKind}
use Rattle.entries.specs.declared.change.RoamingKind.TheVariants as kind
use Rattle.entries.specs.declared.change.Uplink.{Uplink}
use Rattle.entries.specs.declared.entry.Entry.{Entry}
use Rattle.entries.specs.declared.entry.Event.{Event}
use Rattle.entries.specs.declared.entry.Event.TheVariants as event
use Rattle.entry_codec.specs.Devices.{called_back, heard, in_slots, joined, lapsed, lent_out, marked, queued, rejoined, with_grant}
use Rattle.entry_codec.specs.Fits.{can_hold, can_queue, can_visit, closes_open, fits, fits_asked, fits_change, fits_count, fits_effect, fits_event, fits_join, fits_lending, fits_own, fits_rejoin, fits_step, fits_told, fits_up, fits_used, has_room_to_hold, is_above, is_free, is_marked, may_ask}
use Rattle.entry_codec.specs.LookUps.{asks_for, at_home, device_has, has_visitor, is_addr, is_network, is_sender, is_taken, is_taken_beside, knows_peer, lives, slot_has, slots_have, visitor_has}
use Rattle.entry_codec.specs.Machine.{Machine, after, ask_number, ask_of, asked, closed, given_context, granted_by, held_number, held_session, hold, holder_of, in_visitor, is_dev, is_held, is_home, is_open, is_other, is_session, is_visitor, item_of, lapse, lent_to, move_count, new_visitor, on_change, on_device, on_dropped, on_effect, on_event, on_place, on_slots, on_told, on_visitor, open_ask, place_of, ready, renewed, visit, visitor_number, visits, wake, wakes, with_count, with_rejoin, without}
use Rattle.entry_codec.specs.Ordered.{IsRisingBy, put_in}
use Rattle.entry_codec.specs.Ordered as ordered
use Rattle.entry_codec.specs.Sound.{AreSlots, HasRow, IsGivenBefore, IsNumberedBelow, IsSeededTo, IsSound, IsSoundDevice, IsSoundTo, IsSoundVisitor, ask_uses, count_if, device_uses, has_context, slots_use, uses, visitor_uses}
use Rattle.entry_codec.specs.declared.device.Device.{Device}
use Rattle.entry_codec.specs.declared.parties.Holder.{Holder}
use Rattle.entry_codec.specs.declared.parties.Holder.TheVariants as holder
use Rattle.entry_codec.specs.declared.parties.OpenAsk.{OpenAsk}
use Rattle.entry_codec.specs.declared.parties.Visitor.{Visitor}
use Rattle.entry_codec.proofs.Bools.{and_left, and_right, or_rest}
use Rattle.entry_codec.proofs.Names.{map-changed}
use Rattle.entry_codec.proofs.Ordered.{all_filter, all_put, length-put_le, length-put_there, rising-last, rising-put, rising_filter, sum_by-put}
use Rattle.entry_codec.proofs.SoundDevices.{IsSame, own_is_home, own_uses, same-called_back, same-in_slots, same-joined, same-lapsed, same-lent_out, same-marked, same-queued, same-rejoined, same-with_grant, slots-activated, slots-heard, slots-more, slots-offered, slots-on_active, sound-called_back, sound-in_slots, sound-joined, sound-lapsed, sound-lent_out, sound-marked, sound-queued, sound-rejoined, sound-with_grant, use-activated, use-called_back, use-heard, use-joined, use-lapsed, use-lent_out, use-marked, use-queued, use-rejoined, use-with_grant}
use Rattle.entry_codec.proofs.SoundDevices as devices
use Rattle.entry_codec.proofs.Stays.{fits_its_event, stays-event}
use Rattle.entry_codec.proofs.Sums.{at_some, holds_of-changed, none_holds}

-- ---- who is at home, which no step changes

pub prefix_len-changed : {X : Type 0} (q : X → Bool) (i : ℕ) (f : X → X) (xs : List X) → ((x : X) → q (f x) ≡ q x) → prefix_len q (changed i f xs) ≡ prefix_len q xs
prefix_len-changed q i f [] same = refl
prefix_len-changed q zero f (x ∷ xs) same = rw (same x) refl
prefix_len-changed q (suc i) f (x ∷ xs) same = rw (changed-cons x xs i f, prefix_len-changed q i f xs same) refl

prefix_len-map_same : {X : Type 0} (q : X → Bool) (f : X → X) (xs : List X) → ((x : X) → q (f x) ≡ q x) → prefix_len q (map f xs) ≡ prefix_len q xs
prefix_len-map_same q f [] same = refl
prefix_len-map_same q f (x ∷ xs) same = rw (same x, prefix_len-map_same q f xs same) refl

abbrev place_by : ℕ → ℕ → Option ℕ
place_by n len = cond (nat_lt n len) (Some n) None

pub position-mapped : {X : Type 0} (p : X → Bool) (f : X → X) (xs : List X) → ((x : X) → p (f x) ≡ p x) → position p (map f xs) ≡ position p xs
position-mapped {X} p f xs same =
    ap (λ (n : ℕ). place_by n (length (map f xs))) (prefix_len-map_same (λ (x : X). not (p x)) f xs (λ x. ap not (same x)))
    ∙ ap (λ (len : ℕ). place_by (position_or_len p xs) len) (length-map xs f)

not_dev : (f : Device → Device) → IsSame f → (dev : Eui) (d : Device) → not (is_dev dev (f d)) ≡ not (is_dev dev d)
not_dev f same dev d = ap (λ (e : Eui). not (e.0 == dev.0)) (same.name d)

pub place-changed : (dev : Eui) (i : ℕ) (f : Device → Device) (ds : List Device) → IsSame f → position (is_dev dev) (changed i f ds) ≡ position (is_dev dev) ds
place-changed dev i f ds same =
    ap (λ (n : ℕ). place_by n (length (changed i f ds))) (prefix_len-changed (λ (d : Device). not (is_dev dev d)) i f ds (not_dev f same dev))
    ∙ ap (λ (len : ℕ). place_by (position_or_len (is_dev dev) ds) len) (length-changed i f ds)

pub place-mapped : (dev : Eui) (f : Device → Device) (ds : List Device) → IsSame f → position (is_dev dev) (map f ds) ≡ position (is_dev dev) ds
place-mapped dev f ds same =
    ap (λ (n : ℕ). place_by n (length (map f ds))) (prefix_len-map_same (λ (d : Device). not (is_dev dev d)) f ds (not_dev f same dev))
    ∙ ap (λ (len : ℕ). place_by (position_or_len (is_dev dev) ds) len) (length-map ds f)

home-changed : (i : ℕ) (f : Device → Device) (ds : List Device) → IsSame f → (o : Option ℕ) → holds_of is_home (at_place (changed i f ds) o) ≡ holds_of is_home (at_place ds o)
home-changed i f ds same None = refl
home-changed i f ds same (Some k) = holds_of-changed is_home i k f ds same.home

pub home-on_device : (dev : Eui) (i : ℕ) (f : Device → Device) (m : Machine) → IsSame f → at_home dev (on_device i f m) ≡ at_home dev m
home-on_device dev i f m same =
    ap (λ (o : Option ℕ). holds_of is_home (at_place (changed i f m.devices) o)) (place-changed dev i f m.devices same) ∙ home-changed i f m.devices same (place_of dev m)

holds-mapped : (f : Device → Device) → IsSame f → (ds : List Device) (k : ℕ) → holds_of is_home (slice_get (map f ds) k) ≡ holds_of is_home (slice_get ds k)
holds-mapped f same [] k = refl
holds-mapped f same (d ∷ ds) zero = same.home d
holds-mapped f same (d ∷ ds) (suc k) = holds-mapped f same ds k

home-mapped : (f : Device → Device) (ds : List Device) → IsSame f → (o : Option ℕ) → holds_of is_home (at_place (map f ds) o) ≡ holds_of is_home (at_place ds o)
home-mapped f ds same None = refl
home-mapped f ds same (Some k) = holds-mapped f same ds k

pub home_lapse : (dev : Eui) (at : ℕ) (m : Machine) → at_home dev (lapse at m) ≡ at_home dev m
unfolding lapse
home_lapse dev at m =
    ap (λ (o : Option ℕ). holds_of is_home (at_place (map (lapsed at) m.devices) o)) (place-mapped dev (lapsed at) m.devices (same-lapsed at))
    ∙ home-mapped (lapsed at) m.devices (same-lapsed at) (place_of dev m)

-- ---- parts of a state

visitor-more : (n k : ℕ) (m : Machine) → n ≤ k → (v : Visitor) → IsSoundVisitor n m.devices v → IsSoundVisitor k m.devices v
visitor-more n k m le v h = record { slots = slots-more (IsGivenBefore n) (IsGivenBefore k) v.slots more h.slots; stranger = h.stranger }
  where
    more : (o : Origin) → IsGivenBefore n o → IsGivenBefore k o
    more (Seeded seed) x = x
    more (Given number keys) x = omega (arith, x, le)

pub sound-more : (n k : ℕ) (m : Machine) → n ≤ k → IsSoundTo n m → IsSoundTo k m
sound-more n k m le h = record {
  few_devices = h.few_devices;
  few_networks = h.few_networks;
  few_visitors = h.few_visitors;
  few_held = h.few_held;
  few_asks = h.few_asks;
  devices = h.devices;
  visitors = all_more (IsSoundVisitor n m.devices) (IsSoundVisitor k m.devices) m.visitors (visitor-more n k m le) h.visitors;
  visitors_in_order = h.visitors_in_order;
  held_in_order = h.held_in_order;
  asks_in_order = h.asks_in_order;
  asks_before = all_more (IsNumberedBelow n) (IsNumberedBelow k) m.asks (λ a lt. omega (arith, lt, le)) h.asks_before;
  addresses = h.addresses;
}

pub sound-lapse : (n at : ℕ) (m : Machine) → IsSoundTo n m → IsSoundTo n (lapse at m)
unfolding lapse
sound-lapse n at m h = record {
  few_devices = omega (arith, h.few_devices, length-map m.devices (lapsed at));
  few_networks = h.few_networks;
  few_visitors = omega (arith, h.few_visitors, length-filter_le (visits at) m.visitors);
  few_held = omega (arith, h.few_held, length-filter_le (is_held at) m.held);
  few_asks = omega (arith, h.few_asks, length-filter_le (is_open at) m.asks);
  devices = all_map (IsSoundDevice m.senders) (lapsed at) m.devices (sound-lapsed m.senders at) h.devices;
  visitors = all_more (IsSoundVisitor n m.devices) (IsSoundVisitor n (lapse at m).devices) (filter (visits at) m.visitors) (λ v k. record { slots = k.slots; stranger = home_lapse v.dev_eui at m ∙ k.stranger }) (all_filter (IsSoundVisitor n m.devices) (visits at) m.visitors h.visitors);
  visitors_in_order = rising_filter visitor_number (visits at) m.visitors h.visitors_in_order;
  held_in_order = rising_filter held_number (is_held at) m.held h.held_in_order;
  asks_in_order = rising_filter ask_number (is_open at) m.asks h.asks_in_order;
  asks_before = all_filter (IsNumberedBelow n) (is_open at) m.asks h.asks_before;
  addresses = λ addr. omega (
    arith,
    h.addresses addr,
    sum_by-map_le (device_uses addr) (lapsed at) m.devices (use-lapsed addr at),
    sum_by-filter_le (visitor_uses addr) (visits at) m.visitors,
    sum_by-filter_le (ask_uses addr) (is_open at) m.asks,
  );
}

-- a device that is changed, and gets no address but own's
pub sound-on_device : (n device : ℕ) (f : Device → Device) (m : Machine) (own : DevAddr → ℕ) → IsSame f
    → ((d : Device) → slice_get m.devices device ≡ Some d → IsSoundDevice m.senders d → IsSoundDevice m.senders (f d))
    → ((addr : DevAddr) (d : Device) → slice_get m.devices device ≡ Some d → device_uses addr (f d) ≤ device_uses addr d + own addr)
    → ((addr : DevAddr) → uses addr m + own addr ≤ 1) → IsSoundTo n m → IsSoundTo n (on_device device f m)
sound-on_device n device f m own same step share free h = record {
  few_devices = omega (arith, h.few_devices, length-changed device f m.devices);
  few_networks = h.few_networks;
  few_visitors = h.few_visitors;
  few_held = h.few_held;
  few_asks = h.few_asks;
  devices = all_changed (IsSoundDevice m.senders) device f m.devices step h.devices;
  visitors = all_more (IsSoundVisitor n m.devices) (IsSoundVisitor n (on_device device f m).devices) m.visitors (λ v k. record { slots = k.slots; stranger = home-on_device v.dev_eui device f m same ∙ k.stranger }) h.visitors;
  visitors_in_order = h.visitors_in_order;
  held_in_order = h.held_in_order;
  asks_in_order = h.asks_in_order;
  asks_before = h.asks_before;
  addresses = λ addr. omega (arith, free addr, sum_by-changed (device_uses addr) device f m.devices (own addr) (share addr));
}

none_more : (n : ℕ) (m : Machine) → IsSoundTo n m → (addr : DevAddr) → uses addr m + 0 ≤ 1
none_more n m h addr = omega (arith, h.addresses addr)

-- ---- a step of the contexts of a device or a visitor

pub record IsSlotStep (f : Slots → Slots) : Type 1 where
  pub keeps : (s : Slots) → (P : Origin → Type 0) → AreSlots P s → AreSlots P (f s)
  pub bare : (s : Slots) → IsTrue (not (has_context s)) → IsTrue (not (has_context (f s)))
  pub uses : (addr : DevAddr) (s : Slots) → slots_use addr (f s) ≤ slots_use addr s

pub step-activated : IsSlotStep activated
step-activated = record {
  keeps = λ s P h. slots-activated P s h;
  bare = λ s h. devices.has-activated s h;
  uses = λ addr s. use-activated addr s;
}

pub step-heard : (u : Uplink) → IsSlotStep (heard u.pending u.count u.frame u.down)
step-heard u = record {
  keeps = λ s P h. slots-heard P u.pending u.count u.frame u.down s h;
  bare = λ s h. devices.has-heard u.pending u.count u.frame u.down s h;
  uses = λ addr s. use-heard addr u.pending u.count u.frame u.down s;
}

step-counted : (count : ℕ) → IsSlotStep (on_active (with_count count))
step-counted count = record {
  keeps = λ s P h. slots-on_active P (with_count count) s (λ c. refl) (λ c _ k. record { few = k.few; rising = k.rising; next_n = k.next_n; next_a = k.next_a }) h;
  bare = λ s h. rw (devices.has-on_active (with_count count) s.active s.pending) h;
  uses = λ addr s. omega (arith, devices.use-on_active (with_count count) (λ c. refl) addr s);
}

map-changed_there : {X Y : Type 0} (g : X → Y) (f : X → X) (xs : List X) (o : Option ℕ) → ((x : X) → g (f x) ≡ g x) → map g (changed_there f xs o) ≡ map g xs
map-changed_there g f xs None same = refl
map-changed_there g f xs (Some i) same = map-changed g i f xs same

length-changed_there : {X : Type 0} (f : X → X) (xs : List X) (o : Option ℕ) → length (changed_there f xs o) ≡ length xs
length-changed_there f xs None = refl
length-changed_there f xs (Some i) = length-changed i f xs

sum_by-changed_there : {X : Type 0} (share : X → ℕ) (f : X → X) (xs : List X) (o : Option ℕ) → ((x : X) → share (f x) ≤ share x) → sum_by share (changed_there f xs o) ≤ sum_by share xs
sum_by-changed_there share f xs None step = omega arith
sum_by-changed_there share f xs (Some i) step = omega (arith, sum_by-changed share i f xs 0 (λ x _. omega (arith, step x)))

rising_as : (low : ℕ) (ns ms : List ℕ) → ns ≡ ms → ordered.IsRisingFrom low ms → ordered.IsRisingFrom low ns
rising_as low ns ms e h = subst (λ (xs : List ℕ). ordered.IsRisingFrom low xs) (sym e) h

sound-on_visitor : (n : ℕ) (dev : Eui) (f : Slots → Slots) (m : Machine) → IsSlotStep f → IsSoundTo n m → IsSoundTo n (on_visitor dev f m)
sound-on_visitor n dev f m step h =
    let at = position (is_visitor dev) m.visitors in
    record {
      few_devices = h.few_devices;
      few_networks = h.few_networks;
      few_visitors = omega (arith, h.few_visitors, length-changed_there (in_visitor f) m.visitors at);
      few_held = h.few_held;
      few_asks = h.few_asks;
      devices = h.devices;
      visitors = all_changed_there (IsSoundVisitor n m.devices) (in_visitor f) m.visitors at (λ v k. record { slots = step.keeps v.slots (IsGivenBefore n) k.slots; stranger = k.stranger }) h.visitors;
      visitors_in_order = rising_as 0 _ _ (map-changed_there visitor_number (in_visitor f) m.visitors at (λ v. refl)) h.visitors_in_order;
      held_in_order = h.held_in_order;
      asks_in_order = h.asks_in_order;
      asks_before = h.asks_before;
      addresses = λ addr. omega (arith, h.addresses addr, sum_by-changed_there (visitor_uses addr) (in_visitor f) m.visitors at (λ v. step.uses addr v.slots));
    }

pub sound-on_slots : (n : ℕ) (who : Option Holder) (f : Slots → Slots) (m : Machine) → IsSlotStep f → IsSoundTo n m → IsSoundTo n (on_slots who f m)
sound-on_slots n None f m step h = h
sound-on_slots n (Some (holder.Device device)) f m step h = sound-on_device n device (in_slots f) m (λ addr. 0) (same-in_slots f)
    (λ d _ k. sound-in_slots m.senders f d (λ s. step.keeps d.slots (IsSeededTo d.join_nonce) s) (step.bare d.slots) k)
    (λ addr d _. omega (arith, step.uses addr d.slots)) (none_more n m h) h
sound-on_slots n (Some (holder.Visitor dev)) f m step h = sound-on_visitor n dev f m step h

-- ---- addresses that are free

none-slots : (addr : DevAddr) (s : Slots) → slots_have addr s ≡ false → slots_use addr s ≡ 0
unfolding slots_have
none-slots addr s h = rw (or_left (slot_has addr s.active) (slot_has addr s.pending) h, or_right (slot_has addr s.active) (slot_has addr s.pending) h) refl

none-ask : (addr : DevAddr) (a : OpenAsk) → asks_for addr a ≡ false → ask_uses addr a ≡ 0
none-ask addr a h = rw h refl

lives_none : (addr : DevAddr) (m : Machine) → lives addr m ≡ false → sum_by (device_uses addr) m.devices + sum_by (visitor_uses addr) m.visitors ≡ 0
unfolding lives
lives_none addr m h = omega (
  arith,
  none_counted (device_has addr) (device_uses addr) m.devices (λ d. none-slots addr d.slots) (or_left (list_any (device_has addr) m.devices) (list_any (visitor_has addr) m.visitors) h),
  none_counted (visitor_has addr) (visitor_uses addr) m.visitors (λ v. none-slots addr v.slots) (or_right (list_any (device_has addr) m.devices) (list_any (visitor_has addr) m.visitors) h),
)

pub uses_none : (addr : DevAddr) (m : Machine) → is_taken addr m ≡ false → uses addr m ≡ 0
unfolding is_taken
uses_none addr m h = omega (
  arith,
  lives_none addr m (or_left (lives addr m) (list_any (asks_for addr) m.asks) h),
  none_counted (asks_for addr) (ask_uses addr) m.asks (none-ask addr) (or_right (lives addr m) (list_any (asks_for addr) m.asks) h),
)

-- how many have the address beside an ask
abbrev uses_beside : ℕ → DevAddr → Machine → ℕ
uses_beside n addr m = sum_by (device_uses addr) m.devices + sum_by (visitor_uses addr) m.visitors + sum_by (ask_uses addr) (filter (is_other n) m.asks)

beside_none : (n : ℕ) (addr : DevAddr) (m : Machine) → is_taken_beside n addr m ≡ false → uses_beside n addr m ≡ 0
unfolding is_taken_beside
beside_none n addr m h = omega (
  arith,
  lives_none addr m (or_left (lives addr m) (list_any (asks_for addr) (filter (is_other n) m.asks)) h),
  none_counted (asks_for addr) (ask_uses addr) (filter (is_other n) m.asks) (none-ask addr) (or_right (lives addr m) (list_any (asks_for addr) (filter (is_other n) m.asks)) h),
)

abbrev addr_of : ℕ → DevAddr
addr_of n = record { 0 = n }

-- a new holder of an address that nobody has
given_share : (own : DevAddr) (used : DevAddr → ℕ) → used own ≡ 0 → ((a : DevAddr) → used a ≤ 1) → (a : DevAddr) → used a + count_if (own.0 == a.0) ≤ 1
given_share own used none few a = elim (eqb own.0 a.0) as (λ b. eqb own.0 a.0 ≡ b → used a + count_if b ≤ 1) [
  | true ↦ λ e. omega (arith, none, ap (λ (n : ℕ). used (addr_of n)) (eqb-true own.0 a.0 e))
  | false ↦ λ e. omega (arith, few a)
] refl

-- ---- joins

own_is_free : (n : ℕ) (own : Option OwnContext) (d : Device) (m : Machine) → IsTrue (fits_own own d m) → IsSoundTo n m → (addr : DevAddr) → uses addr m + own_uses addr own ≤ 1
own_is_free n None d m fits h addr = omega (arith, h.addresses addr)
own_is_free n (Some own) d m fits h addr = given_share own.dev_addr (λ a. uses a m) (uses_none own.dev_addr m (not-true (is_taken own.dev_addr m) (and_right d.is_home (not (is_taken own.dev_addr m)) fits))) h.addresses addr

own_at_home : (own : Option OwnContext) (d : Device) (m : Machine) → IsTrue (fits_own own d m) → own_is_home own d
own_at_home None d m fits = tt
own_at_home (Some own) d m fits = and_left d.is_home (not (is_taken own.dev_addr m)) fits

-- a step of a device that gives no address
sound-step : (n device : ℕ) (f : Device → Device) (can : Device → Bool) (m : Machine) → IsSame f → ((d : Device) → IsTrue (can d) → IsSoundDevice m.senders d → IsSoundDevice m.senders (f d)) → ((addr : DevAddr) (d : Device) → device_uses addr (f d) ≤ device_uses addr d + 0)
    → IsTrue (holds_of can (slice_get m.devices device)) → IsSoundTo n m → IsSoundTo n (on_device device f m)
sound-step n device f can m same step share fits h = sound-on_device n device f m (λ addr. 0) same (λ d e k. step d (at_some can (slice_get m.devices device) d e fits) k) (λ addr d e. share addr d) (none_more n m h) h

-- one that may give one
sound-given : (n device : ℕ) (f : Device → Device) (can : Device → Bool) (own : Option OwnContext) (m : Machine) → IsSame f → ((d : Device) → IsTrue (can d) → IsSoundDevice m.senders d → IsSoundDevice m.senders (f d)) → ((addr : DevAddr) (d : Device) → device_uses addr (f d) ≤ device_uses addr d + own_uses addr own)
    → ((d : Device) → IsTrue (can d) → IsTrue (fits_own own d m)) → IsTrue (holds_of can (slice_get m.devices device)) → IsSoundTo n m → IsSoundTo n (on_device device f m)
sound-given n device f can own m same step share free fits h = elim (slice_get m.devices device) as (λ o. slice_get m.devices device ≡ o → IsSoundTo n (on_device device f m)) [
  | None ↦ λ e. absurd (none_holds can (slice_get m.devices device) e fits)
  | (Some d) ↦ λ e. sound-on_device n device f m (λ addr. own_uses addr own) same (λ d' e' k. step d' (at_some can (slice_get m.devices device) d' e' fits) k) (λ addr d' e'. share addr d')
      (own_is_free n own d m (free d (at_some can (slice_get m.devices device) d e fits)) h) h
] refl

-- ---- changes

on_place-sound : (n : ℕ) (o : Option ℕ) (f : Device → Device) (m : Machine) → IsSame f → ((d : Device) → IsSoundDevice m.senders d → IsSoundDevice m.senders (f d)) → ((addr : DevAddr) (d : Device) → device_uses addr (f d) ≤ device_uses addr d + 0) → IsSoundTo n m → IsSoundTo n (on_place o f m)
on_place-sound n None f m same step share h = h
on_place-sound n (Some device) f m same step share h = sound-on_device n device f m (λ addr. 0) same (λ d e k. step d k) (λ addr d e. share addr d) (none_more n m h) h

sound-held_filter : (n : ℕ) (p : _ → Bool) (m : Machine) → IsSoundTo n m → IsSoundTo n (record m { held = filter p m.held })
sound-held_filter n p m h = record {
  few_devices = h.few_devices;
  few_networks = h.few_networks;
  few_visitors = h.few_visitors;
  few_held = omega (arith, h.few_held, length-filter_le p m.held);
  few_asks = h.few_asks;
  devices = h.devices;
  visitors = h.visitors;
  visitors_in_order = h.visitors_in_order;
  held_in_order = rising_filter held_number p m.held h.held_in_order;
  asks_in_order = h.asks_in_order;
  asks_before = h.asks_before;
  addresses = h.addresses;
}

sound-visitor_filter : (n : ℕ) (p : Visitor → Bool) (m : Machine) → IsSoundTo n m → IsSoundTo n (record m { visitors = filter p m.visitors })
sound-visitor_filter n p m h = record {
  few_devices = h.few_devices;
  few_networks = h.few_networks;
  few_visitors = omega (arith, h.few_visitors, length-filter_le p m.visitors);
  few_held = h.few_held;
  few_asks = h.few_asks;
  devices = h.devices;
  visitors = all_filter (IsSoundVisitor n m.devices) p m.visitors h.visitors;
  visitors_in_order = rising_filter visitor_number p m.visitors h.visitors_in_order;
  held_in_order = h.held_in_order;
  asks_in_order = h.asks_in_order;
  asks_before = h.asks_before;
  addresses = λ addr. omega (arith, h.addresses addr, sum_by-filter_le (visitor_uses addr) p m.visitors);
}

sound-dropped : (n : ℕ) (k : RoamingKind) (sender : Sender) (dev : Eui) (m : Machine) → IsSoundTo n m → IsSoundTo n (on_dropped k sender dev m)
sound-dropped n kind.Held sender dev m h = sound-held_filter n _ m h
sound-dropped n kind.Lent sender dev m h = on_place-sound n (place_of dev m) called_back m same-called_back (λ d k. sound-called_back m.senders d k) (λ addr d. use-called_back addr d) h
sound-dropped n kind.Visitor sender dev m h = sound-visitor_filter n _ m h

above_nonce : (a : Bool) (d n : ℕ) → IsTrue (a && nat_lt d n) → d < n
above_nonce a d n h = ltb-true d n (and_right a (nat_lt d n) h)

pub sound-on_change : (n : ℕ) (sender : Sender) (c : Change) (m : Machine) → IsTrue (fits_change sender c m) → IsSoundTo n m → IsSoundTo n (on_change sender c m)
unfolding on_change fits_change
sound-on_change n sender (change.Join j) m fits h = sound-given n j.device (joined j.counter j.join_nonce j.own) (fits_join j m) j.own m (same-joined j.counter j.join_nonce j.own)
    (λ d can k. sound-joined m.senders j.counter j.join_nonce j.own d (above_nonce (is_above j.counter d.dev_nonce) d.join_nonce j.join_nonce (and_left (is_above j.counter d.dev_nonce && nat_lt d.join_nonce j.join_nonce) (fits_own j.own d m) can))
    (own_at_home j.own d m (and_right (is_above j.counter d.dev_nonce && nat_lt d.join_nonce j.join_nonce) (fits_own j.own d m) can)) k)
    (λ addr d. use-joined addr j.counter j.join_nonce j.own d)
    (λ d can. and_right (is_above j.counter d.dev_nonce && nat_lt d.join_nonce j.join_nonce) (fits_own j.own d m) can) fits h
sound-on_change n sender (change.Rejoin j) m fits h = sound-given n j.device (rejoined j.used j.counter j.join_nonce j.own) (fits_rejoin j m) j.own m (same-rejoined j.used j.counter j.join_nonce j.own)
    (λ d can k. sound-rejoined m.senders j.used j.counter j.join_nonce j.own d (above_nonce (fits_used j.used j.counter d) d.join_nonce j.join_nonce (and_left (fits_used j.used j.counter d && nat_lt d.join_nonce j.join_nonce) (fits_own j.own d m) can))
    (own_at_home j.own d m (and_right (fits_used j.used j.counter d && nat_lt d.join_nonce j.join_nonce) (fits_own j.own d m) can)) k)
    (λ addr d. use-rejoined addr j.used j.counter j.join_nonce j.own d)
    (λ d can. and_right (fits_used j.used j.counter d && nat_lt d.join_nonce j.join_nonce) (fits_own j.own d m) can) fits h
sound-on_change n sender (change.Lent l) m fits h = sound-step n l.device (lent_out l.used l.counter l.join_nonce (lent_to l)) (fits_lending l) m (same-lent_out l.used l.counter l.join_nonce (lent_to l))
    (λ d can k. sound-lent_out m.senders l.used l.counter l.join_nonce (lent_to l) d (above_nonce (fits_step l.used l.counter d) d.join_nonce l.join_nonce can) k)
    (λ addr d. use-lent_out addr l.used l.counter l.join_nonce (lent_to l) d) (and_right (is_network l.net m) (holds_of (fits_lending l) (slice_get m.devices l.device)) fits) h
sound-on_change n sender (change.Up u) m fits h = sound-on_slots n (holder_of u.dev_eui m) (heard u.pending u.count u.frame u.down) m (step-heard u) h
sound-on_change n sender (change.Passive p) m fits h =
    let row : HasRow m.senders (granted_by p) = and_left (is_network p.net m) (at_home p.up.dev_eui m) (and_left (is_network p.net m && at_home p.up.dev_eui m) (fits_up p.up m) fits) in
    sound-on_slots n (holder_of p.up.dev_eui m) (heard p.up.pending p.up.count p.up.frame p.up.down) (on_place (place_of p.up.dev_eui m) (with_grant (granted_by p)) m) (step-heard p.up)
    (on_place-sound n (place_of p.up.dev_eui m) (with_grant (granted_by p)) m (same-with_grant (granted_by p)) (λ d k. sound-with_grant m.senders (granted_by p) d row k) (λ addr d. use-with_grant addr (granted_by p) d) h)
sound-on_change n sender (change.Queue q) m fits h = sound-step n q.device (queued (item_of q)) (can_queue q.number) m (same-queued (item_of q)) (λ d can k. sound-queued m.senders (item_of q) d can k) (λ addr d. use-queued addr (item_of q) d)
    (and_right (nat_le (length q.payload) 242) (holds_of (can_queue q.number) (slice_get m.devices q.device)) fits) h
sound-on_change n sender (change.Dropped d) m fits h = sound-dropped n d.what sender d.dev_eui m h

-- ---- asks

without_le : (share : OpenAsk → ℕ) (o : Option ℕ) (asks : List OpenAsk) → sum_by share (without o asks) ≤ sum_by share asks
without_le share None asks = omega arith
without_le share (Some k) asks = sum_by-filter_le share (is_other k) asks

without_all : (P : OpenAsk → Type 0) (o : Option ℕ) (asks : List OpenAsk) → AllByRecursion P asks → AllByRecursion P (without o asks)
without_all P None asks h = h
without_all P (Some k) asks h = all_filter P (is_other k) asks h

without_rising : (o : Option ℕ) (asks : List OpenAsk) → IsRisingBy ask_number asks → IsRisingBy ask_number (without o asks)
without_rising None asks h = h
without_rising (Some k) asks h = rising_filter ask_number (is_other k) asks h

all_last : {X : Type 0} (P : X → Type 0) (xs : List X) (x : X) → AllByRecursion P xs → P x → AllByRecursion P (xs ++ x ∷ [])
all_last P [] x h k = (k, tt)
all_last P (y ∷ ys) x h k = (h.0, all_last P ys x h.1 k)

asked_share : (n : ℕ) (o : Option DevAddr) (m : Machine) → IsTrue (is_free o m) → IsSoundTo n m → (addr : DevAddr) → uses addr m + count_if (is_addr addr o) ≤ 1
asked_share n None m free h addr = omega (arith, h.addresses addr)
asked_share n (Some a) m free h addr = given_share a (λ x. uses x m) (uses_none a m (not-true (is_taken a m) free)) h.addresses addr

sound-asked : (a : NewAsk) (m : Machine) → IsTrue (nat_lt (length (without a.closes m.asks)) 64) → IsTrue (is_free a.target.dev_addr m) → IsSound m → IsSoundTo (m.entries + 1) (asked a m)
sound-asked a m few free h =
    let rest = without a.closes m.asks in
    let more = sound-more m.entries (m.entries + 1) m (omega arith) h in
    record {
      few_devices = h.few_devices;
      few_networks = h.few_networks;
      few_visitors = h.few_visitors;
      few_held = h.few_held;
      few_asks = omega (arith, length-append rest (ask_of m.entries a ∷ []), ltb-true (length rest) 64 few);
      devices = h.devices;
      visitors = more.visitors;
      visitors_in_order = h.visitors_in_order;
      held_in_order = h.held_in_order;
      asks_in_order = rising-last ask_number m.entries (ask_of m.entries a) 0 rest refl (omega arith) (without_all (IsNumberedBelow m.entries) a.closes m.asks h.asks_before) (without_rising a.closes m.asks h.asks_in_order);
      asks_before = all_last (IsNumberedBelow (m.entries + 1)) rest (ask_of m.entries a) (without_all (IsNumberedBelow (m.entries + 1)) a.closes m.asks more.asks_before) (omega arith);
      addresses = λ addr. rw (sum_by_push (ask_uses addr) rest (ask_of m.entries a)) (omega (arith, asked_share m.entries a.target.dev_addr m free h addr, without_le (ask_uses addr) a.closes m.asks));
    }

sound-with_rejoin : (n : ℕ) (dev : Option Eui) (count : Option RejoinCount) (m : Machine) → IsSoundTo n m → IsSoundTo n (with_rejoin dev count m)
sound-with_rejoin n None count m h = h
sound-with_rejoin n (Some dev) None m h = h
sound-with_rejoin n (Some dev) (Some count) m h = sound-on_visitor n dev (on_active (with_count count.count)) m (step-counted count.count) h

-- ---- a peer's answer

sound-closed : (n number : ℕ) (m : Machine) → IsSoundTo n m → IsSoundTo n (closed number m)
sound-closed n number m h = record {
  few_devices = h.few_devices;
  few_networks = h.few_networks;
  few_visitors = h.few_visitors;
  few_held = h.few_held;
  few_asks = omega (arith, h.few_asks, length-filter_le (is_other number) m.asks);
  devices = h.devices;
  visitors = h.visitors;
  visitors_in_order = h.visitors_in_order;
  held_in_order = h.held_in_order;
  asks_in_order = rising_filter ask_number (is_other number) m.asks h.asks_in_order;
  asks_before = all_filter (IsNumberedBelow n) (is_other number) m.asks h.asks_before;
  addresses = λ addr. omega (arith, h.addresses addr, sum_by-filter_le (ask_uses addr) (is_other number) m.asks);
}

given_apart : (n : ℕ) (keys : _) (o : Origin) → IsGivenBefore n o → o ≡ Given n keys → ⊥
given_apart n keys (Seeded seed) h e = h
given_apart n keys (Given number other) h e = apart (ap number_in e)
  where
    number_in : Origin → ℕ
    number_in (Seeded s) = 0
    number_in (Given x k) = x

    apart : number ≡ n → ⊥
    apart same = omega (arith, h, same)

given-more : (n : ℕ) (o : Origin) → IsGivenBefore n o → IsGivenBefore (n + 1) o
given-more n (Seeded seed) h = h
given-more n (Given number keys) h = omega (arith, h)

sound-given_context : (n : ℕ) (v : NewVisitor) → IsSoundContext (given_context n v)
sound-given_context n v = record { few = omega arith; rising = omega arith; next_n = omega arith; next_a = omega arith }

sound-new : (n : ℕ) (v : NewVisitor) (m : Machine) → at_home v.dev_eui m ≡ false → IsSoundVisitor (n + 1) m.devices (new_visitor n v)
sound-new n v m stranger = record {
  slots = record { sound = record { active = tt; pending = sound-given_context n v }; active = tt; pending = omega arith; differ = tt };
  stranger = stranger;
}

sound-renewed : (n : ℕ) (new : NewVisitor) (m : Machine) (v : Visitor) → IsSoundVisitor n m.devices v → IsSoundVisitor (n + 1) m.devices (renewed n new v)
sound-renewed n new m v h = record {
  slots = slots-offered (IsGivenBefore n) (IsGivenBefore (n + 1)) (given_context n new) v.slots (sound-given_context n new) (omega arith) (given-more n) (given_apart n new.keys) h.slots;
  stranger = h.stranger;
}

has-given : (n : ℕ) (new : NewVisitor) (addr : DevAddr) → count_if (slot_has addr (Some (given_context n new))) ≡ count_if (new.dev_addr.0 == addr.0)
has-given n new addr = refl

few_put : (new : NewVisitor) (m : Machine) → IsSound m → IsTrue (list_any (is_visitor new.dev_eui) m.visitors || nat_lt (length m.visitors) 1024) → length (put_in visitor_number (new_visitor m.entries new) (renewed m.entries new) m.visitors) ≤ 1024
few_put new m h room = elim (list_any (is_visitor new.dev_eui) m.visitors) as (λ b. list_any (is_visitor new.dev_eui) m.visitors ≡ b → length (put_in visitor_number (new_visitor m.entries new) (renewed m.entries new) m.visitors) ≤ 1024) [
  | true ↦ λ e. omega (arith, h.few_visitors, length-put_there visitor_number (new_visitor m.entries new) (renewed m.entries new) m.visitors h.visitors_in_order e)
  | false ↦ λ e. omega (arith, length-put_le visitor_number (new_visitor m.entries new) (renewed m.entries new) m.visitors, ltb-true (length m.visitors) 1024 (or_rest (list_any (is_visitor new.dev_eui) m.visitors) (nat_lt (length m.visitors) 1024) e room))
] refl

sound-visit : (t : ℕ) (new : NewVisitor) (m : Machine) → IsTrue (can_visit t new.dev_eui new.dev_addr m) → IsSound m → IsSoundTo (m.entries + 1) (on_effect m.entries (effect.Visitor new) (closed t m))
unfolding can_visit on_effect visit
sound-visit t new m can h =
    let n = m.entries in
    let vs = m.visitors in
    let room : IsTrue (list_any (is_visitor new.dev_eui) m.visitors || nat_lt (length m.visitors) 1024) = and_right (not (at_home new.dev_eui m) && not (is_taken_beside t new.dev_addr m)) (has_visitor new.dev_eui m || nat_lt (length vs) 1024) can in
    let parts = and_left (not (at_home new.dev_eui m) && not (is_taken_beside t new.dev_addr m)) (has_visitor new.dev_eui m || nat_lt (length vs) 1024) can in
    let stranger : at_home new.dev_eui m ≡ false = not-true (at_home new.dev_eui m) (and_left (not (at_home new.dev_eui m)) (not (is_taken_beside t new.dev_addr m)) parts) in
    let free : is_taken_beside t new.dev_addr m ≡ false = not-true (is_taken_beside t new.dev_addr m) (and_right (not (at_home new.dev_eui m)) (not (is_taken_beside t new.dev_addr m)) parts) in
    record {
      few_devices = h.few_devices;
      few_networks = h.few_networks;
      few_visitors = few_put new m h room;
      few_held = h.few_held;
      few_asks = omega (arith, h.few_asks, length-filter_le (is_other t) m.asks);
      devices = h.devices;
      visitors = all_put (IsSoundVisitor n m.devices) (IsSoundVisitor (n + 1) m.devices) visitor_number (new_visitor n new) (renewed n new) vs (sound-new n new m stranger) (visitor-more n (n + 1) m (omega arith)) (λ v e k. sound-renewed n new m v k) h.visitors;
      visitors_in_order = rising-put visitor_number (new_visitor n new) (renewed n new) (λ v e. e) vs h.visitors_in_order;
      held_in_order = h.held_in_order;
      asks_in_order = rising_filter ask_number (is_other t) m.asks h.asks_in_order;
      asks_before = all_filter (IsNumberedBelow (n + 1)) (is_other t) m.asks (all_more (IsNumberedBelow n) (IsNumberedBelow (n + 1)) m.asks (λ a lt. omega (arith, lt)) h.asks_before);
      addresses = λ addr. omega (
        arith,
        given_share new.dev_addr (λ x. uses_beside t x m) (beside_none t new.dev_addr m free) (λ x. omega (arith, h.addresses x, sum_by-filter_le (ask_uses x) (is_other t) m.asks)) addr,
        sum_by-put visitor_number (visitor_uses addr) (new_visitor n new) (renewed n new) vs (count_if (new.dev_addr.0 == addr.0)) (omega arith) (λ v. omega arith),
      );
    }

found_any : {X : Type 0} (p : X → Bool) (xs : List X) (x : X) → find p xs ≡ Some x → list_any p xs ≡ true
found_any p [] x e = absurd cc
found_any p (y ∷ ys) x e = elim (p y) as (λ b. cond b (Some y) (find p ys) ≡ Some x → (b || list_any p ys) ≡ true) [ true ↦ λ k. refl | false ↦ λ k. found_any p ys x k ] e

-- ---- that there is room to hold

few_held : (s : HeldSession) (m : Machine) (n : ℕ) (o : Option HeldSession) → held_session s.net s.dev_addr m ≡ o → IsTrue (has_room_to_hold s.count o m) → IsSoundTo n m → length (put_in held_number s (λ (old : HeldSession). s) m.held) ≤ 4096
few_held s m n None e room h = omega (arith, length-put_le held_number s (λ (old : HeldSession). s) m.held, ltb-true (length m.held) 4096 room)
few_held s m n (Some x) e room h = omega (arith, h.few_held, length-put_there held_number s (λ (old : HeldSession). s) m.held h.held_in_order (found_any (is_session s.net s.dev_addr) m.held x e))

pub room_to_hold : (s : HeldSession) (m : Machine) (n : ℕ) → IsTrue (can_hold s.net s.dev_addr s.count m) → IsSoundTo n m → length (hold s m.held) ≤ 4096
unfolding can_hold hold
room_to_hold s m n can h = few_held s m n (held_session s.net s.dev_addr m) refl can h

sound-held : (n : ℕ) (hs : List HeldSession) (m : Machine) → length hs ≤ 4096 → IsRisingBy held_number hs → IsSoundTo n m → IsSoundTo n (record m { held = hs })
sound-held n hs m few rising h = record {
  few_devices = h.few_devices;
  few_networks = h.few_networks;
  few_visitors = h.few_visitors;
  few_held = few;
  few_asks = h.few_asks;
  devices = h.devices;
  visitors = h.visitors;
  visitors_in_order = h.visitors_in_order;
  held_in_order = rising;
  asks_in_order = h.asks_in_order;
  asks_before = h.asks_before;
  addresses = h.addresses;
}

hold-rising : (s : HeldSession) (hs : List HeldSession) → IsRisingBy held_number hs → IsRisingBy held_number (hold s hs)
unfolding hold
hold-rising s hs h = rising-put held_number s (λ (old : HeldSession). s) (λ x e. refl) hs h

move-rising : (c : HeldCount) (hs : List HeldSession) → IsRisingBy held_number hs → IsRisingBy held_number (move_count c hs)
unfolding move_count
move-rising c hs h = rising_as 0 _ _ (map-changed_there held_number (λ (x : HeldSession). record x { count = c.count }) hs (position (is_session c.net c.dev_addr) hs) (λ x. refl)) h

move-length : (c : HeldCount) (hs : List HeldSession) → length (move_count c hs) ≡ length hs
unfolding move_count
move-length c hs = length-changed_there (λ (x : HeldSession). record x { count = c.count }) hs (position (is_session c.net c.dev_addr) hs)

sound-effect : (t : ℕ) (e : Effect) (m : Machine) (a : OpenAsk) → IsTrue (fits_effect t e m a) → IsSound m → IsSoundTo (m.entries + 1) (on_effect m.entries e (closed t m))
unfolding fits_effect on_effect
sound-effect t effect.Nothing m a fits h = sound-more m.entries (m.entries + 1) (closed t m) (omega arith) (sound-closed m.entries t m h)
sound-effect t (effect.Visitor new) m a fits h = sound-visit t new m (and_right (is_network new.home m && asks_for new.dev_addr a) (can_visit t new.dev_eui new.dev_addr m) fits) h
sound-effect t (effect.Held s) m a fits h =
    let can = and_right (is_network s.net m) (can_hold s.net s.dev_addr s.count m) fits in
    sound-more m.entries (m.entries + 1) (record (closed t m) { held = hold s m.held }) (omega arith) (sound-held m.entries (hold s m.held) (closed t m) (room_to_hold s m m.entries can h) (hold-rising s m.held h.held_in_order) (sound-closed m.entries t m h))
sound-effect t (effect.Counter c) m a fits h =
    sound-more m.entries (m.entries + 1) (record (closed t m) { held = move_count c m.held }) (omega arith) (sound-held m.entries (move_count c m.held) (closed t m) (omega (arith, h.few_held, move-length c m.held)) (move-rising c m.held h.held_in_order) (sound-closed m.entries t m h))

told_case : (t : AskOutcome) (m : Machine) (o : Option OpenAsk) → IsTrue (holds_of (fits_effect t.ask t.effect m) o) → IsSound m → IsSoundTo (m.entries + 1) (on_told t m)
told_case t m None fits h = absurd cc
told_case t m (Some a) fits h = sound-effect t.ask t.effect m a fits h

-- ---- all events

sound-opened : (n : ℕ) (m : Machine) → IsSoundTo n m → IsSoundTo n (record m { asks = [] })
sound-opened n m h = record {
  few_devices = h.few_devices;
  few_networks = h.few_networks;
  few_visitors = h.few_visitors;
  few_held = h.few_held;
  few_asks = omega arith;
  devices = h.devices;
  visitors = h.visitors;
  visitors_in_order = h.visitors_in_order;
  held_in_order = h.held_in_order;
  asks_in_order = tt;
  asks_before = tt;
  addresses = λ addr. omega (arith, h.addresses addr);
}

ask_few : (a : NewAsk) (m : Machine) → IsTrue (may_ask a m) → IsTrue (nat_lt (length (without a.closes m.asks)) 64)
unfolding may_ask
ask_few a m h = and_right (is_sender a.sender m && knows_peer a.target.peer m && closes_open a.closes m) (nat_lt (length (without a.closes m.asks)) 64) h

asked_case : (a : NewAsk) (m : Machine) → IsTrue (fits_asked a m) → IsSound m → IsSoundTo (m.entries + 1) (with_rejoin a.target.dev_eui a.target.rejoin (asked a m))
unfolding fits_asked
asked_case a m fits h =
    let first = and_left (may_ask a m && is_free a.target.dev_addr m) (fits_count a.target.dev_eui a.target.rejoin m) fits in
    sound-with_rejoin (m.entries + 1) a.target.dev_eui a.target.rejoin (asked a m) (sound-asked a m (ask_few a m (and_left (may_ask a m) (is_free a.target.dev_addr m) first)) (and_right (may_ask a m) (is_free a.target.dev_addr m) first) h)

pub sound-on_event : (e : Event) (m : Machine) → IsTrue (fits_event e m) → IsSound m → IsSoundTo (m.entries + 1) (on_event e m)
unfolding on_event fits_event
sound-on_event event.Opened m fits h = sound-opened (m.entries + 1) m (sound-more m.entries (m.entries + 1) m (omega arith) h)
sound-on_event (event.Tables t) m fits h = sound-more m.entries (m.entries + 1) m (omega arith) h
sound-on_event (event.Kept r c) m fits h = sound-on_change (m.entries + 1) r.sender c m (and_right (nat_lt 0 m.entries && is_sender r.sender m) (fits_change r.sender c m) fits) (sound-more m.entries (m.entries + 1) m (omega arith) h)
sound-on_event (event.Asked a) m fits h = asked_case a m (and_right (nat_lt 0 m.entries) (fits_asked a m) fits) h
sound-on_event (event.Told t) m fits h = told_case t m (open_ask t.ask m) (and_right (nat_lt 0 m.entries) (fits_told t m) fits) h
sound-on_event (event.Suspend device) m fits h = sound-step (m.entries + 1) device (marked true) (is_marked false) m (same-marked true) (λ d can k. sound-marked m.senders true d k) (λ addr d. use-marked addr true d) (and_right (nat_lt 0 m.entries) (holds_of (is_marked false) (slice_get m.devices device)) fits) (sound-more m.entries (m.entries + 1) m (omega arith) h)
sound-on_event (event.Resume device) m fits h = sound-step (m.entries + 1) device (marked false) (is_marked true) m (same-marked false) (λ d can k. sound-marked m.senders false d k) (λ addr d. use-marked addr false d) (and_right (nat_lt 0 m.entries) (holds_of (is_marked true) (slice_get m.devices device)) fits) (sound-more m.entries (m.entries + 1) m (omega arith) h)

pub sound-wake : (who : Option Holder) (m : Machine) → IsSound m → IsSound (wake who m)
sound-wake None m h = h
sound-wake (Some (holder.Device device)) m h = sound-on_slots m.entries (Some (holder.Device device)) activated m step-activated h
sound-wake (Some (holder.Visitor dev)) m h = sound-on_slots m.entries (Some (holder.Visitor dev)) activated m step-activated h

entries-lapse : (at : ℕ) (m : Machine) → (lapse at m).entries ≡ m.entries
unfolding lapse
entries-lapse at m = refl

pub sound_lapsed : (at : ℕ) (m : Machine) → IsSound m → IsSound (lapse at m)
unfolding lapse
sound_lapsed at m h = sound-lapse m.entries at m h

pub sound-ready : (m : Machine) (e : Entry) → IsSound m → IsSound (ready m e)
unfolding ready
sound-ready m e h = sound-wake (wakes e.event (lapse e.moment.0 m)) (lapse e.moment.0 m) (sound_lapsed e.moment.0 m h)

-- an entry that fits keeps what holds of every state
pub sound-after : (m : Machine) (e : Entry) → IsTrue (fits m e) → IsSound m → IsSound (after m e)
sound-after m e can h =
    let r = ready m e in
    let k = sound-on_event e.event r (fits_its_event m e can) (sound-ready m e h) in
    let same : (on_event e.event r).entries ≡ r.entries = (stays-event e.event r).entries in
    let n : IsSoundTo ((on_event e.event r).entries + 1) (on_event e.event r) = subst (λ (x : ℕ). IsSoundTo (x + 1) (on_event e.event r)) (sym same) k in
    record {
      few_devices = n.few_devices;
      few_networks = n.few_networks;
      few_visitors = n.few_visitors;
      few_held = n.few_held;
      few_asks = n.few_asks;
      devices = n.devices;
      visitors = n.visitors;
      visitors_in_order = n.visitors_in_order;
      held_in_order = n.held_in_order;
      asks_in_order = n.asks_in_order;
      asks_before = n.asks_before;
      addresses = n.addresses;
    }

pub ask_has_place : (a : NewAsk) (m : Machine) → IsTrue (nat_lt 0 m.entries && fits_asked a m) → length (without a.closes m.asks) < 64
unfolding fits_asked
ask_has_place a m fits =
    let fits_ask : IsTrue (may_ask a m && is_free a.target.dev_addr m && fits_count a.target.dev_eui a.target.rejoin m) = and_right (nat_lt 0 m.entries) (may_ask a m && is_free a.target.dev_addr m && fits_count a.target.dev_eui a.target.rejoin m) fits in
    ltb-true (length (without a.closes m.asks)) 64 (ask_few a m (and_left (may_ask a m) (is_free a.target.dev_addr m) (and_left (may_ask a m && is_free a.target.dev_addr m) (fits_count a.target.dev_eui a.target.rejoin m) fits_ask)))
