-- Whose contexts an uplink hears, and that no other has the same counter.
use Rattle.std.proofs.Common.{◌≡◌, ℕ, Bool, true, false, cond, map, Option, Some, None, option_map, refl, sym, ap, subst, ◌∙◌, eqb-true}
use Rattle.std.specs.Prelude.{IsTrue, nat_le, length, position, slice_get}
use Rattle.std.specs.List.{AllByRecursion, list_any}
use Rattle.std.proofs.lemmas.Option.{slice_get-map}
use Rattle.wire_ids.specs.Lists.{at_place, changed_there, holds_of}
use Rattle.wire_ids.specs.declared.eui.Eui.{Eui}
use Rattle.wire_ids.proofs.Lists.{all_more}
use Rattle.contexts.specs.Slots.{woken}
use Rattle.contexts.specs.declared.context.Context.{Context}
use Rattle.contexts.specs.declared.context.Origin.{Origin}
use Rattle.contexts.specs.declared.context.Origin.TheVariants.{Given, Seeded}
use Rattle.contexts.specs.declared.slots.Slots.{Slots}
use Rattle.entries.specs.declared.change.Uplink.{Uplink}
use Rattle.entry_codec.specs.Devices.{heard, in_slots}
use Rattle.entry_codec.specs.Fits.{can_answer, can_hear, fits_slots, fits_up, is_above, is_there}
use Rattle.entry_codec.specs.Index.{device_number, names}
use Rattle.entry_codec.specs.LookUps.{device_slots, slots_of, visitor_of, visitor_slots}
use Rattle.entry_codec.specs.Machine.{Machine, holder_of, home_or_visitor, in_visitor, is_dev, is_home, is_visitor, on_slots, place_of, visitor_named, visitor_number}
use Rattle.entry_codec.specs.Sound.{AreSlots, IsGivenBefore, IsSeededTo}
use Rattle.entry_codec.specs.declared.device.Device.{Device}
use Rattle.entry_codec.specs.declared.parties.Holder.{Holder}
use Rattle.entry_codec.specs.declared.parties.Holder.TheVariants as holder
use Rattle.entry_codec.specs.declared.parties.Visitor.{Visitor}
use Rattle.entry_codec.proofs.Bools.{and_right}
use Rattle.entry_codec.proofs.Ordered.{some_is}
use Rattle.entry_codec.proofs.Places.{find-place}
use Rattle.histories.specs.Downlinks.{ContextCounter}
use Rattle.histories.proofs.Contexts.{IsNumber, PastSlots, origin_of, past-others, past-own}
use Rattle.histories.proofs.Devices.{PastDevice, PastOf, WasGiven, seed_was_given}
use Rattle.histories.proofs.Elements.{AreOnce, all_but, element, place_passes, rising_once}
use Rattle.histories.proofs.Own.{Own, OwnDevice, OwnVisitor, keys_before}
use Rattle.histories.proofs.Past.{CameBefore, Past, PastVisitor}

-- ---- by name

-- the holder with this name, and its contexts
pub record IsDevice (dev : Eui) (m : Machine) (who : Option Holder) (s : Slots) : Type 0 where
  pub place : ℕ
  pub device : Device
  pub is : who ≡ Some (holder.Device place)
  pub there : slice_get m.devices place ≡ Some device
  pub name : device.dev_eui.0 ≡ dev.0
  pub slots : device.slots ≡ s

pub record IsGuest (dev : Eui) (m : Machine) (who : Option Holder) (s : Slots) : Type 0 where
  pub place : ℕ
  pub visitor : Visitor
  pub is : who ≡ Some (holder.Visitor dev)
  pub found : position (is_visitor dev) m.visitors ≡ Some place
  pub there : slice_get m.visitors place ≡ Some visitor
  pub name : visitor.dev_eui.0 ≡ dev.0
  pub slots : visitor.slots ≡ s

pub data IsHeld (dev : Eui) (m : Machine) (who : Option Holder) (s : Slots) : Type 0 where
  AsDevice : IsDevice dev m who s → IsHeld dev m who s
  AsGuest : IsGuest dev m who s → IsHeld dev m who s

device_held : (dev : Eui) (m : Machine) (i : ℕ) (s : Slots) (o : Option Device) → slice_get m.devices i ≡ o → place_of dev m ≡ Some i → option_map device_slots o ≡ Some s → IsHeld dev m (Some (holder.Device i)) s
device_held dev m i s None there place e = absurd cc
device_held dev m i s (Some d) there place e = AsDevice (record {
  place = i;
  device = d;
  is = refl;
  there = there;
  name = eqb-true d.dev_eui.0 dev.0 (place_passes (is_dev dev) m.devices i d place there);
  slots = some_is d.slots s e;
})

guest_at : (dev : Eui) (m : Machine) (s : Slots) (o : Option ℕ) (v : Option Visitor) → position (is_visitor dev) m.visitors ≡ o → at_place m.visitors o ≡ v → option_map visitor_slots v ≡ Some s → IsHeld dev m (Some (holder.Visitor dev)) s
guest_at dev m s None v place there e = absurd cc
guest_at dev m s (Some i) None place there e = absurd cc
guest_at dev m s (Some i) (Some v) place there e = AsGuest (record {
  place = i;
  visitor = v;
  is = refl;
  found = place;
  there = there;
  name = eqb-true v.dev_eui.0 dev.0 (place_passes (is_visitor dev) m.visitors i v place there);
  slots = some_is v.slots s e;
})

guest_held : (dev : Eui) (m : Machine) (s : Slots) → option_map visitor_slots (visitor_of dev m) ≡ Some s → IsHeld dev m (Some (holder.Visitor dev)) s
guest_held dev m s e =
    let place = position (is_visitor dev) m.visitors in
    guest_at dev m s place (at_place m.visitors place) refl refl (ap (option_map visitor_slots) (sym (find-place (is_visitor dev) m.visitors place refl)) ∙ e)

named_held : (dev : Eui) (m : Machine) (s : Slots) (b : Bool) → slots_of (cond b (Some (holder.Visitor dev)) None) m ≡ Some s → IsHeld dev m (cond b (Some (holder.Visitor dev)) None) s
unfolding slots_of
named_held dev m s true e = guest_held dev m s e
named_held dev m s false e = absurd cc

home_held : (dev : Eui) (m : Machine) (s : Slots) (i : ℕ) (b : Bool) → place_of dev m ≡ Some i → slots_of (cond b (Some (holder.Device i)) (visitor_named dev m.visitors)) m ≡ Some s → IsHeld dev m (cond b (Some (holder.Device i)) (visitor_named dev m.visitors)) s
unfolding slots_of
home_held dev m s i true place e = device_held dev m i s (slice_get m.devices i) refl place e
home_held dev m s i false place e = named_held dev m s (list_any (is_visitor dev) m.visitors) e

placed_held : (dev : Eui) (m : Machine) (s : Slots) (o : Option ℕ) → place_of dev m ≡ o → slots_of (home_or_visitor dev o m) m ≡ Some s → IsHeld dev m (home_or_visitor dev o m) s
placed_held dev m s None place e = named_held dev m s (list_any (is_visitor dev) m.visitors) e
placed_held dev m s (Some i) place e = home_held dev m s i (holds_of is_home (slice_get m.devices i)) place e

pub is_held : (dev : Eui) (m : Machine) (s : Slots) → slots_of (holder_of dev m) m ≡ Some s → IsHeld dev m (holder_of dev m) s
unfolding holder_of
is_held dev m s e = placed_held dev m s (place_of dev m) refl e

-- what is past of a counter is past in the contexts of its holder
pub past_held : (k : ContextCounter) (n : ℕ) (dev : Eui) (m : Machine) (who : Option Holder) (s : Slots) → dev ≡ k.dev_eui → Past k n m → IsHeld dev m who s → PastSlots k n s
past_held k n dev m who s same h (AsDevice is) =
    subst (λ (x : Slots). PastSlots k n x) is.slots (element (PastDevice k n) m.devices is.place is.device h.devices is.there (is.name ∙ ap (λ (x : Eui). x.0) same)).slots
past_held k n dev m who s same h (AsGuest is) =
    subst (λ (x : Slots). PastSlots k n x) is.slots (element (PastVisitor k n) m.visitors is.place is.visitor h.visitors is.there (is.name ∙ ap (λ (x : Eui). x.0) same))

-- ---- the context of an uplink that fits

pub record HeardAt (u : Uplink) (m : Machine) : Type 0 where
  pub slots : Slots
  pub there : slots_of (holder_of u.dev_eui m) m ≡ Some slots
  pub context : Context
  pub active : (woken u.pending slots).active ≡ Some context
  pub can : IsTrue (can_answer u.down context)

heard_active : (u : Uplink) (m : Machine) (s : Slots) (o : Option Context) → slots_of (holder_of u.dev_eui m) m ≡ Some s → (woken u.pending s).active ≡ o → IsTrue (holds_of (can_hear u.count u.down) o) → HeardAt u m
heard_active u m s None there active h = absurd cc
heard_active u m s (Some c) there active h = record { slots = s; there = there; context = c; active = active; can = and_right (is_above u.count c.last) (can_answer u.down c) h }

heard_slots : (u : Uplink) (m : Machine) (o : Option Slots) → slots_of (holder_of u.dev_eui m) m ≡ o → IsTrue (holds_of (fits_slots u.pending u.count u.down) o) → HeardAt u m
unfolding fits_slots
heard_slots u m None there h = absurd cc
heard_slots u m (Some s) there h = heard_active u m s (woken u.pending s).active there refl (and_right (is_there u.pending s) (holds_of (can_hear u.count u.down) (woken u.pending s).active) h)

pub heard_at : (u : Uplink) (m : Machine) → IsTrue (fits_up u m) → HeardAt u m
heard_at u m h =
    heard_slots u m (slots_of (holder_of u.dev_eui m) m) refl (and_right (nat_le (length u.frame) 255) (holds_of (fits_slots u.pending u.count u.down) (slots_of (holder_of u.dev_eui m) m)) h)

-- ---- no other context has the counter

-- a device's own contexts have seeds, a visitor's have given keys
seed_given : (last entries : ℕ) (own : Origin) → IsSeededTo last own → (o : Origin) → IsGivenBefore entries o → o ≡ own → ⊥
seed_given last entries own seeded (Seeded seed) given e = given
seed_given last entries (Seeded seed) seeded (Given number keys) given e = absurd cc
seed_given last entries (Given x y) seeded (Given number keys) given e = seeded

given_seed : (entries last : ℕ) (own : Origin) → IsGivenBefore entries own → (o : Origin) → IsSeededTo last o → o ≡ own → ⊥
given_seed entries last own given o seeded e = seed_given last entries o seeded own given (sym e)

seed_before : (last entries : ℕ) (o : Origin) → IsSeededTo last o → CameBefore entries o
seed_before last entries (Seeded seed) h = tt
seed_before last entries (Given number keys) h = absurd h

no_seed : (entries last : ℕ) (o : Origin) → IsGivenBefore entries o → WasGiven last o
no_seed entries last (Seeded seed) h = absurd h
no_seed entries last (Given number keys) h = tt

module _ (u : Uplink) (m : Machine) (k : ContextCounter) (n : ℕ) (own : Own m.entries m) (once : AreOnce (names m.devices)) (at : HeardAt u m) (is : IsNumber u.down u.dev_eui at.context k n) where
  abbrev pub step : Slots → Slots
  step s = heard u.pending u.count u.frame u.down s

  device_named : (j : ℕ) (d : Device) → slice_get m.devices j ≡ Some d → slice_get (names m.devices) j ≡ Some d.dev_eui.0
  device_named j d there = slice_get-map device_number m.devices j ∙ ap (option_map device_number) there

  visitor_named_at : (j : ℕ) (v : Visitor) → slice_get m.visitors j ≡ Some v → slice_get (map visitor_number m.visitors) j ≡ Some v.dev_eui.0
  visitor_named_at j v there = slice_get-map visitor_number m.visitors j ∙ ap (option_map visitor_number) there

  of_device : IsDevice u.dev_eui m (holder_of u.dev_eui m) at.slots → Past k n (on_slots (holder_of u.dev_eui m) step m)
  of_device h =
      let has : OwnDevice h.device = element OwnDevice m.devices h.place h.device own.devices h.there in
      let last = h.device.join_nonce in
      let slots : AreSlots (IsSeededTo last) at.slots = subst (λ (x : Slots). AreSlots (IsSeededTo last) x) h.slots has in
      let seeded : IsSeededTo last k.origin = subst (IsSeededTo last) is.origin (origin_of (IsSeededTo last) u.pending u.down u.dev_eui at.slots at.context k n slots at.active) in
      let past : PastSlots k n (step at.slots) = past-own (IsSeededTo last) u.pending u.down u.dev_eui at.slots at.context k n u.count u.frame slots at.active at.can is in
      let after : PastOf k n (in_slots step h.device) = record { given = seed_was_given last k.origin seeded; slots = subst (λ (x : Slots). PastSlots k n (step x)) (sym h.slots) past } in
      subst (λ (who : Option Holder). Past k n (on_slots who step m)) (sym h.is) (record {
        before = seed_before last m.entries k.origin seeded;
        devices = all_but (PastDevice k n) h.place (in_slots step) m.devices
            (λ j d there apart e. absurd (apart (once j h.place k.dev_eui.0 (device_named j d there ∙ ap Some e) (device_named h.place h.device h.there ∙ ap Some (h.name ∙ ap (λ (x : Eui). x.0) is.name)))))
            (λ d there e. subst (λ (x : Device). PastOf k n (in_slots step x)) (some_is h.device d (sym h.there ∙ there)) after);
        visitors = all_more (OwnVisitor m.entries) (PastVisitor k n) m.visitors (λ v s e. past-others (IsGivenBefore m.entries) k n v.slots (seed_given last m.entries k.origin seeded) s) own.visitors;
      })

  of_guest : IsGuest u.dev_eui m (holder_of u.dev_eui m) at.slots → Past k n (on_slots (holder_of u.dev_eui m) step m)
  of_guest h =
      let has : OwnVisitor m.entries h.visitor = element (OwnVisitor m.entries) m.visitors h.place h.visitor own.visitors h.there in
      let slots : AreSlots (IsGivenBefore m.entries) at.slots = subst (λ (x : Slots). AreSlots (IsGivenBefore m.entries) x) h.slots has in
      let given : IsGivenBefore m.entries k.origin = subst (IsGivenBefore m.entries) is.origin (origin_of (IsGivenBefore m.entries) u.pending u.down u.dev_eui at.slots at.context k n slots at.active) in
      let past : PastSlots k n (step at.slots) = past-own (IsGivenBefore m.entries) u.pending u.down u.dev_eui at.slots at.context k n u.count u.frame slots at.active at.can is in
      subst (λ (who : Option Holder). Past k n (on_slots who step m)) (sym h.is) (record {
        before = keys_before m.entries k.origin given;
        devices = all_more OwnDevice (PastDevice k n) m.devices (λ d s e. record {
          given = no_seed m.entries d.join_nonce k.origin given;
          slots = past-others (IsSeededTo d.join_nonce) k n d.slots (given_seed m.entries d.join_nonce k.origin given) s;
        }) own.devices;
        visitors = subst (λ (o : Option ℕ). AllByRecursion (PastVisitor k n) (changed_there (in_visitor step) m.visitors o)) (sym h.found)
            (all_but (PastVisitor k n) h.place (in_visitor step) m.visitors
            (λ j v there apart e. absurd (apart (rising_once 0 (map visitor_number m.visitors) own.in_order j h.place k.dev_eui.0 (visitor_named_at j v there ∙ ap Some e) (visitor_named_at h.place h.visitor h.there ∙ ap Some (h.name ∙ ap (λ (x : Eui). x.0) is.name)))))
            (λ v there e. subst (λ (x : Visitor). PastSlots k n (step x.slots)) (some_is h.visitor v (sym h.there ∙ there)) (subst (λ (x : Slots). PastSlots k n (step x)) (sym h.slots) past)));
      })

  pub past_to : Past k n (on_slots (holder_of u.dev_eui m) step m)
  past_to = by (is_held u.dev_eui m at.slots at.there)
    where
      by : IsHeld u.dev_eui m (holder_of u.dev_eui m) at.slots → Past k n (on_slots (holder_of u.dev_eui m) step m)
      by (AsDevice h) = of_device h
      by (AsGuest h) = of_guest h
