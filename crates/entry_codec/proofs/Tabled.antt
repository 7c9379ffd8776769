-- The table of addresses is the one that the state tells, after each change.
use Rattle.std.proofs.Common.{inl, inr, ◌<◌, length, get_or, take, add-one, ◌≡◌, ℕ, zero, suc, ◌+◌, ◌≤◌, Bool, true, false, cond, eqb, eq-eqb, List, [], ◌∷◌, map, Option, Some, None, option_map, refl, sym, ap, subst, ◌∙◌, arith}
use Rattle.std.specs.Prelude.{◌&&◌, ◌||◌, find, is_some, not, position, slice_get, sum_by}
use Rattle.std.specs.List.{filter, list_any}
use Rattle.std.proofs.lemmas.Bool.{cases_Bool, eqb-true, false≢true}
use Rattle.std.proofs.lemmas.Option.{slice_get_cases}
use Rattle.std.proofs.lemmas.List.Filters.{sum_by-filter_both}
use Rattle.wire_ids.specs.Lists.{holds_of}
use Rattle.wire_ids.specs.declared.address.DevAddr.{DevAddr}
use Rattle.wire_ids.specs.declared.eui.Eui.{Eui}
use Rattle.wire_ids.proofs.Lists.{sum_by-map_le}
use Rattle.address_table.specs.Table.{IsFirstFree as IsFirstLeft, Table, addr_at, is_addr as is_own_addr, is_held, knows, owner_of, window}
use Rattle.address_table.specs.declared.owner.Owner.{Owner}
use Rattle.address_table.specs.declared.owner.Owner.TheVariants as owner
use Rattle.contexts.specs.declared.slots.Slots.{Slots}
use Rattle.entry_codec.specs.Addresses.{IsTable, IsTableBut, PutIn, TakenOut, ask_ended, guest_ended, has, has_ended, holder_by, is_an_ask, is_ask_with, is_guest_with, is_the_owner, one_has, touched_by, touches}
use Rattle.entry_codec.specs.LookUps.{is_addr, asks_for, device_has, holder_from, holder_with, is_taken, live_at, live_context, lives, slot_has, slots_have, visitor_has}
use Rattle.entry_codec.specs.Machine.{Machine, after, entered, has_number, is_open, is_visitor, lapse, on_event, ready, visits, wake, wakes}
use Rattle.agreements.specs.Walk.{Config}
use Rattle.entries.specs.declared.entry.Entry.{Entry}
use Rattle.entry_codec.specs.Devices.{lapsed}
use Rattle.entry_codec.specs.Empty.{empty}
use Rattle.entry_codec.specs.Free.{IsFirstFree, leaving}
use Rattle.entry_codec.proofs.SoundEmpty.{uses_empty}
use Rattle.entry_codec.specs.Ordered.{IsRisingFrom}
use Rattle.entries.specs.declared.entry.Event.{Event}
use Rattle.entries.specs.declared.entry.Event.TheVariants as event
use Rattle.entry_codec.specs.Sound.{IsSound, ask_uses, device_uses, uses, visitor_uses}
use Rattle.entry_codec.specs.declared.addresses.Touched.{Touched}
use Rattle.entry_codec.specs.declared.device.Device.{Device}
use Rattle.entry_codec.specs.declared.parties.Holder.{Holder}
use Rattle.entry_codec.specs.declared.parties.Holder.TheVariants as holder
use Rattle.entry_codec.specs.declared.parties.OpenAsk.{OpenAsk}
use Rattle.entry_codec.specs.declared.parties.Visitor.{Visitor}
use Rattle.entry_codec.proofs.Ordered.{place_within, some_is}
use Rattle.entry_codec.proofs.Owners.{HasOne, any_one, ask_counted, both, find_passes, has_as, has_used, is_the_one, neither, not_both, one_owner, or_other, slots_counted, the_owner_is, untouched}
use Rattle.entry_codec.proofs.Places.{find-place}
use Rattle.entry_codec.proofs.Ready.{device_lapsed, has-lapsed}
use Rattle.entry_codec.proofs.SoundDevices.{use-lapsed}
use Rattle.entry_codec.proofs.Sums.{holds_same}
use Rattle.entry_codec.proofs.Window.{any_filter, awake_taken}

pub or_nothing : (b : Bool) → (b || false) ≡ b
or_nothing true = refl
or_nothing false = refl

pub is_false : (b : Bool) → (b ≡ true → ⊥) → b ≡ false
is_false true never = absurd (never refl)
is_false false never = refl

none_is_some : {A : Type 0} (x : A) → None ≡ Some x → ⊥
none_is_some x e = absurd cc

-- ---- several addresses at once

pub taken_then : (p q : DevAddr → Bool) (a b c : Table) → TakenOut p a b → TakenOut q b c → TakenOut (λ (x : DevAddr). p x || q x) a c
taken_then p q a b c h k = record {
  known = λ x. k.known x ∙ h.known x;
  owners = λ x. k.owners x ∙ ap (λ (o : Option Owner). cond (q x) None o) (h.owners x) ∙ by (p x) (q x) (owner_of x a);
}
  where
    by : (s t : Bool) (o : Option Owner) → cond t None (cond s None o) ≡ cond (s || t) None o
    by true true o = refl
    by true false o = refl
    by false true o = refl
    by false false o = refl

pub put_then : (who : Option Owner) (p q : DevAddr → Bool) (a b c : Table) → PutIn who p a b → PutIn who q b c → PutIn who (λ (x : DevAddr). p x || q x) a c
put_then who p q a b c h k = record {
  known = λ x t. h.known x (k.known x t);
  owners = λ x t. k.owners x t ∙ ap (λ (o : Option Owner). cond (q x) who o) (h.owners x (k.known x t)) ∙ by (p x) (q x) (owner_of x a);
}
  where
    by : (s t : Bool) (o : Option Owner) → cond t who (cond s who o) ≡ cond (s || t) who o
    by true true o = refl
    by true false o = refl
    by false true o = refl
    by false false o = refl

pub taken_slots : (s : Slots) (a b c : Table) → TakenOut (λ (x : DevAddr). slot_has x s.active) a b → TakenOut (λ (x : DevAddr). slot_has x s.pending) b c → TakenOut (λ (x : DevAddr). slots_have x s) a c
unfolding slots_have
taken_slots s a b c h k = taken_then (λ (x : DevAddr). slot_has x s.active) (λ (x : DevAddr). slot_has x s.pending) a b c h k

pub put_slots : (who : Option Owner) (s : Slots) (a b c : Table) → PutIn who (λ (x : DevAddr). slot_has x s.active) a b → PutIn who (λ (x : DevAddr). slot_has x s.pending) b c → PutIn who (λ (x : DevAddr). slots_have x s) a c
unfolding slots_have
put_slots who s a b c h k = put_then who (λ (x : DevAddr). slot_has x s.active) (λ (x : DevAddr). slot_has x s.pending) a b c h k

pub taken_as : (p q : DevAddr → Bool) (a b : Table) → ((x : DevAddr) → p x ≡ q x) → TakenOut p a b → TakenOut q a b
taken_as p q a b same h = record { known = h.known; owners = λ x. h.owners x ∙ ap (λ (t : Bool). cond t None (owner_of x a)) (same x) }

pub put_as : (who : Option Owner) (p q : DevAddr → Bool) (a b : Table) → ((x : DevAddr) → p x ≡ q x) → PutIn who p a b → PutIn who q a b
put_as who p q a b same h = record { known = h.known; owners = λ x t. h.owners x t ∙ ap (λ (t : Bool). cond t who (owner_of x a)) (same x) }

pub none_put : (who : Option Owner) (a : Table) → PutIn who (λ (x : DevAddr). false) a a
none_put who a = record { known = λ x k. k; owners = λ x k. refl }

pub none_taken : (a : Table) → TakenOut (λ (x : DevAddr). false) a a
none_taken a = record { known = λ x. refl; owners = λ x. refl }

pub taken_more : {X : Type 0} (p : DevAddr → X → Bool) (xs : List X) (i : ℕ) (d : X) (a b c : Table) → i < length xs → TakenOut (λ (x : DevAddr). list_any (p x) (take i xs)) a b → TakenOut (λ (x : DevAddr). p x (get_or xs i d)) b c → TakenOut (λ (x : DevAddr). list_any (p x) (take (i + 1) xs)) a c
taken_more p xs i d a b c lt h k =
    taken_as (λ (x : DevAddr). list_any (p x) (take i xs) || p x (get_or xs i d)) (λ (x : DevAddr). list_any (p x) (take (i + 1) xs)) a c (λ x. any_next (p x) xs i d lt ∙ ap (λ (n : ℕ). list_any (p x) (take n xs)) (sym (add-one i)))
    (taken_then (λ (x : DevAddr). list_any (p x) (take i xs)) (λ (x : DevAddr). p x (get_or xs i d)) a b c h k)
  where
    or_swap : (x y z : Bool) → ((x || y) || z) ≡ (x || (y || z))
    or_swap true y z = refl
    or_swap false y z = refl

    any_next : {X : Type 0} (q : X → Bool) (xs : List X) (i : ℕ) (d : X) → i < length xs → (list_any q (take i xs) || q (get_or xs i d)) ≡ list_any q (take (suc i) xs)
    any_next q [] i d lt = absurd (omega (arith, lt))
    any_next q (x ∷ xs) zero d lt = sym (or_nothing (q x))
    any_next q (x ∷ xs) (suc i) d lt = or_swap (q x) (list_any q (take i xs)) (q (get_or xs i d)) ∙ ap (λ (b : Bool). q x || b) (any_next q xs i d (omega (arith, lt)))

-- ---- one by its number

module _ {X : Type 0} (number : X → ℕ) (p : X → Bool) (n : ℕ) where
  none_named : (low : ℕ) (xs : List X) → IsRisingFrom low (map number xs) → n < low → list_any (λ (x : X). eqb (number x) n && p x) xs ≡ false
  none_named low [] h lt = refl
  none_named low (x ∷ xs) h lt =
      let other : eqb (number x) n ≡ false = is_false (eqb (number x) n) (λ t. absurd (omega (arith, lt, h.0, eqb-true (number x) n t))) in
      ap (λ (b : Bool). (b && p x) || list_any (λ (y : X). eqb (number y) n && p y) xs) other ∙ none_named (number x + 1) xs h.1 (omega (arith, lt, h.0))

  pub named_once : (low : ℕ) (xs : List X) → IsRisingFrom low (map number xs) → list_any (λ (x : X). eqb (number x) n && p x) xs ≡ holds_of p (find (λ (x : X). eqb (number x) n) xs)
  named_once low [] h = refl
  named_once low (x ∷ xs) h = elim (cases_Bool (eqb (number x) n)) [
    | inl t ↦
        ap (λ (b : Bool). (b && p x) || list_any (λ (y : X). eqb (number y) n && p y) xs) t ∙ ap (λ (b : Bool). p x || b) (none_named (number x + 1) xs h.1 (omega (arith, eqb-true (number x) n t))) ∙ or_nothing (p x)
        ∙ sym (ap (λ (b : Bool). holds_of p (cond b (Some x) (find (λ (y : X). eqb (number y) n) xs))) t)
    | inr f ↦
        ap (λ (b : Bool). (b && p x) || list_any (λ (y : X). eqb (number y) n && p y) xs) f ∙ named_once (number x + 1) xs h.1
        ∙ sym (ap (λ (b : Bool). holds_of p (cond b (Some x) (find (λ (y : X). eqb (number y) n) xs))) f)
  ]

pub guest_is : (m : Machine) → IsSound m → (dev : Eui) (o : Option Visitor) → find (is_visitor dev) m.visitors ≡ o → (a : DevAddr) → holds_of (visitor_has a) o ≡ has (owner.Visitor dev) a m
unfolding has
guest_is m h dev o e a = ap (holds_of (visitor_has a)) (sym e) ∙ sym (named_once (λ (v : Visitor). v.dev_eui.0) (visitor_has a) dev.0 0 m.visitors h.visitors_in_order)

pub ask_is : (m : Machine) → IsSound m → (n : ℕ) (o : Option OpenAsk) → find (has_number n) m.asks ≡ o → (a : DevAddr) → holds_of (asks_for a) o ≡ has (owner.Ask n) a m
unfolding has
ask_is m h n o e a = ap (holds_of (asks_for a)) (sym e) ∙ sym (named_once (λ (k : OpenAsk). k.number) (asks_for a) n 0 m.asks h.asks_in_order)

pub device_is : (m : Machine) (i : ℕ) (o : Option Device) → slice_get m.devices i ≡ o → (a : DevAddr) → holds_of (device_has a) o ≡ has (owner.Device i) a m
unfolding has
device_is m i o e a = ap (holds_of (device_has a)) (sym e)

-- ---- out of the table, and in again

-- an owner that was left: what stood there stands there
left_there : (p : Bool) (x : Option Owner) (o : Owner) → cond p None x ≡ Some o → (p ≡ false) × (x ≡ Some o)
left_there true x o e = absurd (none_is_some o e)
left_there false x o e = (refl, e)

pub but_out : (who : Option Owner) (out : Owner → Bool) (t k : Table) (m : Machine) → HasOne m → TakenOut (λ (a : DevAddr). one_has who a m) t k → IsTableBut out t m → IsTableBut (λ (o : Owner). is_the_owner who o || out o) k m
but_out who out t k m few w h = record {
  there = λ o a kn e.
      let p = left_there (one_has who a m) (owner_of a t) o (sym (w.owners a) ∙ e) in
      let b = h.there o a (sym (w.known a) ∙ kn) p.1 in
      let other : is_the_owner who o ≡ false = is_false (is_the_owner who o) (λ y. not_both (has o a m) b.0 (sym (ap (λ (q : Option Owner). one_has q a m) (the_owner_is who o y)) ∙ p.0)) in (
        b.0,
        ap (λ (s : Bool). s || out o) other ∙ b.1,
      );
  all = λ o a kn hs outs.
      let n = neither (is_the_owner who o) (out o) outs in
      let other : one_has who a m ≡ false = is_false (one_has who a m) (λ y. not_both (is_the_owner who o) (is_the_one m few a who o y hs) n.0) in
      w.owners a ∙ ap (λ (s : Bool). cond s None (owner_of a t)) other ∙ h.all o a (sym (w.known a) ∙ kn) hs n.1;
}

back : (s b : Bool) → b ≡ false → (not s && b) ≡ false
back true b f = refl
back false b f = f

found_there : (C : Type 0) (p : Bool) (who x : Option Owner) (o : Owner) → cond p who x ≡ Some o → (p ≡ true → who ≡ Some o → C) → (p ≡ false → x ≡ Some o → C) → C
found_there C true who x o e f g = f refl e
found_there C false who x o e f g = g refl e

pub but_in : (who : Option Owner) (out : Owner → Bool) (t k : Table) (m : Machine) → HasOne m → PutIn who (λ (a : DevAddr). one_has who a m) t k → IsTableBut out t m → IsTableBut (λ (o : Owner). not (is_the_owner who o) && out o) k m
but_in who out t k m few w h = record {
  there = λ o a kn e. found_there ((has o a m ≡ true) × ((not (is_the_owner who o) && out o) ≡ false)) (one_has who a m) who (owner_of a t) o (sym (w.owners a kn) ∙ e)
      (λ y is.
      let hs : has o a m ≡ true = sym (ap (λ (q : Option Owner). one_has q a m) is) ∙ y in (
        hs,
        ap (λ (s : Bool). not s && out o) (is_the_one m few a who o y hs),
      ))
      (λ n is. let b = h.there o a (w.known a kn) is in (b.0, back (is_the_owner who o) (out o) b.1));
  all = λ o a kn hs outs. elim (cases_Bool (is_the_owner who o)) [
    | inl y ↦
        let is : who ≡ Some o = the_owner_is who o y in
        w.owners a kn ∙ ap (λ (s : Bool). cond s who (owner_of a t)) (ap (λ (q : Option Owner). one_has q a m) is ∙ hs) ∙ is
    | inr n ↦
        let other : one_has who a m ≡ false = is_false (one_has who a m) (λ y. not_both (is_the_owner who o) (is_the_one m few a who o y hs) n) in
        w.owners a kn ∙ ap (λ (s : Bool). cond s who (owner_of a t)) other ∙ h.all o a (w.known a kn) hs (sym (ap (λ (s : Bool). not s && out o) n) ∙ outs)
  ];
}

module _ {X : Type 0} where
  -- some element passes: one with its own number
  pub any_numbered : (number : X → ℕ) (p : X → Bool) (xs : List X) → list_any p xs ≡ true → (n : ℕ) × (list_any (λ (x : X). eqb (number x) n && p x) xs ≡ true)
  any_numbered number p [] h = absurd (false≢true h)
  any_numbered number p (x ∷ xs) h = elim (cases_Bool (p x)) [
    | inl t ↦ (number x, ap (λ (b : Bool). b || list_any (λ (y : X). eqb (number y) (number x) && p y) xs) (ap (λ (b : Bool). b && p x) (eq-eqb (number x) (number x) refl) ∙ t))
    | inr f ↦
        let rest = any_numbered number p xs (or_other (p x) (list_any p xs) f h) in
        (rest.0, ap (λ (b : Bool). (eqb (number x) rest.0 && p x) || b) rest.1 ∙ or_true (eqb (number x) rest.0 && p x))
  ]
    where
      or_true : (b : Bool) → (b || true) ≡ true
      or_true true = refl
      or_true false = refl

  pub any_passing : (p q : X → Bool) → ((x : X) → p x ≡ true → q x ≡ true) → (xs : List X) → list_any p xs ≡ true → list_any q xs ≡ true
  any_passing p q more [] h = absurd (false≢true h)
  any_passing p q more (x ∷ xs) h = elim (cases_Bool (p x)) [
    | inl t ↦ ap (λ (b : Bool). b || list_any q xs) (more x t)
    | inr f ↦ ap (λ (b : Bool). q x || b) (any_passing p q more xs (or_other (p x) (list_any p xs) f h)) ∙ or_true (q x)
  ]
    where
      or_true : (b : Bool) → (b || true) ≡ true
      or_true true = refl
      or_true false = refl

  pub any_place : (p : X → Bool) (xs : List X) → list_any p xs ≡ true → (i : ℕ) × (holds_of p (slice_get xs i) ≡ true)
  any_place p [] h = absurd (false≢true h)
  any_place p (x ∷ xs) h = elim (cases_Bool (p x)) [
    | inl t ↦ (0, t)
    | inr f ↦ let rest = any_place p xs (or_other (p x) (list_any p xs) f h) in (suc rest.0, rest.1)
  ]

  pub any_at : (p : X → Bool) (xs : List X) (i : ℕ) → holds_of p (slice_get xs i) ≡ true → list_any p xs ≡ true
  any_at p [] i h = absurd (false≢true h)
  any_at p (x ∷ xs) zero h = ap (λ (b : Bool). b || list_any p xs) h
  any_at p (x ∷ xs) (suc i) h = ap (λ (b : Bool). p x || b) (any_at p xs i h) ∙ or_true (p x)
    where
      or_true : (b : Bool) → (b || true) ≡ true
      or_true true = refl
      or_true false = refl

  -- what passes and isn't gone is still there
  pub any_left : (p q gone : X → Bool) → ((x : X) → p x ≡ true → q x ≡ false → gone x ≡ true) → (xs : List X) → list_any gone xs ≡ false → list_any p xs ≡ true → list_any p (filter q xs) ≡ true
  any_left p q gone goes [] g h = absurd (false≢true h)
  any_left p q gone goes (x ∷ xs) g h =
      let n = neither (gone x) (list_any gone xs) g in
      elim (cases_Bool (q x)) [
        | inl t ↦ ap (λ (b : Bool). list_any p (cond b (x ∷ filter q xs) (filter q xs))) t ∙ elim (cases_Bool (p x)) [
          | inl u ↦ ap (λ (b : Bool). b || list_any p (filter q xs)) u
          | inr f ↦ ap (λ (b : Bool). b || list_any p (filter q xs)) f ∙ any_left p q gone goes xs n.1 (or_other (p x) (list_any p xs) f h)
        ]
        | inr f ↦ ap (λ (b : Bool). list_any p (cond b (x ∷ filter q xs) (filter q xs))) f ∙ any_left p q gone goes xs n.1 (or_other (p x) (list_any p xs) (is_false (p x) (λ u. not_both (gone x) (goes x u f) n.0)) h)
      ]

  pub any_before : (p q : X → Bool) (xs : List X) → list_any p (filter q xs) ≡ true → list_any p xs ≡ true
  any_before p q xs h = any_passing (λ (x : X). q x && p x) p (λ x t. (both (q x) (p x) t).1) xs (sym (any_filter q p xs) ∙ h)

-- ---- all asks

ask_there : (m : Machine) (a : DevAddr) → list_any (asks_for a) m.asks ≡ true → (n : ℕ) × (has (owner.Ask n) a m ≡ true)
unfolding has
ask_there m a h = any_numbered (λ (k : OpenAsk). k.number) (asks_for a) m.asks h

guest_there : (m : Machine) (a : DevAddr) → list_any (visitor_has a) m.visitors ≡ true → (n : ℕ) × (has (owner.Visitor (record { 0 = n })) a m ≡ true)
unfolding has
guest_there m a h = any_numbered (λ (v : Visitor). v.dev_eui.0) (visitor_has a) m.visitors h

device_there : (m : Machine) (a : DevAddr) → list_any (device_has a) m.devices ≡ true → (i : ℕ) × (has (owner.Device i) a m ≡ true)
unfolding has
device_there m a h = any_place (device_has a) m.devices h

ask_asks : (m : Machine) (a : DevAddr) (n : ℕ) → has (owner.Ask n) a m ≡ true → list_any (asks_for a) m.asks ≡ true
unfolding has
ask_asks m a n h = any_passing (is_ask_with n a) (asks_for a) (λ k t. (both (has_number n k) (asks_for a k) t).1) m.asks h

guest_has : (m : Machine) (a : DevAddr) (dev : Eui) → has (owner.Visitor dev) a m ≡ true → list_any (visitor_has a) m.visitors ≡ true
unfolding has
guest_has m a dev h = any_passing (is_guest_with dev a) (visitor_has a) (λ v t. (both (is_visitor dev v) (visitor_has a v) t).1) m.visitors h

own_has : (m : Machine) (a : DevAddr) (i : ℕ) → has (owner.Device i) a m ≡ true → list_any (device_has a) m.devices ≡ true
unfolding has
own_has m a i h = any_at (device_has a) m.devices i h

and_true : (b : Bool) → (b && false) ≡ false
and_true true = refl
and_true false = refl

asks_only : (all : Bool) (m : Machine) (a : DevAddr) (o : Owner) → has o a m ≡ true → (all && list_any (asks_for a) m.asks) ≡ false → (all && is_an_ask o) ≡ false
asks_only all m a (owner.Device i) h f = and_true all
asks_only all m a (owner.Visitor d) h f = and_true all
asks_only all m a (owner.Ask n) h f = sym (ap (λ (b : Bool). all && b) (ask_asks m a n h)) ∙ f

pub but_asks : (all : Bool) (out : Owner → Bool) (t k : Table) (m : Machine) → HasOne m → TakenOut (λ (a : DevAddr). all && list_any (asks_for a) m.asks) t k → IsTableBut out t m → IsTableBut (λ (o : Owner). all && is_an_ask o || out o) k m
but_asks all out t k m few w h = record {
  there = λ o a kn e.
      let p = left_there (all && list_any (asks_for a) m.asks) (owner_of a t) o (sym (w.owners a) ∙ e) in
      let b = h.there o a (sym (w.known a) ∙ kn) p.1 in (
        b.0,
        ap (λ (s : Bool). s || out o) (asks_only all m a o b.0 p.0) ∙ b.1,
      );
  all = λ o a kn hs outs.
      let n = neither (all && is_an_ask o) (out o) outs in
      let other : (all && list_any (asks_for a) m.asks) ≡ false = is_false (all && list_any (asks_for a) m.asks) (λ y.
      let two = both all (list_any (asks_for a) m.asks) y in
      let who = ask_there m a two.1 in
      not_both (all && is_an_ask o) (ap (λ (s : Bool). s && is_an_ask o) two.0 ∙ ap is_an_ask (one_owner m few a o (owner.Ask who.0) hs who.1)) n.0) in
      w.owners a ∙ ap (λ (s : Bool). cond s None (owner_of a t)) other ∙ h.all o a (sym (w.known a) ∙ kn) hs n.1;
}

pub all_back : (out : Owner → Bool) (t : Table) (m : Machine) → IsTableBut out t m → ((o : Owner) (a : DevAddr) → out o ≡ true → has o a m ≡ false) → IsTable t m
all_back out t m h none = record {
  there = λ o a kn e. ((h.there o a kn e).0, refl);
  all = λ o a kn hs f. h.all o a kn hs (is_false (out o) (λ y. not_both (has o a m) hs (none o a y)));
}

pub table_moved : (out : Owner → Bool) (t : Table) (m k : Machine) → ((o : Owner) (a : DevAddr) → out o ≡ false → has o a k ≡ has o a m) → IsTableBut out t m → IsTableBut out t k
table_moved out t m k same h = record {
  there = λ o a kn e. let b = h.there o a kn e in (same o a b.1 ∙ b.0, b.1);
  all = λ o a kn hs f. h.all o a kn (sym (same o a f) ∙ hs) f;
}

pub but_same : (p q : Owner → Bool) (t : Table) (m : Machine) → ((o : Owner) → q o ≡ p o) → IsTableBut p t m → IsTableBut q t m
but_same p q t m same h = record {
  there = λ o a kn e. let b = h.there o a kn e in (b.0, same o ∙ b.1);
  all = λ o a kn hs f. h.all o a kn hs (sym (same o) ∙ f);
}

-- ---- all that an event touches

pub taken_touched : (w : Touched) (a b c d e : Table) (m : Machine) → HasOne m → TakenOut (λ (x : DevAddr). one_has w.holder x m) a b → TakenOut (λ (x : DevAddr). one_has w.closed x m) b c → TakenOut (λ (x : DevAddr). one_has w.asked x m) c d → TakenOut (λ (x : DevAddr). w.all_asks && list_any (asks_for x) m.asks) d e
    → IsTable a m → IsTableBut (touches w) e m
taken_touched w a b c d e m few h k l n is =
    but_same (λ (o : Owner). w.all_asks && is_an_ask o || (is_the_owner w.asked o || (is_the_owner w.closed o || (is_the_owner w.holder o || false)))) (touches w) e m
    (λ o. ap (λ (s : Bool). w.all_asks && is_an_ask o || (is_the_owner w.asked o || (is_the_owner w.closed o || s))) (sym (or_nothing (is_the_owner w.holder o))))
    (but_asks w.all_asks (λ (o : Owner). is_the_owner w.asked o || (is_the_owner w.closed o || (is_the_owner w.holder o || false))) d e m few n
    (but_out w.asked (λ (o : Owner). is_the_owner w.closed o || (is_the_owner w.holder o || false)) c d m few l
    (but_out w.closed (λ (o : Owner). is_the_owner w.holder o || false) b c m few k
    (but_out w.holder (λ (o : Owner). false) a b m few h is))))

only_asks : (p q r s : Bool) → (not p && (not q && (not r && (s || (p || (q || r)))))) ≡ true → s ≡ true
only_asks true q r s h = absurd (false≢true h)
only_asks false true r s h = absurd (false≢true h)
only_asks false false true s h = absurd (false≢true h)
only_asks false false false true h = refl
only_asks false false false false h = absurd (false≢true h)

no_asks : (m : Machine) (o : Owner) (a : DevAddr) → m.asks ≡ [] → is_an_ask o ≡ true → has o a m ≡ false
unfolding has
no_asks m (owner.Device i) a e h = absurd (false≢true h)
no_asks m (owner.Visitor d) a e h = absurd (false≢true h)
no_asks m (owner.Ask n) a e h = ap (list_any (is_ask_with n a)) e

pub put_touched : (w : Touched) (a b c d : Table) (m : Machine) → HasOne m → (w.all_asks ≡ true → m.asks ≡ []) → PutIn w.holder (λ (x : DevAddr). one_has w.holder x m) a b → PutIn w.closed (λ (x : DevAddr). one_has w.closed x m) b c → PutIn w.asked (λ (x : DevAddr). one_has w.asked x m) c d
    → IsTableBut (touches w) a m → IsTable d m
put_touched w a b c d m few none h k l is =
    all_back (λ (o : Owner). not (is_the_owner w.asked o) && (not (is_the_owner w.closed o) && (not (is_the_owner w.holder o) && touches w o))) d m
    (but_in w.asked (λ (o : Owner). not (is_the_owner w.closed o) && (not (is_the_owner w.holder o) && touches w o)) c d m few l
    (but_in w.closed (λ (o : Owner). not (is_the_owner w.holder o) && touches w o) b c m few k
    (but_in w.holder (touches w) a b m few h is)))
    (λ o x y.
    let asks = both w.all_asks (is_an_ask o) (only_asks (is_the_owner w.asked o) (is_the_owner w.closed o) (is_the_owner w.holder o) (w.all_asks && is_an_ask o) y) in
    no_asks m o x (none asks.0) asks.1)

pub all_asks_gone : (e : Event) (l k : Machine) → (touched_by e l).all_asks ≡ true → (on_event e k).asks ≡ []
unfolding touched_by on_event
all_asks_gone event.Opened l k h = refl
all_asks_gone (event.Tables t) l k h = absurd (false≢true h)
all_asks_gone (event.Kept r c) l k h = absurd (false≢true h)
all_asks_gone (event.Asked w) l k h = absurd (false≢true h)
all_asks_gone (event.Told t) l k h = absurd (false≢true h)
all_asks_gone (event.Suspend i) l k h = absurd (false≢true h)
all_asks_gone (event.Resume i) l k h = absurd (false≢true h)

-- the table without those that an event touches is that of the state after it
pub table_after : (e : Event) (at : ℕ) (l : Machine) (t : Table) → IsTableBut (touches (touched_by e l)) t l → IsTableBut (touches (touched_by e l)) t (entered at (on_event e (wake (wakes e l) l)))
table_after e at l t h =
    let k = on_event e (wake (wakes e l) l) in
    table_moved (touches (touched_by e l)) t l (entered at k) (λ o a f. has_as k (entered at k) o a refl refl refl ∙ untouched e l o a f) h

pub table_stepped : (m : Machine) (e : Entry) (l k : Machine) (w : Touched) (t : Table) → l ≡ lapse e.moment.0 m → k ≡ after m e → w ≡ touched_by e.event l → IsTableBut (touches w) t l → IsTableBut (touches w) t k
unfolding ready
table_stepped m e l k w t is_l is_k is_w h =
    let before : IsTableBut (touches (touched_by e.event l)) t l = subst (λ (x : Touched). IsTableBut (touches x) t l) is_w h in
    let same : k ≡ entered e.moment.0 (on_event e.event (wake (wakes e.event l) l)) = is_k ∙ ap (λ (x : Machine). entered e.moment.0 (on_event e.event (wake (wakes e.event x) x))) (sym is_l) in
    subst (λ (x : Touched). IsTableBut (touches x) t k) (sym is_w) (subst (λ (x : Machine). IsTableBut (touches (touched_by e.event l)) t x) (sym same) (table_after e.event e.moment.0 l t before))

pub table_empty : (c : Config) (t : Table) → ((a : DevAddr) → owner_of a t ≡ None) → IsTable t (empty c)
table_empty c t none = record {
  there = λ o a kn e. absurd (none_is_some o (sym (none a) ∙ e));
  all = λ o a kn hs f. absurd (omega (arith, has_used (empty c) a o hs, uses_empty a c));
}

-- ---- what has ended

-- an address of what has ended isn't that of what stays
ended_uses : (at : ℕ) (m : Machine) (a : DevAddr) → has_ended at a m ≡ true → uses a (lapse at m) + 1 ≤ uses a m
unfolding lapse
ended_uses at m a h = omega (arith, sum_by-map_le (device_uses a) (lapsed at) m.devices (use-lapsed a at), sum_by-filter_both (visits at) (λ (v : Visitor). not (visits at v)) (λ v. refl) (visitor_uses a) m.visitors, sum_by-filter_both (is_open at) (λ (k : OpenAsk). not (is_open at k)) (λ k. refl) (ask_uses a) m.asks, some_ended)
  where
    guest_gone : list_any (guest_ended at a) m.visitors ≡ true → 1 ≤ sum_by (visitor_uses a) (filter (λ (v : Visitor). not (visits at v)) m.visitors)
    guest_gone y = any_one (visitor_has a) (visitor_uses a) (λ v t. slots_counted a v.slots t) (filter (λ (v : Visitor). not (visits at v)) m.visitors) (any_filter (λ (v : Visitor). not (visits at v)) (visitor_has a) m.visitors ∙ y)

    ask_gone : list_any (ask_ended at a) m.asks ≡ true → 1 ≤ sum_by (ask_uses a) (filter (λ (k : OpenAsk). not (is_open at k)) m.asks)
    ask_gone y = any_one (asks_for a) (ask_uses a) (λ k t. ask_counted a k t) (filter (λ (k : OpenAsk). not (is_open at k)) m.asks) (any_filter (λ (k : OpenAsk). not (is_open at k)) (asks_for a) m.asks ∙ y)

    some_ended : 1 ≤ sum_by (visitor_uses a) (filter (λ (v : Visitor). not (visits at v)) m.visitors) + sum_by (ask_uses a) (filter (λ (k : OpenAsk). not (is_open at k)) m.asks)
    some_ended = elim (cases_Bool (list_any (guest_ended at a) m.visitors)) [
      | inl y ↦ omega (arith, guest_gone y)
      | inr n ↦ omega (arith, ask_gone (or_other (list_any (guest_ended at a) m.visitors) (list_any (ask_ended at a) m.asks) n h))
    ]

still_has : (at : ℕ) (m : Machine) (a : DevAddr) (o : Owner) → has_ended at a m ≡ false → has o a m ≡ true → has o a (lapse at m) ≡ true
unfolding has lapse
still_has at m a (owner.Device i) f h = device_lapsed (device_has a) at m.devices i ∙ holds_same (λ (d : Device). device_has a (lapsed at d)) (device_has a) (has-lapsed a at) (slice_get m.devices i) ∙ h
still_has at m a (owner.Visitor d) f h = any_left (is_guest_with d a) (visits at) (guest_ended at a) (λ v t g. ap (λ (b : Bool). not b && visitor_has a v) g ∙ (both (is_visitor d v) (visitor_has a v) t).1) m.visitors (neither (list_any (guest_ended at a) m.visitors) (list_any (ask_ended at a) m.asks) f).0 h
still_has at m a (owner.Ask n) f h = any_left (is_ask_with n a) (is_open at) (ask_ended at a) (λ k t g. ap (λ (b : Bool). not b && asks_for a k) g ∙ (both (has_number n k) (asks_for a k) t).1) m.asks (neither (list_any (guest_ended at a) m.visitors) (list_any (ask_ended at a) m.asks) f).1 h

had_before : (at : ℕ) (m : Machine) (a : DevAddr) (o : Owner) → has o a (lapse at m) ≡ true → has o a m ≡ true
unfolding has lapse
had_before at m a (owner.Device i) h = sym (device_lapsed (device_has a) at m.devices i ∙ holds_same (λ (d : Device). device_has a (lapsed at d)) (device_has a) (has-lapsed a at) (slice_get m.devices i)) ∙ h
had_before at m a (owner.Visitor d) h = any_before (is_guest_with d a) (visits at) m.visitors h
had_before at m a (owner.Ask n) h = any_before (is_ask_with n a) (is_open at) m.asks h

pub table_lapsed : (at : ℕ) (t k : Table) (m : Machine) → HasOne m → TakenOut (λ (a : DevAddr). has_ended at a m) t k → IsTable t m → IsTable k (lapse at m)
table_lapsed at t k m few w h = record {
  there = λ o a kn e.
      let p = left_there (has_ended at a m) (owner_of a t) o (sym (w.owners a) ∙ e) in
      (still_has at m a o p.0 (h.there o a (sym (w.known a) ∙ kn) p.1).0, refl);
  all = λ o a kn hs f.
      let stays : has_ended at a m ≡ false = is_false (has_ended at a m) (λ y. absurd (omega (arith, few a, ended_uses at m a y, has_used (lapse at m) a o hs))) in
      w.owners a ∙ ap (λ (s : Bool). cond s None (owner_of a t)) stays ∙ h.all o a (sym (w.known a) ∙ kn) (had_before at m a o hs) refl;
}

-- ---- look-ups

module _ {X : Type 0} where
  any_found : (p : X → Bool) (xs : List X) → list_any p xs ≡ true → is_some (find p xs) ≡ true
  any_found p [] h = absurd (false≢true h)
  any_found p (x ∷ xs) h = elim (cases_Bool (p x)) [
    | inl t ↦ ap (λ (b : Bool). is_some (cond b (Some x) (find p xs))) t
    | inr f ↦ ap (λ (b : Bool). is_some (cond b (Some x) (find p xs))) f ∙ any_found p xs (or_other (p x) (list_any p xs) f h)
  ]

  found_any : (q : ℕ → X → Bool) (number : X → ℕ) (p : X → Bool) → ((x : X) → q (number x) x ≡ true) → (xs : List X) (x : X) → find p xs ≡ Some x → list_any (λ (y : X). q (number x) y && p y) xs ≡ true
  found_any q number p own [] x e = absurd cc
  found_any q number p own (y ∷ ys) x e = elim (cases_Bool (p y)) [
    | inl t ↦
        let is : y ≡ x = some_is y x (sym (ap (λ (b : Bool). cond b (Some y) (find p ys)) t) ∙ e) in
        ap (λ (b : Bool). b || list_any (λ (z : X). q (number x) z && p z) ys) (ap (λ (b : Bool). b && p y) (subst (λ (z : X). q (number z) y ≡ true) is (own y)) ∙ t)
    | inr f ↦ ap (λ (b : Bool). (q (number x) y && p y) || b) (found_any q number p own ys x (sym (ap (λ (b : Bool). cond b (Some y) (find p ys)) f) ∙ e)) ∙ or_true (q (number x) y && p y)
  ]
    where
      or_true : (b : Bool) → (b || true) ≡ true
      or_true true = refl
      or_true false = refl

found_guest : (m : Machine) (a : DevAddr) (v : Visitor) → find (visitor_has a) m.visitors ≡ Some v → has (owner.Visitor v.dev_eui) a m ≡ true
unfolding has
found_guest m a v e = found_any (λ (n : ℕ) (w : Visitor). eqb w.dev_eui.0 n) (λ (w : Visitor). w.dev_eui.0) (visitor_has a) (λ w. eq-eqb w.dev_eui.0 w.dev_eui.0 refl) m.visitors v e

found_device : (m : Machine) (a : DevAddr) (i : ℕ) → position (device_has a) m.devices ≡ Some i → has (owner.Device i) a m ≡ true
unfolding has
found_device m a i e = by (slice_get m.devices i) refl
  where
    by : (o : Option Device) → slice_get m.devices i ≡ o → holds_of (device_has a) o ≡ true
    by (Some d) is = find_passes (device_has a) m.devices d (find-place (device_has a) m.devices (Some i) e ∙ is)
    by None is = elim (slice_get_cases m.devices i).1 [
      | inl y ↦ absurd (none_is_some y.0 (sym is ∙ y.2))
      | inr n ↦ absurd (omega (arith, n.0, place_within (device_has a) m.devices i e))
    ]

pub holder_known : (t : Table) (m : Machine) (a : DevAddr) → IsTable t m → knows a t ≡ true → holder_with a m ≡ holder_by (owner_of a t)
unfolding holder_with
holder_known t m a h kn = by (position (device_has a) m.devices) refl
  where
    no_device : position (device_has a) m.devices ≡ None → (i : ℕ) → has (owner.Device i) a m ≡ true → ⊥
    no_device e i y = nothing (find-place (device_has a) m.devices None e) (any_found (device_has a) m.devices (own_has m a i y))
      where
        nothing : find (device_has a) m.devices ≡ None → is_some (find (device_has a) m.devices) ≡ true → ⊥
        nothing e y = false≢true (sym (ap is_some e) ∙ y)

    by_guest : position (device_has a) m.devices ≡ None → (o : Option Visitor) → find (visitor_has a) m.visitors ≡ o → option_map (λ (v : Visitor). holder.Visitor v.dev_eui) o ≡ holder_by (owner_of a t)
    by_guest e (Some v) f = sym (ap holder_by (h.all (owner.Visitor v.dev_eui) a kn (found_guest m a v f) refl))
    by_guest e None f = by_owner (owner_of a t) refl
      where
        by_owner : (o : Option Owner) → owner_of a t ≡ o → None ≡ holder_by o
        by_owner None is = refl
        by_owner (Some (owner.Device i)) is = absurd (no_device e i (h.there (owner.Device i) a kn is).0)
        by_owner (Some (owner.Visitor d)) is = absurd (false≢true (sym (ap is_some f) ∙ any_found (visitor_has a) m.visitors (guest_has m a d (h.there (owner.Visitor d) a kn is).0)))
        by_owner (Some (owner.Ask n)) is = refl

    by : (o : Option ℕ) → position (device_has a) m.devices ≡ o → holder_from a o m ≡ holder_by (owner_of a t)
    by (Some i) e = sym (ap holder_by (h.all (owner.Device i) a kn (found_device m a i e) refl))
    by None e = by_guest e (find (visitor_has a) m.visitors) refl

pub taken_known : (t : Table) (m : Machine) (a : DevAddr) → IsTable t m → knows a t ≡ true → is_taken a m ≡ is_some (owner_of a t)
unfolding is_taken lives
taken_known t m a h kn = by (owner_of a t) refl
  where
    or_first : (x y z : Bool) → x ≡ true → ((x || y) || z) ≡ true
    or_first x y z e = ap (λ (b : Bool). (b || y) || z) e

    or_second : (x y z : Bool) → y ≡ true → ((x || y) || z) ≡ true
    or_second true y z e = refl
    or_second false y z e = ap (λ (b : Bool). b || z) e

    or_third : (x y z : Bool) → z ≡ true → ((x || y) || z) ≡ true
    or_third true y z e = refl
    or_third false true z e = refl
    or_third false false z e = e

    nobody : owner_of a t ≡ None → (o : Owner) → has o a m ≡ true → ⊥
    nobody is o y = none_is_some o (sym is ∙ h.all o a kn y refl)

    by : (o : Option Owner) → owner_of a t ≡ o → ((list_any (device_has a) m.devices || list_any (visitor_has a) m.visitors) || list_any (asks_for a) m.asks) ≡ is_some o
    by (Some (owner.Device i)) is = or_first (list_any (device_has a) m.devices) (list_any (visitor_has a) m.visitors) (list_any (asks_for a) m.asks) (own_has m a i (h.there (owner.Device i) a kn is).0)
    by (Some (owner.Visitor d)) is = or_second (list_any (device_has a) m.devices) (list_any (visitor_has a) m.visitors) (list_any (asks_for a) m.asks) (guest_has m a d (h.there (owner.Visitor d) a kn is).0)
    by (Some (owner.Ask n)) is = or_third (list_any (device_has a) m.devices) (list_any (visitor_has a) m.visitors) (list_any (asks_for a) m.asks) (ask_asks m a n (h.there (owner.Ask n) a kn is).0)
    by None is =
        ap (λ (b : Bool). (b || list_any (visitor_has a) m.visitors) || list_any (asks_for a) m.asks) (is_false (list_any (device_has a) m.devices) (λ y. let w = device_there m a y in nobody is (owner.Device w.0) w.1))
        ∙ ap (λ (b : Bool). b || list_any (asks_for a) m.asks) (is_false (list_any (visitor_has a) m.visitors) (λ y. let w = guest_there m a y in nobody is (owner.Visitor (record { 0 = w.0 })) w.1))
        ∙ is_false (list_any (asks_for a) m.asks) (λ y. let w = ask_there m a y in nobody is (owner.Ask w.0) w.1)

pub context_known : (t : Table) (m : Machine) (a : DevAddr) → IsTable t m → knows a t ≡ true → live_at a (holder_by (owner_of a t)) m ≡ live_context a m
unfolding live_context
context_known t m a h kn = ap (λ (o : Option Holder). live_at a o m) (sym (holder_known t m a h kn))

-- ---- the first free address

same_addr : (a : DevAddr) (o : Option DevAddr) → is_own_addr a o ≡ is_addr a o
same_addr a None = refl
same_addr a (Some own) = refl

held_is : (t : Table) (at : ℕ) (who : Option Holder) (m : Machine) (i : ℕ) → IsSound m → IsTable t (lapse at m) → knows (addr_at i t) t ≡ true → is_held (leaving who (lapse at m)) t i ≡ is_taken (addr_at i t) (wake who (lapse at m))
held_is t at who m i h are kn =
    let a = addr_at i t in
    let l = lapse at m in
    ap (λ (b : Bool). not b && is_some (owner_of a t)) (same_addr a (leaving who l)) ∙ ap (λ (b : Bool). not (is_addr a (leaving who l)) && b) (sym (taken_known t l a are kn)) ∙ sym (awake_taken a at who m h)

pub first_known : (t : Table) (at first : ℕ) (who : Option Holder) (m : Machine) (gone : Option DevAddr) (o : Option ℕ) → IsSound m → IsTable t (lapse at m) → t.first ≡ first → gone ≡ leaving who (lapse at m) → ((i : ℕ) → i < window → knows (addr_at i t) t ≡ true) → IsFirstLeft gone t o
    → IsFirstFree first (λ (a : DevAddr). is_taken a (wake who (lapse at m))) o
first_known t at first who m gone o h are is goes kn free = subst (λ (n : ℕ). IsFirstFree n (λ (a : DevAddr). is_taken a (wake who (lapse at m))) o) is (by o (subst (λ (g : Option DevAddr). IsFirstLeft g t o) goes free))
  where
    by : (p : Option ℕ) → IsFirstLeft (leaving who (lapse at m)) t p → IsFirstFree t.first (λ (a : DevAddr). is_taken a (wake who (lapse at m))) p
    by None f = λ i lt. sym (held_is t at who m i h are (kn i lt)) ∙ f i lt
    by (Some n) f = (
      f.0,
      λ i lt. sym (held_is t at who m i h are (kn i (omega (arith, lt, f.0)))) ∙ f.1 i lt,
      sym (held_is t at who m n h are (kn n f.0)) ∙ f.2,
    )
