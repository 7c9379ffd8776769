-- Who has an address: at most one, and what a step leaves to those that it doesn't touch.
use Rattle.std.proofs.Common.{inl, inr, ◌≡◌, ◌≢◌, ℕ, zero, suc, ◌+◌, ◌≤◌, Bool, true, false, cond, eqb, eq-eqb, List, [], ◌∷◌, ◌++◌, Option, Some, None, option_map, refl, sym, ap, subst, ◌∙◌, arith}
use Rattle.std.specs.Prelude.{◌&&◌, ◌||◌, find, is_some, nat_lt, not, position, slice_get, sum_by}
use Rattle.std.specs.List.{filter, list_any}
use Rattle.std.proofs.lemmas.Bool.{cases_Bool, eqb-true, false≢true}
use Rattle.std.proofs.lemmas.List.Sums.{sum_by-cons}
use Rattle.wire_ids.specs.Lists.{changed, changed_first, changed_there, holds_of}
use Rattle.wire_ids.specs.declared.address.DevAddr.{DevAddr}
use Rattle.wire_ids.specs.declared.eui.Eui.{Eui}
use Rattle.wire_ids.specs.declared.party.Sender.{Sender}
use Rattle.wire_ids.proofs.Lists.{changed-cons}
use Rattle.address_table.specs.declared.owner.Owner.{Owner}
use Rattle.address_table.specs.declared.owner.Owner.TheVariants as owner
use Rattle.contexts.specs.Queue.{pushed}
use Rattle.contexts.specs.Slots as slots
use Rattle.contexts.specs.Slots.{accepted, activated, on_active}
use Rattle.contexts.specs.declared.context.Context.{Context}
use Rattle.contexts.specs.declared.context.Item.{Item}
use Rattle.contexts.specs.declared.slots.Slots.{Slots}
use Rattle.entries.specs.declared.ask.Effect.{Effect}
use Rattle.entries.specs.declared.ask.Effect.TheVariants as effect
use Rattle.entries.specs.declared.ask.NewAsk.{NewAsk}
use Rattle.entries.specs.declared.ask.RejoinCount.{RejoinCount}
use Rattle.entries.specs.declared.change.Change.{Change}
use Rattle.entries.specs.declared.change.Change.TheVariants as change
use Rattle.entries.specs.declared.change.RoamingKind.{RoamingKind}
use Rattle.entries.specs.declared.change.RoamingKind.TheVariants as kind
use Rattle.entries.specs.declared.change.OwnContext.{OwnContext}
use Rattle.entries.specs.declared.change.Uplink.{Uplink}
use Rattle.entries.specs.declared.entry.Event.{Event}
use Rattle.entries.specs.declared.entry.Event.TheVariants as event
use Rattle.entry_codec.specs.Addresses.{ask_owner, has, is_ask_with, is_guest_with, is_same_owner, is_the_owner, one_has, owner_by, touched_by, touched_by_change, touched_by_effect, touches, visitor_owner}
use Rattle.entry_codec.specs.Devices.{answered, called_back, heard, in_slots, joined, lent_out, marked, queued, rejoined, uses_pending, with_grant}
use Rattle.entry_codec.specs.LookUps.{asks_for, device_has, slot_has, slots_have, visitor_has}
use Rattle.entry_codec.specs.Machine.{Machine, ask_of, asked, change_wakes, closed, granted_by, has_number, holder_of, in_visitor, is_other, is_visitor, item_of, lent_to, new_visitor, on_change, on_device, on_dropped, on_effect, on_event, on_place, on_slots, on_visitor, place_of, renewed, visit, visitor_number, visitor_waking, wake, wakes, with_count, with_rejoin, without}
use Rattle.entry_codec.specs.Ordered.{put_in}
use Rattle.entry_codec.specs.Sound.{ask_uses, count_if, device_uses, slots_use, uses, visitor_uses}
use Rattle.entry_codec.specs.declared.device.Device.{Device}
use Rattle.entry_codec.specs.declared.device.Granted.{Granted}
use Rattle.entry_codec.specs.declared.parties.Holder.{Holder}
use Rattle.entry_codec.specs.declared.parties.Holder.TheVariants as holder
use Rattle.entry_codec.specs.declared.parties.OpenAsk.{OpenAsk}
use Rattle.entry_codec.specs.declared.parties.Visitor.{Visitor}
use Rattle.entry_codec.proofs.Ordered.{some_is}
use Rattle.entry_codec.proofs.Places.{find-place}
use Rattle.entry_codec.proofs.SoundDevices.{addr-answered}
use Rattle.entry_codec.proofs.Stays.{stays-wake}
use Rattle.entry_codec.proofs.Sums.{holds_of-changed}

-- ---- truth

pub or_other : (a b : Bool) → a ≡ false → (a || b) ≡ true → b ≡ true
or_other true b f h = absurd (false≢true (sym f))
or_other false b f h = h

pub both : (a b : Bool) → (a && b) ≡ true → (a ≡ true) × (b ≡ true)
both true b h = (refl, h)
both false b h = absurd (false≢true h)

pub neither : (a b : Bool) → (a || b) ≡ false → (a ≡ false) × (b ≡ false)
neither true b h = absurd (false≢true (sym h))
neither false b h = (refl, h)

pub not_both : (b : Bool) → b ≡ true → b ≡ false → ⊥
not_both b t f = false≢true (sym f ∙ t)

pub differ : (a b : ℕ) → eqb a b ≡ false → a ≢ b
differ a b f e = not_both (eqb a b) (eq-eqb a b e) f

pub differs_too : (x y z : ℕ) → eqb x y ≡ true → eqb y z ≡ false → eqb x z ≡ false
differs_too x y z t f = ap (λ (n : ℕ). eqb n z) (eqb-true x y t) ∙ f

-- ---- what is counted

module _ {X : Type 0} where
  pub any_one : (p : X → Bool) (share : X → ℕ) → ((x : X) → p x ≡ true → 1 ≤ share x) → (xs : List X) → list_any p xs ≡ true → 1 ≤ sum_by share xs
  any_one p share le [] h = absurd (false≢true h)
  any_one p share le (x ∷ xs) h = elim (cases_Bool (p x)) [
    | inl t ↦ omega (arith, sum_by-cons share x xs, le x t)
    | inr f ↦ omega (arith, sum_by-cons share x xs, any_one p share le xs (or_other (p x) (list_any p xs) f h))
  ]

  pub any_two : (p q : X → Bool) (share : X → ℕ) → ((x : X) → p x ≡ true → 1 ≤ share x) → ((x : X) → q x ≡ true → 1 ≤ share x) → ((x : X) → p x ≡ true → q x ≡ true → ⊥) → (xs : List X) → list_any p xs ≡ true → list_any q xs ≡ true → 2 ≤ sum_by share xs
  any_two p q share lp lq apart [] h k = absurd (false≢true h)
  any_two p q share lp lq apart (x ∷ xs) h k = elim (cases_Bool (p x)) [
    | inl t ↦ elim (cases_Bool (q x)) [
      | inl u ↦ absurd (apart x t u)
      | inr g ↦ omega (arith, sum_by-cons share x xs, lp x t, any_one q share lq xs (or_other (q x) (list_any q xs) g k))
    ]
    | inr f ↦ elim (cases_Bool (q x)) [
      | inl u ↦ omega (arith, sum_by-cons share x xs, lq x u, any_one p share lp xs (or_other (p x) (list_any p xs) f h))
      | inr g ↦ omega (arith, sum_by-cons share x xs, any_two p q share lp lq apart xs (or_other (p x) (list_any p xs) f h) (or_other (q x) (list_any q xs) g k))
    ]
  ]

  pub at_one : (p : X → Bool) (share : X → ℕ) → ((x : X) → p x ≡ true → 1 ≤ share x) → (xs : List X) (i : ℕ) → holds_of p (slice_get xs i) ≡ true → 1 ≤ sum_by share xs
  at_one p share le [] i h = absurd (false≢true h)
  at_one p share le (x ∷ xs) zero h = omega (arith, sum_by-cons share x xs, le x h)
  at_one p share le (x ∷ xs) (suc i) h = omega (arith, sum_by-cons share x xs, at_one p share le xs i h)

  pub at_two : (p : X → Bool) (share : X → ℕ) → ((x : X) → p x ≡ true → 1 ≤ share x) → (xs : List X) (i j : ℕ) → i ≢ j → holds_of p (slice_get xs i) ≡ true → holds_of p (slice_get xs j) ≡ true → 2 ≤ sum_by share xs
  at_two p share le [] i j ne h k = absurd (false≢true h)
  at_two p share le (x ∷ xs) zero zero ne h k = absurd (ne refl)
  at_two p share le (x ∷ xs) zero (suc j) ne h k = omega (arith, sum_by-cons share x xs, le x h, at_one p share le xs j k)
  at_two p share le (x ∷ xs) (suc i) zero ne h k = omega (arith, sum_by-cons share x xs, le x k, at_one p share le xs i h)
  at_two p share le (x ∷ xs) (suc i) (suc j) ne h k = omega (arith, sum_by-cons share x xs, at_two p share le xs i j (λ e. ne (ap suc e)) h k)

one_counted : (b : Bool) → b ≡ true → 1 ≤ count_if b
one_counted true h = omega arith
one_counted false h = absurd (false≢true h)

either_counted : (a b : Bool) → (a || b) ≡ true → 1 ≤ count_if a + count_if b
either_counted true b h = omega arith
either_counted false b h = omega (arith, one_counted b h)

pub slots_counted : (a : DevAddr) (s : Slots) → slots_have a s ≡ true → 1 ≤ slots_use a s
unfolding slots_have
slots_counted a s h = either_counted (slot_has a s.active) (slot_has a s.pending) h

pub ask_counted : (a : DevAddr) (k : OpenAsk) → asks_for a k ≡ true → 1 ≤ ask_uses a k
ask_counted a k h = one_counted (asks_for a k) h

guest_counted : (dev : Eui) (a : DevAddr) (v : Visitor) → is_guest_with dev a v ≡ true → 1 ≤ visitor_uses a v
guest_counted dev a v h = slots_counted a v.slots (both (is_visitor dev v) (visitor_has a v) h).1

numbered_counted : (n : ℕ) (a : DevAddr) (k : OpenAsk) → is_ask_with n a k ≡ true → 1 ≤ ask_uses a k
numbered_counted n a k h = ask_counted a k (both (has_number n k) (asks_for a k) h).1

-- ---- one owner

abbrev pub HasOne : Machine → Type 0
HasOne m = (a : DevAddr) → uses a m ≤ 1

devices_one : (m : Machine) (a : DevAddr) (i : ℕ) → holds_of (device_has a) (slice_get m.devices i) ≡ true → 1 ≤ sum_by (device_uses a) m.devices
devices_one m a i h = at_one (device_has a) (device_uses a) (λ d k. slots_counted a d.slots k) m.devices i h

visitors_one : (m : Machine) (a : DevAddr) (dev : Eui) → list_any (is_guest_with dev a) m.visitors ≡ true → 1 ≤ sum_by (visitor_uses a) m.visitors
visitors_one m a dev h = any_one (is_guest_with dev a) (visitor_uses a) (guest_counted dev a) m.visitors h

asks_one : (m : Machine) (a : DevAddr) (n : ℕ) → list_any (is_ask_with n a) m.asks ≡ true → 1 ≤ sum_by (ask_uses a) m.asks
asks_one m a n h = any_one (is_ask_with n a) (ask_uses a) (numbered_counted n a) m.asks h

-- who has an address is counted
pub has_used : (m : Machine) (a : DevAddr) (o : Owner) → has o a m ≡ true → 1 ≤ uses a m
unfolding has
has_used m a (owner.Device i) h = omega (arith, devices_one m a i h)
has_used m a (owner.Visitor dev) h = omega (arith, visitors_one m a dev h)
has_used m a (owner.Ask n) h = omega (arith, asks_one m a n h)

pub one_owner : (m : Machine) → HasOne m → (a : DevAddr) (o p : Owner) → has o a m ≡ true → has p a m ≡ true → o ≡ p
unfolding has
one_owner m few a (owner.Device i) (owner.Device j) h k = elim (cases_Bool (eqb i j)) [
  | inl e ↦ ap (λ (n : ℕ). owner.Device n) (eqb-true i j e)
  | inr f ↦ absurd (omega (arith, few a, at_two (device_has a) (device_uses a) (λ d q. slots_counted a d.slots q) m.devices i j (differ i j f) h k))
]
one_owner m few a (owner.Device i) (owner.Visitor dev) h k = absurd (omega (arith, few a, devices_one m a i h, visitors_one m a dev k))
one_owner m few a (owner.Device i) (owner.Ask n) h k = absurd (omega (arith, few a, devices_one m a i h, asks_one m a n k))
one_owner m few a (owner.Visitor dev) (owner.Device j) h k = absurd (omega (arith, few a, visitors_one m a dev h, devices_one m a j k))
one_owner m few a (owner.Visitor d) (owner.Visitor e) h k = elim (cases_Bool (eqb d.0 e.0)) [
  | inl same ↦ ap (λ (n : ℕ). owner.Visitor (record { 0 = n })) (eqb-true d.0 e.0 same)
  | inr f ↦
      absurd (omega (
        arith,
        few a,
        any_two (is_guest_with d a) (is_guest_with e a) (visitor_uses a) (guest_counted d a) (guest_counted e a)
            (λ v p q. not_both (eqb d.0 e.0) (eq-eqb d.0 e.0 (sym (eqb-true v.dev_eui.0 d.0 (both (is_visitor d v) (visitor_has a v) p).0) ∙ eqb-true v.dev_eui.0 e.0 (both (is_visitor e v) (visitor_has a v) q).0)) f) m.visitors h k,
      ))
]
one_owner m few a (owner.Visitor dev) (owner.Ask n) h k = absurd (omega (arith, few a, visitors_one m a dev h, asks_one m a n k))
one_owner m few a (owner.Ask n) (owner.Device j) h k = absurd (omega (arith, few a, asks_one m a n h, devices_one m a j k))
one_owner m few a (owner.Ask n) (owner.Visitor dev) h k = absurd (omega (arith, few a, asks_one m a n h, visitors_one m a dev k))
one_owner m few a (owner.Ask n) (owner.Ask l) h k = elim (cases_Bool (eqb n l)) [
  | inl e ↦ ap (λ (x : ℕ). owner.Ask x) (eqb-true n l e)
  | inr f ↦
      absurd (omega (
        arith,
        few a,
        any_two (is_ask_with n a) (is_ask_with l a) (ask_uses a) (numbered_counted n a) (numbered_counted l a)
            (λ x p q. not_both (eqb n l) (eq-eqb n l (sym (eqb-true x.number n (both (has_number n x) (asks_for a x) p).0) ∙ eqb-true x.number l (both (has_number l x) (asks_for a x) q).0)) f) m.asks h k,
      ))
]

pub same_owner_is : (o p : Owner) → is_same_owner o p ≡ true → o ≡ p
unfolding is_same_owner
same_owner_is (owner.Device i) (owner.Device j) h = ap (λ (n : ℕ). owner.Device n) (eqb-true i j h)
same_owner_is (owner.Device i) (owner.Visitor e) h = absurd (false≢true h)
same_owner_is (owner.Device i) (owner.Ask n) h = absurd (false≢true h)
same_owner_is (owner.Visitor d) (owner.Device j) h = absurd (false≢true h)
same_owner_is (owner.Visitor d) (owner.Visitor e) h = ap (λ (n : ℕ). owner.Visitor (record { 0 = n })) (eqb-true d.0 e.0 h)
same_owner_is (owner.Visitor d) (owner.Ask n) h = absurd (false≢true h)
same_owner_is (owner.Ask n) (owner.Device j) h = absurd (false≢true h)
same_owner_is (owner.Ask n) (owner.Visitor e) h = absurd (false≢true h)
same_owner_is (owner.Ask n) (owner.Ask l) h = ap (λ (x : ℕ). owner.Ask x) (eqb-true n l h)

pub same_as_itself : (o : Owner) → is_same_owner o o ≡ true
unfolding is_same_owner
same_as_itself (owner.Device i) = eq-eqb i i refl
same_as_itself (owner.Visitor d) = eq-eqb d.0 d.0 refl
same_as_itself (owner.Ask n) = eq-eqb n n refl

pub the_owner_is : (who : Option Owner) (o : Owner) → is_the_owner who o ≡ true → who ≡ Some o
the_owner_is None o h = absurd (false≢true h)
the_owner_is (Some p) o h = ap (λ (q : Owner). Some q) (same_owner_is p o h)

pub is_the_one : (m : Machine) → HasOne m → (a : DevAddr) (who : Option Owner) (o : Owner) → one_has who a m ≡ true → has o a m ≡ true → is_the_owner who o ≡ true
is_the_one m few a None o h k = absurd (false≢true h)
is_the_one m few a (Some p) o h k = subst (λ (q : Owner). is_same_owner p q ≡ true) (one_owner m few a p o h k) (same_as_itself p)

-- ---- lists that are changed elsewhere

module _ {X : Type 0} where
  pub find_passes : (q : X → Bool) (xs : List X) (x : X) → find q xs ≡ Some x → q x ≡ true
  find_passes q [] x e = absurd cc
  find_passes q (y ∷ ys) x e = elim (cases_Bool (q y)) [
    | inl t ↦ subst (λ z. q z ≡ true) (some_is y x (sym (ap (λ (b : Bool). cond b (Some y) (find q ys)) t) ∙ e)) t
    | inr f ↦ find_passes q ys x (sym (ap (λ (b : Bool). cond b (Some y) (find q ys)) f) ∙ e)
  ]

  pub any_kept : (p q : X → Bool) → ((x : X) → p x ≡ true → q x ≡ true) → (xs : List X) → list_any p (filter q xs) ≡ list_any p xs
  any_kept p q keeps [] = refl
  any_kept p q keeps (x ∷ xs) = elim (cases_Bool (q x)) [
    | inl t ↦ ap (λ (b : Bool). list_any p (cond b (x ∷ filter q xs) (filter q xs))) t ∙ ap (λ (b : Bool). p x || b) (any_kept p q keeps xs)
    | inr f ↦ ap (λ (b : Bool). list_any p (cond b (x ∷ filter q xs) (filter q xs))) f ∙ any_kept p q keeps xs ∙ sym (ap (λ (b : Bool). b || list_any p xs) (fails (p x) (λ t. not_both (q x) (keeps x t) f)))
  ]
    where
      fails : (b : Bool) → (b ≡ true → ⊥) → b ≡ false
      fails true never = absurd (never refl)
      fails false never = refl

  pub any-append : (p : X → Bool) (xs : List X) (y : X) → p y ≡ false → list_any p (xs ++ y ∷ []) ≡ list_any p xs
  any-append p [] y f = ap (λ (b : Bool). b || false) f
  any-append p (x ∷ xs) y f = ap (λ (b : Bool). p x || b) (any-append p xs y f)

  pub any-put : (p : X → Bool) (number : X → ℕ) (new : X) (change : X → X) → p new ≡ false → ((x : X) → number x ≡ number new → (p x ≡ false) × (p (change x) ≡ false)) → (xs : List X) → list_any p (put_in number new change xs) ≡ list_any p xs
  any-put p number new change none other [] = ap (λ (b : Bool). b || false) none
  any-put p number new change none other (x ∷ xs) = elim (nat_lt (number x) (number new)) as (λ b. list_any p (cond b (x ∷ put_in number new change xs) (cond (eqb (number x) (number new)) (change x ∷ xs) (new ∷ x ∷ xs))) ≡ (p x || list_any p xs)) [
    | true ↦ ap (λ (b : Bool). p x || b) (any-put p number new change none other xs)
    | false ↦ elim (eqb (number x) (number new)) as (λ b. eqb (number x) (number new) ≡ b → list_any p (cond b (change x ∷ xs) (new ∷ x ∷ xs)) ≡ (p x || list_any p xs)) [
      | true ↦ λ e. let k = other x (eqb-true (number x) (number new) e) in ap (λ (b : Bool). b || list_any p xs) (k.1 ∙ sym k.0)
      | false ↦ λ e. ap (λ (b : Bool). b || (p x || list_any p xs)) none
    ] refl
  ]

  any-changed : (p : X → Bool) (f : X → X) (xs : List X) (i : ℕ) → ((x : X) → slice_get xs i ≡ Some x → p (f x) ≡ p x) → list_any p (changed i f xs) ≡ list_any p xs
  any-changed p f [] i same = refl
  any-changed p f (x ∷ xs) zero same = ap (λ (b : Bool). b || list_any p xs) (same x refl)
  any-changed p f (x ∷ xs) (suc i) same = rw (changed-cons x xs i f) (ap (λ (b : Bool). p x || b) (any-changed p f xs i same))

  pub any-changed_first : (q p : X → Bool) (f : X → X) (xs : List X) → ((x : X) → q x ≡ true → p (f x) ≡ p x) → list_any p (changed_first q f xs) ≡ list_any p xs
  any-changed_first q p f xs same = by (position q xs) refl
    where
      by : (o : Option ℕ) → position q xs ≡ o → list_any p (changed_there f xs o) ≡ list_any p xs
      by None e = refl
      by (Some i) e = any-changed p f xs i (λ x k. same x (find_passes q xs x (find-place q xs (Some i) e ∙ k)))

  pub element-other : (i j : ℕ) (f : X → X) (xs : List X) → i ≢ j → slice_get (changed i f xs) j ≡ slice_get xs j
  element-other i j f [] ne = refl
  element-other zero zero f (x ∷ xs) ne = absurd (ne refl)
  element-other zero (suc j) f (x ∷ xs) ne = refl
  element-other (suc i) zero f (x ∷ xs) ne = rw (changed-cons x xs i f) refl
  element-other (suc i) (suc j) f (x ∷ xs) ne = rw (changed-cons x xs i f) (element-other i j f xs (λ e. ne (ap suc e)))

-- ---- owners that a step doesn't touch

pub has_as : (m k : Machine) (o : Owner) (a : DevAddr) → k.devices ≡ m.devices → k.visitors ≡ m.visitors → k.asks ≡ m.asks → has o a k ≡ has o a m
unfolding has
has_as m k (owner.Device i) a ds vs xs = ap (λ (l : List Device). holds_of (device_has a) (slice_get l i)) ds
has_as m k (owner.Visitor dev) a ds vs xs = ap (list_any (is_guest_with dev a)) vs
has_as m k (owner.Ask n) a ds vs xs = ap (list_any (is_ask_with n a)) xs

has-on_device : (i : ℕ) (f : Device → Device) (m : Machine) (o : Owner) (a : DevAddr) → is_same_owner (owner.Device i) o ≡ false → has o a (on_device i f m) ≡ has o a m
unfolding has is_same_owner
has-on_device i f m (owner.Device j) a e = ap (holds_of (device_has a)) (element-other i j f m.devices (differ i j e))
has-on_device i f m (owner.Visitor dev) a e = refl
has-on_device i f m (owner.Ask n) a e = refl

-- a step that leaves a device its contexts
has-same : (i : ℕ) (f : Device → Device) (m : Machine) (o : Owner) (a : DevAddr) → ((d : Device) → (f d).slots ≡ d.slots) → has o a (on_device i f m) ≡ has o a m
unfolding has
has-same i f m (owner.Device j) a same = holds_of-changed (device_has a) i j f m.devices (λ d. ap (slots_have a) (same d))
has-same i f m (owner.Visitor dev) a same = refl
has-same i f m (owner.Ask n) a same = refl

has-on_place : (at : Option ℕ) (f : Device → Device) (m : Machine) (o : Owner) (a : DevAddr) → ((d : Device) → (f d).slots ≡ d.slots) → has o a (on_place at f m) ≡ has o a m
has-on_place None f m o a same = refl
has-on_place (Some i) f m o a same = has-same i f m o a same

has-on_visitor : (dev : Eui) (f : Slots → Slots) (m : Machine) (o : Owner) (a : DevAddr) → is_same_owner (owner.Visitor dev) o ≡ false → has o a (on_visitor dev f m) ≡ has o a m
unfolding has is_same_owner
has-on_visitor dev f m (owner.Device i) a e = refl
has-on_visitor dev f m (owner.Visitor d) a e = any-changed_first (is_visitor dev) (is_guest_with d a) (in_visitor f) m.visitors
    (λ v t. let other : is_visitor d v ≡ false = differs_too v.dev_eui.0 dev.0 d.0 t e in ap (λ (b : Bool). b && slots_have a (f v.slots)) other ∙ sym (ap (λ (b : Bool). b && visitor_has a v) other))
has-on_visitor dev f m (owner.Ask n) a e = refl

has-on_slots : (who : Option Holder) (f : Slots → Slots) (m : Machine) (o : Owner) (a : DevAddr) → is_the_owner (option_map owner_by who) o ≡ false → has o a (on_slots who f m) ≡ has o a m
has-on_slots None f m o a e = refl
has-on_slots (Some (holder.Device i)) f m o a e = has-on_device i (in_slots f) m o a e
has-on_slots (Some (holder.Visitor dev)) f m o a e = has-on_visitor dev f m o a e

-- a step that leaves a holder its addresses
has-kept_slots : (who : Option Holder) (f : Slots → Slots) (m : Machine) (o : Owner) (a : DevAddr) → ((s : Slots) → slots_have a (f s) ≡ slots_have a s) → has o a (on_slots who f m) ≡ has o a m
unfolding has
has-kept_slots None f m o a keeps = refl
has-kept_slots (Some (holder.Device i)) f m (owner.Device j) a keeps = holds_of-changed (device_has a) i j (in_slots f) m.devices (λ d. keeps d.slots)
has-kept_slots (Some (holder.Device i)) f m (owner.Visitor d) a keeps = refl
has-kept_slots (Some (holder.Device i)) f m (owner.Ask n) a keeps = refl
has-kept_slots (Some (holder.Visitor dev)) f m (owner.Device i) a keeps = refl
has-kept_slots (Some (holder.Visitor dev)) f m (owner.Visitor d) a keeps = any-changed_first (is_visitor dev) (is_guest_with d a) (in_visitor f) m.visitors (λ v t. ap (λ (b : Bool). is_visitor d v && b) (keeps v.slots))
has-kept_slots (Some (holder.Visitor dev)) f m (owner.Ask n) a keeps = refl

active_same : (f : Context → Context) → ((c : Context) → (f c).addr ≡ c.addr) → (a : DevAddr) (s : Slots) → slots_have a (on_active f s) ≡ slots_have a s
unfolding slots_have
active_same f same a s = ap (λ (b : Bool). b || slot_has a s.pending) (by s.active)
  where
    by : (o : Option Context) → slot_has a (option_map f o) ≡ slot_has a o
    by None = refl
    by (Some c) = ap (λ (x : DevAddr). eqb x.0 a.0) (same c)

heard_same : (u : Uplink) (a : DevAddr) (s : Slots) → slots_have a (heard false u.count u.frame u.down s) ≡ slots_have a s
unfolding heard
heard_same u a s = active_same (answered u.down) (addr-answered u.down) a (accepted false u.count u.frame s) ∙ active_same (slots.heard u.count u.frame) (λ c. refl) a s

queued_same : (item : Item) (m : Machine) (i : ℕ) (o : Owner) (a : DevAddr) → has o a (on_device i (queued item) m) ≡ has o a m
unfolding queued
queued_same item m i o a = has-kept_slots (Some (holder.Device i)) (on_active (pushed item)) m o a (active_same (pushed item) (λ c. refl) a)

joined_same : (counter join_nonce : ℕ) (d : Device) → (joined counter join_nonce None d).slots ≡ d.slots
unfolding joined
joined_same counter join_nonce d = refl

called_same : (d : Device) → (called_back d).slots ≡ d.slots
unfolding called_back
called_same d = refl

granted_same : (g : Granted) (d : Device) → (with_grant g d).slots ≡ d.slots
unfolding with_grant
granted_same g d = refl

waking : (b : Bool) (who : Holder) (m : Machine) (o : Owner) (a : DevAddr) → is_same_owner (owner_by who) o ≡ false → has o a (wake (cond b (Some who) None) m) ≡ has o a m
waking true who m o a e = has-on_slots (Some who) activated m o a (by who e)
  where
    by : (who : Holder) → is_same_owner (owner_by who) o ≡ false → is_the_owner (option_map owner_by (Some who)) o ≡ false
    by who e = e
waking false who m o a e = refl

untouched_by_drop : (k : RoamingKind) (sender : Sender) (dev : Eui) (m : Machine) (o : Owner) (a : DevAddr) → is_same_owner (owner.Visitor dev) o ≡ false → has o a (on_dropped k sender dev m) ≡ has o a m
unfolding has is_same_owner
untouched_by_drop kind.Held sender dev m o a e = has_as m (on_dropped kind.Held sender dev m) o a refl refl refl
untouched_by_drop kind.Lent sender dev m o a e = has-on_place (place_of dev m) called_back m o a called_same
untouched_by_drop kind.Visitor sender dev m o a e = by o e
  where
    turned : (x y : ℕ) → eqb y x ≡ false → eqb x y ≡ false
    turned x y f = grind arith

    by : (o : Owner) → is_same_owner (owner.Visitor dev) o ≡ false → has o a (on_dropped kind.Visitor sender dev m) ≡ has o a m
    by (owner.Device i) e = refl
    by (owner.Visitor d) e = any_kept (is_guest_with d a) (λ (v : Visitor). not (is_visitor dev v)) (λ v t. ap not (differs_too v.dev_eui.0 d.0 dev.0 (both (is_visitor d v) (visitor_has a v) t).0 (turned d.0 dev.0 e))) m.visitors
    by (owner.Ask n) e = refl

untouched_by_change : (sender : Sender) (c : Change) (m : Machine) (o : Owner) (a : DevAddr) → is_the_owner (touched_by_change c m) o ≡ false → has o a (on_change sender c (wake (change_wakes c m) m)) ≡ has o a m
unfolding on_change
untouched_by_change sender (change.Join j) m o a e = by j.own e
  where
    by : (own : Option OwnContext) → is_the_owner (cond (is_some own) (Some (owner.Device j.device)) None) o ≡ false → has o a (on_device j.device (joined j.counter j.join_nonce own) m) ≡ has o a m
    by None e = has-same j.device (joined j.counter j.join_nonce None) m o a (joined_same j.counter j.join_nonce)
    by (Some own) e = has-on_device j.device (joined j.counter j.join_nonce (Some own)) m o a e
untouched_by_change sender (change.Rejoin j) m o a e =
    let k = wake (change_wakes (change.Rejoin j) m) m in
    has-on_device j.device (rejoined j.used j.counter j.join_nonce j.own) k o a e ∙ waking (holds_of (uses_pending j.used) (slice_get m.devices j.device)) (holder.Device j.device) m o a e
untouched_by_change sender (change.Lent l) m o a e = has-on_device l.device (lent_out l.used l.counter l.join_nonce (lent_to l)) m o a e
untouched_by_change sender (change.Up u) m o a e = by u.pending e
  where
    by : (pending : Bool) → is_the_owner (cond pending (option_map owner_by (holder_of u.dev_eui m)) None) o ≡ false → has o a (on_slots (holder_of u.dev_eui m) (heard pending u.count u.frame u.down) m) ≡ has o a m
    by true e = has-on_slots (holder_of u.dev_eui m) (heard true u.count u.frame u.down) m o a e
    by false e = has-kept_slots (holder_of u.dev_eui m) (heard false u.count u.frame u.down) m o a (heard_same u a)
untouched_by_change sender (change.Passive p) m o a e =
    has-on_slots (holder_of p.up.dev_eui m) (heard p.up.pending p.up.count p.up.frame p.up.down) (on_place (place_of p.up.dev_eui m) (with_grant (granted_by p)) m) o a e
    ∙ has-on_place (place_of p.up.dev_eui m) (with_grant (granted_by p)) m o a (granted_same (granted_by p))
untouched_by_change sender (change.Queue q) m o a e = queued_same (item_of q) m q.device o a
untouched_by_change sender (change.Dropped d) m o a e = untouched_by_drop d.what sender d.dev_eui m o a e

untouched_by_rejoin : (dev : Option Eui) (count : Option RejoinCount) (m : Machine) (o : Owner) (a : DevAddr) → is_the_owner (option_map visitor_owner dev) o ≡ false → has o a (with_rejoin dev count m) ≡ has o a m
untouched_by_rejoin None count m o a e = refl
untouched_by_rejoin (Some dev) None m o a e = refl
untouched_by_rejoin (Some dev) (Some count) m o a e = has-on_visitor dev (on_active (with_count count.count)) m o a e

untouched_awake : (dev : Option Eui) (count : Option RejoinCount) (m : Machine) (o : Owner) (a : DevAddr) → is_the_owner (option_map visitor_owner dev) o ≡ false → has o a (wake (visitor_waking dev count) m) ≡ has o a m
untouched_awake None count m o a e = refl
untouched_awake (Some dev) None m o a e = refl
untouched_awake (Some dev) (Some count) m o a e = waking count.pending (holder.Visitor dev) m o a e

without_kept : (closes : Option ℕ) (n : ℕ) (a : DevAddr) (asks : List OpenAsk) → is_the_owner (option_map ask_owner closes) (owner.Ask n) ≡ false → list_any (is_ask_with n a) (without closes asks) ≡ list_any (is_ask_with n a) asks
unfolding is_same_owner
without_kept None n a asks e = refl
without_kept (Some c) n a asks e = any_kept (is_ask_with n a) (is_other c) (λ k t. ap not (apart k.number n c (both (has_number n k) (asks_for a k) t).0 e)) asks
  where
    apart : (x n c : ℕ) → eqb x n ≡ true → eqb c n ≡ false → eqb x c ≡ false
    apart x n c t f = grind arith

untouched_by_ask : (w : NewAsk) (m k : Machine) (o : Owner) (a : DevAddr) → k.entries ≡ m.entries → is_same_owner (owner.Ask m.entries) o ≡ false → is_the_owner (option_map ask_owner w.closes) o ≡ false → has o a (asked w k) ≡ has o a k
unfolding has is_same_owner
untouched_by_ask w m k (owner.Device i) a same e f = refl
untouched_by_ask w m k (owner.Visitor dev) a same e f = refl
untouched_by_ask w m k (owner.Ask n) a same e f =
    any-append (is_ask_with n a) (without w.closes k.asks) (ask_of k.entries w) (ap (λ (b : Bool). b && asks_for a (ask_of k.entries w)) (ap (λ (x : ℕ). eqb x n) same ∙ e))
    ∙ without_kept w.closes n a k.asks f

untouched_by_close : (t : ℕ) (m : Machine) (o : Owner) (a : DevAddr) → is_same_owner (owner.Ask t) o ≡ false → has o a (closed t m) ≡ has o a m
unfolding has
untouched_by_close t m (owner.Device i) a e = refl
untouched_by_close t m (owner.Visitor dev) a e = refl
untouched_by_close t m (owner.Ask n) a e = without_kept (Some t) n a m.asks e

untouched_by_effect : (n : ℕ) (w : Effect) (m : Machine) (o : Owner) (a : DevAddr) → is_the_owner (touched_by_effect w) o ≡ false → has o a (on_effect n w m) ≡ has o a m
unfolding has is_same_owner on_effect visit
untouched_by_effect n effect.Nothing m o a e = refl
untouched_by_effect n (effect.Visitor w) m o a e = by o e
  where
    by : (o : Owner) → is_same_owner (owner.Visitor w.dev_eui) o ≡ false → has o a (on_effect n (effect.Visitor w) m) ≡ has o a m
    by (owner.Device i) e = refl
    by (owner.Visitor d) e = any-put (is_guest_with d a) visitor_number (new_visitor n w) (renewed n w) (ap (λ (b : Bool). b && visitor_has a (new_visitor n w)) e)
        (λ v same. let other : is_visitor d v ≡ false = ap (λ (x : ℕ). eqb x d.0) same ∙ e in (ap (λ (b : Bool). b && visitor_has a v) other, ap (λ (b : Bool). b && visitor_has a (renewed n w v)) other)) m.visitors
    by (owner.Ask l) e = refl
untouched_by_effect n (effect.Held h) m o a e = has_as m (on_effect n (effect.Held h) m) o a refl refl refl
untouched_by_effect n (effect.Counter c) m o a e = has_as m (on_effect n (effect.Counter c) m) o a refl refl refl

-- an event, with the activation before it, leaves the addresses of those that it doesn't touch
pub untouched : (e : Event) (m : Machine) (o : Owner) (a : DevAddr) → touches (touched_by e m) o ≡ false → has o a (on_event e (wake (wakes e m) m)) ≡ has o a m
unfolding has on_event wakes touched_by
untouched event.Opened m o a e = by o e
  where
    by : (o : Owner) → touches (touched_by event.Opened m) o ≡ false → has o a (on_event event.Opened m) ≡ has o a m
    by (owner.Device i) e = refl
    by (owner.Visitor dev) e = refl
    by (owner.Ask n) e = absurd (false≢true (sym e))
untouched (event.Tables t) m o a e = refl
untouched (event.Kept r c) m o a e = untouched_by_change r.sender c m o a e
untouched (event.Asked w) m o a e =
    let k = wake (visitor_waking w.target.dev_eui w.target.rejoin) m in
    let new = neither (is_same_owner (owner.Ask m.entries) o) (is_the_owner (option_map ask_owner w.closes) o || is_the_owner (option_map visitor_owner w.target.dev_eui) o) e in
    let old = neither (is_the_owner (option_map ask_owner w.closes) o) (is_the_owner (option_map visitor_owner w.target.dev_eui) o) new.1 in
    untouched_by_rejoin w.target.dev_eui w.target.rejoin (asked w k) o a old.1
    ∙ untouched_by_ask w m k o a (stays-wake (visitor_waking w.target.dev_eui w.target.rejoin) m).entries new.0 old.0
    ∙ untouched_awake w.target.dev_eui w.target.rejoin m o a old.1
untouched (event.Told t) m o a e =
    let parts = neither (is_same_owner (owner.Ask t.ask) o) (is_the_owner (touched_by_effect t.effect) o) e in
    untouched_by_effect m.entries t.effect (closed t.ask m) o a parts.1 ∙ untouched_by_close t.ask m o a parts.0
untouched (event.Suspend i) m o a e = has-on_device i (marked true) m o a e
untouched (event.Resume i) m o a e = has-on_device i (marked false) m o a e
