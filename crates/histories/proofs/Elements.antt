-- Elements by place and by test.
use Rattle.std.proofs.Common.{◌≡◌, ◌≢◌, ℕ, zero, suc, ◌+◌, ◌≤◌, Bool, true, false, cond, List, [], ◌∷◌, map, get_or, Option, Some, None, option_map, refl, sym, ap, subst, ◌∙◌, arith}
use Rattle.std.specs.Prelude.{◌==◌, find, position, slice_get}
use Rattle.std.specs.List.{AllByRecursion}
use Rattle.std.proofs.lemmas.Option.{get_or_from_slice_get, slice_get_within, slice_get-map}
use Rattle.wire_ids.specs.Lists.{changed}
use Rattle.wire_ids.proofs.Lists.{changed-cons}
use Rattle.agreements.specs.LookUps.{AreFound as HasPlaces}
use Rattle.agreements.specs.declared.rows.DeviceRow.{DeviceRow}
use Rattle.entry_codec.specs.Index.{row_number}
use Rattle.entry_codec.specs.Ordered.{IsRisingFrom}
use Rattle.entry_codec.proofs.Ordered.{some_is}
use Rattle.entry_codec.proofs.Places.{find-place}

module _ {X : Type 0} where
  all_of : (P : X → Type 0) (xs : List X) → ((j : ℕ) (x : X) → slice_get xs j ≡ Some x → P x) → AllByRecursion P xs
  all_of P [] each = tt
  all_of P (x ∷ xs) each = (each zero x refl, all_of P xs (λ j y there. each (suc j) y there))

  -- one element is changed, and the others have it before
  pub all_but : (P : X → Type 0) (i : ℕ) (f : X → X) (xs : List X) → ((j : ℕ) (x : X) → slice_get xs j ≡ Some x → j ≢ i → P x) → ((x : X) → slice_get xs i ≡ Some x → P (f x)) → AllByRecursion P (changed i f xs)
  all_but P i f [] others here = tt
  all_but P zero f (x ∷ xs) others here = (here x refl, all_of P xs (λ j y there. others (suc j) y there (λ e. absurd (omega (arith, e)))))
  all_but P (suc i) f (x ∷ xs) others here =
      rw (changed-cons x xs i f) (others zero x refl (λ e. absurd (omega (arith, e))), all_but P i f xs (λ j y there apart. others (suc j) y there (λ e. apart (omega (arith, e)))) here)

  pub element : (P : X → Type 0) (xs : List X) (i : ℕ) (x : X) → AllByRecursion P xs → slice_get xs i ≡ Some x → P x
  element P [] i x h there = absurd cc
  element P (y ∷ ys) zero x h there = subst P (some_is y x there) h.0
  element P (y ∷ ys) (suc i) x h there = element P ys i x h.1 there

  find_passes : (p : X → Bool) (xs : List X) (x : X) → find p xs ≡ Some x → p x ≡ true
  find_passes p [] x e = absurd cc
  find_passes p (y ∷ ys) x e = elim (p y) as (λ b. p y ≡ b → cond b (Some y) (find p ys) ≡ Some x → p x ≡ true) [
    | true ↦ λ t k. subst (λ (z : X). p z ≡ true) (some_is y x k) t
    | false ↦ λ t k. find_passes p ys x k
  ] refl e

  -- the element at the first place that passes does so
  pub place_passes : (p : X → Bool) (xs : List X) (i : ℕ) (x : X) → position p xs ≡ Some i → slice_get xs i ≡ Some x → p x ≡ true
  place_passes p xs i x place there = find_passes p xs x (find-place p xs (Some i) place ∙ there)

  -- two changes that commute
  pub changes-commute : (i j : ℕ) (f g : X → X) (xs : List X) → ((x : X) → f (g x) ≡ g (f x)) → changed i f (changed j g xs) ≡ changed j g (changed i f xs)
  changes-commute i j f g [] same = refl
  changes-commute zero zero f g (x ∷ xs) same = ap (λ (y : X). y ∷ xs) (same x)
  changes-commute zero (suc j) f g (x ∷ xs) same = rw (changed-cons x xs j g, changed-cons (f x) xs j g) refl
  changes-commute (suc i) zero f g (x ∷ xs) same = rw (changed-cons (g x) xs i f, changed-cons x xs i f) refl
  changes-commute (suc i) (suc j) f g (x ∷ xs) same =
      rw (changed-cons x xs j g, changed-cons x (changed j g xs) i f, changed-cons x xs i f, changed-cons x (changed i f xs) j g) (ap (λ (ys : List X). x ∷ ys) (changes-commute i j f g xs same))

-- ---- numbers that stand once

abbrev pub AreOnce : List ℕ → Type 0
AreOnce ns = (i j a : ℕ) → slice_get ns i ≡ Some a → slice_get ns j ≡ Some a → i ≡ j

at_least : (low : ℕ) (ns : List ℕ) (i a : ℕ) → IsRisingFrom low ns → slice_get ns i ≡ Some a → low ≤ a
at_least low [] i a h there = absurd cc
at_least low (n ∷ ns) zero a h there = omega (arith, h.0, some_is n a there)
at_least low (n ∷ ns) (suc i) a h there = omega (arith, h.0, at_least (n + 1) ns i a h.1 there)

pub rising_once : (low : ℕ) (ns : List ℕ) → IsRisingFrom low ns → AreOnce ns
rising_once low [] h i j a one two = absurd cc
rising_once low (n ∷ ns) h zero zero a one two = refl
rising_once low (n ∷ ns) h zero (suc j) a one two = absurd (omega (arith, some_is n a one, at_least (n + 1) ns j a h.1 two))
rising_once low (n ∷ ns) h (suc i) zero a one two = absurd (omega (arith, some_is n a two, at_least (n + 1) ns i a h.1 one))
rising_once low (n ∷ ns) h (suc i) (suc j) a one two = ap suc (rising_once (n + 1) ns h.1 i j a one two)

-- the places of rows are found by their names
found_row : (rows : List DeviceRow) → HasPlaces rows → (i a : ℕ) (o : Option DeviceRow) → slice_get rows i ≡ o → option_map row_number o ≡ Some a → position (λ (r : DeviceRow). r.dev_eui.0 == a) rows ≡ Some i
found_row rows places i a None there e = absurd cc
found_row rows places i a (Some r) there e =
    let own : get_or rows i r ≡ r = get_or_from_slice_get rows i r r there in
    subst (λ (x : ℕ). position (λ (r : DeviceRow). r.dev_eui.0 == x) rows ≡ Some i) (ap row_number own ∙ some_is (row_number r) a e) (places i r (slice_get_within rows i r there))

pub found_once : (rows : List DeviceRow) → HasPlaces rows → AreOnce (map row_number rows)
found_once rows places i j a one two =
    some_is i j (sym (found_row rows places i a (slice_get rows i) refl (sym (slice_get-map row_number rows i) ∙ one)) ∙ found_row rows places j a (slice_get rows j) refl (sym (slice_get-map row_number rows j) ∙ two))
