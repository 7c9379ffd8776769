-- A list with one element changed: what holds of each, and sums.
use Rattle.std.proofs.Common.{◌≡◌, ℕ, zero, suc, ◌+◌, ◌≤◌, Bool, true, false, cond, List, [], ◌∷◌, length, take, map, Option, Some, None, refl, ap, arith}
use Rattle.std.specs.Prelude.{slice_get, sum_by, ◌||◌}
use Rattle.std.specs.List.{AllByRecursion, filter, list_any}
use Rattle.std.proofs.lemmas.List.Sums.{sum_by-cons}
use Rattle.wire_ids.specs.Lists.{with_changed, changed, changed_there}

pub or_left : (a b : Bool) → (a || b) ≡ false → a ≡ false
or_left true b h = h
or_left false b h = refl

pub or_right : (a b : Bool) → (a || b) ≡ false → b ≡ false
or_right true b h = absurd cc
or_right false b h = h

module _ {X : Type 0} where
  pub all_take : (P : X → Type 0) (n : ℕ) (xs : List X) → AllByRecursion P xs → AllByRecursion P (take n xs)
  all_take P zero xs h = tt
  all_take P (suc n) [] h = tt
  all_take P (suc n) (x ∷ xs) h = (h.0, all_take P n xs h.1)

  pub all_more : (P Q : X → Type 0) (xs : List X) → ((x : X) → P x → Q x) → AllByRecursion P xs → AllByRecursion Q xs
  all_more P Q [] f h = tt
  all_more P Q (x ∷ xs) f h = (f x h.0, all_more P Q xs f h.1)

  pub all_map : (P : X → Type 0) (f : X → X) (xs : List X) → ((x : X) → P x → P (f x)) → AllByRecursion P xs → AllByRecursion P (map f xs)
  all_map P f [] step h = tt
  all_map P f (x ∷ xs) step h = (step x h.0, all_map P f xs step h.1)

  with_changed-cons : (x : X) (xs : List X) (i : ℕ) (f : X → X) (o : Option X) → with_changed (x ∷ xs) (suc i) f o ≡ x ∷ with_changed xs i f o
  with_changed-cons x xs i f None = refl
  with_changed-cons x xs i f (Some y) = refl

  pub changed-cons : (x : X) (xs : List X) (i : ℕ) (f : X → X) → changed (suc i) f (x ∷ xs) ≡ x ∷ changed i f xs
  changed-cons x xs i f = with_changed-cons x xs i f (slice_get xs i)

  pub length-changed : (i : ℕ) (f : X → X) (xs : List X) → length (changed i f xs) ≡ length xs
  length-changed i f [] = refl
  length-changed zero f (x ∷ xs) = refl
  length-changed (suc i) f (x ∷ xs) = rw (changed-cons x xs i f) (ap suc (length-changed i f xs))

  -- what holds of each element still does, where it does of the one that was changed
  pub all_changed : (P : X → Type 0) (i : ℕ) (f : X → X) (xs : List X) → ((x : X) → slice_get xs i ≡ Some x → P x → P (f x)) → AllByRecursion P xs → AllByRecursion P (changed i f xs)
  all_changed P i f [] step h = tt
  all_changed P zero f (x ∷ xs) step h = (step x refl h.0, h.1)
  all_changed P (suc i) f (x ∷ xs) step h = rw (changed-cons x xs i f) (h.0, all_changed P i f xs step h.1)

  -- a sum rises by at most as much as the changed element's share
  pub sum_by-changed : (share : X → ℕ) (i : ℕ) (f : X → X) (xs : List X) (more : ℕ) → ((x : X) → slice_get xs i ≡ Some x → share (f x) ≤ share x + more) → sum_by share (changed i f xs) ≤ sum_by share xs + more
  sum_by-changed share i f [] more step = omega arith
  sum_by-changed share zero f (x ∷ xs) more step = rw (sum_by-cons share (f x) xs, sum_by-cons share x xs) (omega (arith, step x refl))
  sum_by-changed share (suc i) f (x ∷ xs) more step =
      rw (changed-cons x xs i f, sum_by-cons share x (changed i f xs), sum_by-cons share x xs) (omega (arith, sum_by-changed share i f xs more step))

  pub all_changed_there : (P : X → Type 0) (f : X → X) (xs : List X) (o : Option ℕ) → ((x : X) → P x → P (f x)) → AllByRecursion P xs → AllByRecursion P (changed_there f xs o)
  all_changed_there P f xs None step h = h
  all_changed_there P f xs (Some i) step h = all_changed P i f xs (λ x _ h'. step x h') h

  pub sum_by-map_le : (share : X → ℕ) (f : X → X) (xs : List X) → ((x : X) → share (f x) ≤ share x) → sum_by share (map f xs) ≤ sum_by share xs
  sum_by-map_le share f [] step = omega arith
  sum_by-map_le share f (x ∷ xs) step = rw (sum_by-cons share (f x) (map f xs), sum_by-cons share x xs) (omega (arith, step x, sum_by-map_le share f xs step))

  -- of what no element passes, none is counted
  pub none_counted : (p : X → Bool) (share : X → ℕ) (xs : List X) → ((x : X) → p x ≡ false → share x ≡ 0) → list_any p xs ≡ false → sum_by share xs ≡ 0
  none_counted p share [] step h = refl
  none_counted p share (x ∷ xs) step h =
      rw (sum_by-cons share x xs) (omega (arith, step x (or_left (p x) (list_any p xs) h), none_counted p share xs step (or_right (p x) (list_any p xs) h)))

  pub sum_by-filter_le : (share : X → ℕ) (p : X → Bool) (xs : List X) → sum_by share (filter p xs) ≤ sum_by share xs
  sum_by-filter_le share p [] = omega arith
  sum_by-filter_le share p (x ∷ xs) = rw (sum_by-cons share x xs) (elim (p x) as (λ b. sum_by share (cond b (x ∷ filter p xs) (filter p xs)) ≤ share x + sum_by share xs) [
    | true ↦ rw (sum_by-cons share x (filter p xs)) (omega (arith, sum_by-filter_le share p xs))
    | false ↦ omega (arith, sum_by-filter_le share p xs)
  ])

  pub length-filter_le : (p : X → Bool) (xs : List X) → length (filter p xs) ≤ length xs
  length-filter_le p [] = omega arith
  length-filter_le p (x ∷ xs) = elim (p x) as (λ b. length (cond b (x ∷ filter p xs) (filter p xs)) ≤ length (x ∷ xs)) [
    | true ↦ omega (arith, length-filter_le p xs)
    | false ↦ omega (arith, length-filter_le p xs)
  ]
