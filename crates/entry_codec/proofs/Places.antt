-- The first element that passes, taken out.
use Rattle.std.proofs.Common.{◌≡◌, ℕ, zero, suc, ◌+◌, ◌<◌, Bool, true, false, cond, List, [], ◌∷◌, ◌++◌, length, take, drop, get_or, Option, Some, None, refl, sym, ap, ◌∙◌, arith}
use Rattle.std.specs.Prelude.{not, find, position, slice_get}
use Rattle.std.specs.List.{filter, position_or_len}
use Rattle.std.proofs.lemmas.List.Folds.{find_at}
use Rattle.std.proofs.lemmas.Option.{slice_get-get_or, slice_get_past}
use Rattle.wire_ids.specs.Lists.{at_place}
use Rattle.entry_codec.proofs.Ordered.{place_found, place_past, place_within}

module _ {X : Type 0} where
  pub none_found : (p : X → Bool) (xs : List X) → position p xs ≡ None → find p xs ≡ None
  none_found p xs e = find_at p xs ∙ slice_get_past xs (position_or_len p xs) (omega (arith, place_past p xs e))

  pub pulled : (p : X → Bool) (xs : List X) (i : ℕ) (d : X) → position p xs ≡ Some i → find p xs ≡ Some (get_or xs i d)
  pulled p xs i d e = find_at p xs ∙ ap (slice_get xs) (sym (place_found p xs i e)) ∙ slice_get-get_or xs i d (place_within p xs i e)

  left_at : (p : X → Bool) (xs : List X) (n : ℕ) → position_or_len p xs ≡ n → n < length xs → filter (λ x. not (p x)) (take n xs ++ drop (suc n) xs) ≡ filter (λ x. not (p x)) xs
  left_at p [] n e lt = absurd (omega (arith, lt))
  left_at p (x ∷ xs) zero e lt = elim (p x) as (λ b. cond (not b) (1 + position_or_len p xs) 0 ≡ 0 → filter (λ y. not (p y)) xs ≡ cond (not b) (x ∷ filter (λ y. not (p y)) xs) (filter (λ y. not (p y)) xs)) [
    | true ↦ λ k. refl
    | false ↦ λ k. absurd (omega (arith, k))
  ] e
  left_at p (x ∷ xs) (suc n) e lt = elim (p x) as (λ b. cond (not b) (1 + position_or_len p xs) 0 ≡ suc n
      → cond (not b) (x ∷ filter (λ y. not (p y)) (take n xs ++ drop (suc n) xs)) (filter (λ y. not (p y)) (take n xs ++ drop (suc n) xs)) ≡ cond (not b) (x ∷ filter (λ y. not (p y)) xs) (filter (λ y. not (p y)) xs)) [
        | true ↦ λ k. absurd (omega (arith, k))
        | false ↦ λ k. ap (λ ys. x ∷ ys) (left_at p xs n (omega (arith, k)) (omega (arith, lt)))
      ] e

  pub left : (p : X → Bool) (xs : List X) (i : ℕ) → position p xs ≡ Some i → filter (λ x. not (p x)) (take i xs ++ drop (suc i) xs) ≡ filter (λ x. not (p x)) xs
  left p xs i e = left_at p xs i (sym (place_found p xs i e)) (place_within p xs i e)

  -- what is found stands at its place
  pub find-place : (p : X → Bool) (xs : List X) (o : Option ℕ) → position p xs ≡ o → find p xs ≡ at_place xs o
  find-place p xs None e = none_found p xs e
  find-place p xs (Some i) e = find_at p xs ∙ ap (slice_get xs) (sym (place_found p xs i e))
