-- A list with one element changed.
use Rattle.std.proofs.Common.{◌≡◌, ◌≢◌, ℕ, zero, suc, List, [], ◌∷◌, map, Some, option_map, slice_get, refl, ap, ◌∙◌}
use Rattle.wire_ids.specs.Lists.{changed}
use Rattle.wire_ids.proofs.Lists.{changed-cons}

-- a function that doesn't see the change
pub map-changed : {X Y : Type 0} (h : X → Y) (i : ℕ) (f : X → X) → ((x : X) → h (f x) ≡ h x) → (xs : List X) → map h (changed i f xs) ≡ map h xs
map-changed h i f same [] = refl
map-changed h zero f same (x ∷ xs) = ap (λ y. y ∷ map h xs) (same x)
map-changed h (suc i) f same (x ∷ xs) = ap (map h) (changed-cons x xs i f) ∙ ap (λ ys. h x ∷ ys) (map-changed h i f same xs)

pub slice_get-changed_same : {X : Type 0} (i : ℕ) (f : X → X) (xs : List X) (x : X) → slice_get xs i ≡ Some x → slice_get (changed i f xs) i ≡ Some (f x)
slice_get-changed_same i f [] x is = absurd cc
slice_get-changed_same zero f (y ∷ xs) x is = ap (option_map f) is
slice_get-changed_same (suc i) f (y ∷ xs) x is = ap (λ ys. slice_get ys (suc i)) (changed-cons y xs i f) ∙ slice_get-changed_same i f xs x is

pub slice_get-changed_other : {X : Type 0} (i k : ℕ) (f : X → X) (xs : List X) → k ≢ i → slice_get (changed i f xs) k ≡ slice_get xs k
slice_get-changed_other i k f [] other = refl
slice_get-changed_other zero zero f (x ∷ xs) other = absurd (other refl)
slice_get-changed_other zero (suc k) f (x ∷ xs) other = refl
slice_get-changed_other (suc i) zero f (x ∷ xs) other = ap (λ ys. slice_get ys zero) (changed-cons x xs i f)
slice_get-changed_other (suc i) (suc k) f (x ∷ xs) other = ap (λ ys. slice_get ys (suc k)) (changed-cons x xs i f) ∙ slice_get-changed_other i k f xs (λ e. other (ap suc e))
