-- Sums over lists, and what is counted by them.
use Rattle.std.proofs.Common.{◌≡◌, ℕ, zero, suc, ◌+◌, Bool, List, [], ◌∷◌, map, Option, Some, None, option_map, refl, subst, ◌∙◌, arith}
use Rattle.std.specs.Prelude.{nat_lt, slice_get, sum_by, IsTrue}
use Rattle.std.specs.List.{list_any}
use Rattle.std.proofs.lemmas.List.Sums.{sum_by-cons}
use Rattle.wire_ids.specs.Lists.{changed, holds_of, with_changed}
use Rattle.wire_ids.proofs.Lists.{changed-cons}
use Rattle.entry_codec.proofs.Ordered.{some_is}

module _ {X : Type 0} where
  -- one element changed: the sum less its share is the sum before less its share then
  pub sum_by-change : (share : X → ℕ) (i : ℕ) (f : X → X) (xs : List X) (x : X) → slice_get xs i ≡ Some x → sum_by share (changed i f xs) + share x ≡ sum_by share xs + share (f x)
  sum_by-change share i f [] x e = absurd cc
  sum_by-change share zero f (y ∷ xs) x e = rw (sum_by-cons share (f y) xs, sum_by-cons share y xs, some_is y x e) (omega arith)
  sum_by-change share (suc i) f (y ∷ xs) x e = rw (changed-cons y xs i f, sum_by-cons share y (changed i f xs), sum_by-cons share y xs) (omega (arith, sum_by-change share i f xs x e))

  unchanged : (i : ℕ) (f : X → X) (xs : List X) → slice_get xs i ≡ None → changed i f xs ≡ xs
  unchanged i f xs e = rw e refl

  -- some element passes exactly where the sum isn't 0
  pub any_counted : (p : X → Bool) (share : X → ℕ) → ((x : X) → p x ≡ nat_lt 0 (share x)) → (xs : List X) → list_any p xs ≡ nat_lt 0 (sum_by share xs)
  any_counted p share same [] = refl
  any_counted p share same (x ∷ xs) = rw (same x, any_counted p share same xs, sum_by-cons share x xs) (grind arith)

  pub holds_of-changed : (p : X → Bool) (i j : ℕ) (f : X → X) (xs : List X) → ((x : X) → p (f x) ≡ p x) → holds_of p (slice_get (changed i f xs) j) ≡ holds_of p (slice_get xs j)
  holds_of-changed p i j f [] same = refl
  holds_of-changed p zero zero f (x ∷ xs) same = same x
  holds_of-changed p zero (suc j) f (x ∷ xs) same = refl
  holds_of-changed p (suc i) zero f (x ∷ xs) same = rw (changed-cons x xs i f) refl
  holds_of-changed p (suc i) (suc j) f (x ∷ xs) same = rw (changed-cons x xs i f) (holds_of-changed p i j f xs same)

  element_with : (i : ℕ) (f : X → X) (x : X) (xs : List X) (o : Option X) → o ≡ slice_get xs i → slice_get (with_changed (x ∷ xs) (suc i) f o) (suc i) ≡ slice_get (with_changed xs i f o) i
  element_with i f x xs None e = refl
  element_with i f x xs (Some y) e = refl

  pub element-changed : (i : ℕ) (f : X → X) (xs : List X) → slice_get (changed i f xs) i ≡ option_map f (slice_get xs i)
  element-changed i f [] = refl
  element-changed zero f (x ∷ xs) = refl
  element-changed (suc i) f (x ∷ xs) = element_with i f x xs (slice_get xs i) refl ∙ element-changed i f xs

  pub holds_of-map : {Y : Type 0} (p : Y → Bool) (f : X → Y) (o : Option X) → holds_of p (option_map f o) ≡ holds_of (λ x. p (f x)) o
  holds_of-map p f None = refl
  holds_of-map p f (Some x) = refl

  pub holds_same : (p q : X → Bool) → ((x : X) → p x ≡ q x) → (o : Option X) → holds_of p o ≡ holds_of q o
  holds_same p q same None = refl
  holds_same p q same (Some x) = same x

  pub any_map : (p : X → Bool) (f : X → X) → ((x : X) → p (f x) ≡ p x) → (xs : List X) → list_any p (map f xs) ≡ list_any p xs
  any_map p f same [] = refl
  any_map p f same (x ∷ xs) = rw (same x, any_map p f same xs) refl

  pub at_some : (p : X → Bool) (o : Option X) (x : X) → o ≡ Some x → IsTrue (holds_of p o) → IsTrue (p x)
  at_some p o x e h = subst (λ (q : Option X). IsTrue (holds_of p q)) e h

  pub none_holds : (p : X → Bool) (o : Option X) → o ≡ None → IsTrue (holds_of p o) → ⊥
  none_holds p None e h = absurd cc
  none_holds p (Some x) e h = absurd cc
