-- Lists of different elements, as they grow at the end.
use Rattle.std.proofs.Common.{◌≡◌, Bool, false, ◌||◌, List, [], ◌∷◌, ◌++◌, map, refl, ap, sym, ◌∙◌}
use Rattle.std.proofs.Math.Path.{subst}
use Rattle.std.proofs.lemmas.Bool.{or_from, or_parts}
use Rattle.std.proofs.lemmas.List.{append_assoc, map-append}
use Rattle.std.proofs.lemmas.List.Folds.{list_any-append}
use Rattle.std.specs.List.{AllByRecursion, IsDistinct, list_any}

by_recursion_end : {K : Type 0} (P : K → Type 0) (xs : List K) (y : K) → AllByRecursion P xs → P y → AllByRecursion P (xs ++ y ∷ [])
by_recursion_end P [] y h p = (p, tt)
by_recursion_end P (x ∷ xs) y h p = (h.0, by_recursion_end P xs y h.1 p)

-- one more, which no element before it is equal to
pub distinct_end : {K : Type 0} (e : K → K → Bool) (xs : List K) (y : K) → IsDistinct e xs → list_any (λ x. e x y) xs ≡ false → IsDistinct e (xs ++ y ∷ [])
unfolding IsDistinct
distinct_end e [] y h none = (tt, tt)
distinct_end e (x ∷ xs) y h none =
    let parts = or_parts (e x y) (list_any (λ z. e z y) xs) none in
    (by_recursion_end (λ z. e x z ≡ false) xs y h.0 parts.0, distinct_end e xs y h.1 parts.1)

pub distinct_none : {K : Type 0} (e : K → K → Bool) → IsDistinct e []
unfolding IsDistinct
distinct_none e = tt

pub distinct_one : {K : Type 0} (e : K → K → Bool) (x : K) → IsDistinct e (x ∷ [])
unfolding IsDistinct
distinct_one e x = (tt, tt)

pub list_any-map : {X K : Type 0} (p : K → Bool) (f : X → K) (xs : List X) → list_any p (map f xs) ≡ list_any (λ x. p (f x)) xs
list_any-map p f [] = refl
list_any-map p f (x ∷ xs) = ap (λ (b : Bool). p (f x) || b) (list_any-map p f xs)

pub none_mapped : {X K : Type 0} (p : K → Bool) (front : List K) (f : X → K) (xs : List X) → list_any p front ≡ false → list_any (λ x. p (f x)) xs ≡ false → list_any p (front ++ map f xs) ≡ false
none_mapped p front f xs none nones = list_any-append p front (map f xs) ∙ or_from (list_any p front) (list_any p (map f xs)) none (list_any-map p f xs ∙ nones)

-- one more row, whose name stands neither in front of the rows nor in them
pub distinct_row : {X K : Type 0} (e : K → K → Bool) (front : List K) (f : X → K) (xs : List X) (y : X) → IsDistinct e (front ++ map f xs)
    → list_any (λ k. e k (f y)) front ≡ false → list_any (λ x. e (f x) (f y)) xs ≡ false → IsDistinct e (front ++ map f (xs ++ y ∷ []))
distinct_row e front f xs y h none nones =
    let grown : (front ++ map f xs) ++ f y ∷ [] ≡ front ++ map f (xs ++ y ∷ []) = append_assoc front (map f xs) (f y ∷ []) ∙ ap (λ ks. front ++ ks) (sym (map-append f xs (y ∷ []))) in
    subst (IsDistinct e) grown (distinct_end e (front ++ map f xs) (f y) h (none_mapped (λ k. e k (f y)) front f xs none nones))
