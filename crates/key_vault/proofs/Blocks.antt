-- Blocks that are changed one by one.
use Rattle.std.proofs.Common.{◌≡◌, ℕ, ◌+◌, ◌<◌, List, [], ◌++◌, map, take, drop, set, length, get_or, arith}
use Rattle.std.proofs.lemmas.List.{get_or_default}
use Rattle.std.proofs.lemmas.List.Edits.{map_over_more}

-- one block more is changed
pub changed_more : (f : List ℕ → List ℕ) (xs ys : List (List ℕ)) (i : ℕ) (y : List ℕ) → length ys ≡ length xs → i < length xs
    → ys ≡ map f (take i xs) ++ drop i xs → y ≡ f (get_or ys i []) → set ys i y ≡ map f (take (i + 1) xs) ++ drop (i + 1) xs
changed_more f xs ys i y same lt was e =
    let here : i < length ys = omega arith in
    rw e (map_over_more f xs ys i (get_or ys i []) lt was (get_or_default ys i [] (get_or ys i []) here))
