-- How a journal grows.
use Rattle.std.proofs.Common.{◌≡◌, ℕ, suc, ◌+◌, List, [], ◌∷◌, ◌++◌, length, take, map, Option, Some, None, sym, ◌∙◌, ap, refl, subst, append_assoc, arith}
use Rattle.std.proofs.lemmas.List.{append-nil, map-append}
use Rattle.std.specs.Option.{option_map}
use Rattle.std.specs.Io.KnownBytes.{Keeps}
use Rattle.entries.specs.Entries.{encode_of}
use Rattle.entries.specs.declared.entry.Entry.{Entry}
use Rattle.keepers.specs.Keeper.{Image}
use Rattle.desk_top.specs.Journals.{Grows}

pub grows_none : (records : Image) → Grows records records []
grows_none None = refl
grows_none (Some rs) = ap Some (sym (append-nil rs))

pub grows_same : (a b b' : Image) (es : List Entry) → Grows a b es → b' ≡ b → Grows a b' es
grows_same a b b' es grown same = same ∙ grown

pub grows_as : (a b : Image) (es fs : List Entry) → es ≡ fs → Grows a b es → Grows a b fs
grows_as a b es fs is grown = subst (λ (gs : List Entry). Grows a b gs) is grown

more_grown : (a : Image) (es fs : List Entry) → option_map (λ (rs : List (List ℕ)). rs ++ map encode_of fs) (option_map (λ (rs : List (List ℕ)). rs ++ map encode_of es) a) ≡ option_map (λ (rs : List (List ℕ)). rs ++ map encode_of (es ++ fs)) a
more_grown None es fs = refl
more_grown (Some rs) es fs = ap Some (append_assoc rs (map encode_of es) (map encode_of fs) ∙ ap (λ (more : List (List ℕ)). rs ++ more) (sym (map-append encode_of es fs)))

pub grows_then : (a b c : Image) (es fs : List Entry) → Grows a b es → Grows b c fs → Grows a c (es ++ fs)
grows_then a b c es fs one two = two ∙ ap (option_map (λ (rs : List (List ℕ)). rs ++ map encode_of fs)) one ∙ more_grown a es fs

pub take-add-front : (xs ys : List ℕ) (n : ℕ) → take (length xs + n) (xs ++ ys) ≡ xs ++ take n ys
take-add-front [] ys n =
    let none : 0 + n ≡ n = omega arith in
    ap (λ (k : ℕ). take k ys) none
take-add-front (x ∷ xs) ys n =
    let one : length (x ∷ xs) + n ≡ suc (length xs + n) = omega arith in
    ap (λ (k : ℕ). take k (x ∷ xs ++ ys)) one ∙ ap (λ (zs : List ℕ). x ∷ zs) (take-add-front xs ys n)

pub keeps_itself : (a : Option (List ℕ)) → Keeps a a
keeps_itself None = tt
keeps_itself (Some a) = refl
