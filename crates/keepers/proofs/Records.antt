-- Records that lie one behind another, and one more.
use Rattle.std.proofs.Common.{◌≡◌, inl, inr, ℕ, zero, suc, ◌+◌, ◌<◌, ◌≤◌, List, [], ◌∷◌, ◌++◌, length, get_or, take, drop, Some, refl, sym, subst, ◌∙◌, ap, arith, length-drop}
use Rattle.std.specs.Prelude.{sum, slice_get}
use Rattle.std.specs.List.{fold}
use Rattle.std.proofs.lemmas.List.{take_all, take-append-le, drop-append-le, drop-drop, length_push}
use Rattle.std.proofs.lemmas.Bool.{cases_lt}
use Rattle.std.proofs.lemmas.Option.{same_Some}
use Rattle.disk_model.specs.Disk.{LeavesOnly}
use Rattle.keepers.specs.Keeper.{Image, OneMoreOrNot}
use Rattle.keepers.specs.Memory.{cut, HadSince}
use Rattle.keepers.specs.MemoryKeepers.{memory_records}
use Rattle.keepers.specs.declared.memory_keeper.MemoryKeeper.{MemoryKeeper}

sum_from : (a : ℕ) (xs : List ℕ) → fold (λ s x. s + x) a xs ≡ a + sum xs
sum_from a [] = omega arith
sum_from a (x ∷ xs) = let one = sum_from (a + x) xs in let two = sum_from (0 + x) xs in omega (arith, one, two)

pub sum_cons : (n : ℕ) (xs : List ℕ) → sum (n ∷ xs) ≡ n + sum xs
sum_cons n xs = let from = sum_from (0 + n) xs in omega (arith, from)

pub cut_more : (lengths text bytes : List ℕ) → sum lengths ≡ length text → cut (lengths ++ length bytes ∷ []) (text ++ bytes) ≡ cut lengths text ++ bytes ∷ []
cut_more [] [] bytes sums = ap (λ (l : List ℕ). l ∷ []) (take_all (length bytes) bytes (omega arith))
cut_more [] (x ∷ text) bytes sums = absurd (omega arith)
cut_more (n ∷ lengths) text bytes sums =
    let within : n ≤ length text = omega (arith, sums, sum_cons n lengths) in
    let rest : sum lengths ≡ length (drop n text) = omega (arith, sums, sum_cons n lengths, length-drop n text) in
    let tail : cut (lengths ++ length bytes ∷ []) (drop n (text ++ bytes)) ≡ cut lengths (drop n text) ++ bytes ∷ [] =
    ap (λ (l : List ℕ). cut (lengths ++ length bytes ∷ []) l) (drop-append-le n text bytes within) ∙ cut_more lengths (drop n text) bytes rest in
    (λ i. take-append-le n text bytes within i ∷ tail i)

pub sum_take : (k : ℕ) (lengths : List ℕ) → sum (take k lengths) ≤ sum lengths
sum_take zero lengths = omega arith
sum_take (suc k) [] = omega arith
sum_take (suc k) (n ∷ lengths) = let rest = sum_take k lengths in omega (arith, rest, sum_cons n lengths, sum_cons n (take k lengths))

pub sum_next : (k : ℕ) (lengths : List ℕ) → k < length lengths → sum (take k lengths) + get_or lengths k 0 ≤ sum lengths
sum_next k [] lt = absurd (omega arith)
sum_next zero (n ∷ lengths) lt = omega (arith, sum_cons n lengths)
sum_next (suc k) (n ∷ lengths) lt = let rest = sum_next k lengths (omega arith) in omega (arith, rest, sum_cons n lengths, sum_cons n (take k lengths))

pub kth : (k : ℕ) (lengths text : List ℕ) → k < length lengths → slice_get (cut lengths text) k ≡ Some (take (get_or lengths k 0) (drop (sum (take k lengths)) text))
kth k [] text lt = absurd (omega arith)
kth zero (n ∷ lengths) text lt = refl
kth (suc k) (n ∷ lengths) text lt = kth k lengths (drop n text) (omega arith) ∙ ap (λ (l : List ℕ). Some (take (get_or lengths k 0) l)) (drop-drop (sum (take k lengths)) n text ∙ ap (λ (m : ℕ). drop m text) (sym (sum_cons n (take k lengths))))

pub one_more : (lengths text bytes new_lengths new_text : List ℕ) → new_text ≡ text ++ bytes → new_lengths ≡ lengths ++ length bytes ∷ [] → sum lengths ≡ length text → cut new_lengths new_text ≡ cut lengths text ++ bytes ∷ []
one_more lengths text bytes new_lengths new_text text_is lengths_is sums = (λ i. cut (lengths_is i) (text_is i)) ∙ cut_more lengths text bytes sums

-- a keeper in memory that has one record more
adds_own : (old new : MemoryKeeper) (bytes : List ℕ) → memory_records new ≡ memory_records old ++ bytes ∷ [] → LeavesOnly (λ (k : MemoryKeeper). length (memory_records k)) (λ (k : MemoryKeeper). HadSince (memory_records k)) old new (OneMoreOrNot (memory_records old) bytes)
adds_own old new bytes is = record {
  later = omega (arith, longer);
  each = λ image had. elim (cases_lt (length (memory_records old)) had.0) [
    | inl more ↦ inr (all image had more)
    | inr less ↦
        let last : had.0 ≡ length (memory_records old) = omega (arith, less, had.1) in
        inl (had.3 ∙ ap Some (front had.0 less ∙ take_all had.0 (memory_records old) (omega (arith, last))))
  ];
  before = λ t image le had. elim (cases_lt (length (memory_records old)) had.0) [
    | inl more ↦ inr (inr (all image had more))
    | inr less ↦ inl (had.0, had.1, less, had.3 ∙ ap Some (front had.0 less))
  ];
}
  where
    longer : length (memory_records new) ≡ length (memory_records old) + 1
    longer = ap (λ (r : List (List ℕ)). length r) is ∙ length_push (memory_records old) bytes

    front : (n : ℕ) → n ≤ length (memory_records old) → take n (memory_records new) ≡ take n (memory_records old)
    front n le = ap (λ (r : List (List ℕ)). take n r) is ∙ take-append-le n (memory_records old) (bytes ∷ []) le

    all : {t : ℕ} (image : Image) → (had : HadSince (memory_records new) t image) → length (memory_records old) < had.0 → image ≡ Some (memory_records old ++ bytes ∷ [])
    all image had more = had.3 ∙ ap Some (take_all had.0 (memory_records new) (omega (arith, more, longer)) ∙ is)

pub adds : (old new : MemoryKeeper) (bytes : List ℕ) (r : List (List ℕ)) → Some (memory_records old) ≡ Some r → memory_records new ≡ memory_records old ++ bytes ∷ [] → LeavesOnly (λ (k : MemoryKeeper). length (memory_records k)) (λ (k : MemoryKeeper). HadSince (memory_records k)) old new (OneMoreOrNot r bytes)
adds old new bytes r told is = subst (λ (l : List (List ℕ)). LeavesOnly (λ (k : MemoryKeeper). length (memory_records k)) (λ (k : MemoryKeeper). HadSince (memory_records k)) old new (OneMoreOrNot l bytes)) (same_Some (memory_records old) r told) (adds_own old new bytes is)
