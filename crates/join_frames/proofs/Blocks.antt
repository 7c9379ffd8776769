-- Bytes in blocks of 16.
use Rattle.std.proofs.Common.{◌≡◌, ◌+◌, ◌-◌, ℕ, List, [], ◌++◌, length, take, drop, refl, arith, append_assoc, length-append, length-drop}
use Rattle.std.proofs.lemmas.List.{take_at, drop_at, drop_all, append-nil}
use borrow.Rule.Slice.PartMut.{put_mid, post_of}

-- the first 16 bytes of a written part, and what stood behind it
pub first_block : (p q b : List ℕ) → length b ≡ 16 → p ≡ b → take 16 (p ++ q) ≡ b
first_block p q b h e = rw e (take_at b q 16 h)

pub two_blocks : (p q r s a b : List ℕ) → length a ≡ 16 → length b ≡ 16 → p ≡ a → r ≡ b → take 32 (take 16 (p ++ q) ++ (r ++ s)) ≡ a ++ b
two_blocks p q r s a b ha hb ep er =
    rw (first_block p q a ha ep, er, ← append_assoc a b s) (take_at (a ++ b) s 32 (simp length-append (omega arith)))

-- a block that is written in two parts
pub joined_parts : (f l p q z : List ℕ) → length z ≡ 16 → length f + length l ≡ 16 → p ≡ f → q ≡ l
    → put_mid (length f) (16 - length f) (p ++ drop (length f) z) q ≡ f ++ l
joined_parts f l p q z hz h ep eq =
    let n = length f in
    let head : take n (f ++ drop n z) ≡ f = take_at f (drop n z) n refl in
    let behind : drop n (f ++ drop n z) ≡ drop n z = drop_at f (drop n z) n refl in
    let rest : post_of n (16 - n) (f ++ drop n z) ≡ [] = rw behind (drop_all (16 - n) (drop n z) (omega (arith, length-drop n z))) in
    rw (ep, eq, head, rest, append-nil) refl
