-- Two byte strings of one length, compared by the differences of all their bytes.
use Rattle.std.proofs.Common.{◌≡◌, ◌↔◌, ◌==◌, ℕ, zero, suc, ◌+◌, ◌-◌, true, ◌<◌, ◌≤◌, List, ◌++◌, length, take, drop, get_or, bit_or, bit_xor, refl, ap, sym, ◌∙◌, inl, inr, arith}
use Rattle.std.specs.Int.Bits.{xor_assoc, xor_self, xor_zero_l, xor_zero_r, or_zero_r}
use Rattle.std.proofs.lemmas.Bool.{cases_lt, eqb-true, eq-eqb}
use Rattle.std.proofs.lemmas.Nat.{le_or_l, le_or_r}
use Rattle.std.proofs.lemmas.List.{ext_get_or, get_or_past, take_all, take-take, drop-take, take-append-drop}

-- the bits in which one of the first n bytes differs
unfoldable pub difference : List ℕ → List ℕ → ℕ → ℕ
difference a b zero = 0
difference a b (suc n) = bit_or (difference a b n) (bit_xor (get_or a n 0) (get_or b n 0))

pub difference_more : (a b : List ℕ) (n d : ℕ) → d ≡ difference a b n → bit_or d (bit_xor (get_or a n 0) (get_or b n 0)) ≡ difference a b (suc n)
unfolding difference
difference_more a b n d e = rw e refl

pub no_difference : (a : List ℕ) (n : ℕ) → difference a a n ≡ 0
unfolding difference
no_difference a zero = refl
no_difference a (suc n) = rw (no_difference a n, xor_self (get_or a n 0)) refl

same_number : (x y : ℕ) → bit_xor x y ≡ 0 → x ≡ y
same_number x y e =
    sym (xor_zero_r x) ∙ ap (bit_xor x) (sym (xor_self y)) ∙ sym (xor_assoc x y y) ∙ ap (λ (n : ℕ). bit_xor n y) e ∙ xor_zero_l y

same_at : (a b : List ℕ) (n i : ℕ) → difference a b n ≡ 0 → i < n → get_or a i 0 ≡ get_or b i 0
unfolding difference
same_at a b zero i e h = absurd (omega arith)
same_at a b (suc n) i e h =
    let before : ℕ = difference a b n in
    let here : ℕ = bit_xor (get_or a n 0) (get_or b n 0) in
    let none_before : before ≡ 0 = omega (arith, le_or_l before here, e) in
    let none_here : here ≡ 0 = omega (arith, le_or_r before here, e) in
    elim (cases_lt i n) [
      | inl l ↦ same_at a b n i none_before l
      | inr g ↦
          let last : i ≡ n = omega arith in
          rw last (same_number (get_or a n 0) (get_or b n 0) none_here)
    ]

-- the same past the ends
pub difference_past : (a b : List ℕ) (n d : ℕ) → length a ≤ n → length b ≤ n → d ≡ difference a b n → d ≡ difference a b (suc n)
unfolding difference
difference_past a b n d ha hb e = rw (get_or_past a n 0 ha, get_or_past b n 0 hb) (e ∙ sym (or_zero_r (difference a b n)))

same_of_no_difference : (a b : List ℕ) (n : ℕ) → length a ≡ length b → length a ≤ n → difference a b n ≡ 0 → a ≡ b
same_of_no_difference a b n l h e = ext_get_or 0 a b l (λ i k. same_at a b n i e (omega arith))

pub same-iff : (a b : List ℕ) (d n : ℕ) → length a ≡ length b → length a ≤ n → d ≡ difference a b n → (d ≡ 0) ↔ (a ≡ b)
same-iff a b d n l h ed = (
  λ e. same_of_no_difference a b n l h (sym ed ∙ e),
  λ e. ed ∙ ap (λ (t : List ℕ). difference a t n) (sym e) ∙ no_difference a n,
)

-- ---- piece after piece
joined : (a : List ℕ) (start end : ℕ) → start ≤ end → take end a ≡ take start a ++ take (end - start) (drop start a)
joined a start end h =
    let whole : start + (end - start) ≡ end = omega arith in
    let first : take start (take end a) ≡ take start a = take-take start end a h in
    let rest : drop start (take end a) ≡ take (end - start) (drop start a) = ap (λ (n : ℕ). drop start (take n a)) (sym whole) ∙ drop-take start (end - start) a in
    sym (take-append-drop start (take end a)) ∙ rw (first, rest) refl

-- a piece more
pub same_more : (a b : List ℕ) (all d start end : ℕ) → start ≤ end → (all ≡ 0) ↔ (take start a ≡ take start b) → (d ≡ 0) ↔ (take (end - start) (drop start a) ≡ take (end - start) (drop start b))
    → (bit_or all d ≡ 0) ↔ (take end a ≡ take end b)
same_more a b all d start end h before here = (
  λ e.
      let none_before : all ≡ 0 = omega (arith, le_or_l all d, e) in
      let none_here : d ≡ 0 = omega (arith, le_or_r all d, e) in
      rw (joined a start end h, joined b start end h, before.0 none_before, here.0 none_here) refl,
  λ e.
      let whole : start + (end - start) ≡ end = omega arith in
      let first : take start a ≡ take start b = sym (take-take start end a h) ∙ ap (take start) e ∙ take-take start end b h in
      let rest : take (end - start) (drop start a) ≡ take (end - start) (drop start b) =
      sym (drop-take start (end - start) a) ∙ rw whole (ap (drop start) e) ∙ ap (λ (n : ℕ). drop start (take n b)) (sym whole) ∙ drop-take start (end - start) b in
      rw (before.1 first, here.1 rest) refl,
)

pub same_in_all : (a b : List ℕ) (all n : ℕ) → length a ≡ length b → length a ≤ n → (all ≡ 0) ↔ (take n a ≡ take n b) → ((all == 0) ≡ true) ↔ (a ≡ b)
same_in_all a b all n l h same = (
  λ e. sym (take_all n a h) ∙ same.0 (eqb-true all 0 e) ∙ take_all n b (omega arith),
  λ e. eq-eqb all 0 (same.1 (ap (take n) e)),
)
