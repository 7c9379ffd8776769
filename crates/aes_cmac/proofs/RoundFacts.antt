-- A round on vectors in the basis is a round of the standard.
use Rattle.std.proofs.Common.{◌≡◌, ℕ, zero, suc, ◌+◌, ◌%◌, ◌<◌, List, [], ◌∷◌, map, length, get_or, replicate, bit_xor, refl, ap, sym, ◌∙◌, arith}
use Rattle.std.specs.Int.Bits.{xor_zero_r}
use Rattle.std.proofs.lemmas.Simd.{map-map, zip2_splat}
use lib.Lanes.{zip2}
use Rattle.aes_cmac.specs.Field.{times_bits, times, sub_byte}
use Rattle.aes_cmac.specs.Aes.{IsBlock, bytes16, xor16, sub_bytes, shift_rows, mix_columns}
use Rattle.aes_cmac.specs.Nibbles.{first_place, second_place, low_half, high_half, entry, by_places, by_halves}
use Rattle.aes_cmac.specs.Basis.{linear, to_basis, from_basis, inv_to_basis, moved, kept, kept_last, turned}
use Rattle.aes_cmac.specs.declared.tables.TheConstants.{SUB_FIRST, SUB_SECOND, DOUBLE_FIRST, DOUBLE_SECOND, LAST_FIRST, LAST_SECOND, IN_LOW, IN_HIGH, OUT_LOW, OUT_HIGH, INV_IN_LOW, INV_IN_HIGH, UP_ONE, UP_THREE}
use Rattle.aes_cmac.proofs.Boxes.{SBOX}
use Rattle.aes_cmac.proofs.FieldFacts.{same_below}
use Rattle.aes_cmac.proofs.SBoxFacts.{SBOX_at}
use Rattle.aes_cmac.proofs.Lanes.{sum_of_maps, looked, IsVector, lane_below}
use Rattle.aes_cmac.proofs.LinearFacts.{to_basis-xor, to_basis-xor5, in_order_with, in_other_order}
use Rattle.aes_cmac.proofs.Undo.{bytes16-self, xor_cross}

-- two tables by the two places, on all lanes
pub by_places_is : (t u x p q r : List ℕ) → p ≡ map first_place x → q ≡ map second_place x → r ≡ zip2 bit_xor (map (entry t) p) (map (entry u) q) → r ≡ map (by_places t u) x
unfolding by_places
by_places_is t u x p q r ep eq er =
    er ∙ sum_of_maps (λ b. entry t (first_place b)) (λ b. entry u (second_place b)) x (map (entry t) p) (map (entry u) q) (looked t first_place x p _ ep refl) (looked u second_place x q _ eq refl)

-- ---- what the tables hold, found by computing it for each byte
unfoldable pub once : ℕ → ℕ
once b = by_places SUB_FIRST SUB_SECOND b

unfoldable pub twice : ℕ → ℕ
twice b = by_places DOUBLE_FIRST DOUBLE_SECOND b

unfoldable pub last : ℕ → ℕ
last b = by_places LAST_FIRST LAST_SECOND b

pub once_at : (b : ℕ) → b < 256 → once (to_basis b) ≡ bit_xor (to_basis (times 1 (sub_byte b))) (to_basis 0x63)
unfolding once by_places first_place second_place to_basis linear times_bits
once_at b h =
    same_below (λ b. once (to_basis b)) (λ b. bit_xor (to_basis (times 1 (get_or SBOX b 0))) (to_basis 0x63)) 256 b refl h
    ∙ ap (λ n. bit_xor (to_basis (times 1 n)) (to_basis 0x63)) (SBOX_at b h)

twice_at : (b : ℕ) → b < 256 → twice (to_basis b) ≡ bit_xor (to_basis (times 2 (sub_byte b))) (to_basis 0xc6)
unfolding twice by_places first_place second_place to_basis linear times_bits
twice_at b h =
    same_below (λ b. twice (to_basis b)) (λ b. bit_xor (to_basis (times 2 (get_or SBOX b 0))) (to_basis 0xc6)) 256 b refl h
    ∙ ap (λ n. bit_xor (to_basis (times 2 n)) (to_basis 0xc6)) (SBOX_at b h)

thrice_at : (b : ℕ) → b < 256 → bit_xor (once (to_basis b)) (twice (to_basis b)) ≡ bit_xor (to_basis (times 3 (sub_byte b))) (to_basis 0xa5)
unfolding once twice by_places first_place second_place to_basis linear times_bits
thrice_at b h =
    same_below (λ b. bit_xor (once (to_basis b)) (twice (to_basis b))) (λ b. bit_xor (to_basis (times 3 (get_or SBOX b 0))) (to_basis 0xa5)) 256 b refl h
    ∙ ap (λ n. bit_xor (to_basis (times 3 n)) (to_basis 0xa5)) (SBOX_at b h)

last_at : (b : ℕ) → b < 256 → last (to_basis b) ≡ bit_xor (sub_byte b) 0x63
unfolding last by_places first_place second_place to_basis linear
last_at b h =
    same_below (λ b. last (to_basis b)) (λ b. bit_xor (get_or SBOX b 0) 0x63) 256 b refl h ∙ ap (λ n. bit_xor n 0x63) (SBOX_at b h)

no_constant : bit_xor (bit_xor (bit_xor (to_basis 0xc6) (to_basis 0x63)) (bit_xor (to_basis 0x63) (to_basis 0x63))) (to_basis 0xa5) ≡ 0
unfolding to_basis linear
no_constant = refl

-- ---- a full round
-- one byte of it
lane : (a b c d k : ℕ) → a < 256 → b < 256 → c < 256 → d < 256
    → bit_xor (bit_xor (bit_xor (twice (to_basis a)) (to_basis (bit_xor k 0x63))) (bit_xor (once (to_basis c)) (once (to_basis d)))) (bit_xor (once (to_basis b)) (twice (to_basis b)))
    ≡ to_basis (bit_xor (bit_xor (bit_xor (bit_xor (times 2 (sub_byte a)) (times 3 (sub_byte b))) (times 1 (sub_byte c))) (times 1 (sub_byte d))) k)
lane a b c d k ha hb hc hd =
    rw (thrice_at b hb, twice_at a ha, once_at c hc, once_at d hd, to_basis-xor k 0x63)
    (in_order_with (to_basis (times 2 (sub_byte a))) (to_basis k) (to_basis (times 1 (sub_byte c))) (to_basis (times 1 (sub_byte d))) (to_basis (times 3 (sub_byte b)))
    (to_basis 0xc6) (to_basis 0x63) (to_basis 0x63) (to_basis 0x63) (to_basis 0xa5) no_constant
    ∙ sym (to_basis-xor5 (times 2 (sub_byte a)) (times 3 (sub_byte b)) (times 1 (sub_byte c)) (times 1 (sub_byte d)) k))

pub list16 : (a0 a1 a2 a3 a4 a5 a6 a7 a8 a9 a10 a11 a12 a13 a14 a15 b0 b1 b2 b3 b4 b5 b6 b7 b8 b9 b10 b11 b12 b13 b14 b15 : ℕ) → a0 ≡ b0 → a1 ≡ b1 → a2 ≡ b2 → a3 ≡ b3 → a4 ≡ b4 → a5 ≡ b5 → a6 ≡ b6 → a7 ≡ b7 → a8 ≡ b8 → a9 ≡ b9 → a10 ≡ b10 → a11 ≡ b11 → a12 ≡ b12 → a13 ≡ b13 → a14 ≡ b14 → a15 ≡ b15 → a0 ∷ a1 ∷ a2 ∷ a3 ∷ a4 ∷ a5 ∷ a6 ∷ a7 ∷ a8 ∷ a9 ∷ a10 ∷ a11 ∷ a12 ∷ a13 ∷ a14 ∷ a15 ∷ [] ≡ b0 ∷ b1 ∷ b2 ∷ b3 ∷ b4 ∷ b5 ∷ b6 ∷ b7 ∷ b8 ∷ b9 ∷ b10 ∷ b11 ∷ b12 ∷ b13 ∷ b14 ∷ b15 ∷ []
list16 a0 a1 a2 a3 a4 a5 a6 a7 a8 a9 a10 a11 a12 a13 a14 a15 b0 b1 b2 b3 b4 b5 b6 b7 b8 b9 b10 b11 b12 b13 b14 b15 e0 e1 e2 e3 e4 e5 e6 e7 e8 e9 e10 e11 e12 e13 e14 e15 = rw (e0, e1, e2, e3, e4, e5, e6, e7, e8, e9, e10, e11, e12, e13, e14, e15) refl

-- the same, in the order of the code
turned_lane : (a b c d k : ℕ) → a < 256 → b < 256 → c < 256 → d < 256
    → bit_xor (bit_xor (bit_xor (bit_xor (twice (to_basis a)) (once (to_basis b))) (to_basis (bit_xor k 0x63))) (once (to_basis d))) (bit_xor (twice (to_basis b)) (once (to_basis c)))
    ≡ to_basis (bit_xor (bit_xor (bit_xor (bit_xor (times 2 (sub_byte a)) (times 3 (sub_byte b))) (times 1 (sub_byte c))) (times 1 (sub_byte d))) k)
turned_lane a b c d k ha hb hc hd =
    in_other_order (twice (to_basis a)) (once (to_basis b)) (to_basis (bit_xor k 0x63)) (once (to_basis d)) (twice (to_basis b)) (once (to_basis c)) ∙ lane a b c d k ha hb hc hd

abbrev pub places_of : List ℕ → List ℕ → List ℕ
places_of v ks = map (λ k. get_or v k 0) ks

abbrev vector_round : ℕ → List ℕ → List ℕ → List ℕ
vector_round t s k =
    let x : List ℕ = moved (turned ((t + 3) % 4) s) in
    let two : List ℕ = zip2 bit_xor (map twice x) (places_of (map once x) (get_or UP_ONE t [])) in
    zip2 bit_xor (zip2 bit_xor (zip2 bit_xor two (kept (turned t k))) (places_of (map once x) (get_or UP_THREE t []))) (places_of two (get_or UP_ONE t []))

abbrev standard_round : ℕ → List ℕ → List ℕ → List ℕ
standard_round t s k = moved (turned t (xor16 (mix_columns (shift_rows (sub_bytes s))) k))

round_of_bytes : (t : ℕ) (p q : ℕ → ℕ) → ((i : ℕ) → p i < 256) → t < 4 → vector_round t (bytes16 p) (bytes16 q) ≡ standard_round t (bytes16 p) (bytes16 q)
unfolding turned xor16 mix_columns shift_rows sub_bytes
round_of_bytes zero p q h l =
    list16 _ _ _ _ _ _ _ _ _ _ _ _ _ _ _ _ _ _ _ _ _ _ _ _ _ _ _ _ _ _ _ _
    (turned_lane (p 0) (p 5) (p 10) (p 15) (q 0) (h 0) (h 5) (h 10) (h 15))
    (turned_lane (p 5) (p 10) (p 15) (p 0) (q 1) (h 5) (h 10) (h 15) (h 0))
    (turned_lane (p 10) (p 15) (p 0) (p 5) (q 2) (h 10) (h 15) (h 0) (h 5))
    (turned_lane (p 15) (p 0) (p 5) (p 10) (q 3) (h 15) (h 0) (h 5) (h 10))
    (turned_lane (p 4) (p 9) (p 14) (p 3) (q 4) (h 4) (h 9) (h 14) (h 3))
    (turned_lane (p 9) (p 14) (p 3) (p 4) (q 5) (h 9) (h 14) (h 3) (h 4))
    (turned_lane (p 14) (p 3) (p 4) (p 9) (q 6) (h 14) (h 3) (h 4) (h 9))
    (turned_lane (p 3) (p 4) (p 9) (p 14) (q 7) (h 3) (h 4) (h 9) (h 14))
    (turned_lane (p 8) (p 13) (p 2) (p 7) (q 8) (h 8) (h 13) (h 2) (h 7))
    (turned_lane (p 13) (p 2) (p 7) (p 8) (q 9) (h 13) (h 2) (h 7) (h 8))
    (turned_lane (p 2) (p 7) (p 8) (p 13) (q 10) (h 2) (h 7) (h 8) (h 13))
    (turned_lane (p 7) (p 8) (p 13) (p 2) (q 11) (h 7) (h 8) (h 13) (h 2))
    (turned_lane (p 12) (p 1) (p 6) (p 11) (q 12) (h 12) (h 1) (h 6) (h 11))
    (turned_lane (p 1) (p 6) (p 11) (p 12) (q 13) (h 1) (h 6) (h 11) (h 12))
    (turned_lane (p 6) (p 11) (p 12) (p 1) (q 14) (h 6) (h 11) (h 12) (h 1))
    (turned_lane (p 11) (p 12) (p 1) (p 6) (q 15) (h 11) (h 12) (h 1) (h 6))
round_of_bytes (suc zero) p q h l =
    list16 _ _ _ _ _ _ _ _ _ _ _ _ _ _ _ _ _ _ _ _ _ _ _ _ _ _ _ _ _ _ _ _
    (turned_lane (p 0) (p 5) (p 10) (p 15) (q 0) (h 0) (h 5) (h 10) (h 15))
    (turned_lane (p 1) (p 6) (p 11) (p 12) (q 13) (h 1) (h 6) (h 11) (h 12))
    (turned_lane (p 2) (p 7) (p 8) (p 13) (q 10) (h 2) (h 7) (h 8) (h 13))
    (turned_lane (p 3) (p 4) (p 9) (p 14) (q 7) (h 3) (h 4) (h 9) (h 14))
    (turned_lane (p 4) (p 9) (p 14) (p 3) (q 4) (h 4) (h 9) (h 14) (h 3))
    (turned_lane (p 5) (p 10) (p 15) (p 0) (q 1) (h 5) (h 10) (h 15) (h 0))
    (turned_lane (p 6) (p 11) (p 12) (p 1) (q 14) (h 6) (h 11) (h 12) (h 1))
    (turned_lane (p 7) (p 8) (p 13) (p 2) (q 11) (h 7) (h 8) (h 13) (h 2))
    (turned_lane (p 8) (p 13) (p 2) (p 7) (q 8) (h 8) (h 13) (h 2) (h 7))
    (turned_lane (p 9) (p 14) (p 3) (p 4) (q 5) (h 9) (h 14) (h 3) (h 4))
    (turned_lane (p 10) (p 15) (p 0) (p 5) (q 2) (h 10) (h 15) (h 0) (h 5))
    (turned_lane (p 11) (p 12) (p 1) (p 6) (q 15) (h 11) (h 12) (h 1) (h 6))
    (turned_lane (p 12) (p 1) (p 6) (p 11) (q 12) (h 12) (h 1) (h 6) (h 11))
    (turned_lane (p 13) (p 2) (p 7) (p 8) (q 9) (h 13) (h 2) (h 7) (h 8))
    (turned_lane (p 14) (p 3) (p 4) (p 9) (q 6) (h 14) (h 3) (h 4) (h 9))
    (turned_lane (p 15) (p 0) (p 5) (p 10) (q 3) (h 15) (h 0) (h 5) (h 10))
round_of_bytes (suc (suc zero)) p q h l =
    list16 _ _ _ _ _ _ _ _ _ _ _ _ _ _ _ _ _ _ _ _ _ _ _ _ _ _ _ _ _ _ _ _
    (turned_lane (p 0) (p 5) (p 10) (p 15) (q 0) (h 0) (h 5) (h 10) (h 15))
    (turned_lane (p 13) (p 2) (p 7) (p 8) (q 9) (h 13) (h 2) (h 7) (h 8))
    (turned_lane (p 10) (p 15) (p 0) (p 5) (q 2) (h 10) (h 15) (h 0) (h 5))
    (turned_lane (p 7) (p 8) (p 13) (p 2) (q 11) (h 7) (h 8) (h 13) (h 2))
    (turned_lane (p 4) (p 9) (p 14) (p 3) (q 4) (h 4) (h 9) (h 14) (h 3))
    (turned_lane (p 1) (p 6) (p 11) (p 12) (q 13) (h 1) (h 6) (h 11) (h 12))
    (turned_lane (p 14) (p 3) (p 4) (p 9) (q 6) (h 14) (h 3) (h 4) (h 9))
    (turned_lane (p 11) (p 12) (p 1) (p 6) (q 15) (h 11) (h 12) (h 1) (h 6))
    (turned_lane (p 8) (p 13) (p 2) (p 7) (q 8) (h 8) (h 13) (h 2) (h 7))
    (turned_lane (p 5) (p 10) (p 15) (p 0) (q 1) (h 5) (h 10) (h 15) (h 0))
    (turned_lane (p 2) (p 7) (p 8) (p 13) (q 10) (h 2) (h 7) (h 8) (h 13))
    (turned_lane (p 15) (p 0) (p 5) (p 10) (q 3) (h 15) (h 0) (h 5) (h 10))
    (turned_lane (p 12) (p 1) (p 6) (p 11) (q 12) (h 12) (h 1) (h 6) (h 11))
    (turned_lane (p 9) (p 14) (p 3) (p 4) (q 5) (h 9) (h 14) (h 3) (h 4))
    (turned_lane (p 6) (p 11) (p 12) (p 1) (q 14) (h 6) (h 11) (h 12) (h 1))
    (turned_lane (p 3) (p 4) (p 9) (p 14) (q 7) (h 3) (h 4) (h 9) (h 14))
round_of_bytes (suc (suc (suc zero))) p q h l =
    list16 _ _ _ _ _ _ _ _ _ _ _ _ _ _ _ _ _ _ _ _ _ _ _ _ _ _ _ _ _ _ _ _
    (turned_lane (p 0) (p 5) (p 10) (p 15) (q 0) (h 0) (h 5) (h 10) (h 15))
    (turned_lane (p 9) (p 14) (p 3) (p 4) (q 5) (h 9) (h 14) (h 3) (h 4))
    (turned_lane (p 2) (p 7) (p 8) (p 13) (q 10) (h 2) (h 7) (h 8) (h 13))
    (turned_lane (p 11) (p 12) (p 1) (p 6) (q 15) (h 11) (h 12) (h 1) (h 6))
    (turned_lane (p 4) (p 9) (p 14) (p 3) (q 4) (h 4) (h 9) (h 14) (h 3))
    (turned_lane (p 13) (p 2) (p 7) (p 8) (q 9) (h 13) (h 2) (h 7) (h 8))
    (turned_lane (p 6) (p 11) (p 12) (p 1) (q 14) (h 6) (h 11) (h 12) (h 1))
    (turned_lane (p 15) (p 0) (p 5) (p 10) (q 3) (h 15) (h 0) (h 5) (h 10))
    (turned_lane (p 8) (p 13) (p 2) (p 7) (q 8) (h 8) (h 13) (h 2) (h 7))
    (turned_lane (p 1) (p 6) (p 11) (p 12) (q 13) (h 1) (h 6) (h 11) (h 12))
    (turned_lane (p 10) (p 15) (p 0) (p 5) (q 2) (h 10) (h 15) (h 0) (h 5))
    (turned_lane (p 3) (p 4) (p 9) (p 14) (q 7) (h 3) (h 4) (h 9) (h 14))
    (turned_lane (p 12) (p 1) (p 6) (p 11) (q 12) (h 12) (h 1) (h 6) (h 11))
    (turned_lane (p 5) (p 10) (p 15) (p 0) (q 1) (h 5) (h 10) (h 15) (h 0))
    (turned_lane (p 14) (p 3) (p 4) (p 9) (q 6) (h 14) (h 3) (h 4) (h 9))
    (turned_lane (p 7) (p 8) (p 13) (p 2) (q 11) (h 7) (h 8) (h 13) (h 2))
round_of_bytes (suc (suc (suc (suc t)))) p q h l = absurd (omega arith)

round_is : (t : ℕ) (s k : List ℕ) → t < 4 → IsBlock s → length k ≡ 16 → vector_round t s k ≡ standard_round t s k
round_is t s k ht h l =
    let p : ℕ → ℕ = λ i. get_or s i 0 in
    let q : ℕ → ℕ = λ i. get_or k i 0 in
    let es : bytes16 p ≡ s = bytes16-self s h.0 in
    let ek : bytes16 q ≡ k = bytes16-self k l in
    ap (λ (v : List ℕ). vector_round t v k) (sym es) ∙ ap (λ (v : List ℕ). vector_round t (bytes16 p) v) (sym ek) ∙ round_of_bytes t p q h.1 ht
    ∙ ap (λ (v : List ℕ). standard_round t v (bytes16 q)) es ∙ ap (λ (v : List ℕ). standard_round t s v) ek

pub once_is : (x p q r : List ℕ) → p ≡ map first_place x → q ≡ map second_place x → r ≡ zip2 bit_xor (map (entry SUB_FIRST) p) (map (entry SUB_SECOND) q) → r ≡ map once x
unfolding once
once_is x p q r ep eq er = by_places_is SUB_FIRST SUB_SECOND x p q r ep eq er

pub twice_is : (x p q r : List ℕ) → p ≡ map first_place x → q ≡ map second_place x → r ≡ zip2 bit_xor (map (entry DOUBLE_FIRST) p) (map (entry DOUBLE_SECOND) q) → r ≡ map twice x
unfolding twice
twice_is x p q r ep eq er = by_places_is DOUBLE_FIRST DOUBLE_SECOND x p q r ep eq er

pub last_is : (x p q r : List ℕ) → p ≡ map first_place x → q ≡ map second_place x → r ≡ zip2 bit_xor (map (entry LAST_FIRST) p) (map (entry LAST_SECOND) q) → r ≡ map last x
unfolding last
last_is x p q r ep eq er = by_places_is LAST_FIRST LAST_SECOND x p q r ep eq er

pub full_round_from : (t : ℕ) (x key s k o d f g h two : List ℕ) → t < 4 → IsBlock s → length k ≡ 16 → x ≡ moved (turned ((t + 3) % 4) s) → key ≡ kept (turned t k) → o ≡ map once x → d ≡ map twice x
    → f ≡ places_of o (get_or UP_ONE t []) → two ≡ zip2 bit_xor d f → g ≡ places_of o (get_or UP_THREE t []) → h ≡ places_of two (get_or UP_ONE t [])
    → zip2 bit_xor (zip2 bit_xor (zip2 bit_xor two key) g) h ≡ moved (turned t (xor16 (mix_columns (shift_rows (sub_bytes s))) k))
full_round_from t x key s k o d f g h two ht hs hk ex ekey eo ed ef etwo eg eh = rw (eh, eg, etwo, ef, eo, ed, ex, ekey) (round_is t s k ht hs hk)

-- ---- the last round
last_lane : (a k : ℕ) → a < 256 → bit_xor (last (to_basis a)) (bit_xor k 0x63) ≡ bit_xor (sub_byte a) k
last_lane a k h = rw (last_at a h, xor_cross (sub_byte a) 0x63 k 0x63) (xor_zero_r (bit_xor (sub_byte a) k))

abbrev vector_last : List ℕ → List ℕ → List ℕ
vector_last s k = zip2 bit_xor (turned 2 (map last (moved (turned 1 s)))) (kept_last k)

abbrev standard_last : List ℕ → List ℕ → List ℕ
standard_last s k = xor16 (shift_rows (sub_bytes s)) k

last_of_bytes : (p q : ℕ → ℕ) → ((i : ℕ) → p i < 256) → vector_last (bytes16 p) (bytes16 q) ≡ standard_last (bytes16 p) (bytes16 q)
unfolding turned xor16 shift_rows sub_bytes
last_of_bytes p q h =
    list16 _ _ _ _ _ _ _ _ _ _ _ _ _ _ _ _ _ _ _ _ _ _ _ _ _ _ _ _ _ _ _ _
    (last_lane (p 0) (q 0) (h 0))
    (last_lane (p 5) (q 1) (h 5))
    (last_lane (p 10) (q 2) (h 10))
    (last_lane (p 15) (q 3) (h 15))
    (last_lane (p 4) (q 4) (h 4))
    (last_lane (p 9) (q 5) (h 9))
    (last_lane (p 14) (q 6) (h 14))
    (last_lane (p 3) (q 7) (h 3))
    (last_lane (p 8) (q 8) (h 8))
    (last_lane (p 13) (q 9) (h 13))
    (last_lane (p 2) (q 10) (h 2))
    (last_lane (p 7) (q 11) (h 7))
    (last_lane (p 12) (q 12) (h 12))
    (last_lane (p 1) (q 13) (h 1))
    (last_lane (p 6) (q 14) (h 6))
    (last_lane (p 11) (q 15) (h 11))

last_round_is : (s k : List ℕ) → IsBlock s → length k ≡ 16 → vector_last s k ≡ standard_last s k
last_round_is s k h l =
    let p : ℕ → ℕ = λ i. get_or s i 0 in
    let q : ℕ → ℕ = λ i. get_or k i 0 in
    let es : bytes16 p ≡ s = bytes16-self s h.0 in
    let ek : bytes16 q ≡ k = bytes16-self k l in
    ap (λ (v : List ℕ). vector_last v k) (sym es) ∙ ap (λ (v : List ℕ). vector_last (bytes16 p) v) (sym ek) ∙ last_of_bytes p q h.1
    ∙ ap (λ (v : List ℕ). standard_last v (bytes16 q)) es ∙ ap (λ (v : List ℕ). standard_last s v) ek

pub last_round_from : (x key s k o a : List ℕ) → IsBlock s → length k ≡ 16 → x ≡ moved (turned 1 s) → key ≡ kept_last k → o ≡ map last x → a ≡ turned 2 o
    → zip2 bit_xor a key ≡ xor16 (shift_rows (sub_bytes s)) k
last_round_from x key s k o a hs hk ex ekey eo ea = rw (ea, eo, ex, ekey) (last_round_is s k hs hk)

-- ---- into the basis and out of it
pub same_map : (f g : ℕ → ℕ) (x : List ℕ) → ((i : ℕ) → get_or x i 0 < 256) → ((b : ℕ) → b < 256 → f b ≡ g b) → map f x ≡ map g x
same_map f g [] h e = refl
same_map f g (b ∷ x) h e = rw (e b (h 0), same_map f g x (λ i. h (suc i)) e) refl

pub halves_are : (t u x r : List ℕ) → r ≡ zip2 bit_xor (map (entry t) (map low_half x)) (map (entry u) (map high_half x)) → r ≡ map (by_halves t u) x
unfolding by_halves
halves_are t u x r e =
    e ∙ sum_of_maps (λ b. entry t (low_half b)) (λ b. entry u (high_half b)) x _ _ (map-map (entry t) low_half x) (map-map (entry u) high_half x)

entered_at : (b : ℕ) → b < 256 → by_halves IN_LOW IN_HIGH b ≡ to_basis b
unfolding by_halves to_basis linear
entered_at b h = same_below (by_halves IN_LOW IN_HIGH) to_basis 256 b refl h

left_at : (b : ℕ) → b < 256 → by_halves OUT_LOW OUT_HIGH b ≡ from_basis b
unfolding by_halves from_basis linear
left_at b h = same_below (by_halves OUT_LOW OUT_HIGH) from_basis 256 b refl h

inv_entered_at : (b : ℕ) → b < 256 → by_halves INV_IN_LOW INV_IN_HIGH b ≡ inv_to_basis b
unfolding by_halves inv_to_basis linear
inv_entered_at b h = same_below (by_halves INV_IN_LOW INV_IN_HIGH) inv_to_basis 256 b refl h

pub back_at : (b : ℕ) → b < 256 → from_basis (to_basis b) ≡ b
unfolding from_basis to_basis linear
back_at b h = same_below (λ b. from_basis (to_basis b)) (λ b. b) 256 b refl h

pub entered_is : (x r : List ℕ) → IsVector x → r ≡ zip2 bit_xor (map (entry IN_LOW) (map low_half x)) (map (entry IN_HIGH) (map high_half x)) → r ≡ map to_basis x
entered_is x r h e = halves_are IN_LOW IN_HIGH x r e ∙ same_map (by_halves IN_LOW IN_HIGH) to_basis x (λ i. lane_below x i h.1) entered_at

pub left_is : (x r : List ℕ) → IsVector x → r ≡ zip2 bit_xor (map (entry OUT_LOW) (map low_half x)) (map (entry OUT_HIGH) (map high_half x)) → r ≡ map from_basis x
left_is x r h e = halves_are OUT_LOW OUT_HIGH x r e ∙ same_map (by_halves OUT_LOW OUT_HIGH) from_basis x (λ i. lane_below x i h.1) left_at

pub inv_entered_is : (x r : List ℕ) → IsVector x → r ≡ zip2 bit_xor (map (entry INV_IN_LOW) (map low_half x)) (map (entry INV_IN_HIGH) (map high_half x)) → r ≡ map inv_to_basis x
inv_entered_is x r h e = halves_are INV_IN_LOW INV_IN_HIGH x r e ∙ same_map (by_halves INV_IN_LOW INV_IN_HIGH) inv_to_basis x (λ i. lane_below x i h.1) inv_entered_at

-- ---- SubBytes' constant, added to a round key
same_at_all : (f g : ℕ → ℕ) (x : List ℕ) → ((b : ℕ) → f b ≡ g b) → map f x ≡ map g x
same_at_all f g [] e = refl
same_at_all f g (b ∷ x) e = rw (e b, same_at_all f g x e) refl

with_constant : (b : ℕ) → bit_xor (to_basis b) 243 ≡ to_basis (bit_xor b 0x63)
unfolding to_basis linear
with_constant b = sym (to_basis-xor b 0x63)

pub added_from : (key s : List ℕ) → length key ≡ 16 → key ≡ moved s → zip2 bit_xor key (replicate 16 243) ≡ kept s
added_from key s h e =
    zip2_splat bit_xor key 16 243 h ∙ ap (map (λ b. bit_xor b 243)) e ∙ map-map (λ b. bit_xor b 243) to_basis s
    ∙ same_at_all (λ b. bit_xor (to_basis b) 243) (λ b. to_basis (bit_xor b 0x63)) s with_constant
