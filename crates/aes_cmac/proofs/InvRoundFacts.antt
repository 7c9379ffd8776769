-- A round of the inverse cipher on vectors in the basis is a round of the standard.
use Rattle.std.proofs.Common.{◌≡◌, ℕ, zero, suc, ◌+◌, ◌%◌, ◌<◌, List, [], map, length, get_or, bit_xor, refl, ap, sym, ◌∙◌, arith}
use Rattle.std.specs.Int.Bits.{xor_assoc}
use lib.Lanes.{zip2}
use Rattle.aes_cmac.specs.Field.{times_bits, times, inv_sub_byte}
use Rattle.aes_cmac.specs.Aes.{IsBlock, bytes16, xor16, inv_sub_bytes, inv_shift_rows, inv_mix_columns}
use Rattle.aes_cmac.specs.Nibbles.{first_place, second_place, low_half, high_half, entry, by_places, by_halves}
use Rattle.aes_cmac.specs.Basis.{linear, to_basis, inv_to_basis, kept, inv_moved, turned}
use Rattle.aes_cmac.specs.declared.tables.TheConstants.{UP_ONE, UP_TWO, BACK_FIRST, BACK_SECOND, PLAIN_FIRST, PLAIN_SECOND, TIMES_14_LOW, TIMES_14_HIGH, TIMES_11_LOW, TIMES_11_HIGH, TIMES_13_LOW, TIMES_13_HIGH, TIMES_9_LOW, TIMES_9_HIGH}
use Rattle.aes_cmac.proofs.Boxes.{INV_SBOX}
use Rattle.aes_cmac.proofs.FieldFacts.{same_below}
use Rattle.aes_cmac.proofs.SBoxFacts.{INV_SBOX_at}
use Rattle.aes_cmac.proofs.LinearFacts.{to_basis-xor, inv_to_basis-xor}
use Rattle.aes_cmac.proofs.RoundFacts.{by_places_is, halves_are, list16, places_of}
use Rattle.aes_cmac.proofs.Redo.{inv_sub_byte_below}
use Rattle.aes_cmac.proofs.Undo.{bytes16-self, xor_cross, times_bits-xor, xor_bytes}

-- ---- what the tables hold, found by computing it for each byte
unfoldable pub back : ℕ → ℕ
back b = by_places BACK_FIRST BACK_SECOND b

unfoldable pub plain : ℕ → ℕ
plain b = by_places PLAIN_FIRST PLAIN_SECOND b

back_at : (b : ℕ) → b < 256 → back (inv_to_basis (bit_xor b 0x63)) ≡ to_basis (inv_sub_byte b)
unfolding back by_places first_place second_place to_basis inv_to_basis linear
back_at b h =
    same_below (λ b. back (inv_to_basis (bit_xor b 0x63))) (λ b. to_basis (get_or INV_SBOX b 0)) 256 b refl h ∙ ap (λ n. to_basis n) (INV_SBOX_at b h)

plain_at : (b : ℕ) → b < 256 → plain (inv_to_basis (bit_xor b 0x63)) ≡ inv_sub_byte b
unfolding plain by_places first_place second_place inv_to_basis linear
plain_at b h =
    same_below (λ b. plain (inv_to_basis (bit_xor b 0x63))) (λ b. get_or INV_SBOX b 0) 256 b refl h ∙ INV_SBOX_at b h

pub back_is : (x p q r : List ℕ) → p ≡ map first_place x → q ≡ map second_place x → r ≡ zip2 bit_xor (map (entry BACK_FIRST) p) (map (entry BACK_SECOND) q) → r ≡ map back x
unfolding back
back_is x p q r ep eq er = by_places_is BACK_FIRST BACK_SECOND x p q r ep eq er

pub plain_is : (x p q r : List ℕ) → p ≡ map first_place x → q ≡ map second_place x → r ≡ zip2 bit_xor (map (entry PLAIN_FIRST) p) (map (entry PLAIN_SECOND) q) → r ≡ map plain x
unfolding plain
plain_is x p q r ep eq er = by_places_is PLAIN_FIRST PLAIN_SECOND x p q r ep eq er

unfoldable pub fourteen : ℕ → ℕ
fourteen b = by_halves TIMES_14_LOW TIMES_14_HIGH b

fourteen_at : (b : ℕ) → b < 256 → fourteen (to_basis b) ≡ inv_to_basis (times 14 b)
unfolding fourteen by_halves to_basis inv_to_basis linear times_bits
fourteen_at b h = same_below (λ b. fourteen (to_basis b)) (λ b. inv_to_basis (times 14 b)) 256 b refl h

pub fourteen_is : (x r : List ℕ) → r ≡ zip2 bit_xor (map (entry TIMES_14_LOW) (map low_half x)) (map (entry TIMES_14_HIGH) (map high_half x)) → r ≡ map fourteen x
unfolding fourteen
fourteen_is x r e = halves_are TIMES_14_LOW TIMES_14_HIGH x r e

unfoldable pub eleven : ℕ → ℕ
eleven b = by_halves TIMES_11_LOW TIMES_11_HIGH b

eleven_at : (b : ℕ) → b < 256 → eleven (to_basis b) ≡ inv_to_basis (times 11 b)
unfolding eleven by_halves to_basis inv_to_basis linear times_bits
eleven_at b h = same_below (λ b. eleven (to_basis b)) (λ b. inv_to_basis (times 11 b)) 256 b refl h

pub eleven_is : (x r : List ℕ) → r ≡ zip2 bit_xor (map (entry TIMES_11_LOW) (map low_half x)) (map (entry TIMES_11_HIGH) (map high_half x)) → r ≡ map eleven x
unfolding eleven
eleven_is x r e = halves_are TIMES_11_LOW TIMES_11_HIGH x r e

unfoldable pub thirteen : ℕ → ℕ
thirteen b = by_halves TIMES_13_LOW TIMES_13_HIGH b

thirteen_at : (b : ℕ) → b < 256 → thirteen (to_basis b) ≡ inv_to_basis (times 13 b)
unfolding thirteen by_halves to_basis inv_to_basis linear times_bits
thirteen_at b h = same_below (λ b. thirteen (to_basis b)) (λ b. inv_to_basis (times 13 b)) 256 b refl h

pub thirteen_is : (x r : List ℕ) → r ≡ zip2 bit_xor (map (entry TIMES_13_LOW) (map low_half x)) (map (entry TIMES_13_HIGH) (map high_half x)) → r ≡ map thirteen x
unfolding thirteen
thirteen_is x r e = halves_are TIMES_13_LOW TIMES_13_HIGH x r e

unfoldable pub nine : ℕ → ℕ
nine b = by_halves TIMES_9_LOW TIMES_9_HIGH b

nine_at : (b : ℕ) → b < 256 → nine (to_basis b) ≡ inv_to_basis (times 9 b)
unfolding nine by_halves to_basis inv_to_basis linear times_bits
nine_at b h = same_below (λ b. nine (to_basis b)) (λ b. inv_to_basis (times 9 b)) 256 b refl h

pub nine_is : (x r : List ℕ) → r ≡ zip2 bit_xor (map (entry TIMES_9_LOW) (map low_half x)) (map (entry TIMES_9_HIGH) (map high_half x)) → r ≡ map nine x
unfolding nine
nine_is x r e = halves_are TIMES_9_LOW TIMES_9_HIGH x r e

-- ---- a full round
-- a byte and the round key
keyed : (b k : ℕ) → b < 256 → bit_xor (back (inv_to_basis (bit_xor b 0x63))) (to_basis (bit_xor k 0x63)) ≡ to_basis (bit_xor (bit_xor (inv_sub_byte b) k) 0x63)
keyed b k h = rw (back_at b h, xor_assoc (inv_sub_byte b) k 0x63) (sym (to_basis-xor (inv_sub_byte b) (bit_xor k 0x63)))

times_constant : (k a n : ℕ) → times k 0x63 ≡ n → times k (bit_xor a 0x63) ≡ bit_xor (times k a) n
times_constant k a n e = times_bits-xor 8 k a 0x63 ∙ ap (bit_xor (times k a)) e

by14 : times 14 0x63 ≡ 100
unfolding times_bits
by14 = refl

by11 : times 11 0x63 ≡ 144
unfolding times_bits
by11 = refl

by13 : times 13 0x63 ≡ 193
unfolding times_bits
by13 = refl

by9 : times 9 0x63 ≡ 86
unfolding times_bits
by9 = refl

together : (a b c d : ℕ) → bit_xor (bit_xor (bit_xor a 100) (bit_xor b 144)) (bit_xor (bit_xor c 193) (bit_xor d 86)) ≡ bit_xor (bit_xor (bit_xor (bit_xor a b) c) d) 0x63
together a b c d =
    rw (xor_cross a 100 b 144, xor_cross c 193 d 86, xor_cross (bit_xor a b) (bit_xor 100 144) (bit_xor c d) (bit_xor 193 86), xor_assoc (bit_xor a b) c d) refl

four : (a b c d p q r s : ℕ) → a ≡ p → b ≡ q → c ≡ r → d ≡ s → bit_xor (bit_xor a b) (bit_xor c d) ≡ bit_xor (bit_xor p q) (bit_xor r s)
four a b c d p q r s ea eb ec ed = rw (ea, eb, ec, ed) refl

sum_in_basis : (a b c d : ℕ) → bit_xor (bit_xor (inv_to_basis a) (inv_to_basis b)) (bit_xor (inv_to_basis c) (inv_to_basis d)) ≡ inv_to_basis (bit_xor (bit_xor a b) (bit_xor c d))
sum_in_basis a b c d = rw (inv_to_basis-xor (bit_xor a b) (bit_xor c d), inv_to_basis-xor a b, inv_to_basis-xor c d) refl

-- one byte of it
inv_lane : (a ka b kb c kc d kd : ℕ) → a < 256 → ka < 256 → b < 256 → kb < 256 → c < 256 → kc < 256 → d < 256 → kd < 256
    → bit_xor (bit_xor (fourteen (bit_xor (back (inv_to_basis (bit_xor a 0x63))) (to_basis (bit_xor ka 0x63)))) (eleven (bit_xor (back (inv_to_basis (bit_xor b 0x63))) (to_basis (bit_xor kb 0x63)))))
    (bit_xor (thirteen (bit_xor (back (inv_to_basis (bit_xor c 0x63))) (to_basis (bit_xor kc 0x63)))) (nine (bit_xor (back (inv_to_basis (bit_xor d 0x63))) (to_basis (bit_xor kd 0x63)))))
    ≡ inv_to_basis (bit_xor (bit_xor (bit_xor (bit_xor (times 14 (bit_xor (inv_sub_byte a) ka)) (times 11 (bit_xor (inv_sub_byte b) kb))) (times 13 (bit_xor (inv_sub_byte c) kc))) (times 9 (bit_xor (inv_sub_byte d) kd))) 0x63)
inv_lane a ka b kb c kc d kd ha la hb lb hc lc hd ld =
    let u : ℕ = bit_xor (inv_sub_byte a) ka in
    let v : ℕ = bit_xor (inv_sub_byte b) kb in
    let w : ℕ = bit_xor (inv_sub_byte c) kc in
    let x : ℕ = bit_xor (inv_sub_byte d) kd in
    let lu : bit_xor u 0x63 < 256 = xor_bytes u 0x63 (xor_bytes (inv_sub_byte a) ka (inv_sub_byte_below a) la) (omega arith) in
    let lv : bit_xor v 0x63 < 256 = xor_bytes v 0x63 (xor_bytes (inv_sub_byte b) kb (inv_sub_byte_below b) lb) (omega arith) in
    let lw : bit_xor w 0x63 < 256 = xor_bytes w 0x63 (xor_bytes (inv_sub_byte c) kc (inv_sub_byte_below c) lc) (omega arith) in
    let lx : bit_xor x 0x63 < 256 = xor_bytes x 0x63 (xor_bytes (inv_sub_byte d) kd (inv_sub_byte_below d) ld) (omega arith) in
    four _ _ _ _ _ _ _ _
    (ap fourteen (keyed a ka ha) ∙ fourteen_at (bit_xor u 0x63) lu ∙ ap (λ n. inv_to_basis n) (times_constant 14 u 100 by14))
    (ap eleven (keyed b kb hb) ∙ eleven_at (bit_xor v 0x63) lv ∙ ap (λ n. inv_to_basis n) (times_constant 11 v 144 by11))
    (ap thirteen (keyed c kc hc) ∙ thirteen_at (bit_xor w 0x63) lw ∙ ap (λ n. inv_to_basis n) (times_constant 13 w 193 by13))
    (ap nine (keyed d kd hd) ∙ nine_at (bit_xor x 0x63) lx ∙ ap (λ n. inv_to_basis n) (times_constant 9 x 86 by9))
    ∙ sum_in_basis (bit_xor (times 14 u) 100) (bit_xor (times 11 v) 144) (bit_xor (times 13 w) 193) (bit_xor (times 9 x) 86)
    ∙ ap (λ n. inv_to_basis n) (together (times 14 u) (times 11 v) (times 13 w) (times 9 x))

abbrev vector_inv_round : ℕ → List ℕ → List ℕ → List ℕ
vector_inv_round t s k =
    let y : List ℕ = zip2 bit_xor (map back (inv_moved (turned t s))) (kept (turned t k)) in
    zip2 bit_xor (zip2 bit_xor (map fourteen y) (places_of (map eleven y) (get_or UP_ONE t [])))
    (places_of (zip2 bit_xor (map thirteen y) (places_of (map nine y) (get_or UP_ONE t []))) (get_or UP_TWO t []))

abbrev standard_inv_round : ℕ → List ℕ → List ℕ → List ℕ
standard_inv_round t s k = inv_moved (turned ((t + 3) % 4) (inv_shift_rows (inv_mix_columns (xor16 (inv_sub_bytes s) k))))

inv_round_of_bytes : (t : ℕ) (p q : ℕ → ℕ) → ((i : ℕ) → p i < 256) → ((i : ℕ) → q i < 256) → t < 4 → vector_inv_round t (bytes16 p) (bytes16 q) ≡ standard_inv_round t (bytes16 p) (bytes16 q)
unfolding turned xor16 inv_mix_columns inv_shift_rows inv_sub_bytes
inv_round_of_bytes zero p q h g l =
    list16 _ _ _ _ _ _ _ _ _ _ _ _ _ _ _ _ _ _ _ _ _ _ _ _ _ _ _ _ _ _ _ _
    (inv_lane (p 0) (q 0) (p 1) (q 1) (p 2) (q 2) (p 3) (q 3) (h 0) (g 0) (h 1) (g 1) (h 2) (g 2) (h 3) (g 3))
    (inv_lane (p 1) (q 1) (p 2) (q 2) (p 3) (q 3) (p 0) (q 0) (h 1) (g 1) (h 2) (g 2) (h 3) (g 3) (h 0) (g 0))
    (inv_lane (p 2) (q 2) (p 3) (q 3) (p 0) (q 0) (p 1) (q 1) (h 2) (g 2) (h 3) (g 3) (h 0) (g 0) (h 1) (g 1))
    (inv_lane (p 3) (q 3) (p 0) (q 0) (p 1) (q 1) (p 2) (q 2) (h 3) (g 3) (h 0) (g 0) (h 1) (g 1) (h 2) (g 2))
    (inv_lane (p 4) (q 4) (p 5) (q 5) (p 6) (q 6) (p 7) (q 7) (h 4) (g 4) (h 5) (g 5) (h 6) (g 6) (h 7) (g 7))
    (inv_lane (p 5) (q 5) (p 6) (q 6) (p 7) (q 7) (p 4) (q 4) (h 5) (g 5) (h 6) (g 6) (h 7) (g 7) (h 4) (g 4))
    (inv_lane (p 6) (q 6) (p 7) (q 7) (p 4) (q 4) (p 5) (q 5) (h 6) (g 6) (h 7) (g 7) (h 4) (g 4) (h 5) (g 5))
    (inv_lane (p 7) (q 7) (p 4) (q 4) (p 5) (q 5) (p 6) (q 6) (h 7) (g 7) (h 4) (g 4) (h 5) (g 5) (h 6) (g 6))
    (inv_lane (p 8) (q 8) (p 9) (q 9) (p 10) (q 10) (p 11) (q 11) (h 8) (g 8) (h 9) (g 9) (h 10) (g 10) (h 11) (g 11))
    (inv_lane (p 9) (q 9) (p 10) (q 10) (p 11) (q 11) (p 8) (q 8) (h 9) (g 9) (h 10) (g 10) (h 11) (g 11) (h 8) (g 8))
    (inv_lane (p 10) (q 10) (p 11) (q 11) (p 8) (q 8) (p 9) (q 9) (h 10) (g 10) (h 11) (g 11) (h 8) (g 8) (h 9) (g 9))
    (inv_lane (p 11) (q 11) (p 8) (q 8) (p 9) (q 9) (p 10) (q 10) (h 11) (g 11) (h 8) (g 8) (h 9) (g 9) (h 10) (g 10))
    (inv_lane (p 12) (q 12) (p 13) (q 13) (p 14) (q 14) (p 15) (q 15) (h 12) (g 12) (h 13) (g 13) (h 14) (g 14) (h 15) (g 15))
    (inv_lane (p 13) (q 13) (p 14) (q 14) (p 15) (q 15) (p 12) (q 12) (h 13) (g 13) (h 14) (g 14) (h 15) (g 15) (h 12) (g 12))
    (inv_lane (p 14) (q 14) (p 15) (q 15) (p 12) (q 12) (p 13) (q 13) (h 14) (g 14) (h 15) (g 15) (h 12) (g 12) (h 13) (g 13))
    (inv_lane (p 15) (q 15) (p 12) (q 12) (p 13) (q 13) (p 14) (q 14) (h 15) (g 15) (h 12) (g 12) (h 13) (g 13) (h 14) (g 14))
inv_round_of_bytes (suc zero) p q h g l =
    list16 _ _ _ _ _ _ _ _ _ _ _ _ _ _ _ _ _ _ _ _ _ _ _ _ _ _ _ _ _ _ _ _
    (inv_lane (p 0) (q 0) (p 1) (q 1) (p 2) (q 2) (p 3) (q 3) (h 0) (g 0) (h 1) (g 1) (h 2) (g 2) (h 3) (g 3))
    (inv_lane (p 13) (q 13) (p 14) (q 14) (p 15) (q 15) (p 12) (q 12) (h 13) (g 13) (h 14) (g 14) (h 15) (g 15) (h 12) (g 12))
    (inv_lane (p 10) (q 10) (p 11) (q 11) (p 8) (q 8) (p 9) (q 9) (h 10) (g 10) (h 11) (g 11) (h 8) (g 8) (h 9) (g 9))
    (inv_lane (p 7) (q 7) (p 4) (q 4) (p 5) (q 5) (p 6) (q 6) (h 7) (g 7) (h 4) (g 4) (h 5) (g 5) (h 6) (g 6))
    (inv_lane (p 4) (q 4) (p 5) (q 5) (p 6) (q 6) (p 7) (q 7) (h 4) (g 4) (h 5) (g 5) (h 6) (g 6) (h 7) (g 7))
    (inv_lane (p 1) (q 1) (p 2) (q 2) (p 3) (q 3) (p 0) (q 0) (h 1) (g 1) (h 2) (g 2) (h 3) (g 3) (h 0) (g 0))
    (inv_lane (p 14) (q 14) (p 15) (q 15) (p 12) (q 12) (p 13) (q 13) (h 14) (g 14) (h 15) (g 15) (h 12) (g 12) (h 13) (g 13))
    (inv_lane (p 11) (q 11) (p 8) (q 8) (p 9) (q 9) (p 10) (q 10) (h 11) (g 11) (h 8) (g 8) (h 9) (g 9) (h 10) (g 10))
    (inv_lane (p 8) (q 8) (p 9) (q 9) (p 10) (q 10) (p 11) (q 11) (h 8) (g 8) (h 9) (g 9) (h 10) (g 10) (h 11) (g 11))
    (inv_lane (p 5) (q 5) (p 6) (q 6) (p 7) (q 7) (p 4) (q 4) (h 5) (g 5) (h 6) (g 6) (h 7) (g 7) (h 4) (g 4))
    (inv_lane (p 2) (q 2) (p 3) (q 3) (p 0) (q 0) (p 1) (q 1) (h 2) (g 2) (h 3) (g 3) (h 0) (g 0) (h 1) (g 1))
    (inv_lane (p 15) (q 15) (p 12) (q 12) (p 13) (q 13) (p 14) (q 14) (h 15) (g 15) (h 12) (g 12) (h 13) (g 13) (h 14) (g 14))
    (inv_lane (p 12) (q 12) (p 13) (q 13) (p 14) (q 14) (p 15) (q 15) (h 12) (g 12) (h 13) (g 13) (h 14) (g 14) (h 15) (g 15))
    (inv_lane (p 9) (q 9) (p 10) (q 10) (p 11) (q 11) (p 8) (q 8) (h 9) (g 9) (h 10) (g 10) (h 11) (g 11) (h 8) (g 8))
    (inv_lane (p 6) (q 6) (p 7) (q 7) (p 4) (q 4) (p 5) (q 5) (h 6) (g 6) (h 7) (g 7) (h 4) (g 4) (h 5) (g 5))
    (inv_lane (p 3) (q 3) (p 0) (q 0) (p 1) (q 1) (p 2) (q 2) (h 3) (g 3) (h 0) (g 0) (h 1) (g 1) (h 2) (g 2))
inv_round_of_bytes (suc (suc zero)) p q h g l =
    list16 _ _ _ _ _ _ _ _ _ _ _ _ _ _ _ _ _ _ _ _ _ _ _ _ _ _ _ _ _ _ _ _
    (inv_lane (p 0) (q 0) (p 1) (q 1) (p 2) (q 2) (p 3) (q 3) (h 0) (g 0) (h 1) (g 1) (h 2) (g 2) (h 3) (g 3))
    (inv_lane (p 9) (q 9) (p 10) (q 10) (p 11) (q 11) (p 8) (q 8) (h 9) (g 9) (h 10) (g 10) (h 11) (g 11) (h 8) (g 8))
    (inv_lane (p 2) (q 2) (p 3) (q 3) (p 0) (q 0) (p 1) (q 1) (h 2) (g 2) (h 3) (g 3) (h 0) (g 0) (h 1) (g 1))
    (inv_lane (p 11) (q 11) (p 8) (q 8) (p 9) (q 9) (p 10) (q 10) (h 11) (g 11) (h 8) (g 8) (h 9) (g 9) (h 10) (g 10))
    (inv_lane (p 4) (q 4) (p 5) (q 5) (p 6) (q 6) (p 7) (q 7) (h 4) (g 4) (h 5) (g 5) (h 6) (g 6) (h 7) (g 7))
    (inv_lane (p 13) (q 13) (p 14) (q 14) (p 15) (q 15) (p 12) (q 12) (h 13) (g 13) (h 14) (g 14) (h 15) (g 15) (h 12) (g 12))
    (inv_lane (p 6) (q 6) (p 7) (q 7) (p 4) (q 4) (p 5) (q 5) (h 6) (g 6) (h 7) (g 7) (h 4) (g 4) (h 5) (g 5))
    (inv_lane (p 15) (q 15) (p 12) (q 12) (p 13) (q 13) (p 14) (q 14) (h 15) (g 15) (h 12) (g 12) (h 13) (g 13) (h 14) (g 14))
    (inv_lane (p 8) (q 8) (p 9) (q 9) (p 10) (q 10) (p 11) (q 11) (h 8) (g 8) (h 9) (g 9) (h 10) (g 10) (h 11) (g 11))
    (inv_lane (p 1) (q 1) (p 2) (q 2) (p 3) (q 3) (p 0) (q 0) (h 1) (g 1) (h 2) (g 2) (h 3) (g 3) (h 0) (g 0))
    (inv_lane (p 10) (q 10) (p 11) (q 11) (p 8) (q 8) (p 9) (q 9) (h 10) (g 10) (h 11) (g 11) (h 8) (g 8) (h 9) (g 9))
    (inv_lane (p 3) (q 3) (p 0) (q 0) (p 1) (q 1) (p 2) (q 2) (h 3) (g 3) (h 0) (g 0) (h 1) (g 1) (h 2) (g 2))
    (inv_lane (p 12) (q 12) (p 13) (q 13) (p 14) (q 14) (p 15) (q 15) (h 12) (g 12) (h 13) (g 13) (h 14) (g 14) (h 15) (g 15))
    (inv_lane (p 5) (q 5) (p 6) (q 6) (p 7) (q 7) (p 4) (q 4) (h 5) (g 5) (h 6) (g 6) (h 7) (g 7) (h 4) (g 4))
    (inv_lane (p 14) (q 14) (p 15) (q 15) (p 12) (q 12) (p 13) (q 13) (h 14) (g 14) (h 15) (g 15) (h 12) (g 12) (h 13) (g 13))
    (inv_lane (p 7) (q 7) (p 4) (q 4) (p 5) (q 5) (p 6) (q 6) (h 7) (g 7) (h 4) (g 4) (h 5) (g 5) (h 6) (g 6))
inv_round_of_bytes (suc (suc (suc zero))) p q h g l =
    list16 _ _ _ _ _ _ _ _ _ _ _ _ _ _ _ _ _ _ _ _ _ _ _ _ _ _ _ _ _ _ _ _
    (inv_lane (p 0) (q 0) (p 1) (q 1) (p 2) (q 2) (p 3) (q 3) (h 0) (g 0) (h 1) (g 1) (h 2) (g 2) (h 3) (g 3))
    (inv_lane (p 5) (q 5) (p 6) (q 6) (p 7) (q 7) (p 4) (q 4) (h 5) (g 5) (h 6) (g 6) (h 7) (g 7) (h 4) (g 4))
    (inv_lane (p 10) (q 10) (p 11) (q 11) (p 8) (q 8) (p 9) (q 9) (h 10) (g 10) (h 11) (g 11) (h 8) (g 8) (h 9) (g 9))
    (inv_lane (p 15) (q 15) (p 12) (q 12) (p 13) (q 13) (p 14) (q 14) (h 15) (g 15) (h 12) (g 12) (h 13) (g 13) (h 14) (g 14))
    (inv_lane (p 4) (q 4) (p 5) (q 5) (p 6) (q 6) (p 7) (q 7) (h 4) (g 4) (h 5) (g 5) (h 6) (g 6) (h 7) (g 7))
    (inv_lane (p 9) (q 9) (p 10) (q 10) (p 11) (q 11) (p 8) (q 8) (h 9) (g 9) (h 10) (g 10) (h 11) (g 11) (h 8) (g 8))
    (inv_lane (p 14) (q 14) (p 15) (q 15) (p 12) (q 12) (p 13) (q 13) (h 14) (g 14) (h 15) (g 15) (h 12) (g 12) (h 13) (g 13))
    (inv_lane (p 3) (q 3) (p 0) (q 0) (p 1) (q 1) (p 2) (q 2) (h 3) (g 3) (h 0) (g 0) (h 1) (g 1) (h 2) (g 2))
    (inv_lane (p 8) (q 8) (p 9) (q 9) (p 10) (q 10) (p 11) (q 11) (h 8) (g 8) (h 9) (g 9) (h 10) (g 10) (h 11) (g 11))
    (inv_lane (p 13) (q 13) (p 14) (q 14) (p 15) (q 15) (p 12) (q 12) (h 13) (g 13) (h 14) (g 14) (h 15) (g 15) (h 12) (g 12))
    (inv_lane (p 2) (q 2) (p 3) (q 3) (p 0) (q 0) (p 1) (q 1) (h 2) (g 2) (h 3) (g 3) (h 0) (g 0) (h 1) (g 1))
    (inv_lane (p 7) (q 7) (p 4) (q 4) (p 5) (q 5) (p 6) (q 6) (h 7) (g 7) (h 4) (g 4) (h 5) (g 5) (h 6) (g 6))
    (inv_lane (p 12) (q 12) (p 13) (q 13) (p 14) (q 14) (p 15) (q 15) (h 12) (g 12) (h 13) (g 13) (h 14) (g 14) (h 15) (g 15))
    (inv_lane (p 1) (q 1) (p 2) (q 2) (p 3) (q 3) (p 0) (q 0) (h 1) (g 1) (h 2) (g 2) (h 3) (g 3) (h 0) (g 0))
    (inv_lane (p 6) (q 6) (p 7) (q 7) (p 4) (q 4) (p 5) (q 5) (h 6) (g 6) (h 7) (g 7) (h 4) (g 4) (h 5) (g 5))
    (inv_lane (p 11) (q 11) (p 8) (q 8) (p 9) (q 9) (p 10) (q 10) (h 11) (g 11) (h 8) (g 8) (h 9) (g 9) (h 10) (g 10))
inv_round_of_bytes (suc (suc (suc (suc t)))) p q h g l = absurd (omega arith)

inv_round_is : (t : ℕ) (s k : List ℕ) → t < 4 → IsBlock s → IsBlock k → vector_inv_round t s k ≡ standard_inv_round t s k
inv_round_is t s k ht h l =
    let p : ℕ → ℕ = λ i. get_or s i 0 in
    let q : ℕ → ℕ = λ i. get_or k i 0 in
    let es : bytes16 p ≡ s = bytes16-self s h.0 in
    let ek : bytes16 q ≡ k = bytes16-self k l.0 in
    ap (λ (v : List ℕ). vector_inv_round t v k) (sym es) ∙ ap (λ (v : List ℕ). vector_inv_round t (bytes16 p) v) (sym ek) ∙ inv_round_of_bytes t p q h.1 l.1 ht
    ∙ ap (λ (v : List ℕ). standard_inv_round t v (bytes16 q)) es ∙ ap (λ (v : List ℕ). standard_inv_round t s v) ek

pub inv_full_round_from : (t : ℕ) (x key s k o y e f g n a b c two : List ℕ) → t < 4 → IsBlock s → IsBlock k → x ≡ inv_moved (turned t s) → key ≡ kept (turned t k) → o ≡ map back x → y ≡ zip2 bit_xor o key
    → e ≡ map fourteen y → f ≡ map eleven y → g ≡ map thirteen y → n ≡ map nine y
    → a ≡ places_of n (get_or UP_ONE t []) → two ≡ zip2 bit_xor g a → b ≡ places_of f (get_or UP_ONE t []) → c ≡ places_of two (get_or UP_TWO t [])
    → zip2 bit_xor (zip2 bit_xor e b) c ≡ inv_moved (turned ((t + 3) % 4) (inv_shift_rows (inv_mix_columns (xor16 (inv_sub_bytes s) k))))
inv_full_round_from t x key s k o y e f g n a b c two ht hs hk ex ekey eo ey ee ef eg en ea etwo eb ec = rw (ec, eb, etwo, ea, ee, ef, eg, en, ey, eo, ex, ekey) (inv_round_is t s k ht hs hk)

-- ---- the last round
inv_last_lane : (a k : ℕ) → a < 256 → bit_xor (plain (inv_to_basis (bit_xor a 0x63))) k ≡ bit_xor (inv_sub_byte a) k
inv_last_lane a k h = ap (λ n. bit_xor n k) (plain_at a h)

abbrev vector_inv_last : List ℕ → List ℕ → List ℕ
vector_inv_last s k = zip2 bit_xor (map plain (inv_moved s)) k

abbrev standard_inv_last : List ℕ → List ℕ → List ℕ
standard_inv_last s k = xor16 (inv_sub_bytes s) k

inv_last_of_bytes : (p q : ℕ → ℕ) → ((i : ℕ) → p i < 256) → vector_inv_last (bytes16 p) (bytes16 q) ≡ standard_inv_last (bytes16 p) (bytes16 q)
unfolding xor16 inv_sub_bytes
inv_last_of_bytes p q h =
    list16 _ _ _ _ _ _ _ _ _ _ _ _ _ _ _ _ _ _ _ _ _ _ _ _ _ _ _ _ _ _ _ _
    (inv_last_lane (p 0) (q 0) (h 0))
    (inv_last_lane (p 1) (q 1) (h 1))
    (inv_last_lane (p 2) (q 2) (h 2))
    (inv_last_lane (p 3) (q 3) (h 3))
    (inv_last_lane (p 4) (q 4) (h 4))
    (inv_last_lane (p 5) (q 5) (h 5))
    (inv_last_lane (p 6) (q 6) (h 6))
    (inv_last_lane (p 7) (q 7) (h 7))
    (inv_last_lane (p 8) (q 8) (h 8))
    (inv_last_lane (p 9) (q 9) (h 9))
    (inv_last_lane (p 10) (q 10) (h 10))
    (inv_last_lane (p 11) (q 11) (h 11))
    (inv_last_lane (p 12) (q 12) (h 12))
    (inv_last_lane (p 13) (q 13) (h 13))
    (inv_last_lane (p 14) (q 14) (h 14))
    (inv_last_lane (p 15) (q 15) (h 15))

pub inv_last_round_from : (x key s k o : List ℕ) → IsBlock s → length k ≡ 16 → x ≡ inv_moved s → key ≡ k → o ≡ map plain x → zip2 bit_xor o key ≡ xor16 (inv_sub_bytes s) k
inv_last_round_from x key s k o h l ex ekey eo =
    let p : ℕ → ℕ = λ i. get_or s i 0 in
    let q : ℕ → ℕ = λ i. get_or k i 0 in
    let es : bytes16 p ≡ s = bytes16-self s h.0 in
    let ek : bytes16 q ≡ k = bytes16-self k l in
    rw (eo, ex, ekey)
    (ap (λ (v : List ℕ). vector_inv_last v k) (sym es) ∙ ap (λ (v : List ℕ). vector_inv_last (bytes16 p) v) (sym ek) ∙ inv_last_of_bytes p q h.1
    ∙ ap (λ (v : List ℕ). standard_inv_last v (bytes16 q)) es ∙ ap (λ (v : List ℕ). standard_inv_last s v) ek)
