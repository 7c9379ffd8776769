-- Zeros that come of any vector.
use Rattle.std.proofs.Common.{◌≡◌, ℕ, zero, suc, ◌+◌, ◌-◌, ◌/◌, ◌%◌, ◌^◌, ◌<◌, cond, ltb, List, [], ◌∷◌, map, length, get_or, replicate, bit_xor, refl, ap, ◌∙◌, w8, Fits, arith}
use Rattle.std.specs.Int.Bits.{xor_zero_r}
use Rattle.std.proofs.lemmas.Simd.{zip2_splat}
use lib.Lanes.{zip2, sel_l, top, Each1}
use Rattle.aes_cmac.specs.Mac.{zeros}
use Rattle.aes_cmac.proofs.FieldFacts.{same_below}
use Rattle.aes_cmac.proofs.Lanes.{IsVector}

-- a lane less another
abbrev less : ℕ → ℕ → ℕ
less a b = (a + (256 - b)) % 256

abbrev half : ℕ → ℕ → ℕ
half a b = a / 2 ^ b

abbrev where_less : ℕ → ℕ → ℕ
where_less a b = cond (ltb a b) 255 0

-- a byte without its half, from which the byte is taken, by a difference that stops at 0
none : (b : ℕ) → b < 256 → less (cond (top 7 (where_less (less b (half b 1)) b)) b (less b (half b 1))) b ≡ 0
none b h = same_below (λ b. less (cond (top 7 (where_less (less b (half b 1)) b)) b (less b (half b 1))) b) (λ b. 0) 256 b refl h

none_of : (x : List ℕ) (n : ℕ) → length x ≡ n → Each1 (Fits w8) x
    → zip2 less (sel_l (map (top 7) (zip2 where_less (zip2 less x (zip2 half x (replicate n 1))) x)) x (zip2 less x (zip2 half x (replicate n 1)))) x ≡ replicate n 0
none_of [] zero h f = refl
none_of [] (suc n) h f = absurd (omega arith)
none_of (x ∷ xs) zero h f = absurd (omega arith)
none_of (x ∷ xs) (suc n) h f = rw (none x f.0.fits, none_of xs n (omega arith) f.1) refl

pub none_is : (x : List ℕ) → IsVector x
    → zip2 less (sel_l (map (top 7) (zip2 where_less (zip2 less x (zip2 half x (replicate 16 1))) x)) x (zip2 less x (zip2 half x (replicate 16 1)))) x ≡ zeros
none_is x h = none_of x 16 h.0 h.1

-- what is added to zeros stays
pub kept_by : (x : List ℕ) → length x ≡ 16 → zip2 bit_xor x zeros ≡ x
kept_by x h = zip2_splat bit_xor x 16 0 h ∙ same x
  where
    same : (x : List ℕ) → map (λ b. bit_xor b 0) x ≡ x
    same [] = refl
    same (b ∷ bs) = rw (xor_zero_r b, same bs) refl

-- a permutation by places that are equal to others
pub permuted_by : (v p q r : List ℕ) → r ≡ map (λ k. get_or v k 0) p → p ≡ q → r ≡ map (λ k. get_or v k 0) q
permuted_by v p q r e h = e ∙ ap (map (λ k. get_or v k 0)) h
