-- Registers of 8 bytes, and the blocks of two of them.
use Rattle.std.proofs.Common.{◌≡◌, ℕ, zero, suc, ◌+◌, ◌-◌, ◌*◌, ◌/◌, ◌%◌, ◌^◌, ◌<◌, ◌≤◌, List, [], ◌∷◌, ◌++◌, inl, inr, length, take, drop, get_or, refl, ap, ◌∙◌, arith, length-append, length-drop}
use Rattle.std.proofs.lemmas.Bool.{cases_lt}
use Rattle.std.proofs.lemmas.List.{get_or_append_left, get_or-append_right, get_or-take, get_or-drop, get_or_past, length-take-le, take_at, drop_at, drop_all, append-nil}
use Rattle.std.proofs.lemmas.Nat.{be_bytes_8, from_be_bytes-to_be_bytes_8}
use Rattle.std.specs.Int.Bits.{bit_xor, xor_assoc, xor_self, xor_zero_r, xor_lt}
use Rattle.std.specs.Int.{w64, from_be_bytes, to_be_bytes}
use borrow.Rule.Slice.PartMut.{put_mid}
use Rattle.aes_cmac.specs.Field.{sub_byte}
use Rattle.aes_cmac.specs.Aes.{IsBlock, at, sub_bytes, shift_rows, inv_sub_bytes, inv_shift_rows, rounds, inv_rounds, round_key, encrypted, decrypted}
use Rattle.aes_cmac.proofs.SBoxFacts.{sub_byte_below}
use Rattle.aes_cmac.proofs.Undo.{bytes16-below, round_key-below, IsState-xor16}
use Rattle.aes_cmac.proofs.Redo.{IsBlock-inv_sub_bytes}
use Rattle.key_wrap.specs.Wrap.{xor_step}

pub record IsHalf (h : List ℕ) : Type 0 where
  pub len : length h ≡ 8
  pub below : (i : ℕ) → get_or h i 0 < 256

-- eight bytes of a text are a register
pub part_half : (w : List ℕ) (k : ℕ) → k + 8 ≤ length w → ((i : ℕ) → get_or w i 0 < 256) → IsHalf (take 8 (drop k w))
part_half w k fits below =
    let len : length (take 8 (drop k w)) ≡ 8 = length-take-le 8 (drop k w) (omega (arith, length-drop {A = ℕ} k w)) in
    record {
      len = len;
      below = λ i. elim (cases_lt i 8) as (λ _. get_or (take 8 (drop k w)) i 0 < 256) [
        | inl l ↦ rw (get_or-take 8 (drop k w) i 0 l, get_or-drop k w i 0) (below (k + i))
        | inr g ↦ rw (get_or_past (take 8 (drop k w)) i 0 (omega arith)) (omega arith)
      ];
    }

-- a text whose end is overwritten
pub put_end : (a z r x y : List ℕ) (n m : ℕ) → length a ≡ n → length z ≡ m → x ≡ a → y ≡ r → put_mid n m (x ++ z) y ≡ a ++ r
put_end a z r x y n m la lz ex ey =
    let front : take n (a ++ z) ≡ a = take_at a z n la in
    let back : drop n (a ++ z) ≡ z = drop_at a z n la in
    let rest : drop m z ≡ [] = drop_all m z (omega arith) in
    rw (ex, ey, front, back, rest, append-nil) refl

-- two registers are a block
pub joined_block : (x y : List ℕ) → IsHalf x → IsHalf y → IsBlock (x ++ y)
joined_block x y hx hy = (
  omega (arith, length-append x y, hx.len, hy.len),
  λ i. elim (cases_lt i (length x)) as (λ _. get_or (x ++ y) i 0 < 256) [
    | inl l ↦ rw (get_or_append_left x y 0 i l) (hx.below i)
    | inr g ↦ rw (get_or-append_right x y (length x) i 0 refl g) (hy.below (i - length x))
  ],
)

-- and a block is two registers
pub first_half : (b : List ℕ) → IsBlock b → IsHalf (take 8 b)
first_half b h =
    let len : length (take 8 b) ≡ 8 = length-take-le 8 b (omega (arith, h.0)) in
    record {
      len = len;
      below = λ i. elim (cases_lt i 8) as (λ _. get_or (take 8 b) i 0 < 256) [
        | inl l ↦ rw (get_or-take 8 b i 0 l) (h.1 i)
        | inr g ↦ rw (get_or_past (take 8 b) i 0 (omega arith)) (omega arith)
      ];
    }

pub second_half : (b : List ℕ) → IsBlock b → IsHalf (drop 8 b)
second_half b h = record {
  len = omega (arith, h.0, length-drop {A = ℕ} 8 b);
  below = λ i. rw (get_or-drop 8 b i 0) (h.1 (8 + i));
}

-- eight bytes
pub below_8 : (a b c d e f g h : ℕ) → a < 256 → b < 256 → c < 256 → d < 256 → e < 256 → f < 256 → g < 256 → h < 256
    → (i : ℕ) → get_or (a ∷ b ∷ c ∷ d ∷ e ∷ f ∷ g ∷ h ∷ []) i 0 < 256
below_8 a b c d e f g h ha hb hc hd he hf hg hh zero = ha
below_8 a b c d e f g h ha hb hc hd he hf hg hh (suc zero) = hb
below_8 a b c d e f g h ha hb hc hd he hf hg hh (suc (suc zero)) = hc
below_8 a b c d e f g h ha hb hc hd he hf hg hh (suc (suc (suc zero))) = hd
below_8 a b c d e f g h ha hb hc hd he hf hg hh (suc (suc (suc (suc zero)))) = he
below_8 a b c d e f g h ha hb hc hd he hf hg hh (suc (suc (suc (suc (suc zero))))) = hf
below_8 a b c d e f g h ha hb hc hd he hf hg hh (suc (suc (suc (suc (suc (suc zero)))))) = hg
below_8 a b c d e f g h ha hb hc hd he hf hg hh (suc (suc (suc (suc (suc (suc (suc zero))))))) = hh
below_8 a b c d e f g h ha hb hc hd he hf hg hh (suc (suc (suc (suc (suc (suc (suc (suc i)))))))) = omega arith

byte_below : (n : ℕ) → n % 256 < 256
byte_below n = omega arith

-- the eight bytes of a number
pub IsHalf-to_be_bytes : (n : ℕ) → IsHalf (to_be_bytes w64 n)
IsHalf-to_be_bytes n = record {
  len = refl;
  below = below_8 (n / 256 ^ 7 % 256) (n / 256 ^ 6 % 256) (n / 256 ^ 5 % 256) (n / 256 ^ 4 % 256) (n / 256 ^ 3 % 256) (n / 256 ^ 2 % 256) (n / 256 ^ 1 % 256) (n % 256)
      (byte_below (n / 256 ^ 7)) (byte_below (n / 256 ^ 6)) (byte_below (n / 256 ^ 5)) (byte_below (n / 256 ^ 4)) (byte_below (n / 256 ^ 3)) (byte_below (n / 256 ^ 2))
      (byte_below (n / 256 ^ 1)) (byte_below n);
}

pub IsHalf-xor_step : (a : List ℕ) (t : ℕ) → IsHalf (xor_step a t)
unfolding xor_step
IsHalf-xor_step a t = IsHalf-to_be_bytes (bit_xor (from_be_bytes w64 a) t)

number_below : (a : List ℕ) → IsHalf a → from_be_bytes w64 a < 2 ^ 64
number_below a h =
    omega (arith, h.below 0, h.below 1, h.below 2, h.below 3, h.below 4, h.below 5, h.below 6, h.below 7)

xor_twice : (n t : ℕ) → bit_xor (bit_xor n t) t ≡ n
xor_twice n t = xor_assoc n t t ∙ ap (bit_xor n) (xor_self t) ∙ xor_zero_r n

-- the number of a step twice
pub xor_step-xor_step : (a : List ℕ) (t : ℕ) → IsHalf a → t < 2 ^ 64 → xor_step (xor_step a t) t ≡ a
unfolding xor_step
xor_step-xor_step a t h fits =
    let n : ℕ = from_be_bytes w64 a in
    let read : from_be_bytes w64 (to_be_bytes w64 (bit_xor n t)) ≡ bit_xor n t =
    from_be_bytes-to_be_bytes_8 (bit_xor n t) (xor_lt 64 n t (number_below a h) fits) in
    ap (λ m. to_be_bytes w64 (bit_xor m t)) read ∙ ap (λ m. to_be_bytes w64 m) (xor_twice n t) ∙ be_bytes_8 a n h.len h.below refl

substituted_below : (s : List ℕ) (i : ℕ) → get_or (sub_bytes s) i 0 < 256
unfolding sub_bytes
substituted_below s = bytes16-below (λ k. sub_byte (get_or s k 0)) (λ k. sub_byte_below (get_or s k 0))

shifted_below : (s : List ℕ) (i : ℕ) → get_or (shift_rows (sub_bytes s)) i 0 < 256
unfolding shift_rows
shifted_below s = bytes16-below (λ k. at (sub_bytes s) k (k / 4 + k % 4)) (λ k. substituted_below s (k % 4 + 4 * ((k / 4 + k % 4) % 4)))

pub encrypted_block : (kek block : List ℕ) → ((i : ℕ) → get_or kek i 0 < 256) → IsBlock (encrypted kek block)
unfolding encrypted
encrypted_block kek block h =
    IsState-xor16 (shift_rows (sub_bytes (rounds kek block 9))) (round_key kek 10) (shifted_below (rounds kek block 9)) (round_key-below kek h 10)

pub decrypted_block : (kek block : List ℕ) → ((i : ℕ) → get_or kek i 0 < 256) → IsBlock (decrypted kek block)
unfolding decrypted
decrypted_block kek block h =
    IsState-xor16 (inv_sub_bytes (inv_shift_rows (inv_rounds kek block 9))) (round_key kek 0) (IsBlock-inv_sub_bytes (inv_shift_rows (inv_rounds kek block 9))).1
    (round_key-below kek h 0)
