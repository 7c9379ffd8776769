-- A step and the same step taken back undo each other.
use Rattle.std.proofs.Common.{◌≡◌, ℕ, ◌^◌, ◌<◌, List, ◌++◌, take, drop, get_or, refl, ap, ◌∙◌}
use Rattle.std.proofs.lemmas.List.{take-append-drop, take_at, drop_at}
use Rattle.aes_cmac.specs.Aes.{IsBlock, encrypted, decrypted}
use Rattle.aes_cmac.proofs.Undo.{decrypted-encrypted}
use Rattle.aes_cmac.proofs.Redo.{encrypted-decrypted}
use Rattle.key_wrap.specs.Wrap.{Registers, xor_step, step, unstep}
use Rattle.key_wrap.proofs.Bytes.{IsHalf, joined_block, first_half, second_half, IsHalf-xor_step, xor_step-xor_step, encrypted_block, decrypted_block}

pub record IsWhole (s : Registers) : Type 0 where
  pub a : IsHalf s.a
  pub r1 : IsHalf s.r1
  pub r2 : IsHalf s.r2

pub IsWhole-step : (kek : List ℕ) (t : ℕ) (s : Registers) → ((i : ℕ) → get_or kek i 0 < 256) → IsWhole s → IsWhole (step kek t s)
unfolding step
IsWhole-step kek t s k h =
    let b : List ℕ = encrypted kek (s.a ++ s.r1) in
    record { a = IsHalf-xor_step (take 8 b) t; r1 = h.r2; r2 = second_half b (encrypted_block kek (s.a ++ s.r1) k) }

pub IsWhole-unstep : (kek : List ℕ) (t : ℕ) (s : Registers) → ((i : ℕ) → get_or kek i 0 < 256) → IsWhole s → IsWhole (unstep kek t s)
unfolding unstep
IsWhole-unstep kek t s k h =
    let b : List ℕ = decrypted kek (xor_step s.a t ++ s.r2) in
    let is : IsBlock b = decrypted_block kek (xor_step s.a t ++ s.r2) k in
    record { a = first_half b is; r1 = second_half b is; r2 = h.r1 }

registers_from : (s : Registers) (d : List ℕ) → IsHalf s.a → d ≡ s.a ++ s.r1
    → (let r : Registers = record { a = take 8 d; r1 = drop 8 d; r2 = s.r2 } in r) ≡ s
registers_from s d h e =
    let front : take 8 (s.a ++ s.r1) ≡ s.a = take_at s.a s.r1 8 h.len in
    let rest : drop 8 (s.a ++ s.r1) ≡ s.r1 = drop_at s.a s.r1 8 h.len in
    rw (e, front, rest) refl

pub unstep-step : (kek : List ℕ) (t : ℕ) (s : Registers) → ((i : ℕ) → get_or kek i 0 < 256) → t < 2 ^ 64 → IsWhole s → unstep kek t (step kek t s) ≡ s
unfolding unstep step
unstep-step kek t s k fits h =
    let b : List ℕ = encrypted kek (s.a ++ s.r1) in
    let first : IsHalf (take 8 b) = first_half b (encrypted_block kek (s.a ++ s.r1) k) in
    let same : xor_step (xor_step (take 8 b) t) t ++ drop 8 b ≡ b = rw (xor_step-xor_step (take 8 b) t first fits) (take-append-drop 8 b) in
    registers_from s (decrypted kek (xor_step (xor_step (take 8 b) t) t ++ drop 8 b)) h.a
    (ap (decrypted kek) same ∙ decrypted-encrypted kek (s.a ++ s.r1) k (joined_block s.a s.r1 h.a h.r1))

stepped_from : (s : Registers) (b : List ℕ) (t : ℕ) → IsHalf s.a → t < 2 ^ 64 → b ≡ xor_step s.a t ++ s.r2
    → (let r : Registers = record { a = xor_step (take 8 b) t; r1 = s.r1; r2 = drop 8 b } in r) ≡ s
stepped_from s b t h fits e =
    let half : IsHalf (xor_step s.a t) = IsHalf-xor_step s.a t in
    let front : take 8 (xor_step s.a t ++ s.r2) ≡ xor_step s.a t = take_at (xor_step s.a t) s.r2 8 half.len in
    let rest : drop 8 (xor_step s.a t ++ s.r2) ≡ s.r2 = drop_at (xor_step s.a t) s.r2 8 half.len in
    rw (e, front, rest, xor_step-xor_step s.a t h fits) refl

pub step-unstep : (kek : List ℕ) (t : ℕ) (s : Registers) → ((i : ℕ) → get_or kek i 0 < 256) → t < 2 ^ 64 → IsWhole s → step kek t (unstep kek t s) ≡ s
unfolding unstep step
step-unstep kek t s k fits h =
    let block : List ℕ = xor_step s.a t ++ s.r2 in
    let d : List ℕ = decrypted kek block in
    stepped_from s (encrypted kek (take 8 d ++ drop 8 d)) t h.a fits
    (ap (encrypted kek) (take-append-drop 8 d) ∙ encrypted-decrypted kek block k (joined_block (xor_step s.a t) s.r2 (IsHalf-xor_step s.a t) h.r2))
