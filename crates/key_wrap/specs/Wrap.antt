-- AES key wrap (RFC 3394) of a key of 16 bytes, by shifting registers: A of 8 bytes, and R[1] and R[2] of the
-- n = 2 halves of 8 bytes. Section numbers are the RFC's.
use Rattle.std.specs.Prelude.{ℕ, zero, suc, List, ◌++◌, take, drop, replicate, bit_xor}
use Rattle.std.specs.Int.{w64, from_be_bytes, to_be_bytes}
use Rattle.aes_cmac.specs.Aes.{encrypted, decrypted}

-- the registers, each of 8 bytes
pub record Registers : Type 0 where
  pub a : List ℕ
  pub r1 : List ℕ
  pub r2 : List ℕ

-- the initial value of A (2.2.3.1)
abbrev pub initial_value : List ℕ
initial_value = replicate 8 0xa6

-- a register of 64 bits xor the number of a step
unfoldable pub xor_step : List ℕ → ℕ → List ℕ
xor_step a t = to_be_bytes w64 (bit_xor (from_be_bytes w64 a) t)

-- the registers at the start (2.2.1, step 1)
abbrev pub start : List ℕ → Registers
start key = record { a = initial_value; r1 = take 8 key; r2 = drop 8 key }

-- step t (2.2.1, step 2)
unfoldable pub step : List ℕ → ℕ → Registers → Registers
step kek t s =
    let b = encrypted kek (s.a ++ s.r1) in
    record { a = xor_step (take 8 b) t; r1 = s.r2; r2 = drop 8 b }

-- the registers after the steps 1 to t
unfoldable pub after : List ℕ → Registers → ℕ → Registers
after kek s zero = s
after kek s (suc t) = step kek (suc t) (after kek s t)

-- the 24 bytes of the registers (2.2.1, step 3)
abbrev pub registers_text : Registers → List ℕ
registers_text s = s.a ++ (s.r1 ++ s.r2)

-- a wrapped key: six passes over two halves are 12 steps (2.2.1)
unfoldable pub wrapped_key : List ℕ → List ℕ → List ℕ
wrapped_key kek key = registers_text (after kek (start key) 12)

-- step t taken back (2.2.2, step 2)
unfoldable pub unstep : List ℕ → ℕ → Registers → Registers
unstep kek t s =
    let b = decrypted kek (xor_step s.a t ++ s.r2) in
    record { a = take 8 b; r1 = drop 8 b; r2 = s.r1 }

-- the registers of 24 bytes (2.2.2, step 1)
abbrev pub registers_of : List ℕ → Registers
registers_of wrapped = record { a = take 8 wrapped; r1 = take 8 (drop 8 wrapped); r2 = take 8 (drop 16 wrapped) }
