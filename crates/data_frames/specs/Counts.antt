-- Frame counters: 32 bits are counted, and the low 16 of them are sent (LoRaWAN 1.1, 4.3.1.5).
use Rattle.std.specs.Prelude.{◌≡◌, ℕ, ◌%◌, ◌<◌, ◌≤◌, ◌^◌, Option, Some, None}

-- above the last counter, where there is one
abbrev pub IsAbove : Option ℕ → ℕ → Type 0
IsAbove None n = Unit {0}
IsAbove (Some last) n = last < n

-- a number that may be the counter of a frame which sends `wire`
abbrev pub MayCount : Option ℕ → ℕ → ℕ → Type 0
MayCount last wire n = (n % 2 ^ 16 ≡ wire) × IsAbove last n

-- the least of these numbers
pub record IsFullCount (last : Option ℕ) (wire n : ℕ) : Type 0 where
  pub may : MayCount last wire n
  pub least : (m : ℕ) → MayCount last wire m → n ≤ m
