-- What a line reader has.
use Rattle.std.specs.Prelude.{◌≡◌, ℕ, ◌+◌, ◌-◌, List, length, Option}
use Rattle.std.specs.Io.KnownBytes.{prepend_known, Consumes}

pub record Progress : Type 0 where
  -- taken from the source, and not yet part of a line
  pub pending : List ℕ
  -- how many bytes were taken from the source
  pub taken : ℕ
  -- among how many bytes a line's end is looked for
  pub limit : ℕ

-- all that comes, where the source tells what it has left
abbrev pub coming : Progress → Option (List ℕ) → Option (List ℕ)
coming p left = prepend_known p.pending left

-- so many more bytes were taken, where the source tells what it has left
abbrev pub TakesCount : Option (List ℕ) → Option (List ℕ) → ℕ → ℕ → Type 0
TakesCount old new before now = (bs : List ℕ) × Consumes old new bs × (now ≡ before + length bs)

-- how many bytes may still become part of a line
abbrev pub budget : Progress → ℕ
budget p = (p.limit - p.taken) + length p.pending
