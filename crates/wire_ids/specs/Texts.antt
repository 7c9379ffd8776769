-- Texts of a bounded length.
use Rattle.std.specs.Prelude.{ℕ, List, length, Option, Some, None, nat_le, if◌then◌else◌}

-- the text, where it has at most so many bytes
abbrev pub bounded : ℕ → List ℕ → Option (List ℕ)
bounded most text = if nat_le (length text) most then Some text else None
