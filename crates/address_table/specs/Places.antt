-- Which places of a row are taken.
use Rattle.std.specs.Prelude.{◌≡◌, ℕ, ◌<◌, ◌≤◌, List, length, slice_index_or, Bool, true, false}

-- the first place that is free, and their number where none is
abbrev pub IsFirst : List Bool → ℕ → Type 0
IsFirst taken n = (n ≤ length taken) × ((i : ℕ) → i < n → slice_index_or taken i false ≡ true) × (slice_index_or taken n false ≡ false)
