-- What a fixed clock tells.
use Rattle.std.specs.Prelude.{ℕ, ◌+◌, ◌-◌, List, min, length, slice_index}
use Rattle.disk_model.specs.declared.clock.FixedClock.{FixedClock}

-- the moment at a place of a list, or its last one
abbrev pub at_or_last : List ℕ → ℕ → ℕ
at_or_last moments n = slice_index moments (min n (length moments - 1))

-- the moment that the clock tells at its nth call from now on
abbrev pub moment_after : FixedClock → ℕ → ℕ
moment_after c n = at_or_last c.moments.items (c.at + n)
