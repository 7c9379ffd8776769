-- The least number that passes a test.
use Rattle.std.specs.Prelude.{ℕ, zero, suc, Bool, Option, Some, None, if◌then◌else◌}

-- among so many numbers from n on
unfoldable pub least_from : (ℕ → Bool) → ℕ → ℕ → Option ℕ
least_from test zero n = None
least_from test (suc more) n = if test n then Some n else least_from test more (suc n)
