-- How the program ends.
use Rattle.std.specs.Prelude.{ℕ, Bool, true, false, Result, Ok, Err}

-- 0 where each case went as it is wanted, 1 where one didn't, and 2 where not all was done
abbrev pub status_of : {E : Type 0} → Result Bool E → ℕ
status_of (Ok true) = 0
status_of (Ok false) = 1
status_of (Err e) = 2
