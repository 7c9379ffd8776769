-- What is printed of cases.
use Rattle.std.specs.Prelude.{◌≡◌, ℕ, List, [], ◌∷◌, ◌++◌, codes, string_bytes, Bool, true, false, Option, Some, None, All, Vec, ⊤}
use Rattle.std.specs.Io.KnownBytes.{Appends}
use Rattle.desk_rows.specs.declared.case.Case.{Case}
use Rattle.std.specs.declared.alloc.Global.{Global}
use Rattle.desk_rows.specs.declared.case.Ended.{Ended}
use Rattle.desk_rows.specs.declared.case.Outcome.{Outcome}
use Rattle.desk_rows.specs.declared.case.Wanted.{Wanted}

-- these bytes are there, or nothing is said of them
abbrev pub Holds : List ℕ → Option (Vec ℕ Global) → Type 0
Holds got None = ⊤
Holds got (Some wanted) = got ≡ wanted.items

-- the run ended as it is wanted
pub record Passes (got : Outcome) (wanted : Wanted) : Type 0 where
  pub status : got.status ≡ wanted.status
  pub output : got.output.items ≡ wanted.output.items
  pub disk : Holds got.disk.items wanted.disk
  pub journal : Holds got.journal.items wanted.journal

-- each did
abbrev pub PassAll : List Ended → Type 0
PassAll ended = All (λ (one : Ended). Passes one.got one.wanted) ended

-- the line of a case that passed
abbrev pub ok_line : List ℕ → List ℕ
ok_line name = name ++ codes ": ok\n"

-- how the lines of a case begin that didn't
abbrev pub differs_line : List ℕ → List ℕ
differs_line name = name ++ codes ": differs\n"

-- these lines are those of a case that passed, or of one that didn't
abbrev pub Says : Bool → List ℕ → List ℕ → Type 0
Says true name lines = lines ≡ ok_line name
Says false name lines = (more : List ℕ) × (lines ≡ differs_line name ++ more)

-- a line for each of these cases, all of which passed
abbrev pub ok_lines : List Case → List ℕ
ok_lines [] = []
ok_lines (case ∷ cases) = ok_line (string_bytes case.name) ++ ok_lines cases

-- where all passed, a line for each was printed and nothing else
abbrev pub PrintsAll : Bool → List Case → Option (List ℕ) → Option (List ℕ) → Type 0
PrintsAll true cases old new = Appends old new (ok_lines cases)
PrintsAll false cases old new = Unit {0}
