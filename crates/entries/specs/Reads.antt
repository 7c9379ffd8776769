-- What a reader of the code answers and leaves, by what its form reads.
use Rattle.std.specs.Prelude.{◌≡◌, List, ℕ, Option, Some, None, Result, Ok, Err}
use Rattle.wire_ids.specs.Forms.{Read}
use Rattle.entries.specs.declared.unread.Unread.{Unread}
use Rattle.entries.specs.declared.unread.Unread.TheVariants.{Memory, NoEntry}

abbrev pub Fails : {A : Type 0} → Unread → Option A → Type 0
Fails Memory read = Unit {0}
Fails NoEntry read = read ≡ None

-- the value and the rest are what the form reads, unless memory ran out
abbrev pub Reads : {A : Type 0} → Result A Unread → List ℕ → Read A → Type 0
Reads (Ok a) rest read = read ≡ Some (a, rest)
Reads (Err e) rest read = Fails e read

-- the same of a whole text
abbrev pub ReadsAll : {A : Type 0} → Result A Unread → Option A → Type 0
ReadsAll (Ok a) read = read ≡ Some a
ReadsAll (Err e) read = Fails e read
