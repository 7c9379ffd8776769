-- What is printed where tables are checked.
use Rattle.std.specs.Prelude.{ℕ, List, Option, Result, Ok, Err}
use Rattle.std.specs.Io.KnownBytes.{Appends, Keeps}
use Rattle.disk_model.specs.Written.{AppendsFront}
use Rattle.agreements.specs.Walk.{Config}
use Rattle.desk_top.specs.LastLines.{counts_line}
use Rattle.desk_top.specs.declared.fault.Fault.{Fault}
use Rattle.desk_top.specs.declared.fault.Fault.TheVariants.{Usage, Refused, NoDevice, TablesRead, InputRead, Write, TooMuch, Journal, Memory}

-- what stands written after the counts of the tables were printed, by how that ended
abbrev pub Counted : Config → Option (List ℕ) → Option (List ℕ) → Result (Unit {0}) Fault → Type 0
Counted c out written (Ok u) = Appends out written (counts_line c)
Counted c out written (Err Usage) = ⊥
Counted c out written (Err (Refused line)) = ⊥
Counted c out written (Err (NoDevice line)) = ⊥
Counted c out written (Err TablesRead) = ⊥
Counted c out written (Err InputRead) = ⊥
Counted c out written (Err Write) = AppendsFront out written (counts_line c)
Counted c out written (Err TooMuch) = ⊥
Counted c out written (Err (Journal why)) = ⊥
Counted c out written (Err Memory) = Keeps out written
