-- Why tables weren't opened.
use Rattle.std.specs.Prelude.{◌≡◌, ℕ, List, Option, Err}
use Rattle.wire_ids.specs.Causes.{Rose}
use Rattle.agreements.specs.declared.fault.TablesFault.{TablesFault}
use Rattle.desk_top.specs.LastLines.{refused_line}
use Rattle.desk_top.specs.Text.{ReadsTables}
use Rattle.desk_top.specs.declared.fault.Fault.{Fault}
use Rattle.desk_top.specs.declared.fault.Fault.TheVariants.{Usage, Refused, NoDevice, TablesRead, InputRead, Write, TooMuch, Journal, Memory}

-- the fault has the line of this refusal, or memory was wanting
abbrev pub Tells : TablesFault → Fault → Type 0
Tells refusal Usage = ⊥
Tells refusal (Refused line) = line.items ≡ refused_line refusal
Tells refusal (NoDevice line) = ⊥
Tells refusal TablesRead = ⊥
Tells refusal InputRead = ⊥
Tells refusal Write = ⊥
Tells refusal TooMuch = ⊥
Tells refusal (Journal why) = ⊥
Tells refusal Memory = Unit {0}

-- this text is refused, as the line says
abbrev pub IsRefused : Option (List ℕ) → List ℕ → Type 0
IsRefused text line = (refusal : TablesFault) × ReadsTables text (Err refusal) × (line ≡ refused_line refusal)

-- the text is refused, a read failed, whose count rose, or memory was wanting
abbrev pub Unopened : Option (List ℕ) → ℕ → ℕ → Fault → Type 0
Unopened text before now Usage = ⊥
Unopened text before now (Refused line) = IsRefused text line.items
Unopened text before now (NoDevice line) = ⊥
Unopened text before now TablesRead = Rose before now
Unopened text before now InputRead = ⊥
Unopened text before now Write = ⊥
Unopened text before now TooMuch = ⊥
Unopened text before now (Journal why) = ⊥
Unopened text before now Memory = Unit {0}
