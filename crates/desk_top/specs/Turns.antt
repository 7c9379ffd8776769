-- One line after another is heard and answered.
use Rattle.std.specs.Prelude.{◌≡◌, ◌≢◌, ◌⊎◌, ◌<◌, ◌≤◌, ◌+◌, ℕ, List, [], ◌∷◌, ◌++◌, length, take, Bool, true, false, Option, Some, None}
use Rattle.std.specs.Io.KnownBytes.{Appends, Consumes, IsAtEnd, Keeps}
use Rattle.disk_model.specs.Moments.{Told}
use Rattle.disk_model.specs.Written.{AppendsFront}
use Rattle.line_reader.specs.Lines.{HasNoBreak, lines_of, whole_lines}
use Rattle.agreements.specs.Walk.{Config}
use Rattle.wire_ids.specs.declared.keys.RootKeys.{RootKeys}
use Rattle.entries.specs.declared.entry.Entry.{Entry}
use Rattle.roam_core.specs.Desk.{Desk}
use Rattle.roam_core.specs.Lines.{one_more}
use Rattle.desk_top.specs.Journals.{Grows, Outside}
use Rattle.desk_top.specs.Output.{answer_line, desk_after_all, desk_then, entries_to, entry_then, output_of}

-- the clock was read once for each of these lines, the answers to them were written, and the journal has their entries
abbrev pub Writes : Config → List RootKeys → Desk → List (List ℕ) → Outside → Outside → Type 0
Writes c keys s lines before now = (readings : List ℕ) × (length readings ≡ length lines) × Told before.clock now.clock readings
    × Appends before.written now.written (output_of c keys s lines readings) × Grows before.records now.records (entries_to c keys s lines readings)

-- the clock was read for no more than these lines, a front of the answers was written to those for which it was, and the journal has
-- their entries, maybe without the last one's
abbrev pub WritesSome : Config → List RootKeys → Desk → List (List ℕ) → Outside → Outside → Type 0
WritesSome c keys s lines before now = (readings : List ℕ) × (kept : ℕ) × (length readings ≤ length lines) × (kept ≤ length readings) × (length readings ≤ kept + 1)
    × Told before.clock now.clock readings × AppendsFront before.written now.written (output_of c keys s lines readings)
    × Grows before.records now.records (entries_to c keys s lines (take kept readings))

-- The lines before one of these are answered and their entries are in the journal; for that one the clock was read, and the entry that it makes isn't.
pub record StopsAt (c : Config) (keys : List RootKeys) (s : Desk) (lines : List (List ℕ)) (before now : Outside) (e : Entry) : Type 0 where
  pub done : List (List ℕ)
  pub line : List ℕ
  pub more : List (List ℕ)
  pub cut : lines ≡ done ++ line ∷ more
  pub readings : List ℕ
  pub reading : ℕ
  pub once : length readings ≡ length done
  pub clock : Told before.clock now.clock (readings ++ reading ∷ [])
  pub written : Appends before.written now.written (output_of c keys s done readings)
  pub records : Grows before.records now.records (entries_to c keys s done readings)
  pub makes : entry_then c keys (desk_after_all c keys s done readings) line reading ≡ Some e

-- so the answering of an input stopped, where it tells what it has
abbrev pub StopsIn : Config → List RootKeys → Desk → Option (List ℕ) → Outside → Outside → Entry → Type 0
StopsIn c keys s None before now e = Unit {0}
StopsIn c keys s (Some bytes) before now e = StopsAt c keys s (lines_of bytes) before now e

-- so all lines of the input were answered, where it tells what it has
abbrev pub WritesAll : Config → List RootKeys → Desk → Option (List ℕ) → Outside → Outside → Type 0
WritesAll c keys s None before now = Unit {0}
WritesAll c keys s (Some bytes) before now = Writes c keys s (lines_of bytes) before now

-- so a front of the answers to them was written
abbrev pub WritesFront : Config → List RootKeys → Desk → Option (List ℕ) → Outside → Outside → Type 0
WritesFront c keys s None before now = Unit {0}
WritesFront c keys s (Some bytes) before now = WritesSome c keys s (lines_of bytes) before now

-- so all lines were answered whose end was taken and is among the first bytes
abbrev pub WritesTaken : ℕ → Config → List RootKeys → Desk → Option (List ℕ) → Option (List ℕ) → Outside → Outside → Type 0
WritesTaken limit c keys s None after before now = Unit {0}
WritesTaken limit c keys s (Some bytes) None before now = ⊥
WritesTaken limit c keys s (Some bytes) (Some rest) before now = (taken : List ℕ) × (bytes ≡ taken ++ rest) × Writes c keys s (whole_lines (take limit taken)) before now

-- these, or all lines where the input had ended
abbrev pub WritesWhole : ℕ → Config → List RootKeys → Desk → Option (List ℕ) → Option (List ℕ) → Outside → Outside → Type 0
WritesWhole limit c keys s None after before now = Unit {0}
WritesWhole limit c keys s (Some bytes) None before now = ⊥
WritesWhole limit c keys s (Some bytes) (Some rest) before now = WritesTaken limit c keys s (Some bytes) (Some rest) before now
    ⊎ ((rest ≡ []) × Writes c keys s (lines_of bytes) before now)

-- a line was used up, with its end, or at the end of the input
abbrev pub LineUsed : Option (List ℕ) → List ℕ → Option (List ℕ) → Type 0
LineUsed before line after = Consumes before after (line ++ 10 ∷ []) ⊎ (Consumes before after line × (line ≢ []) × IsAtEnd after)

-- where a line came the clock was read and the line was answered, and else nothing was left
abbrev pub Turns : Config → List RootKeys → Option (List ℕ) → Desk → Outside → Bool → Option (List ℕ) → Desk → Outside → Type 0
Turns c keys left s before true after new now = (line : List ℕ) × (reading : ℕ) × HasNoBreak line × LineUsed left line after
    × (new ≡ desk_then c keys s line reading) × Told before.clock now.clock (reading ∷ []) × Appends before.written now.written (answer_line c keys s line reading)
    × Grows before.records now.records (one_more (entry_then c keys s line reading) [])
Turns c keys left s before false after new now = Consumes left after [] × IsAtEnd after × Told before.clock now.clock [] × Keeps before.written now.written
    × (now.records ≡ before.records)

-- a line was used up and the clock was read, and the entry that it makes wasn't written
abbrev pub TurnStops : Config → List RootKeys → Option (List ℕ) → Desk → Outside → Option (List ℕ) → Outside → Entry → Type 0
TurnStops c keys left s before after now e = (line : List ℕ) × (reading : ℕ) × HasNoBreak line × LineUsed left line after × (entry_then c keys s line reading ≡ Some e)
    × Told before.clock now.clock (reading ∷ []) × Keeps before.written now.written × (now.records ≡ before.records)

-- these lines were used up, and the others are those of what is left, or nothing is left
abbrev pub AreUsed : List ℕ → List (List ℕ) → List ℕ → Type 0
AreUsed used lines rest = ((later : List ℕ) → (lines_of (used ++ later) ≡ lines ++ lines_of later) × (whole_lines (used ++ later) ≡ lines ++ whole_lines later))
    ⊎ ((rest ≡ []) × (lines_of used ≡ lines))

-- after some turns: the lines that were used up are answered
abbrev pub IsUnderWay : Config → List RootKeys → Desk → Option (List ℕ) → Outside → Option (List ℕ) → Desk → Outside → Type 0
IsUnderWay c keys s None before after new now = Unit {0}
IsUnderWay c keys s (Some bytes) before None new now = ⊥
IsUnderWay c keys s (Some bytes) before (Some rest) new now = (used : List ℕ) × (lines : List (List ℕ)) × (readings : List ℕ) × (bytes ≡ used ++ rest) × AreUsed used lines rest
    × (length readings ≡ length lines) × (new ≡ desk_after_all c keys s lines readings)
    × Told before.clock now.clock readings × Appends before.written now.written (output_of c keys s lines readings)
    × Grows before.records now.records (entries_to c keys s lines readings)

-- a turn takes a byte, unless it is the last
abbrev pub Spends : Bool → ℕ → ℕ → Type 0
Spends true before now = now < before
Spends false before now = now ≤ before
