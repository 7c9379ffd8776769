-- The tables text that a run reads.
use Rattle.std.specs.Prelude.{◌≡◌, ◌≤◌, ℕ, List, length, take, Option, Some, None, Result}
use Rattle.agreements.specs.Walk.{Config, tables_of}
use Rattle.agreements.specs.declared.fault.TablesFault.{TablesFault}

-- how much of a text is read: its limit, and one byte more
abbrev pub text_room : ℕ
text_room = 4194305

-- the text is all that the source had, or its first bytes; of a source that doesn't tell, no more of them than that
abbrev pub ReadsText : ℕ → Option (List ℕ) → List ℕ → Type 0
ReadsText most None text = length text ≤ most
ReadsText most (Some bytes) text = text ≡ take most bytes

-- this is said of all that the source had, where it tells, and else of some text that can have been read
abbrev pub ReadsTables : Option (List ℕ) → Result Config TablesFault → Type 0
ReadsTables None said = (text : List ℕ) × (length text ≤ text_room) × (tables_of text ≡ said)
ReadsTables (Some bytes) said = tables_of bytes ≡ said

-- the source tells what it has, and this is said of it
abbrev pub HasTables : Option (List ℕ) → Result Config TablesFault → Type 0
HasTables None said = ⊥
HasTables (Some bytes) said = tables_of bytes ≡ said
