-- What is heard of an input.
use Rattle.std.specs.Prelude.{◌≡◌, ◌≢◌, ◌⊎◌, ◌<◌, ◌≤◌, ℕ, List, [], ◌∷◌, ◌++◌, take, Option, Some, None}
use Rattle.std.specs.Io.KnownBytes.{Consumes, IsAtEnd}
use Rattle.line_reader.specs.Lines.{lines_of, HasNoBreak}
use Rattle.line_reader.specs.declared.reader.Heard.{Heard}
use Rattle.line_reader.specs.declared.reader.Heard.TheVariants.{Line, End}

-- what was heard is the first of these lines, of a long one its first 8,193 bytes, and the others are left
abbrev pub HearsFirst : List (List ℕ) → Heard → List (List ℕ) → Type 0
HearsFirst lines (Line text) more = (line : List ℕ) × (lines ≡ line ∷ more) × (text ≡ take 8193 line)
HearsFirst lines End more = (lines ≡ []) × (more ≡ [])

-- the same of the lines of what comes, where it is told
abbrev pub HearsLine : Option (List ℕ) → Heard → Option (List ℕ) → Type 0
HearsLine None heard after = Unit {0}
HearsLine (Some bytes) heard None = ⊥
HearsLine (Some bytes) heard (Some rest) = HearsFirst (lines_of bytes) heard (lines_of rest)

-- exactly a line's bytes were used up: those up to the byte that ends it, or all where none ends it
abbrev pub UsesUp : Option (List ℕ) → Heard → Option (List ℕ) → Type 0
UsesUp old (Line text) new = (line : List ℕ) × HasNoBreak line × (text ≡ take 8193 line)
    × (Consumes old new (line ++ 10 ∷ []) ⊎ (Consumes old new line × (line ≢ []) × IsAtEnd new))
UsesUp old End new = Consumes old new [] × IsAtEnd new

-- no line ended in what was used up
abbrev pub StopsInLine : Option (List ℕ) → Option (List ℕ) → Type 0
StopsInLine old new = (front : List ℕ) × Consumes old new front × HasNoBreak front

-- no line ended in what was used up before the last byte
abbrev pub StopsBehind : Option (List ℕ) → Option (List ℕ) → Type 0
StopsBehind old new = (front : List ℕ) × (byte : ℕ) × Consumes old new (front ++ byte ∷ []) × HasNoBreak front

-- a line takes a byte at least
abbrev pub Spends : Heard → ℕ → ℕ → Type 0
Spends (Line text) before now = now < before
Spends End before now = now ≤ before

-- nothing comes any more
abbrev pub IsEnd : Heard → Type 0
IsEnd (Line text) = ⊥
IsEnd End = Unit {0}
