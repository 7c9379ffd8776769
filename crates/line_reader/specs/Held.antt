-- Parts of a line.
use Rattle.std.specs.Prelude.{◌≡◌, ◌≢◌, ◌+◌, ◌<◌, take, drop, ℕ, List, [], ◌∷◌, length}
use Rattle.line_reader.specs.Lines.{HasNoBreak}
use Rattle.line_reader.specs.declared.reader.Heard.{Heard}
use Rattle.line_reader.specs.declared.reader.Heard.TheVariants.{Line, End}

-- what is said of a last line whose end is missing
abbrev pub SaysRest : Heard → List ℕ → Type 0
SaysRest (Line text) line = (line ≢ []) × (text ≡ take 8193 line)
SaysRest End line = line ≡ []

-- the place of the first byte that ends a line
abbrev pub IsLineEnd : List ℕ → ℕ → Type 0
IsLineEnd piece at = (at < length piece) × HasNoBreak (take at piece) × (drop at piece ≡ 10 ∷ drop (at + 1) piece)
