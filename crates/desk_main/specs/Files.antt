-- What a file tells that maybe was opened.
use Rattle.std.specs.Prelude.{ℕ, List, Option, Some, None}

-- what the opened file has left, where it tells; a file that couldn't be opened doesn't tell
abbrev pub file_left : {F : Type 0} → (F → Option (List ℕ)) → Option F → Option (List ℕ)
file_left remaining None = None
file_left remaining (Some file) = remaining file
