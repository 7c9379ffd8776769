-- The word list that asks for the help.
use Rattle.std.specs.Prelude.{◌≡◌, List, length, codes, String}
use Rattle.std.specs.declared.alloc.Global.{Global}
use Rattle.desk_top.specs.Words.{HasWord}

-- the single word `--help`
abbrev pub IsHelp : List (String Global) → Type 0
IsHelp words = (length words ≡ 1) × HasWord words 0 (codes "--help")
