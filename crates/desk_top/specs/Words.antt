-- The word lists of the program.
use Rattle.std.specs.Prelude.{◌≡◌, ℕ, List, length, slice_get, Option, Some, None, Ok, codes, option_map, string_bytes, String}
use Rattle.std.specs.declared.alloc.Global.{Global}
use Rattle.wire_ids.specs.Digits.{read_eui}
use Rattle.wire_ids.specs.declared.eui.Eui.{Eui}
use Rattle.desk_top.specs.declared.words.Command.{Command}
use Rattle.desk_top.specs.declared.words.Command.TheVariants.{Check, Answer, Suspend, Resume}
use Rattle.desk_top.specs.declared.words.WordFiles.{WordFiles}

-- the word at a place is this one
abbrev pub HasWord : List (String Global) → ℕ → List ℕ → Type 0
HasWord words at word = option_map string_bytes (slice_get words at) ≡ Some word

-- the word at a place has the digits of this EUI
abbrev pub HasEui : List (String Global) → ℕ → Eui → Type 0
HasEui words at eui = (word : List ℕ) × HasWord words at word × (read_eui word ≡ Ok eui)

-- `COMMAND --tables PATH --journal PATH EUI`
abbrev pub Marks : List (String Global) → List ℕ → Eui → Type 0
Marks words command eui = (length words ≡ 6) × HasWord words 0 command × HasWord words 1 (codes "--tables") × HasWord words 3 (codes "--journal") × HasEui words 5 eui

-- `check --tables PATH`, `answer --tables PATH --journal PATH`, and `suspend` and `resume` as above, where PATH is any word
abbrev pub Spells : List (String Global) → Command → Type 0
Spells words Check = (length words ≡ 3) × HasWord words 0 (codes "check") × HasWord words 1 (codes "--tables")
Spells words Answer = (length words ≡ 5) × HasWord words 0 (codes "answer") × HasWord words 1 (codes "--tables") × HasWord words 3 (codes "--journal")
Spells words (Suspend eui) = Marks words (codes "suspend") eui
Spells words (Resume eui) = Marks words (codes "resume") eui

-- the words are no list
abbrev pub SpellsNone : List (String Global) → Type 0
SpellsNone words = (command : Command) → Spells words command → ⊥

-- where a command's words name a journal
abbrev pub journal_at : Command → Option ℕ
journal_at Check = None
journal_at Answer = Some 4
journal_at (Suspend eui) = Some 4
journal_at (Resume eui) = Some 4

-- where a command's words name files
abbrev pub files : Command → WordFiles
files command = record { tables = Some 2; journal = journal_at command; listen = None; workers = 0 }
