-- What the desk says to the lines of an input.
use Rattle.std.specs.Prelude.{ℕ, List, [], ◌∷◌, ◌++◌, map, Option}
use Rattle.wire_ids.specs.declared.keys.RootKeys.{RootKeys}
use Rattle.agreements.specs.Walk.{Config}
use Rattle.agreements.specs.LookUps.{keys_of}
use Rattle.entries.specs.declared.entry.Entry.{Entry}
use Rattle.roam_core.specs.Desk.{Desk, moment_of}
use Rattle.roam_core.specs.Lines.{answer_to, one_more, reaction, state_after}

-- the root keys of the tables' devices: they are read out of the tables here and nowhere else
abbrev pub key_table : Config → List RootKeys
key_table c = map keys_of c.devices

-- the answer to one line, with its end
abbrev pub answer_line : Config → List RootKeys → Desk → List ℕ → ℕ → List ℕ
answer_line c keys s line reading = answer_to c keys s line (moment_of reading s.now) ++ 10 ∷ []

-- the entry that it makes
abbrev pub entry_then : Config → List RootKeys → Desk → List ℕ → ℕ → Option Entry
entry_then c keys s line reading = (reaction c keys s line (moment_of reading s.now)).entry

-- the desk that it leaves
abbrev pub desk_then : Config → List RootKeys → Desk → List ℕ → ℕ → Desk
desk_then c keys s line reading = state_after c keys s line (moment_of reading s.now)

-- the answers to as many lines as the clock was read for, each at the desk that the lines before it leave
abbrev pub output_of : Config → List RootKeys → Desk → List (List ℕ) → List ℕ → List ℕ
output_of c keys s [] readings = []
output_of c keys s (line ∷ lines) [] = []
output_of c keys s (line ∷ lines) (reading ∷ readings) = answer_line c keys s line reading ++ output_of c keys (desk_then c keys s line reading) lines readings

-- the desk that these lines leave
abbrev pub desk_after_all : Config → List RootKeys → Desk → List (List ℕ) → List ℕ → Desk
desk_after_all c keys s [] readings = s
desk_after_all c keys s (line ∷ lines) [] = s
desk_after_all c keys s (line ∷ lines) (reading ∷ readings) = desk_after_all c keys (desk_then c keys s line reading) lines readings

-- the entries that these lines make, in order
abbrev pub entries_to : Config → List RootKeys → Desk → List (List ℕ) → List ℕ → List Entry
entries_to c keys s [] readings = []
entries_to c keys s (line ∷ lines) [] = []
entries_to c keys s (line ∷ lines) (reading ∷ readings) = one_more (entry_then c keys s line reading) (entries_to c keys (desk_then c keys s line reading) lines readings)
