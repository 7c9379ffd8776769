-- How a run may end: its status, and the line that it prints last.
use Rattle.std.specs.Prelude.{◌≡◌, ◌≤◌, ℕ, List, codes, Option, Some, None, Ok, Err}
use Rattle.std.specs.Io.KnownBytes.{Keeps}
use Rattle.desk_top.specs.LastLines.{Prints}
use Rattle.desk_top.specs.Promises.{Promises}
use Rattle.desk_top.specs.Runs.{End, Run, Seen}
use Rattle.desk_top.specs.declared.fault.Fault.TheVariants.{Usage, Refused, NoDevice, TablesRead, InputRead, Write, TooMuch, Journal, Memory}
use Rattle.desk_top.specs.declared.fault.Stop.{Stop}
use Rattle.desk_top.specs.declared.fault.Stop.TheVariants as stop

-- the status of a journal that isn't opened, or not gone on with
abbrev pub status_of_stop : Stop → ℕ
status_of_stop stop.Failed = 6
status_of_stop stop.Full = 7
status_of_stop stop.OtherTables = 8
status_of_stop (stop.NotAJournal line) = 9
status_of_stop (stop.BadEntry line) = 12

-- the status of each end
abbrev pub status_of : End → ℕ
status_of (Ok u) = 0
status_of (Err Usage) = 2
status_of (Err (Refused line)) = 3
status_of (Err TablesRead) = 4
status_of (Err InputRead) = 4
status_of (Err Write) = 5
status_of (Err (Journal why)) = status_of_stop why
status_of (Err Memory) = 10
status_of (Err TooMuch) = 11
status_of (Err (NoDevice line)) = 13

abbrev pub line_of_stop : Stop → List ℕ
line_of_stop stop.Failed = codes "lwdesk: disk\n"
line_of_stop stop.Full = codes "lwdesk: journal full\n"
line_of_stop stop.OtherTables = codes "lwdesk: other tables\n"
line_of_stop (stop.NotAJournal line) = line.items
line_of_stop (stop.BadEntry line) = line.items

-- the last line of each end that has one
abbrev pub last_line : End → Option (List ℕ)
last_line (Ok u) = None
last_line (Err Usage) = Some (codes "lwdesk: usage\n")
last_line (Err (Refused line)) = Some line.items
last_line (Err (NoDevice line)) = Some line.items
last_line (Err TablesRead) = Some (codes "lwdesk: read\n")
last_line (Err InputRead) = Some (codes "lwdesk: read\n")
last_line (Err Write) = None
last_line (Err TooMuch) = Some (codes "lwdesk: too much input\n")
last_line (Err (Journal why)) = Some (line_of_stop why)
last_line (Err Memory) = None

-- the last line was printed, where there is one, and nothing else
abbrev pub Closes : {O : Type 0} → Seen O → Seen O → Option (List ℕ) → Type 0
Closes before now None = Keeps before.bytes now.bytes
Closes before now (Some line) = Prints before.faults now.faults before.bytes now.bytes line

-- The run kept its promises to some end, whose last line was printed behind all else, and it has the status of that end.
pub record Ends {S T O D K : Type 0} (images : D → List ℕ → Type 0) (run : Run S T O D K) (told : ℕ) : Type 0 where
  pub end : End
  -- what is seen of the output before the last line
  pub out : Seen O
  pub promises : Promises images (record run { work = record run.work { out_after = out } }) end
  pub status : told ≡ status_of end
  pub last_line : Closes out run.work.out_after (last_line end)
  pub later : out.faults ≤ run.work.out_after.faults
