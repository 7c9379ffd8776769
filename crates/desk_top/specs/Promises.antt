-- What a run promises.
use Rattle.std.specs.Prelude.{◌≡◌, ◌↔◌, ◌≤◌, ◌^◌, ℕ, List, length, Option, Some, None, Ok, Err}
use Rattle.std.specs.Io.KnownBytes.{Consumes}
use Rattle.wire_ids.specs.Causes.{Rose}
use Rattle.agreements.specs.Walk.{Config}
use Rattle.agreements.specs.declared.fault.TablesFault.{TablesFault}
use Rattle.roam_core.specs.Desk.{Desk}
use Rattle.book.specs.Replays.{IsRead}
use Rattle.desk_top.specs.Courses.{Course}
use Rattle.desk_top.specs.Journals.{records_in}
use Rattle.desk_top.specs.Runs.{End, Run}
use Rattle.desk_top.specs.Tasks.{TakesSo}
use Rattle.desk_top.specs.Text.{HasTables, text_room}
use Rattle.desk_top.specs.Words.{Spells, SpellsNone}
use Rattle.desk_top.specs.declared.fault.Fault.TheVariants.{Usage, Refused, NoDevice, TablesRead, InputRead, Write, TooMuch, Journal, Memory}
use Rattle.desk_top.specs.declared.fault.Stop.TheVariants as stop
use Rattle.desk_top.specs.declared.words.Command.{Command}
use Rattle.desk_top.specs.declared.words.Command.TheVariants.{Check, Answer, Suspend, Resume}

-- a fault of an object is one of its own, in this run
pub record Causes {S T O D K : Type 0} (run : Run S T O D K) (end : End) : Type 0 where
  pub tables : end ≡ Err TablesRead → Rose run.tables.faults run.tables_after.faults
  pub input : end ≡ Err InputRead → Rose run.work.input.faults run.work.input_after.faults
  pub out : end ≡ Err Write → Rose run.work.out.faults run.work.out_after.faults
  pub disk : end ≡ Err (Journal stop.Failed) → Rose run.work.base.faults run.work.base_after.faults

-- how a run over refused tables may end
abbrev pub MayRefuse : End → Type 0
MayRefuse (Ok u) = ⊥
MayRefuse (Err Usage) = ⊥
MayRefuse (Err (Refused line)) = Unit {0}
MayRefuse (Err (NoDevice line)) = ⊥
MayRefuse (Err TablesRead) = Unit {0}
MayRefuse (Err InputRead) = ⊥
MayRefuse (Err Write) = ⊥
MayRefuse (Err TooMuch) = ⊥
MayRefuse (Err (Journal why)) = ⊥
MayRefuse (Err Memory) = Unit {0}

-- all was done, or memory was wanting, or there is no room for the next entry, or no row for the device: the course says of these two that it is so
abbrev pub IsDone : End → Type 0
IsDone (Ok u) = Unit {0}
IsDone (Err Usage) = ⊥
IsDone (Err (Refused line)) = ⊥
IsDone (Err (NoDevice line)) = Unit {0}
IsDone (Err TablesRead) = ⊥
IsDone (Err InputRead) = ⊥
IsDone (Err Write) = ⊥
IsDone (Err TooMuch) = ⊥
IsDone (Err (Journal why)) = why ≡ stop.Full
IsDone (Err Memory) = Unit {0}

-- the disk tells a journal whose records are a history of these tables, which begins with their text, or are none yet
abbrev pub HasJournal : Config → Option (List ℕ) → Option (List ℕ) → Type 0
HasJournal c None content = ⊥
HasJournal c (Some text) content = (records : List (List ℕ)) × (records_in content ≡ Some records) × ((s : Desk) × IsRead c text records s)

-- the input is told, and isn't too much
abbrev pub FitsInput : Option (List ℕ) → Type 0
FitsInput None = ⊥
FitsInput (Some bytes) = length bytes ≤ 2 ^ 30

-- what a command needs is told, and it isn't too much
abbrev pub FitsAll : {S T O D K : Type 0} → Run S T O D K → Config → Command → Type 0
FitsAll run c Check = Unit {0}
FitsAll run c Answer = HasJournal c run.tables.bytes run.work.base.bytes × FitsInput run.work.input.bytes
FitsAll run c (Suspend eui) = HasJournal c run.tables.bytes run.work.base.bytes
FitsAll run c (Resume eui) = HasJournal c run.tables.bytes run.work.base.bytes

-- no call of an object failed
pub record NoneFailed {S T O D K : Type 0} (run : Run S T O D K) : Type 0 where
  pub tables : ¬ Rose run.tables.faults run.tables_after.faults
  pub input : ¬ Rose run.work.input.faults run.work.input_after.faults
  pub out : ¬ Rose run.work.out.faults run.work.out_after.faults
  pub disk : ¬ Rose run.work.base.faults run.work.base_after.faults

-- What a run promises that ends so, before its last line is printed.
pub record Promises {S T O D K : Type 0} (images : D → List ℕ → Type 0) (run : Run S T O D K) (end : End) : Type 0 where
  -- the words are no command exactly where the end says so
  pub usage : (end ≡ Err Usage) ↔ SpellsNone run.words
  -- a fault of an object is one of its own, in this run
  pub causes : Causes run end
  -- how far it came, what was read, written and counted until then, what the journal has, and why it ended: the first cause in time
  pub course : Course images run end
  -- no more of the tables text is read than shows it to be too long
  pub text : (bytes : List ℕ) × Consumes run.tables.bytes run.tables_after.bytes bytes × (length bytes ≤ text_room)
  -- more than 2^30 bytes of the input were taken exactly where the end says so, and no more than one more ever
  pub too_much : TakesSo (2 ^ 30) run.work.input.bytes run.work.input_after.bytes end
  -- tables that are to be refused are refused, unless their text wasn't read or memory was wanting
  pub refuses : (command : Command) (refusal : TablesFault) → Spells run.words command → HasTables run.tables.bytes (Err refusal) → MayRefuse end
  -- where the tables are valid, the journal is theirs, there isn't too much input and no call failed, all is done
  pub complete : (command : Command) (config : Config) → Spells run.words command → HasTables run.tables.bytes (Ok config) → FitsAll run config command → NoneFailed run → IsDone end
