-- How far a run comes: the first cause in time ends it.
use Rattle.std.specs.Prelude.{◌≡◌, ◌⊎◌, ◌^◌, ◌+◌, ◌≤◌, ℕ, List, length, Option, None, Some, Ok, Err, true, false, String}
use Rattle.std.specs.declared.alloc.Global.{Global}
use Rattle.wire_ids.specs.Causes.{Rose}
use Rattle.wire_ids.specs.declared.eui.Eui.{Eui}
use Rattle.agreements.specs.LookUps.{device_place}
use Rattle.agreements.specs.Walk.{Config, tables_of}
use Rattle.disk_model.specs.Disk.{WhereTold}
use Rattle.entries.specs.declared.entry.Entry.{Entry}
use Rattle.keepers.specs.Keeper.{Image}
use Rattle.keepers.specs.JournalKeepers.{end_of, IsPastLimit, Journals}
use Rattle.roam_core.specs.Agreement.{AgreeOver}
use Rattle.desk_top.specs.Counting.{Counted}
use Rattle.desk_top.specs.Journals.{AreJournalsOf, HoldsJournal, IsOwn, LeavesDisk, NotTaken, StaysClosed, records_in}
use Rattle.desk_top.specs.LastLines.{no_device_line}
use Rattle.desk_top.specs.Opening.{Unopened}
use Rattle.desk_top.specs.Runs.{End, Run, Seen, Work, disk_after, disk_before, outside_at}
use Rattle.desk_top.specs.Tasks.{Serves, TakesSo}
use Rattle.desk_top.specs.Text.{ReadsText, text_room}
use Rattle.desk_top.specs.Words.{Spells, SpellsNone}
use Rattle.desk_top.specs.declared.fault.Fault.{Fault}
use Rattle.desk_top.specs.declared.fault.Fault.TheVariants.{Usage, Refused, NoDevice, TablesRead, InputRead, Write, TooMuch, Journal, Memory}
use Rattle.desk_top.specs.declared.fault.Stop.TheVariants as stop
use Rattle.desk_top.specs.declared.task.Task.{Task}
use Rattle.desk_top.specs.declared.task.Task.TheVariants as task
use Rattle.desk_top.specs.declared.words.Command.{Command}
use Rattle.desk_top.specs.declared.words.Command.TheVariants.{Check, Answer, Suspend, Resume}

-- behind these records there is no room in a journal for so many more, of together so many bytes
abbrev pub fills : List (List ℕ) → ℕ → ℕ → Type 0
fills records = IsPastLimit (end_of records)

-- Neither the input nor the clock is read, and nothing is written or counted.
pub record Rests {T O B K : Type 0} (w : Work T O B K) : Type 0 where
  pub input : w.input_after ≡ w.input
  pub out : w.out_after ≡ w.out
  pub clock : w.clock_after ≡ w.clock
  pub steps : w.steps_after ≡ w.steps

-- The words are no list. Nothing is touched.
pub record NoCommand {S T O D K : Type 0} (run : Run S T O D K) (end : End) : Type 0 where
  pub words : SpellsNone run.words
  pub end_is : end ≡ Err Usage
  pub tables : run.tables_after ≡ run.tables
  pub rests : Rests run.work
  pub disk : run.work.base_after ≡ run.work.base

-- The tables are refused, or couldn't be read. Nothing else is touched.
pub record NoTables {S T O D K : Type 0} (run : Run S T O D K) (end : End) : Type 0 where
  pub command : Command
  pub spells : Spells run.words command
  pub fault : Fault
  pub end_is : end ≡ Err fault
  pub why : Unopened run.tables.bytes run.tables.faults run.tables_after.faults fault
  pub rests : Rests run.work
  pub disk : run.work.base_after ≡ run.work.base

-- The tables are valid.
pub record HasValid {S T O D K : Type 0} (run : Run S T O D K) : Type 0 where
  pub config : Config
  -- the text that was read, which has these tables
  pub text : List ℕ
  pub reads : ReadsText text_room run.tables.bytes text
  pub valid : tables_of text ≡ Ok config
  -- each answer agrees with the entitlement table, and a kept one did when its entry was made
  pub agree : AgreeOver config

-- They are only checked. Their counts are printed, and nothing else is touched.
pub record IsChecked {S T O D K : Type 0} (run : Run S T O D K) (end : End) : Type 0 where
  pub spells : Spells run.words Check
  pub tables : HasValid run
  pub counted : Counted tables.config run.work.out.bytes run.work.out_after.bytes end
  pub input : run.work.input_after ≡ run.work.input
  pub clock : run.work.clock_after ≡ run.work.clock
  pub steps : run.work.steps_after ≡ run.work.steps
  pub disk : run.work.base_after ≡ run.work.base

-- the device that a command marks
abbrev pub device_of : Command → Option Eui
device_of Check = None
device_of Answer = None
device_of (Suspend eui) = Some eui
device_of (Resume eui) = Some eui

-- a device has no row, as the line says, or there was no memory for the line
abbrev pub TellsNoRow : Eui → Fault → Type 0
TellsNoRow eui Usage = ⊥
TellsNoRow eui (Refused line) = ⊥
TellsNoRow eui (NoDevice line) = line.items ≡ no_device_line eui
TellsNoRow eui TablesRead = ⊥
TellsNoRow eui InputRead = ⊥
TellsNoRow eui Write = ⊥
TellsNoRow eui TooMuch = ⊥
TellsNoRow eui (Journal why) = ⊥
TellsNoRow eui Memory = Unit {0}

-- The device that is to be marked has no row. Nothing else is touched.
pub record NoRow {S T O D K : Type 0} (run : Run S T O D K) (end : End) : Type 0 where
  pub command : Command
  pub spells : Spells run.words command
  pub tables : HasValid run
  pub eui : Eui
  pub marks : device_of command ≡ Some eui
  pub missing : device_place eui tables.config.devices ≡ None
  pub fault : Fault
  pub end_is : end ≡ Err fault
  pub told : TellsNoRow eui fault
  pub rests : Rests run.work
  pub disk : run.work.base_after ≡ run.work.base

-- what a command asks of the desk of these tables
abbrev pub Asks : Config → Command → Task → Type 0
Asks c Check asked = ⊥
Asks c Answer asked = asked ≡ task.Answer
Asks c (Suspend eui) asked = (device : ℕ) × (device_place eui c.devices ≡ Some device) × (asked ≡ task.Mark true device eui)
Asks c (Resume eui) asked = (device : ℕ) × (device_place eui c.devices ≡ Some device) × (asked ≡ task.Mark false device eui)

-- and whether anything
abbrev pub AsksMaybe : Config → Command → Option Task → Type 0
AsksMaybe c command None = command ≡ Check
AsksMaybe c command (Some asked) = Asks c command asked

-- the words are no list; `untouched` says that the tables weren't read
pub record NoWords (words : List (String Global)) (untouched : Type 0) (fault : Fault) : Type 0 where
  pub none : SpellsNone words
  pub fault_is : fault ≡ Usage
  pub tables : untouched

-- the tables are refused, or couldn't be read
pub record NoText (words : List (String Global)) (left : Option (List ℕ)) (before now : ℕ) (fault : Fault) : Type 0 where
  pub command : Command
  pub spells : Spells words command
  pub why : Unopened left before now fault

-- the device that is to be marked has no row in the tables
pub record NoDeviceRow (words : List (String Global)) (left : Option (List ℕ)) (fault : Fault) : Type 0 where
  pub command : Command
  pub spells : Spells words command
  pub config : Config
  pub text : List ℕ
  pub reads : ReadsText text_room left text
  pub valid : tables_of text ≡ Ok config
  pub agree : AgreeOver config
  pub eui : Eui
  pub marks : device_of command ≡ Some eui
  pub missing : device_place eui config.devices ≡ None
  pub told : TellsNoRow eui fault

abbrev pub IsUnready : List (String Global) → Option (List ℕ) → ℕ → ℕ → Type 0 → Fault → Type 0
IsUnready words left before now untouched fault = NoWords words untouched fault ⊎ NoText words left before now fault ⊎ NoDeviceRow words left fault

-- ---- what comes of the disk that has the journal, and of what a command asks of its desk

-- The disk isn't taken as a journal. Nothing else is touched.
pub record NoJournal {T O D K : Type 0} (images : D → List ℕ → Type 0) (w : Work T O (Seen D) K) (end : End) : Type 0 where
  pub fault : Fault
  pub end_is : end ≡ Err fault
  pub why : NotTaken w.base.bytes w.base.faults w.base_after.faults fault
  pub left : LeavesDisk w.base.bytes w.base_after.bytes (WhereTold w.base.bytes (λ (c : List ℕ). AreJournalsOf (images w.base.object) (images w.base_after.object))) fault
  pub rests : Rests w

-- The journal isn't opened. The input isn't read, and nothing is written but the first so many entries of the opening: each image of the
-- disk has a journal with none or some of them.
pub record NotBegun {T O D K : Type 0} (images : D → List ℕ → Type 0) (c : Config) (text : List ℕ) (w : Work T O (Seen D) K) (end : End) : Type 0 where
  pub fault : Fault
  pub end_is : end ≡ Err fault
  pub own : IsOwn w.base.bytes
  pub why : StaysClosed fills c text (disk_before w) (disk_after w) w.base.faults w.base_after.faults (Journals (images w.base_after.object)) fault
  pub input : w.input_after ≡ w.input
  pub out : w.out_after ≡ w.out
  -- no more steps are counted than there are records
  pub steps : WhereTold (records_in w.base.bytes) (λ rs. w.steps_after ≤ w.steps + length rs)

-- The desk was opened on the journal, and what the command asks was done, or not to its end.
pub record IsServed {T O D K : Type 0} (asked : Task) (c : Config) (text : List ℕ) (w : Work T O (Seen D) K) (end : End) : Type 0 where
  pub own : IsOwn w.base.bytes
  -- the records of the journal then, and the entry that may stand behind them where the disk failed
  pub records : Image
  pub doubted : Option Entry
  pub serves : Serves fills (2 ^ 30) asked c text w.input.bytes w.input_after.bytes (disk_before w) (outside_at w.clock_after w.out_after records) doubted end
  pub journal : HoldsJournal records doubted w.base_after.bytes
  -- a step is counted for each record, before it is decoded
  pub steps : WhereTold (records_in w.base.bytes) (λ rs. w.steps_after ≡ w.steps + length rs)

abbrev pub OnDisk : {T O D K : Type 0} → (D → List ℕ → Type 0) → Task → Config → List ℕ → Work T O (Seen D) K → End → Type 0
OnDisk images asked c text w end = NoJournal images w end ⊎ NotBegun images c text w end ⊎ IsServed asked c text w end

-- What running a task on the desk of these tables, over a disk, comes to.
pub record RunsDesk {T O D K : Type 0} (images : D → List ℕ → Type 0) (asked : Task) (c : Config) (text : List ℕ) (w : Work T O (Seen D) K) (end : End) : Type 0 where
  pub came : OnDisk images asked c text w end
  pub read : end ≡ Err InputRead → Rose w.input.faults w.input_after.faults
  pub write : end ≡ Err Write → Rose w.out.faults w.out_after.faults
  pub failed : end ≡ Err (Journal stop.Failed) → Rose w.base.faults w.base_after.faults
  pub takes : TakesSo (2 ^ 30) w.input.bytes w.input_after.bytes end

-- Something is asked of the desk of the tables.
pub record IsTried {S T O D K : Type 0} (images : D → List ℕ → Type 0) (run : Run S T O D K) (end : End) : Type 0 where
  pub command : Command
  pub spells : Spells run.words command
  pub tables : HasValid run
  pub asked : Task
  pub asks : Asks tables.config command asked
  pub on_disk : OnDisk images asked tables.config tables.text run.work end

-- ---- the words come first, then the tables, the device, the journal, its entries, and what is asked

abbrev pub Course : {S T O D K : Type 0} → (D → List ℕ → Type 0) → Run S T O D K → End → Type 0
Course images run end = NoCommand run end ⊎ NoTables run end ⊎ IsChecked run end ⊎ NoRow run end ⊎ IsTried images run end
