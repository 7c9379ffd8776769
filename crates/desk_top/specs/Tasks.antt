-- What is done on a desk that was opened.
use Rattle.std.specs.Prelude.{◌≡◌, ◌≢◌, ◌⊎◌, ◌↔◌, ℕ, ◌<◌, ◌≤◌, ◌+◌, List, [], ◌∷◌, length, slice_get, Option, Some, None, Bool, true, false, Ok, Err, IsTrue}
use Rattle.std.specs.Io.KnownBytes.{Appends, Consumes, IsAtEnd, Keeps}
use Rattle.wire_ids.specs.Causes.{Rose}
use Rattle.wire_ids.specs.Lists.{holds_of}
use Rattle.wire_ids.specs.declared.eui.Eui.{Eui}
use Rattle.wire_ids.specs.declared.keys.RootKeys.{RootKeys}
use Rattle.agreements.specs.Walk.{Config}
use Rattle.disk_model.specs.Disk.{WhereTold}
use Rattle.disk_model.specs.Moments.{Told}
use Rattle.disk_model.specs.Written.{AppendsFront}
use Rattle.entries.specs.Entries.{encode_of}
use Rattle.entries.specs.declared.entry.Entry.{Entry}
use Rattle.entry_codec.specs.declared.device.Device.{Device}
use Rattle.keepers.specs.Keeper.{Image}
use Rattle.roam_core.specs.Desk.{Desk, moment_of}
use Rattle.book.specs.Results.{mark_of}
use Rattle.desk_top.specs.Journals.{DeskOpened, Grows, Outside, StaysClosed}
use Rattle.desk_top.specs.LastLines.{marked_line}
use Rattle.desk_top.specs.Output.{key_table}
use Rattle.desk_top.specs.Runs.{End, SeenKeeper, Work, keeper_after, keeper_before}
use Rattle.desk_top.specs.Turns.{StopsIn, WritesAll, WritesFront, WritesTaken, WritesWhole}
use Rattle.desk_top.specs.declared.fault.Fault.{Fault}
use Rattle.desk_top.specs.declared.fault.Fault.TheVariants.{Usage, Refused, NoDevice, TablesRead, InputRead, Write, TooMuch, Journal, Memory}
use Rattle.desk_top.specs.declared.fault.Stop.{Stop}
use Rattle.desk_top.specs.declared.fault.Stop.TheVariants as stop
use Rattle.desk_top.specs.declared.task.Task.{Task}
use Rattle.desk_top.specs.declared.task.Task.TheVariants.{Answer, Mark}

-- an entry isn't written: the journal may have it all the same, or has no room for it
abbrev pub Unwritten : (List (List ℕ) → ℕ → ℕ → Type 0) → Entry → Image → Option Entry → Stop → Type 0
Unwritten fills e records doubted stop.Failed = doubted ≡ Some e
Unwritten fills e records doubted stop.Full = (doubted ≡ None) × WhereTold records (λ (rs : List (List ℕ)). fills rs 1 (length (encode_of e)))
Unwritten fills e records doubted stop.OtherTables = ⊥
Unwritten fills e records doubted (stop.NotAJournal line) = ⊥
Unwritten fills e records doubted (stop.BadEntry line) = ⊥

-- ---- the lines of an input are answered

-- what stands written and is in the journal after that, and which entry is in doubt, by how it ended
abbrev pub LinesAnswered : (List (List ℕ) → ℕ → ℕ → Type 0) → ℕ → Config → List RootKeys → Desk → Option (List ℕ) → Option (List ℕ) → Outside → Outside → Option Entry → End → Type 0
LinesAnswered fills limit c keys s input after before now doubted (Ok u) = WritesAll c keys s input before now × IsAtEnd after × (doubted ≡ None)
LinesAnswered fills limit c keys s input after before now doubted (Err Usage) = ⊥
LinesAnswered fills limit c keys s input after before now doubted (Err (Refused line)) = ⊥
LinesAnswered fills limit c keys s input after before now doubted (Err (NoDevice line)) = ⊥
LinesAnswered fills limit c keys s input after before now doubted (Err TablesRead) = ⊥
LinesAnswered fills limit c keys s input after before now doubted (Err InputRead) = WritesWhole limit c keys s input after before now × (doubted ≡ None)
LinesAnswered fills limit c keys s input after before now doubted (Err Write) = WritesFront c keys s input before now × (doubted ≡ None)
LinesAnswered fills limit c keys s input after before now doubted (Err TooMuch) = WritesTaken limit c keys s input after before now × (doubted ≡ None)
LinesAnswered fills limit c keys s input after before now doubted (Err (Journal why)) = (e : Entry) × StopsIn c keys s input before now e × Unwritten fills e now.records doubted why
LinesAnswered fills limit c keys s input after before now doubted (Err Memory) = WritesFront c keys s input before now × (doubted ≡ None)

-- ---- a device is suspended, or resumed

abbrev pub is_suspended : ℕ → Desk → Bool
is_suspended device s = holds_of (λ (d : Device). d.suspended) (slice_get s.now.devices device)

-- the entry that marks it, where it isn't so already
abbrev pub marks : Bool → Entry → List Entry
marks true e = []
marks false e = e ∷ []

-- The clock was read, and the journal has the entry of the mark, where the device wasn't marked so already.
pub record IsMarked (suspended : Bool) (device : ℕ) (s : Desk) (before now : Outside) : Type 0 where
  pub reading : ℕ
  pub clock : Told before.clock now.clock (reading ∷ [])
  pub already : Bool
  pub so : IsTrue already ↔ (is_suspended device s ≡ suspended)
  pub records : Grows before.records now.records (marks already (mark_of suspended device (moment_of reading s.now)))

-- The clock was read, and nothing was written: not the entry of the mark either.
pub record StaysUnmarked (suspended : Bool) (device : ℕ) (s : Desk) (before now : Outside) (e : Entry) : Type 0 where
  pub reading : ℕ
  pub clock : Told before.clock now.clock (reading ∷ [])
  pub unmarked : is_suspended device s ≡ suspended → ⊥
  pub entry : e ≡ mark_of suspended device (moment_of reading s.now)
  pub written : Keeps before.written now.written
  pub records : now.records ≡ before.records

-- want of memory: the clock was read or wasn't, and nothing was written
abbrev pub StaysAsItWas : Outside → Outside → Type 0
StaysAsItWas before now = ((readings : List ℕ) × Told before.clock now.clock readings) × Keeps before.written now.written × (now.records ≡ before.records)

-- what stands written and is in the journal after that, and which entry is in doubt, by how it ended
abbrev pub DeviceMarked : (List (List ℕ) → ℕ → ℕ → Type 0) → Bool → ℕ → Eui → Desk → Outside → Outside → Option Entry → End → Type 0
DeviceMarked fills suspended device eui s before now doubted (Ok u) = (marked : IsMarked suspended device s before now) × Appends before.written now.written (marked_line suspended marked.already eui) × (doubted ≡ None)
DeviceMarked fills suspended device eui s before now doubted (Err Usage) = ⊥
DeviceMarked fills suspended device eui s before now doubted (Err (Refused line)) = ⊥
DeviceMarked fills suspended device eui s before now doubted (Err (NoDevice line)) = ⊥
DeviceMarked fills suspended device eui s before now doubted (Err TablesRead) = ⊥
DeviceMarked fills suspended device eui s before now doubted (Err InputRead) = ⊥
DeviceMarked fills suspended device eui s before now doubted (Err Write) = (marked : IsMarked suspended device s before now) × AppendsFront before.written now.written (marked_line suspended marked.already eui) × (doubted ≡ None)
DeviceMarked fills suspended device eui s before now doubted (Err TooMuch) = ⊥
DeviceMarked fills suspended device eui s before now doubted (Err (Journal why)) = (e : Entry) × StaysUnmarked suspended device s before now e × Unwritten fills e now.records doubted why
DeviceMarked fills suspended device eui s before now doubted (Err Memory) = StaysAsItWas before now × (doubted ≡ None)

-- ---- either of them

abbrev pub Does : (List (List ℕ) → ℕ → ℕ → Type 0) → ℕ → Task → Config → List RootKeys → Desk → Option (List ℕ) → Option (List ℕ) → Outside → Outside → Option Entry → End → Type 0
Does fills limit Answer c keys s input after before now doubted end = LinesAnswered fills limit c keys s input after before now doubted end
Does fills limit (Mark suspended device eui) c keys s input after before now doubted end = DeviceMarked fills suspended device eui s before now doubted end

-- the device of a mark has a row in these tables
abbrev pub HasRow : Config → Task → Type 0
HasRow c Answer = Unit {0}
HasRow c (Mark suspended device eui) = device < length c.devices

abbrev pub HasRowMaybe : Config → Option Task → Type 0
HasRowMaybe c None = Unit {0}
HasRowMaybe c (Some task) = HasRow c task

-- The desk was opened on a journal, and the task done on it, or not to its end.
pub record Serves (fills : List (List ℕ) → ℕ → ℕ → Type 0) (limit : ℕ) (task : Task) (c : Config) (text : List ℕ) (input after : Option (List ℕ)) (before now : Outside) (doubted : Option Entry) (end : End) : Type 0 where
  pub opened : DeskOpened fills c text before
  pub does : Does fills limit task c (key_table c) opened.desk input after opened.outside now doubted end

-- what is left of a keeper: it rests, or is in doubt about this entry
abbrev pub Leaves : Type 0 → (List ℕ → Type 0) → Option Entry → Type 0
Leaves rests doubts None = rests
Leaves rests doubts (Some e) = doubts (encode_of e)

-- ---- what comes of a keeper

-- There was no memory for the keys, and nothing was done.
pub record HasNoKeys {T O P K : Type 0} (w : Work T O (SeenKeeper P) K) (end : End) : Type 0 where
  pub end_is : end ≡ Err Memory
  pub keeper : w.base_after ≡ w.base
  pub input : w.input_after ≡ w.input
  pub out : w.out_after ≡ w.out
  pub clock : w.clock_after ≡ w.clock
  pub steps : w.steps_after ≡ w.steps

-- The desk isn't opened. The input isn't read, and nothing is written to the output.
pub record RunsClosed {T O P K : Type 0} (fills : List (List ℕ) → ℕ → ℕ → Type 0) (holds : P → Image → Type 0) (rests : P → Type 0) (c : Config) (text : List ℕ) (w : Work T O (SeenKeeper P) K) (end : End) : Type 0 where
  pub why : Fault
  pub end_is : end ≡ Err why
  pub stays : StaysClosed fills c text (keeper_before w) (keeper_after w) w.base.faults w.base_after.faults (holds w.base_after.object) why
  pub at_rest : why ≢ Journal stop.Failed → rests w.base_after.object
  pub input : w.input_after ≡ w.input
  pub out : w.out_after ≡ w.out
  pub steps : w.steps_after ≤ w.steps + w.base.count

-- The desk is opened, and the task done, or not to its end.
pub record RunsOpen {T O P K : Type 0} (fills : List (List ℕ) → ℕ → ℕ → Type 0) (rests : P → Type 0) (doubts : P → List ℕ → Type 0) (limit : ℕ) (task : Task) (c : Config) (text : List ℕ) (w : Work T O (SeenKeeper P) K) (end : End) : Type 0 where
  pub doubted : Option Entry
  pub serves : Serves fills limit task c text w.input.bytes w.input_after.bytes (keeper_before w) (keeper_after w) doubted end
  pub left : Leaves (rests w.base_after.object) (doubts w.base_after.object) doubted
  pub steps : w.steps_after ≡ w.steps + w.base.count

-- more than the limit was taken of an input exactly where the end says so, and no more than one byte more ever
abbrev pub TakesSo : ℕ → Option (List ℕ) → Option (List ℕ) → End → Type 0
TakesSo limit before now end = (bytes : List ℕ) × Consumes before now bytes × ((end ≡ Err TooMuch) ↔ (limit < length bytes)) × (length bytes ≤ limit + 1)

-- What running a task on the desk of these tables, over a keeper, comes to.
pub record RunsTask {T O P K : Type 0} (fills : List (List ℕ) → ℕ → ℕ → Type 0) (holds : P → Image → Type 0) (rests : P → Type 0) (doubts : P → List ℕ → Type 0) (limit : ℕ) (task : Task) (c : Config) (text : List ℕ) (w : Work T O (SeenKeeper P) K) (end : End) : Type 0 where
  -- how far it came
  pub came : HasNoKeys w end ⊎ RunsClosed fills holds rests c text w end ⊎ RunsOpen fills rests doubts limit task c text w end
  -- a fault of an object is one of its own
  pub read : end ≡ Err InputRead → Rose w.input.faults w.input_after.faults
  pub write : end ≡ Err Write → Rose w.out.faults w.out_after.faults
  pub failed : end ≡ Err (Journal stop.Failed) → Rose w.base.faults w.base_after.faults
  pub takes : TakesSo limit w.input.bytes w.input_after.bytes end
  -- no count falls, and the keeper never failed for a cause of its own
  pub input_later : w.input.faults ≤ w.input_after.faults
  pub out_later : w.out.faults ≤ w.out_after.faults
  pub later : w.base.faults ≤ w.base_after.faults
  pub changes : w.base_after.changes ≡ w.base.changes
