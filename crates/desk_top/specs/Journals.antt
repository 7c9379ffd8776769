-- The journal of a run: what its disk tells of it, and what opening it comes to.
use Rattle.std.specs.Prelude.{◌≡◌, ◌≢◌, ◌⊎◌, ℕ, List, [], ◌∷◌, ◌++◌, length, map, Option, Some, None, option_and_then, option_map}
use Rattle.wire_ids.specs.Causes.{Rose}
use Rattle.agreements.specs.Walk.{Config}
use Rattle.disk_model.specs.Disk.{WhereTold}
use Rattle.disk_model.specs.Moments.{Told}
use Rattle.disk_journal.specs.Format.{journal_of}
use Rattle.disk_journal.specs.Journal.{IsOneOf}
use Rattle.disk_journal.specs.Walked.{IsForeign}
use Rattle.disk_journal.specs.declared.fault.JournalFault.{JournalFault}
use Rattle.disk_journal.specs.declared.fault.JournalFault.TheVariants as journal
use Rattle.entries.specs.Entries.{encode_of}
use Rattle.entries.specs.declared.entry.Entry.{Entry}
use Rattle.keepers.specs.Keeper.{Image, OneMoreOrNot}
use Rattle.roam_core.specs.Desk.{Desk}
use Rattle.roam_core.specs.Legal.{desk_from}
use Rattle.book.specs.Histories.{IsBad, kept_text}
use Rattle.book.specs.Opening.{HasNoRoom, MayOpen, opening}
use Rattle.book.specs.Pages.{bytes_in}
use Rattle.book.specs.Replays.{IsRead, KeepsOther}
use Rattle.book.specs.declared.faults.BookFault.{BookFault}
use Rattle.book.specs.declared.faults.BookFault.TheVariants as book
use Rattle.desk_top.specs.LastLines.{bad_entry_line, foreign_line}
use Rattle.desk_top.specs.declared.fault.Fault.{Fault}
use Rattle.desk_top.specs.declared.fault.Fault.TheVariants.{Usage, Refused, NoDevice, TablesRead, InputRead, Write, TooMuch, Journal, Memory}
use Rattle.desk_top.specs.declared.fault.Stop.{Stop}
use Rattle.desk_top.specs.declared.fault.Stop.TheVariants as stop

-- What is told of the outside of a run.
pub record Outside : Type 0 where
  -- the readings of the clock that come next
  pub clock : Option (ℕ → ℕ)
  -- what was written to the output
  pub written : Option (List ℕ)
  -- the records of the journal
  pub records : Image

-- the records in what a disk tells, where that is a journal
abbrev pub records_in : Option (List ℕ) → Image
records_in content = option_and_then journal_of content

-- these entries are new in the journal
abbrev pub Grows : Image → Image → List Entry → Type 0
Grows before now es = now ≡ option_map (λ (rs : List (List ℕ)). rs ++ map encode_of es) before

-- what a disk tells is the journal of these records; where an entry is in doubt, maybe with it
abbrev pub HoldsJournal : Image → Option Entry → Option (List ℕ) → Type 0
HoldsJournal records None content = records_in content ≡ records
HoldsJournal records (Some e) content = WhereTold records (λ (rs : List (List ℕ)). OneMoreOrNot rs (encode_of e) (records_in content))

-- a disk holds nothing but a journal, where it tells
abbrev pub IsOwn : Option (List ℕ) → Type 0
IsOwn content = WhereTold content (λ (c : List ℕ). (place : ℕ) → IsForeign place c → ⊥)

-- ---- a disk that isn't taken as a journal

-- it holds something else, as the line says
abbrev pub IsForeignAs : List ℕ → List ℕ → Type 0
IsForeignAs line content = (place : ℕ) × IsForeign place content × (line ≡ foreign_line place)

abbrev pub StopsTaking : Option (List ℕ) → ℕ → ℕ → Stop → Type 0
StopsTaking content before now stop.Failed = Rose before now
StopsTaking content before now stop.Full = ⊥
StopsTaking content before now stop.OtherTables = ⊥
StopsTaking content before now (stop.NotAJournal line) = WhereTold content (IsForeignAs line.items)
StopsTaking content before now (stop.BadEntry line) = ⊥

-- why not
abbrev pub NotTaken : Option (List ℕ) → ℕ → ℕ → Fault → Type 0
NotTaken content before now Usage = ⊥
NotTaken content before now (Refused line) = ⊥
NotTaken content before now (NoDevice line) = ⊥
NotTaken content before now TablesRead = ⊥
NotTaken content before now InputRead = ⊥
NotTaken content before now Write = ⊥
NotTaken content before now TooMuch = ⊥
NotTaken content before now (Journal why) = StopsTaking content before now why
NotTaken content before now Memory = Unit {0}

-- the journal of each of these images is that of one of those
abbrev pub AreJournalsOf : (List ℕ → Type 0) → (List ℕ → Type 0) → Type 0
AreJournalsOf before now = (image : List ℕ) → now image → IsOneOf before image

-- where the disk holds something else it is left as it was, and where it failed the journal is still one that it may have held; `torn` says this
abbrev pub LeavesSo : Option (List ℕ) → Option (List ℕ) → Type 0 → Stop → Type 0
LeavesSo before now torn stop.Failed = torn
LeavesSo before now torn stop.Full = ⊥
LeavesSo before now torn stop.OtherTables = ⊥
LeavesSo before now torn (stop.NotAJournal line) = now ≡ before
LeavesSo before now torn (stop.BadEntry line) = ⊥

-- for want of memory the journal is the same
abbrev pub LeavesDisk : Option (List ℕ) → Option (List ℕ) → Type 0 → Fault → Type 0
LeavesDisk before now torn Usage = ⊥
LeavesDisk before now torn (Refused line) = ⊥
LeavesDisk before now torn (NoDevice line) = ⊥
LeavesDisk before now torn TablesRead = ⊥
LeavesDisk before now torn InputRead = ⊥
LeavesDisk before now torn Write = ⊥
LeavesDisk before now torn TooMuch = ⊥
LeavesDisk before now torn (Journal why) = LeavesSo before now torn why
LeavesDisk before now torn Memory = WhereTold before (λ (c : List ℕ). records_in now ≡ journal_of c)

-- it tells this fault of an opening
abbrev pub TellsStop : JournalFault → Stop → Type 0
TellsStop fault stop.Failed = fault ≡ journal.DiskFault
TellsStop fault stop.Full = ⊥
TellsStop fault stop.OtherTables = ⊥
TellsStop fault (stop.NotAJournal line) = (place : ℕ) × (fault ≡ journal.NotAJournal place) × (line.items ≡ foreign_line place)
TellsStop fault (stop.BadEntry line) = ⊥

abbrev pub TellsJournal : JournalFault → Fault → Type 0
TellsJournal fault Usage = ⊥
TellsJournal fault (Refused line) = ⊥
TellsJournal fault (NoDevice line) = ⊥
TellsJournal fault TablesRead = ⊥
TellsJournal fault InputRead = ⊥
TellsJournal fault Write = ⊥
TellsJournal fault TooMuch = ⊥
TellsJournal fault (Journal why) = TellsStop fault why
TellsJournal fault Memory = fault ≢ journal.DiskFault

-- ---- a journal that is opened

-- Its records are a history that begins with this text, behind which there was room for the entries of the opening; they stand there, and
-- lead to this desk. `fills` says that behind records there is no room for so many more, of together so many bytes.
pub record OpensTo (fills : List (List ℕ) → ℕ → ℕ → Type 0) (c : Config) (text : List ℕ) (reading : ℕ) (before : List (List ℕ)) (s : Desk) (after : Image) : Type 0 where
  pub start : Desk
  pub read : IsRead c text before start
  pub leads : s ≡ desk_from start (opening text reading start)
  pub records : after ≡ Some (before ++ map encode_of (opening text reading start))
  pub room : fills before (length (opening text reading start)) (bytes_in (opening text reading start)) → ⊥

-- The desk that was opened on it, and what is told of the outside since then.
pub record DeskOpened (fills : List (List ℕ) → ℕ → ℕ → Type 0) (c : Config) (text : List ℕ) (before : Outside) : Type 0 where
  pub desk : Desk
  pub outside : Outside
  -- what the clock read
  pub reading : ℕ
  pub clock : Told before.clock outside.clock (reading ∷ [])
  pub written : before.written ≡ outside.written
  pub opens : WhereTold before.records (λ (rs : List (List ℕ)). OpensTo fills c text reading rs desk outside.records)

-- ---- a journal that isn't opened

-- the record of a number is the first that is no entry or doesn't fit, and the text is that of the tables where it isn't the first
abbrev pub IsBadAs : Config → List ℕ → List ℕ → List (List ℕ) → Type 0
IsBadAs c text line records = (number : ℕ) × IsBad c records number × ((number ≡ 0) ⊎ (kept_text records ≡ Some text)) × (line ≡ bad_entry_line number)

abbrev pub StopsOpening : (List (List ℕ) → ℕ → ℕ → Type 0) → Config → List ℕ → ℕ → Image → ℕ → ℕ → Stop → Type 0
StopsOpening fills c text reading records before now stop.Failed = Rose before now
StopsOpening fills c text reading records before now stop.Full = WhereTold records (λ (rs : List (List ℕ)). HasNoRoom (fills rs) c text reading rs)
StopsOpening fills c text reading records before now stop.OtherTables = WhereTold records (KeepsOther c text)
StopsOpening fills c text reading records before now (stop.NotAJournal line) = ⊥
StopsOpening fills c text reading records before now (stop.BadEntry line) = WhereTold records (IsBadAs c text line.items)

-- why not
abbrev pub NotOpened : (List (List ℕ) → ℕ → ℕ → Type 0) → Config → List ℕ → ℕ → Image → ℕ → ℕ → Fault → Type 0
NotOpened fills c text reading records before now Usage = ⊥
NotOpened fills c text reading records before now (Refused line) = ⊥
NotOpened fills c text reading records before now (NoDevice line) = ⊥
NotOpened fills c text reading records before now TablesRead = ⊥
NotOpened fills c text reading records before now InputRead = ⊥
NotOpened fills c text reading records before now Write = ⊥
NotOpened fills c text reading records before now TooMuch = ⊥
NotOpened fills c text reading records before now (Journal why) = StopsOpening fills c text reading records before now why
NotOpened fills c text reading records before now Memory = Unit {0}

-- it tells this fault of an opening
abbrev pub TellsBookStop : BookFault → Stop → Type 0
TellsBookStop fault stop.Failed = fault ≡ book.KeeperFault
TellsBookStop fault stop.Full = fault ≡ book.Full
TellsBookStop fault stop.OtherTables = fault ≡ book.OtherTables
TellsBookStop fault (stop.NotAJournal line) = ⊥
TellsBookStop fault (stop.BadEntry line) = (number : ℕ) × (fault ≡ book.BadEntry number) × (line.items ≡ bad_entry_line number)

abbrev pub TellsBook : BookFault → Fault → Type 0
TellsBook fault Usage = ⊥
TellsBook fault (Refused line) = ⊥
TellsBook fault (NoDevice line) = ⊥
TellsBook fault TablesRead = ⊥
TellsBook fault InputRead = ⊥
TellsBook fault Write = ⊥
TellsBook fault TooMuch = ⊥
TellsBook fault (Journal why) = TellsBookStop fault why
TellsBook fault Memory = fault ≢ book.KeeperFault

-- The clock was read and nothing was written. The journal is the same, and where it failed each image has the one before, with none or the
-- first so many of the entries of the opening.
pub record StaysClosed (fills : List (List ℕ) → ℕ → ℕ → Type 0) (c : Config) (text : List ℕ) (before now : Outside) (faults faults_now : ℕ) (holds : Image → Type 0) (why : Fault) : Type 0 where
  pub reading : ℕ
  pub clock : Told before.clock now.clock (reading ∷ [])
  pub written : before.written ≡ now.written
  pub cause : NotOpened fills c text reading before.records faults faults_now why
  pub same : why ≢ Journal stop.Failed → WhereTold before.records (λ (rs : List (List ℕ)). now.records ≡ Some rs)
  pub images : WhereTold before.records (λ (rs : List (List ℕ)). (image : Image) → holds image → MayOpen c text reading rs image)
