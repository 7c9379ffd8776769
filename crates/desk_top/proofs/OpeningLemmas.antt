-- Why tables weren't opened.
use Rattle.std.proofs.Common.{◌≡◌, ◌∙◌, ℕ, List, Option, Some, Err, refl, ap, subst}
use Rattle.wire_ids.specs.Causes.{Rose}
use Rattle.disk_model.specs.Disk.{WhereTold}
use Rattle.disk_journal.specs.Format.{journal_of}
use Rattle.disk_journal.specs.Journals.{IsOpeningFault}
use Rattle.disk_journal.specs.Walked.{IsForeign}
use Rattle.disk_journal.specs.declared.fault.JournalFault.{JournalFault}
use Rattle.disk_journal.specs.declared.fault.JournalFault.TheVariants as journal
use Rattle.keepers.specs.Keeper.{Image}
use Rattle.book.specs.Opening.{FailsToOpen}
use Rattle.book.specs.declared.faults.BookFault.{BookFault}
use Rattle.book.specs.declared.faults.BookFault.TheVariants as book
use Rattle.desk_top.specs.Journals.{LeavesDisk, LeavesSo, NotOpened, NotTaken, StopsOpening, StopsTaking, TellsBook, TellsBookStop, TellsJournal, TellsStop, records_in}
use Rattle.desk_top.specs.declared.fault.Stop.{Stop}
use Rattle.desk_top.specs.declared.fault.Stop.TheVariants as stop
use Rattle.agreements.specs.Walk.{Config, tables_of}
use Rattle.agreements.specs.declared.fault.TablesFault.{TablesFault}
use Rattle.desk_top.specs.Opening.{Tells, Unopened}
use Rattle.desk_top.specs.Text.{ReadsText, text_room}
use Rattle.desk_top.specs.declared.fault.Fault.{Fault}
use Rattle.desk_top.specs.declared.fault.Fault.TheVariants.{Usage, Refused, NoDevice, TablesRead, InputRead, Write, TooMuch, Journal, Memory}
use Rattle.desk_top.proofs.Texts.{tables_read}

pub refusal_told : (text : Option (List ℕ)) (bytes : List ℕ) (before now : ℕ) (refusal : TablesFault) (e : Fault) → ReadsText text_room text bytes
    → tables_of bytes ≡ Err refusal → Tells refusal e → Unopened text before now e
refusal_told text bytes before now refusal Usage reads said told = absurd told
refusal_told text bytes before now refusal (Refused line) reads said told = (refusal, tables_read text bytes (Err refusal) reads said, told)
refusal_told text bytes before now refusal TablesRead reads said told = absurd told
refusal_told text bytes before now refusal (NoDevice line) reads said told = absurd told
refusal_told text bytes before now refusal (Journal why) reads said told = absurd told
refusal_told text bytes before now refusal InputRead reads said told = absurd told
refusal_told text bytes before now refusal Write reads said told = absurd told
refusal_told text bytes before now refusal TooMuch reads said told = absurd told
refusal_told text bytes before now refusal Memory reads said told = tt

-- a disk isn't taken for the fault that its opening had
stop_taking : (content : Option (List ℕ)) (before now : ℕ) (fault : JournalFault) (why : Stop) → TellsStop fault why → (fault ≡ journal.DiskFault → Rose before now)
    → ((place : ℕ) → fault ≡ journal.NotAJournal place → WhereTold content (IsForeign place)) → StopsTaking content before now why
stop_taking content before now fault stop.Failed told cause foreign = cause told
stop_taking content before now fault stop.Full told cause foreign = absurd told
stop_taking content before now fault stop.OtherTables told cause foreign = absurd told
stop_taking content before now fault (stop.NotAJournal line) told cause foreign = λ c seen. (told.0, foreign told.0 told.1 c seen, told.2)
stop_taking content before now fault (stop.BadEntry line) told cause foreign = absurd told

pub not_taken : (content : Option (List ℕ)) (before now : ℕ) (fault : JournalFault) (e : Fault) → TellsJournal fault e → (fault ≡ journal.DiskFault → Rose before now)
    → ((place : ℕ) → fault ≡ journal.NotAJournal place → WhereTold content (IsForeign place)) → NotTaken content before now e
not_taken content before now fault Usage told cause foreign = absurd told
not_taken content before now fault (Refused line) told cause foreign = absurd told
not_taken content before now fault (NoDevice line) told cause foreign = absurd told
not_taken content before now fault TablesRead told cause foreign = absurd told
not_taken content before now fault InputRead told cause foreign = absurd told
not_taken content before now fault Write told cause foreign = absurd told
not_taken content before now fault TooMuch told cause foreign = absurd told
not_taken content before now fault (Journal why) told cause foreign = stop_taking content before now fault why told cause foreign
not_taken content before now fault Memory told cause foreign = tt

-- a journal isn't opened for the fault that its book had
stop_opening : (fills : List (List ℕ) → ℕ → ℕ → Type 0) (c : Config) (text : List ℕ) (reading : ℕ) (records : Image) (before now : ℕ) (fault : BookFault) (why : Stop) → TellsBookStop fault why → (fault ≡ book.KeeperFault → Rose before now)
    → WhereTold records (λ (rs : List (List ℕ)). FailsToOpen (fills rs) c text reading rs fault) → StopsOpening fills c text reading records before now why
stop_opening fills c text reading records before now fault stop.Failed told cause fails = cause told
stop_opening fills c text reading records before now fault stop.Full told cause fails = λ rs is. subst (λ (f : BookFault). FailsToOpen (fills rs) c text reading rs f) told (fails rs is)
stop_opening fills c text reading records before now fault stop.OtherTables told cause fails = λ rs is. subst (λ (f : BookFault). FailsToOpen (fills rs) c text reading rs f) told (fails rs is)
stop_opening fills c text reading records before now fault (stop.NotAJournal line) told cause fails = absurd told
stop_opening fills c text reading records before now fault (stop.BadEntry line) told cause fails = λ rs is.
    let bad = subst (λ (f : BookFault). FailsToOpen (fills rs) c text reading rs f) told.1 (fails rs is) in
    (told.0, bad.0, bad.1, told.2)

pub not_opened : (fills : List (List ℕ) → ℕ → ℕ → Type 0) (c : Config) (text : List ℕ) (reading : ℕ) (records : Image) (before now : ℕ) (fault : BookFault) (e : Fault) → TellsBook fault e → (fault ≡ book.KeeperFault → Rose before now)
    → WhereTold records (λ (rs : List (List ℕ)). FailsToOpen (fills rs) c text reading rs fault) → NotOpened fills c text reading records before now e
not_opened fills c text reading records before now fault Usage told cause fails = absurd told
not_opened fills c text reading records before now fault (Refused line) told cause fails = absurd told
not_opened fills c text reading records before now fault (NoDevice line) told cause fails = absurd told
not_opened fills c text reading records before now fault TablesRead told cause fails = absurd told
not_opened fills c text reading records before now fault InputRead told cause fails = absurd told
not_opened fills c text reading records before now fault Write told cause fails = absurd told
not_opened fills c text reading records before now fault TooMuch told cause fails = absurd told
not_opened fills c text reading records before now fault (Journal why) told cause fails = stop_opening fills c text reading records before now fault why told cause fails
not_opened fills c text reading records before now fault Memory told cause fails = tt

-- ---- what is left of a disk that isn't taken

as_told : (content after : Option (List ℕ)) (c : List ℕ) → after ≡ content → content ≡ Some c → records_in after ≡ journal_of c
as_told content after c same told = ap records_in (same ∙ told)

left_same : (content after : Option (List ℕ)) (fault : JournalFault) → IsOpeningFault fault → (fault ≡ journal.DiskFault → ⊥) → ((place : ℕ) → fault ≡ journal.NotAJournal place → after ≡ content)
    → (fault ≡ journal.Memory → after ≡ content) → WhereTold content (λ (c : List ℕ). records_in after ≡ journal_of c)
left_same content after journal.DiskFault of not foreign memory = absurd (not refl)
left_same content after (journal.NotAJournal place) of not foreign memory = λ c told. as_told content after c (foreign place refl) told
left_same content after journal.Full of not foreign memory = absurd of
left_same content after (journal.Changed place) of not foreign memory = absurd of
left_same content after journal.Memory of not foreign memory = λ c told. as_told content after c (memory refl) told

stop_leaves : (content after : Option (List ℕ)) (torn : Type 0) (fault : JournalFault) (why : Stop) → TellsStop fault why → torn → ((place : ℕ) → fault ≡ journal.NotAJournal place → after ≡ content) → LeavesSo content after torn why
stop_leaves content after torn fault stop.Failed told is foreign = is
stop_leaves content after torn fault stop.Full told is foreign = absurd told
stop_leaves content after torn fault stop.OtherTables told is foreign = absurd told
stop_leaves content after torn fault (stop.NotAJournal line) told is foreign = foreign told.0 told.1
stop_leaves content after torn fault (stop.BadEntry line) told is foreign = absurd told

pub leaves_disk : (content after : Option (List ℕ)) (torn : Type 0) (fault : JournalFault) (e : Fault) → TellsJournal fault e → IsOpeningFault fault → torn → ((place : ℕ) → fault ≡ journal.NotAJournal place → after ≡ content)
    → (fault ≡ journal.Memory → after ≡ content) → LeavesDisk content after torn e
leaves_disk content after torn fault Usage told of is foreign memory = absurd told
leaves_disk content after torn fault (Refused line) told of is foreign memory = absurd told
leaves_disk content after torn fault (NoDevice line) told of is foreign memory = absurd told
leaves_disk content after torn fault TablesRead told of is foreign memory = absurd told
leaves_disk content after torn fault InputRead told of is foreign memory = absurd told
leaves_disk content after torn fault Write told of is foreign memory = absurd told
leaves_disk content after torn fault TooMuch told of is foreign memory = absurd told
leaves_disk content after torn fault (Journal why) told of is foreign memory = stop_leaves content after torn fault why told is foreign
leaves_disk content after torn fault Memory told of is foreign memory = left_same content after fault of told foreign memory
