-- Where nothing failed all was done.
use Rattle.std.proofs.Common.{◌≡◌, ◌≢◌, ℕ, ◌^◌, ◌≤◌, List, length, Option, Some, None, Ok, Err, Bool, refl, sym, ap, subst, arith, inl, inr}
use Rattle.std.specs.Prelude.{String}
use Rattle.std.specs.declared.alloc.Global.{Global}
use Rattle.std.proofs.lemmas.List.{length-append}
use Rattle.std.specs.Io.KnownBytes.{Consumes}
use Rattle.wire_ids.specs.Causes.{Rose}
use Rattle.wire_ids.specs.declared.eui.Eui.{Eui}
use Rattle.wire_ids.specs.declared.keys.RootKeys.{RootKeys}
use Rattle.agreements.specs.Walk.{Config}
use Rattle.entries.specs.declared.entry.Entry.{Entry}
use Rattle.keepers.specs.Keeper.{Image}
use Rattle.roam_core.specs.Desk.{Desk}
use Rattle.book.specs.Replays.{IsRead}
use Rattle.desk_top.specs.Counting.{Counted}
use Rattle.desk_top.specs.Courses.{Asks, Course, IsTried, OnDisk, TellsNoRow, fills}
use Rattle.desk_top.specs.Journals.{NotOpened, NotTaken, Outside, StopsOpening, StopsTaking, records_in}
use Rattle.desk_top.specs.Opening.{Unopened}
use Rattle.desk_top.specs.Output.{key_table}
use Rattle.desk_top.specs.Promises.{Causes, FitsAll, FitsInput, HasJournal, IsDone, NoneFailed, Promises}
use Rattle.desk_top.specs.Runs.{End, Run, Seen, Work, outside_at}
use Rattle.desk_top.specs.Tasks.{DeviceMarked, Does, LinesAnswered, TakesSo, Unwritten}
use Rattle.desk_top.specs.Text.{HasTables, text_room}
use Rattle.desk_top.specs.Words.{Spells}
use Rattle.desk_top.specs.declared.fault.Fault.{Fault}
use Rattle.desk_top.specs.declared.fault.Fault.TheVariants.{Usage, Refused, NoDevice, TablesRead, InputRead, Write, TooMuch, Journal, Memory}
use Rattle.desk_top.specs.declared.fault.Stop.{Stop}
use Rattle.desk_top.specs.declared.fault.Stop.TheVariants as stop
use Rattle.desk_top.specs.declared.task.Task.{Task}
use Rattle.desk_top.specs.declared.task.Task.TheVariants as task
use Rattle.desk_top.specs.declared.words.Command.{Command}
use Rattle.desk_top.specs.declared.words.Command.TheVariants.{Check, Answer, Suspend, Resume}
use Rattle.desk_top.proofs.CourseLemmas.{refuses, told_usage, usage_told}
use Rattle.desk_top.proofs.HistoryLemmas.{journal_read, not_bad, not_other, not_other_text, refused_not}

-- ---- a list of words is one command's

abbrev long : Command → ℕ
long Check = 3
long Answer = 5
long (Suspend eui) = 6
long (Resume eui) = 6

spelled_long : (words : List (String Global)) (command : Command) → Spells words command → length words ≡ long command
spelled_long words Check spells = spells.0
spelled_long words Answer spells = spells.0
spelled_long words (Suspend eui) spells = spells.0
spelled_long words (Resume eui) spells = spells.0

-- the input is told, and isn't too much, where it is to be answered
abbrev NeedsInput : Option (List ℕ) → Task → Type 0
NeedsInput input asked = asked ≡ task.Answer → FitsInput input

asks_long : (c : Config) (command : Command) (asked : Task) → Asks c command asked → 5 ≤ long command
asks_long c Check asked asks = absurd asks
asks_long c Answer asked asks = omega arith
asks_long c (Suspend eui) asked asks = omega arith
asks_long c (Resume eui) asked asks = omega arith

asks_answer : (c : Config) (command : Command) (asked : Task) → Asks c command asked → asked ≡ task.Answer → long command ≡ 5
asks_answer c Check asked asks is = absurd asks
asks_answer c Answer asked asks is = refl
asks_answer c (Suspend eui) asked asks is = let marked = asks.2 in cc
asks_answer c (Resume eui) asked asks is = let marked = asks.2 in cc

-- what a command asks for is there
fits_asked : {S T O D K : Type 0} (run : Run S T O D K) (c d : Config) (command other : Command) (asked : Task) → length run.words ≡ long command → length run.words ≡ long other → Asks c other asked → FitsAll run d command
    → HasJournal d run.tables.bytes run.work.base.bytes × NeedsInput run.work.input.bytes asked
fits_asked run c d Check other asked one two asks fits = absurd (omega (arith, one, two, asks_long c other asked asks))
fits_asked run c d Answer other asked one two asks fits = (fits.0, λ is. fits.1)
fits_asked run c d (Suspend eui) other asked one two asks fits = (fits, λ is. absurd (omega (arith, one, two, asks_answer c other asked asks is)))
fits_asked run c d (Resume eui) other asked one two asks fits = (fits, λ is. absurd (omega (arith, one, two, asks_answer c other asked asks is)))

-- ---- the tables

unopened_done : (bytes : Option (List ℕ)) (before now : ℕ) (e : Fault) (c : Config) → Unopened bytes before now e → HasTables bytes (Ok c) → ¬ Rose before now → IsDone (Err e)
unopened_done bytes before now Usage c why has not = why
unopened_done bytes before now (Refused line) c why has not = refused_not bytes c why.0 has why.1
unopened_done bytes before now (NoDevice line) c why has not = tt
unopened_done bytes before now TablesRead c why has not = not why
unopened_done bytes before now InputRead c why has not = why
unopened_done bytes before now Write c why has not = why
unopened_done bytes before now TooMuch c why has not = why
unopened_done bytes before now (Journal stop) c why has not = absurd why
unopened_done bytes before now Memory c why has not = tt

counted_done : (c : Config) (a b : Option (List ℕ)) (end : End) → Counted c a b end → (end ≡ Err Write → ⊥) → IsDone end
counted_done c a b (Ok u) counted not = tt
counted_done c a b (Err Usage) counted not = counted
counted_done c a b (Err (Refused line)) counted not = counted
counted_done c a b (Err (NoDevice line)) counted not = tt
counted_done c a b (Err TablesRead) counted not = counted
counted_done c a b (Err InputRead) counted not = counted
counted_done c a b (Err Write) counted not = not refl
counted_done c a b (Err TooMuch) counted not = counted
counted_done c a b (Err (Journal stop)) counted not = absurd counted
counted_done c a b (Err Memory) counted not = tt

row_done : (eui : Eui) (e : Fault) → TellsNoRow eui e → IsDone (Err e)
row_done eui Usage told = told
row_done eui (Refused line) told = told
row_done eui (NoDevice line) told = tt
row_done eui TablesRead told = told
row_done eui InputRead told = told
row_done eui Write told = told
row_done eui TooMuch told = told
row_done eui (Journal stop) told = absurd told
row_done eui Memory told = tt

-- ---- the journal

taking_done : (content : Option (List ℕ)) (before now : ℕ) (rs : List (List ℕ)) (why : Stop) → StopsTaking content before now why → records_in content ≡ Some rs → ¬ Rose before now → why ≡ stop.Full
taking_done content before now rs stop.Failed is told not = absurd (not is)
taking_done content before now rs stop.Full is told not = refl
taking_done content before now rs stop.OtherTables is told not = absurd is
taking_done content before now rs (stop.NotAJournal line) is told not = absurd (not_other content line.items rs told is)
taking_done content before now rs (stop.BadEntry line) is told not = absurd is

taken_done : (content : Option (List ℕ)) (before now : ℕ) (rs : List (List ℕ)) (e : Fault) → NotTaken content before now e → records_in content ≡ Some rs → ¬ Rose before now → IsDone (Err e)
taken_done content before now rs Usage why told not = why
taken_done content before now rs (Refused line) why told not = why
taken_done content before now rs (NoDevice line) why told not = tt
taken_done content before now rs TablesRead why told not = why
taken_done content before now rs InputRead why told not = why
taken_done content before now rs Write why told not = why
taken_done content before now rs TooMuch why told not = why
taken_done content before now rs (Journal stop) why told not = taking_done content before now rs stop why told not
taken_done content before now rs Memory why told not = tt

opening_done : (c : Config) (text : List ℕ) (reading : ℕ) (records : Image) (before now : ℕ) (rs : List (List ℕ)) (s : Desk) (why : Stop) → StopsOpening fills c text reading records before now why → records ≡ Some rs → IsRead c text rs s → ¬ Rose before now → why ≡ stop.Full
opening_done c text reading records before now rs s stop.Failed is told read not = absurd (not is)
opening_done c text reading records before now rs s stop.Full is told read not = refl
opening_done c text reading records before now rs s stop.OtherTables is told read not = absurd (not_other_text c text rs s read (is rs told))
opening_done c text reading records before now rs s (stop.NotAJournal line) is told read not = absurd is
opening_done c text reading records before now rs s (stop.BadEntry line) is told read not = let bad = is rs told in absurd (not_bad c rs bad.0 s read.0 bad.1)

opened_done : (c : Config) (text : List ℕ) (reading : ℕ) (records : Image) (before now : ℕ) (rs : List (List ℕ)) (s : Desk) (e : Fault) → NotOpened fills c text reading records before now e → records ≡ Some rs → IsRead c text rs s → ¬ Rose before now → IsDone (Err e)
opened_done c text reading records before now rs s Usage why told read not = why
opened_done c text reading records before now rs s (Refused line) why told read not = why
opened_done c text reading records before now rs s (NoDevice line) why told read not = tt
opened_done c text reading records before now rs s TablesRead why told read not = why
opened_done c text reading records before now rs s InputRead why told read not = why
opened_done c text reading records before now rs s Write why told read not = why
opened_done c text reading records before now rs s TooMuch why told read not = why
opened_done c text reading records before now rs s (Journal stop) why told read not = opening_done c text reading records before now rs s stop why told read not
opened_done c text reading records before now rs s Memory why told read not = tt

-- ---- what is asked of the desk

unwritten_done : (e : Entry) (records : Image) (doubted : Option Entry) (why : Stop) → Unwritten fills e records doubted why → why ≢ stop.Failed → why ≡ stop.Full
unwritten_done e records doubted stop.Failed is not = absurd (not refl)
unwritten_done e records doubted stop.Full is not = refl
unwritten_done e records doubted stop.OtherTables is not = absurd is
unwritten_done e records doubted (stop.NotAJournal line) is not = absurd is
unwritten_done e records doubted (stop.BadEntry line) is not = absurd is

-- none of these ended it
pub record NoFault (end : End) : Type 0 where
  pub read : end ≢ Err InputRead
  pub write : end ≢ Err Write
  pub much : end ≢ Err TooMuch
  pub failed : end ≢ Err (Journal stop.Failed)

lines_done : (limit : ℕ) (c : Config) (keys : List RootKeys) (s : Desk) (a b : Option (List ℕ)) (o w : Outside) (doubted : Option Entry) (end : End) → LinesAnswered fills limit c keys s a b o w doubted end → NoFault end → IsDone end
lines_done limit c keys s a b o w doubted (Ok u) did not = tt
lines_done limit c keys s a b o w doubted (Err Usage) did not = did
lines_done limit c keys s a b o w doubted (Err (Refused line)) did not = did
lines_done limit c keys s a b o w doubted (Err (NoDevice line)) did not = tt
lines_done limit c keys s a b o w doubted (Err TablesRead) did not = did
lines_done limit c keys s a b o w doubted (Err InputRead) did not = not.read refl
lines_done limit c keys s a b o w doubted (Err Write) did not = not.write refl
lines_done limit c keys s a b o w doubted (Err TooMuch) did not = not.much refl
lines_done limit c keys s a b o w doubted (Err (Journal why)) did not = unwritten_done did.0 w.records doubted why did.2 (λ is. not.failed (ap (λ (x : Stop). Err (Journal x)) is))
lines_done limit c keys s a b o w doubted (Err Memory) did not = tt

mark_done : (suspended : Bool) (device : ℕ) (eui : Eui) (s : Desk) (o w : Outside) (doubted : Option Entry) (end : End) → DeviceMarked fills suspended device eui s o w doubted end → (end ≡ Err Write → ⊥) → (end ≡ Err (Journal stop.Failed) → ⊥) → IsDone end
mark_done suspended device eui s o w doubted (Ok u) did write failed = tt
mark_done suspended device eui s o w doubted (Err Usage) did write failed = did
mark_done suspended device eui s o w doubted (Err (Refused line)) did write failed = did
mark_done suspended device eui s o w doubted (Err (NoDevice line)) did write failed = tt
mark_done suspended device eui s o w doubted (Err TablesRead) did write failed = did
mark_done suspended device eui s o w doubted (Err InputRead) did write failed = did
mark_done suspended device eui s o w doubted (Err Write) did write failed = write refl
mark_done suspended device eui s o w doubted (Err TooMuch) did write failed = did
mark_done suspended device eui s o w doubted (Err (Journal why)) did write failed = unwritten_done did.0 w.records doubted why did.2 (λ is. failed (ap (λ (x : Stop). Err (Journal x)) is))
mark_done suspended device eui s o w doubted (Err Memory) did write failed = tt

does_done : (limit : ℕ) (asked : Task) (c : Config) (keys : List RootKeys) (s : Desk) (a b : Option (List ℕ)) (o w : Outside) (doubted : Option Entry) (end : End) → Does fills limit asked c keys s a b o w doubted end
    → (end ≡ Err InputRead → ⊥) → (end ≡ Err Write → ⊥) → (asked ≡ task.Answer → end ≡ Err TooMuch → ⊥) → (end ≡ Err (Journal stop.Failed) → ⊥) → IsDone end
does_done limit task.Answer c keys s a b o w doubted end did read write much failed = lines_done limit c keys s a b o w doubted end did (record { read = read; write = write; much = much refl; failed = failed })
does_done limit (task.Mark suspended device eui) c keys s a b o w doubted end did read write much failed = mark_done suspended device eui s o w doubted end did write failed

-- no more of an input is taken than it has
takes_less : (before now : Option (List ℕ)) (bytes : List ℕ) → Consumes before now bytes → FitsInput before → length bytes ≤ 2 ^ 30
takes_less None now bytes takes fits = absurd fits
takes_less (Some all) None bytes takes fits = absurd takes
takes_less (Some all) (Some rest) bytes takes fits = omega (arith, ap length takes, length-append bytes rest, fits)

not_much : (before now : Option (List ℕ)) (end : End) → TakesSo (2 ^ 30) before now end → FitsInput before → end ≡ Err TooMuch → ⊥
not_much before now end takes fits is = omega (arith, takes.2.0 is, takes_less before now takes.0 takes.1 fits)

disk_done : {T O D K : Type 0} (images : D → List ℕ → Type 0) (asked : Task) (c : Config) (text : List ℕ) (w : Work T O (Seen D) K) (end : End) (rs : List (List ℕ)) (s : Desk) → OnDisk images asked c text w end → records_in w.base.bytes ≡ Some rs → IsRead c text rs s
    → ¬ Rose w.base.faults w.base_after.faults → (end ≡ Err InputRead → ⊥) → (end ≡ Err Write → ⊥) → (asked ≡ task.Answer → end ≡ Err TooMuch → ⊥) → (end ≡ Err (Journal stop.Failed) → ⊥) → IsDone end
disk_done images asked c text w end rs s (inl none) told read_so quiet read write much failed = subst IsDone (sym none.end_is) (taken_done w.base.bytes w.base.faults w.base_after.faults rs none.fault none.why told quiet)
disk_done images asked c text w end rs s (inr (inl closed)) told read_so quiet read write much failed = subst IsDone (sym closed.end_is) (opened_done c text closed.why.reading (records_in w.base.bytes) w.base.faults w.base_after.faults rs s closed.fault closed.why.cause told read_so quiet)
disk_done images asked c text w end rs s (inr (inr served)) told read_so quiet read write much failed = does_done (2 ^ 30) asked c (key_table c) served.serves.opened.desk w.input.bytes w.input_after.bytes served.serves.opened.outside (outside_at w.clock_after w.out_after served.records) served.doubted end served.serves.does read write much failed

tried_done : {S T O D K : Type 0} (images : D → List ℕ → Type 0) (run : Run S T O D K) (end : End) (tried : IsTried images run end) (command : Command) (config : Config) → Causes run end → TakesSo (2 ^ 30) run.work.input.bytes run.work.input_after.bytes end
    → Spells run.words command → HasTables run.tables.bytes (Ok config) → FitsAll run config command → NoneFailed run → IsDone end
tried_done images run end tried command config causes takes spells has fits none =
    let there = fits_asked run tried.tables.config config command tried.command tried.asked (spelled_long run.words command spells) (spelled_long run.words tried.command tried.spells) tried.asks fits in
    let journal = journal_read run.tables.bytes run.work.base.bytes tried.tables.text tried.tables.config config has there.0 tried.tables.reads tried.tables.valid in
    disk_done images tried.asked tried.tables.config tried.tables.text run.work end journal.0 journal.2.0 tried.on_disk journal.1 journal.2.1 none.disk
    (λ is. none.input (causes.input is)) (λ is. none.out (causes.out is))
    (λ answer much. not_much run.work.input.bytes run.work.input_after.bytes end takes (there.1 answer) much) (λ is. none.disk (causes.disk is))

pub complete : {S T O D K : Type 0} (images : D → List ℕ → Type 0) (run : Run S T O D K) (end : End) → Course images run end → Causes run end → TakesSo (2 ^ 30) run.work.input.bytes run.work.input_after.bytes end
    → (command : Command) (config : Config) → Spells run.words command → HasTables run.tables.bytes (Ok config) → FitsAll run config command → NoneFailed run → IsDone end
complete images run end (inl none) causes takes command config spells has fits quiet = absurd (none.words command spells)
complete images run end (inr (inl tables)) causes takes command config spells has fits quiet = subst IsDone (sym tables.end_is) (unopened_done run.tables.bytes run.tables.faults run.tables_after.faults tables.fault config tables.why has quiet.tables)
complete images run end (inr (inr (inl checked))) causes takes command config spells has fits quiet = counted_done checked.tables.config run.work.out.bytes run.work.out_after.bytes end checked.counted (λ is. quiet.out (causes.out is))
complete images run end (inr (inr (inr (inl row)))) causes takes command config spells has fits quiet = subst IsDone (sym row.end_is) (row_done row.eui row.fault row.told)
complete images run end (inr (inr (inr (inr tried)))) causes takes command config spells has fits quiet = tried_done images run end tried command config causes takes spells has fits quiet

-- ---- what a run promises follows from its course

pub promised : {S T O D K : Type 0} (images : D → List ℕ → Type 0) (run : Run S T O D K) (end : End) → Course images run end → Causes run end → (bytes : List ℕ) × Consumes run.tables.bytes run.tables_after.bytes bytes × (length bytes ≤ text_room)
    → TakesSo (2 ^ 30) run.work.input.bytes run.work.input_after.bytes end → Promises images run end
promised images run end course causes text takes = record {
  usage = (told_usage images run end course, usage_told images run end course);
  causes = causes;
  course = course;
  text = text;
  too_much = takes;
  refuses = refuses images run end course;
  complete = complete images run end course causes takes;
}
