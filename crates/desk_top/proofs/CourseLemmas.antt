-- What each course says of the end.
use Rattle.std.proofs.Common.{◌≡◌, ◌∙◌, ◌^◌, ℕ, List, Option, Err, sym, subst, inl, inr}
use Rattle.agreements.specs.Walk.{Config}
use Rattle.agreements.specs.declared.fault.TablesFault.{TablesFault}
use Rattle.wire_ids.specs.declared.keys.RootKeys.{RootKeys}
use Rattle.entries.specs.declared.entry.Entry.{Entry}
use Rattle.roam_core.specs.Desk.{Desk}
use Rattle.desk_top.specs.Counting.{Counted}
use Rattle.desk_top.specs.Courses.{Course, OnDisk, TellsNoRow, fills}
use Rattle.desk_top.specs.Journals.{NotOpened, NotTaken, Outside, records_in}
use Rattle.desk_top.specs.Opening.{Unopened}
use Rattle.desk_top.specs.Output.{key_table}
use Rattle.desk_top.specs.Promises.{MayRefuse}
use Rattle.desk_top.specs.Runs.{End, Run, Seen, Work, outside_at}
use Rattle.desk_top.specs.Tasks.{DeviceMarked, Does, LinesAnswered}
use Rattle.desk_top.specs.Text.{HasTables}
use Rattle.desk_top.specs.Words.{Spells, SpellsNone}
use Rattle.desk_top.specs.declared.fault.Fault.{Fault}
use Rattle.desk_top.specs.declared.fault.Fault.TheVariants.{Usage, Refused, NoDevice, TablesRead, InputRead, Write, TooMuch, Journal, Memory}
use Rattle.desk_top.specs.declared.task.Task.{Task}
use Rattle.desk_top.specs.declared.task.Task.TheVariants.{Answer, Mark}
use Rattle.desk_top.specs.declared.words.Command.{Command}
use Rattle.desk_top.specs.declared.words.Command.TheVariants.{Check}
use Rattle.desk_top.proofs.HistoryLemmas.{valid_not}

-- ---- the words are a command wherever anything else is a cause

lines_not : (fills : List (List ℕ) → ℕ → ℕ → Type 0) (limit : ℕ) (c : Config) (keys : List RootKeys) (s : Desk) (a b : Option (List ℕ)) (o w : Outside) (doubted : Option Entry) (end : End) → LinesAnswered fills limit c keys s a b o w doubted end → end ≡ Err Usage → ⊥
lines_not fills limit c keys s a b o w doubted end did is = subst (λ (e : End). LinesAnswered fills limit c keys s a b o w doubted e) is did

does_not : (fills : List (List ℕ) → ℕ → ℕ → Type 0) (limit : ℕ) (task : Task) (c : Config) (keys : List RootKeys) (s : Desk) (a b : Option (List ℕ)) (o w : Outside) (doubted : Option Entry) (end : End) → Does fills limit task c keys s a b o w doubted end → end ≡ Err Usage → ⊥
does_not fills limit Answer c keys s a b o w doubted end did is = lines_not fills limit c keys s a b o w doubted end did is
does_not fills limit (Mark suspended device eui) c keys s a b o w doubted end did is = subst (λ (e : End). DeviceMarked fills suspended device eui s o w doubted e) is did

same_fault : (end : End) (e : Fault) → end ≡ Err e → end ≡ Err Usage → e ≡ Usage
same_fault end e is usage = let both : Err e ≡ Err Usage = sym is ∙ usage in cc both

disk_not : {T O D K : Type 0} (images : D → List ℕ → Type 0) (task : Task) (c : Config) (text : List ℕ) (w : Work T O (Seen D) K) (end : End) → OnDisk images task c text w end → end ≡ Err Usage → ⊥
disk_not images task c text w end (inl none) is = subst (λ (e : Fault). NotTaken w.base.bytes w.base.faults w.base_after.faults e) (same_fault end none.fault none.end_is is) none.why
disk_not images task c text w end (inr (inl closed)) is = subst (λ (e : Fault). NotOpened fills c text closed.why.reading (records_in w.base.bytes) w.base.faults w.base_after.faults e) (same_fault end closed.fault closed.end_is is) closed.why.cause
disk_not images task c text w end (inr (inr served)) is =
    does_not fills (2 ^ 30) task c (key_table c) served.serves.opened.desk w.input.bytes w.input_after.bytes served.serves.opened.outside (outside_at w.clock_after w.out_after served.records) served.doubted end served.serves.does is

-- ---- nor are the tables read again

lines_unread : (fills : List (List ℕ) → ℕ → ℕ → Type 0) (limit : ℕ) (c : Config) (keys : List RootKeys) (s : Desk) (a b : Option (List ℕ)) (o w : Outside) (doubted : Option Entry) (end : End) → LinesAnswered fills limit c keys s a b o w doubted end → end ≡ Err TablesRead → ⊥
lines_unread fills limit c keys s a b o w doubted end did is = subst (λ (e : End). LinesAnswered fills limit c keys s a b o w doubted e) is did

does_unread : (fills : List (List ℕ) → ℕ → ℕ → Type 0) (limit : ℕ) (task : Task) (c : Config) (keys : List RootKeys) (s : Desk) (a b : Option (List ℕ)) (o w : Outside) (doubted : Option Entry) (end : End) → Does fills limit task c keys s a b o w doubted end → end ≡ Err TablesRead → ⊥
does_unread fills limit Answer c keys s a b o w doubted end did is = lines_unread fills limit c keys s a b o w doubted end did is
does_unread fills limit (Mark suspended device eui) c keys s a b o w doubted end did is = subst (λ (e : End). DeviceMarked fills suspended device eui s o w doubted e) is did

same_read : (end : End) (e : Fault) → end ≡ Err e → end ≡ Err TablesRead → e ≡ TablesRead
same_read end e is read = let both : Err e ≡ Err TablesRead = sym is ∙ read in cc both

pub disk_unread : {T O D K : Type 0} (images : D → List ℕ → Type 0) (task : Task) (c : Config) (text : List ℕ) (w : Work T O (Seen D) K) (end : End) → OnDisk images task c text w end → end ≡ Err TablesRead → ⊥
disk_unread images task c text w end (inl none) is = subst (λ (e : Fault). NotTaken w.base.bytes w.base.faults w.base_after.faults e) (same_read end none.fault none.end_is is) none.why
disk_unread images task c text w end (inr (inl closed)) is = subst (λ (e : Fault). NotOpened fills c text closed.why.reading (records_in w.base.bytes) w.base.faults w.base_after.faults e) (same_read end closed.fault closed.end_is is) closed.why.cause
disk_unread images task c text w end (inr (inr served)) is =
    does_unread fills (2 ^ 30) task c (key_table c) served.serves.opened.desk w.input.bytes w.input_after.bytes served.serves.opened.outside (outside_at w.clock_after w.out_after served.records) served.doubted end served.serves.does is

pub told_usage : {S T O D K : Type 0} (images : D → List ℕ → Type 0) (run : Run S T O D K) (end : End) → Course images run end → end ≡ Err Usage → SpellsNone run.words
told_usage images run end (inl none) is = none.words
told_usage images run end (inr (inl tables)) is = absurd (subst (λ (e : Fault). Unopened run.tables.bytes run.tables.faults run.tables_after.faults e) (same_fault end tables.fault tables.end_is is) tables.why)
told_usage images run end (inr (inr (inl checked))) is = absurd (subst (λ (e : End). Counted checked.tables.config run.work.out.bytes run.work.out_after.bytes e) is checked.counted)
told_usage images run end (inr (inr (inr (inl row)))) is = absurd (subst (λ (e : Fault). TellsNoRow row.eui e) (same_fault end row.fault row.end_is is) row.told)
told_usage images run end (inr (inr (inr (inr tried)))) is = absurd (disk_not images tried.asked tried.tables.config tried.tables.text run.work end tried.on_disk is)

pub usage_told : {S T O D K : Type 0} (images : D → List ℕ → Type 0) (run : Run S T O D K) (end : End) → Course images run end → SpellsNone run.words → end ≡ Err Usage
usage_told images run end (inl none) words = none.end_is
usage_told images run end (inr (inl tables)) words = absurd (words tables.command tables.spells)
usage_told images run end (inr (inr (inl checked))) words = absurd (words Check checked.spells)
usage_told images run end (inr (inr (inr (inl row)))) words = absurd (words row.command row.spells)
usage_told images run end (inr (inr (inr (inr tried)))) words = absurd (words tried.command tried.spells)

-- ---- tables that are to be refused are refused

unopened_refuses : (bytes : Option (List ℕ)) (before now : ℕ) (e : Fault) → Unopened bytes before now e → MayRefuse (Err e)
unopened_refuses bytes before now Usage why = why
unopened_refuses bytes before now (Refused line) why = tt
unopened_refuses bytes before now (NoDevice line) why = why
unopened_refuses bytes before now TablesRead why = tt
unopened_refuses bytes before now InputRead why = why
unopened_refuses bytes before now Write why = why
unopened_refuses bytes before now TooMuch why = why
unopened_refuses bytes before now (Journal stop) why = why
unopened_refuses bytes before now Memory why = tt

pub refuses : {S T O D K : Type 0} (images : D → List ℕ → Type 0) (run : Run S T O D K) (end : End) → Course images run end → (command : Command) (refusal : TablesFault) → Spells run.words command → HasTables run.tables.bytes (Err refusal) → MayRefuse end
refuses images run end (inl none) command refusal spells has = absurd (none.words command spells)
refuses images run end (inr (inl tables)) command refusal spells has = subst MayRefuse (sym tables.end_is) (unopened_refuses run.tables.bytes run.tables.faults run.tables_after.faults tables.fault tables.why)
refuses images run end (inr (inr (inl checked))) command refusal spells has = absurd (valid_not run.tables.bytes checked.tables.text checked.tables.config refusal has checked.tables.reads checked.tables.valid)
refuses images run end (inr (inr (inr (inl row)))) command refusal spells has = absurd (valid_not run.tables.bytes row.tables.text row.tables.config refusal has row.tables.reads row.tables.valid)
refuses images run end (inr (inr (inr (inr tried)))) command refusal spells has = absurd (valid_not run.tables.bytes tried.tables.text tried.tables.config refusal has tried.tables.reads tried.tables.valid)
