-- What a run comes to, by what its words and its tables ask.
use Rattle.std.proofs.Common.{◌≡◌, ◌∙◌, ◌^◌, ◌≤◌, ℕ, List, [], length, Option, Ok, Err, refl, sym, ap, subst, arith, inl, inr}
use Rattle.std.specs.Prelude.{String}
use Rattle.std.specs.declared.alloc.Global.{Global}
use Rattle.std.specs.Io.KnownBytes.{Consumes}
use Rattle.wire_ids.specs.Causes.{Rose}
use Rattle.wire_ids.specs.declared.eui.Eui.{Eui}
use Rattle.line_reader.proofs.Hearings.{Consumes_none}
use Rattle.agreements.specs.Walk.{Config, tables_of}
use Rattle.roam_core.specs.Agreement.{AgreeOver}
use Rattle.desk_top.specs.Counting.{Counted}
use Rattle.desk_top.specs.Courses.{Asks, IsUnready, RunsDesk, TellsNoRow}
use Rattle.desk_top.specs.Opening.{Unopened}
use Rattle.desk_top.specs.Promises.{Promises}
use Rattle.desk_top.specs.Runs.{End, Seen, SeenClock, Work}
use Rattle.desk_top.specs.Tasks.{TakesSo}
use Rattle.desk_top.specs.Text.{ReadsText, text_room}
use Rattle.desk_top.specs.Words.{Spells}
use Rattle.desk_top.specs.declared.fault.Fault.{Fault}
use Rattle.desk_top.specs.declared.fault.Fault.TheVariants.{Usage, Refused, NoDevice, TablesRead, InputRead, Write, TooMuch, Journal, Memory}
use Rattle.desk_top.specs.declared.fault.Stop.TheVariants as stop
use Rattle.desk_top.specs.declared.task.Task.{Task}
use Rattle.desk_top.specs.declared.words.Command.{Command}
use Rattle.desk_top.specs.declared.words.Command.TheVariants.{Check}
use Rattle.desk_top.proofs.CourseLemmas.{disk_unread}
use Rattle.desk_top.proofs.DoneLemmas.{promised}

-- so much of the tables text was taken
abbrev TakesText : Option (List ℕ) → Option (List ℕ) → Type 0
TakesText before now = (bytes : List ℕ) × Consumes before now bytes × (length bytes ≤ text_room)

-- ---- the desk is asked for something

pub tried_on : {S T O D K : Type 0} (images : D → List ℕ → Type 0) (words : List (String Global)) (t t' : Seen S) (w : Work T O (Seen D) K) (end : End) (command : Command) (c : Config) (text : List ℕ) (task : Task)
    → Spells words command → ReadsText text_room t.bytes text → tables_of text ≡ Ok c → AgreeOver c → Asks c command task → TakesText t.bytes t'.bytes → RunsDesk images task c text w end
    → Promises images (record { words = words; tables = t; tables_after = t'; work = w }) end
tried_on images words t t' w end command c text task spells reads valid agree asks taken run =
    promised images (record { words = words; tables = t; tables_after = t'; work = w }) end
    (inr (inr (inr (inr (record {
      command = command;
      spells = spells;
      tables = record { config = c; text = text; reads = reads; valid = valid; agree = agree };
      asked = task;
      asks = asks;
      on_disk = run.came;
    })))))
    (record {
      tables = λ is. absurd (disk_unread images task c text w end run.came is);
      input = run.read;
      out = run.write;
      disk = run.failed;
    })
    taken run.takes

-- ---- nothing was taken of the input

none_taken : (input : Option (List ℕ)) (end : End) → (end ≡ Err TooMuch → ⊥) → TakesSo (2 ^ 30) input input end
none_taken input end not = ([], Consumes_none input, (λ is. absurd (not is), λ l. absurd (omega (arith, l))), omega arith)

-- ---- the tables are only checked

counted_read : (c : Config) (a b : Option (List ℕ)) (end : End) → Counted c a b end → end ≡ Err TablesRead → ⊥
counted_read c a b end counted is = subst (λ (e : End). Counted c a b e) is counted

counted_input : (c : Config) (a b : Option (List ℕ)) (end : End) → Counted c a b end → end ≡ Err InputRead → ⊥
counted_input c a b end counted is = subst (λ (e : End). Counted c a b e) is counted

counted_much : (c : Config) (a b : Option (List ℕ)) (end : End) → Counted c a b end → end ≡ Err TooMuch → ⊥
counted_much c a b end counted is = subst (λ (e : End). Counted c a b e) is counted

counted_disk : (c : Config) (a b : Option (List ℕ)) (end : End) → Counted c a b end → end ≡ Err (Journal stop.Failed) → ⊥
counted_disk c a b end counted is = subst (λ (e : End). Counted c a b e) is counted

pub checked_on : {S T O D K : Type 0} (images : D → List ℕ → Type 0) (words : List (String Global)) (t t' : Seen S) (i : Seen T) (o o' : Seen O) (d : Seen D) (k : SeenClock K) (n : ℕ) (end : End) (command : Command) (c : Config) (text : List ℕ)
    → Spells words command → command ≡ Check → ReadsText text_room t.bytes text → tables_of text ≡ Ok c → AgreeOver c → TakesText t.bytes t'.bytes → Counted c o.bytes o'.bytes end → (end ≡ Err Write → Rose o.faults o'.faults)
    → Promises images (record { words = words; tables = t; tables_after = t'; work = record { input = i; input_after = i; out = o; out_after = o'; base = d; base_after = d; clock = k; clock_after = k; steps = n; steps_after = n } }) end
checked_on images words t t' i o o' d k n end command c text spells is_check reads valid agree taken counted write =
    promised images (record { words = words; tables = t; tables_after = t'; work = record { input = i; input_after = i; out = o; out_after = o'; base = d; base_after = d; clock = k; clock_after = k; steps = n; steps_after = n } }) end
    (inr (inr (inl (record {
      spells = subst (λ (x : Command). Spells words x) is_check spells;
      tables = record { config = c; text = text; reads = reads; valid = valid; agree = agree };
      counted = counted;
      input = refl;
      clock = refl;
      steps = refl;
      disk = refl;
    }))))
    (record {
      tables = λ is. absurd (counted_read c o.bytes o'.bytes end counted is);
      input = λ is. absurd (counted_input c o.bytes o'.bytes end counted is);
      out = write;
      disk = λ is. absurd (counted_disk c o.bytes o'.bytes end counted is);
    })
    taken (none_taken i.bytes end (counted_much c o.bytes o'.bytes end counted))

-- ---- nothing is ready

abbrev IsOfReady : Fault → Type 0
IsOfReady Usage = Unit {0}
IsOfReady (Refused line) = Unit {0}
IsOfReady (NoDevice line) = Unit {0}
IsOfReady TablesRead = Unit {0}
IsOfReady InputRead = ⊥
IsOfReady Write = ⊥
IsOfReady TooMuch = ⊥
IsOfReady (Journal why) = ⊥
IsOfReady Memory = Unit {0}

text_ready : (bytes : Option (List ℕ)) (before now : ℕ) (e : Fault) → Unopened bytes before now e → IsOfReady e
text_ready bytes before now Usage why = tt
text_ready bytes before now (Refused line) why = tt
text_ready bytes before now (NoDevice line) why = tt
text_ready bytes before now TablesRead why = tt
text_ready bytes before now InputRead why = why
text_ready bytes before now Write why = why
text_ready bytes before now TooMuch why = why
text_ready bytes before now (Journal stop) why = why
text_ready bytes before now Memory why = tt

open_row : (e : Fault) (eui : Eui) → TellsNoRow eui e → IsOfReady e
open_row Usage eui told = tt
open_row (Refused line) eui told = tt
open_row (NoDevice line) eui told = tt
open_row TablesRead eui told = tt
open_row InputRead eui told = told
open_row Write eui told = told
open_row TooMuch eui told = told
open_row (Journal stop) eui told = told
open_row Memory eui told = tt

ready_kind : (words : List (String Global)) (left : Option (List ℕ)) (before now : ℕ) (untouched : Type 0) (e : Fault) → IsUnready words left before now untouched e → IsOfReady e
ready_kind words left before now untouched e (inl none) = subst IsOfReady (sym none.fault_is) tt
ready_kind words left before now untouched e (inr (inl text)) = text_ready left before now e text.why
ready_kind words left before now untouched e (inr (inr row)) = open_row e row.eui row.told

read_rose : (words : List (String Global)) (left : Option (List ℕ)) (before now : ℕ) (untouched : Type 0) (e : Fault) → IsUnready words left before now untouched e → e ≡ TablesRead → Rose before now
read_rose words left before now untouched e (inl none) is = let both : Usage ≡ TablesRead = sym none.fault_is ∙ is in absurd (cc both)
read_rose words left before now untouched e (inr (inl text)) is = subst (λ (x : Fault). Unopened left before now x) is text.why
read_rose words left before now untouched e (inr (inr row)) is = absurd (subst (λ (x : Fault). TellsNoRow row.eui x) is row.told)

pub untouched_more : (words : List (String Global)) (left : Option (List ℕ)) (before now : ℕ) (one other : Type 0) (e : Fault) → (one → other) → IsUnready words left before now one e → IsUnready words left before now other e
untouched_more words left before now one other e more (inl none) = inl (record { none = none.none; fault_is = none.fault_is; tables = more none.tables })
untouched_more words left before now one other e more (inr some) = inr some

same_end : (e other : Fault) (end : End) → end ≡ Err e → end ≡ Err other → e ≡ other
same_end e other end one two = let both : Err e ≡ Err other = sym one ∙ two in cc both

pub unready_on : {S T O D K : Type 0} (images : D → List ℕ → Type 0) (words : List (String Global)) (t t' : Seen S) (i : Seen T) (o : Seen O) (d : Seen D) (k : SeenClock K) (n : ℕ) (e : Fault)
    → IsUnready words t.bytes t.faults t'.faults (t' ≡ t) e → TakesText t.bytes t'.bytes
    → Promises images (record { words = words; tables = t; tables_after = t'; work = record { input = i; input_after = i; out = o; out_after = o; base = d; base_after = d; clock = k; clock_after = k; steps = n; steps_after = n } }) (Err e)
unready_on images words t t' i o d k n e why taken =
    let kind = ready_kind words t.bytes t.faults t'.faults (t' ≡ t) e why in
    promised images (record { words = words; tables = t; tables_after = t'; work = record { input = i; input_after = i; out = o; out_after = o; base = d; base_after = d; clock = k; clock_after = k; steps = n; steps_after = n } }) (Err e)
    (elim why [
      | inl none ↦ inl (record { words = none.none; end_is = ap Err none.fault_is; tables = none.tables; rests = record { input = refl; out = refl; clock = refl; steps = refl }; disk = refl })
      | inr more ↦ elim more [
        | inl text ↦ inr (inl (record { command = text.command; spells = text.spells; fault = e; end_is = refl; why = text.why; rests = record { input = refl; out = refl; clock = refl; steps = refl }; disk = refl }))
        | inr row ↦ inr (inr (inr (inl (record { command = row.command; spells = row.spells; tables = record { config = row.config; text = row.text; reads = row.reads; valid = row.valid; agree = row.agree }; eui = row.eui; marks = row.marks; missing = row.missing; fault = e; end_is = refl; told = row.told; rests = record { input = refl; out = refl; clock = refl; steps = refl }; disk = refl }))))
      ]
    ])
    (record {
      tables = λ is. read_rose words t.bytes t.faults t'.faults (t' ≡ t) e why (same_end e TablesRead (Err e) refl is);
      input = λ is. absurd (subst IsOfReady (same_end e InputRead (Err e) refl is) kind);
      out = λ is. absurd (subst IsOfReady (same_end e Write (Err e) refl is) kind);
      disk = λ is. absurd (subst IsOfReady (same_end e (Journal stop.Failed) (Err e) refl is) kind);
    })
    taken (none_taken i.bytes (Err e) (λ is. subst IsOfReady (same_end e TooMuch (Err e) refl is) kind))
