-- From the keeper of a disk's journal to the disk.
use Rattle.std.proofs.Common.{◌≡◌, ◌∙◌, ◌≤◌, ◌+◌, ◌^◌, ℕ, List, length, Option, Some, None, refl, sym, ap, subst, arith, inl, inr}
use Rattle.std.specs.Option.{option_map}
use Rattle.wire_ids.specs.Causes.{Rose}
use Rattle.agreements.specs.Walk.{Config}
use Rattle.disk_model.specs.Disk.{WhereTold}
use Rattle.disk_journal.specs.Format.{journal_of, kept}
use Rattle.disk_journal.proofs.Results.{mapped, told_or}
use Rattle.entries.specs.Entries.{encode_of}
use Rattle.entries.specs.declared.entry.Entry.{Entry}
use Rattle.keepers.specs.Keeper.{Image, OneMoreOrNot}
use Rattle.keepers.specs.JournalKeepers.{keeper_changed, keeper_count, keeper_disk, keeper_end, keeper_faults, keeper_records, Journals, KeeperDoubts, KeeperRests}
use Rattle.keepers.specs.JournalLaws.{count_is, disk_rose_only, doubt_journals, rest_journal, rest_reads}
use Rattle.keepers.specs.declared.journal_keeper.JournalKeeper.{JournalKeeper}
use Rattle.desk_top.specs.Courses.{IsServed, NoJournal, NotBegun, RunsDesk, fills}
use Rattle.desk_top.specs.Journals.{HoldsJournal, IsOwn, NotOpened, StopsOpening, records_in}
use Rattle.desk_top.specs.Runs.{End, Seen, SeenClock, SeenKeeper, Work, seen, seen_keeper}
use Rattle.desk_top.specs.Tasks.{HasNoKeys, Leaves, RunsClosed, RunsOpen, RunsTask}
use Rattle.desk_top.specs.declared.fault.Fault.{Fault}
use Rattle.desk_top.specs.declared.fault.Fault.TheVariants.{Usage, Refused, NoDevice, TablesRead, InputRead, Write, TooMuch, Journal, Memory}
use Rattle.desk_top.specs.declared.fault.Stop.{Stop}
use Rattle.desk_top.specs.declared.fault.Stop.TheVariants as stop
use Rattle.desk_top.specs.declared.task.Task.{Task}

-- ---- what a cause says where less is told

stop_where : (c : Config) (text : List ℕ) (reading : ℕ) (records told : Image) (before now first last : ℕ) (why : Stop) → ((rs : List (List ℕ)) → told ≡ Some rs → records ≡ Some rs) → (Rose before now → Rose first last)
    → StopsOpening fills c text reading records before now why → StopsOpening fills c text reading told first last why
stop_where c text reading records told before now first last stop.Failed by rose is = rose is
stop_where c text reading records told before now first last stop.Full by rose is = λ rs at. is rs (by rs at)
stop_where c text reading records told before now first last stop.OtherTables by rose is = λ rs at. is rs (by rs at)
stop_where c text reading records told before now first last (stop.NotAJournal line) by rose is = absurd is
stop_where c text reading records told before now first last (stop.BadEntry line) by rose is = λ rs at. is rs (by rs at)

cause_where : (c : Config) (text : List ℕ) (reading : ℕ) (records told : Image) (before now first last : ℕ) (e : Fault) → ((rs : List (List ℕ)) → told ≡ Some rs → records ≡ Some rs) → (Rose before now → Rose first last)
    → NotOpened fills c text reading records before now e → NotOpened fills c text reading told first last e
cause_where c text reading records told before now first last Usage by rose is = absurd is
cause_where c text reading records told before now first last (Refused line) by rose is = absurd is
cause_where c text reading records told before now first last (NoDevice line) by rose is = absurd is
cause_where c text reading records told before now first last TablesRead by rose is = absurd is
cause_where c text reading records told before now first last InputRead by rose is = absurd is
cause_where c text reading records told before now first last Write by rose is = absurd is
cause_where c text reading records told before now first last TooMuch by rose is = absurd is
cause_where c text reading records told before now first last (Journal why) by rose is = stop_where c text reading records told before now first last why by rose is
cause_where c text reading records told before now first last Memory by rose is = tt

pub journal_told : (content : Option (List ℕ)) (rs : List (List ℕ)) → records_in content ≡ Some rs → (x : List ℕ) × (content ≡ Some x) × (journal_of x ≡ Some rs)
journal_told None rs is = absurd (cc is)
journal_told (Some x) rs is = (x, refl, is)

-- ---- what the disk of a keeper tells

module _ {D : Type 0} (tells : D → Option (List ℕ)) (images : D → List ℕ → Type 0) (shown : (d : D) (c : List ℕ) → tells d ≡ Some c → images d c) (k : JournalKeeper D) where
  -- at rest, the keeper's records
  pub rests_same : KeeperRests tells images k → records_in (tells (keeper_disk k)) ≡ keeper_records tells k
  rests_same rests =
      elim (told_or (tells (keeper_disk k))) [ inl none ↦ ap records_in none ∙ sym (ap (option_map (kept (keeper_end k))) none) | inr is ↦ ap records_in is.1 ∙ rest_journal tells images k rests (kept (keeper_end k) is.0) (ap (option_map (kept (keeper_end k))) is.1) is.0 (shown (keeper_disk k) is.0 is.1) ∙ sym (ap (option_map (kept (keeper_end k))) is.1) ]

  -- in doubt, these, with the entry or without it
  doubts_either : (tried : List ℕ) → KeeperDoubts tells images k tried → WhereTold (keeper_records tells k) (λ rs. OneMoreOrNot rs tried (records_in (tells (keeper_disk k))))
  doubts_either tried doubts rs is =
      let from = mapped (kept (keeper_end k)) (tells (keeper_disk k)) rs is in
      doubt_journals tells images k tried doubts rs is (records_in (tells (keeper_disk k))) (from.0, shown (keeper_disk k) from.0 from.1, sym (ap records_in from.1))

  pub holds_left : (doubted : Option Entry) → Leaves (KeeperRests tells images k) (KeeperDoubts tells images k) doubted → HoldsJournal (keeper_records tells k) doubted (tells (keeper_disk k))
  holds_left None left = rests_same left
  holds_left (Some e) left = doubts_either (encode_of e) left

-- ---- what comes of a task on the keeper comes of it on the disk

abbrev pub on_keeper : {T O D K : Type 0} → (D → Option (List ℕ)) → (D → ℕ) → JournalKeeper D → JournalKeeper D → Seen T → Seen T → Seen O → Seen O → SeenClock K → SeenClock K → ℕ → ℕ → Work T O (SeenKeeper (JournalKeeper D)) K
on_keeper tells faults k left i i' o o' t t' n n' = record {
  input = i;
  input_after = i';
  out = o;
  out_after = o';
  base = seen_keeper (keeper_records tells) (keeper_faults faults) keeper_changed keeper_count k;
  base_after = seen_keeper (keeper_records tells) (keeper_faults faults) keeper_changed keeper_count left;
  clock = t;
  clock_after = t';
  steps = n;
  steps_after = n';
}

abbrev pub over_disk : {T O D K : Type 0} → (D → Option (List ℕ)) → (D → ℕ) → D → D → Seen T → Seen T → Seen O → Seen O → SeenClock K → SeenClock K → ℕ → ℕ → Work T O (Seen D) K
over_disk tells faults disk left i i' o o' t t' n n' = record {
  input = i;
  input_after = i';
  out = o;
  out_after = o';
  base = seen tells faults disk;
  base_after = seen tells faults left;
  clock = t;
  clock_after = t';
  steps = n;
  steps_after = n';
}

-- the keeper that was taken of a disk
pub record IsTaken {D : Type 0} (tells : D → Option (List ℕ)) (images : D → List ℕ → Type 0) (faults : D → ℕ) (disk : D) (k : JournalKeeper D) : Type 0 where
  pub shown : (d : D) (c : List ℕ) → tells d ≡ Some c → images d c
  pub rests : KeeperRests tells images k
  pub reads : WhereTold (tells disk) (λ x. keeper_records tells k ≡ journal_of x)
  pub own : IsOwn (tells disk)
  pub unchanged : keeper_changed k ≡ 0
  pub later : faults disk ≤ faults (keeper_disk k)

module _ {T O D K : Type 0} (tells : D → Option (List ℕ)) (images : D → List ℕ → Type 0) (faults : D → ℕ) (disk : D) (k left : JournalKeeper D) (taken : IsTaken tells images faults disk k)
    (i i' : Seen T) (o o' : Seen O) (t t' : SeenClock K) (n n' : ℕ) where
  told : (rs : List (List ℕ)) → records_in (tells disk) ≡ Some rs → keeper_records tells k ≡ Some rs
  told rs is = let from = journal_told (tells disk) rs is in taken.reads from.0 from.1 ∙ from.2

  rose : keeper_changed left ≡ keeper_changed k → Rose (keeper_faults faults k) (keeper_faults faults left) → Rose (faults disk) (faults (keeper_disk left))
  rose same is = let only = disk_rose_only faults k left taken.unchanged same is in omega (arith, only, taken.later)

  count_told : WhereTold (records_in (tells disk)) (λ rs. keeper_count k ≡ length rs)
  count_told rs is = count_is tells images k (rest_reads tells images k taken.rests) rs (told rs is)

  no_keys : (end : End) → HasNoKeys (on_keeper tells faults k left i i' o o' t t' n n') end → NoJournal images (over_disk tells faults disk (keeper_disk left) i i' o o' t t' n n') end
  no_keys end none =
      let same : left ≡ k = ap (λ (s : SeenKeeper (JournalKeeper D)). s.object) none.keeper in
      record {
        fault = Memory;
        end_is = none.end_is;
        why = tt;
        left = λ c is. ap (λ (j : JournalKeeper D). records_in (tells (keeper_disk j))) same ∙ rests_same tells images taken.shown k taken.rests ∙ taken.reads c is;
        rests = record { input = none.input; out = none.out; clock = none.clock; steps = none.steps };
      }

  not_begun : (c : Config) (text : List ℕ) (end : End) → keeper_changed left ≡ keeper_changed k → RunsClosed fills (λ j. Journals (images (keeper_disk j))) (KeeperRests tells images) c text (on_keeper tells faults k left i i' o o' t t' n n') end
      → NotBegun images c text (over_disk tells faults disk (keeper_disk left) i i' o o' t t' n n') end
  not_begun c text end same closed =
      let stays = closed.stays in
      record {
        fault = closed.why;
        end_is = closed.end_is;
        own = taken.own;
        why = record {
          reading = stays.reading;
          clock = stays.clock;
          written = stays.written;
          cause = cause_where c text stays.reading (keeper_records tells k) (records_in (tells disk)) (keeper_faults faults k) (keeper_faults faults left) (faults disk) (faults (keeper_disk left)) closed.why told (rose same) stays.cause;
          same = λ not rs is. rests_same tells images taken.shown left (closed.at_rest not) ∙ stays.same not rs (told rs is);
          images = λ rs is. stays.images rs (told rs is);
        };
        input = closed.input;
        out = closed.out;
        steps = λ rs is. subst (λ (m : ℕ). n' ≤ n + m) (count_told rs is) closed.steps;
      }

  served : (limit : ℕ) (task : Task) (c : Config) (text : List ℕ) (end : End) → limit ≡ 2 ^ 30 → RunsOpen fills (KeeperRests tells images) (KeeperDoubts tells images) limit task c text (on_keeper tells faults k left i i' o o' t t' n n') end
      → IsServed task c text (over_disk tells faults disk (keeper_disk left) i i' o o' t t' n n') end
  served limit task c text end most run =
      let opened = run.serves.opened in
      record {
        own = taken.own;
        records = keeper_records tells left;
        doubted = run.doubted;
        serves = record {
          opened = record {
            desk = opened.desk;
            outside = opened.outside;
            reading = opened.reading;
            clock = opened.clock;
            written = opened.written;
            opens = λ rs is. opened.opens rs (told rs is);
          };
          does = rw most at run.serves.does;
        };
        journal = holds_left tells images taken.shown left run.doubted run.left;
        steps = λ rs is. run.steps ∙ ap (λ (m : ℕ). n + m) (count_told rs is);
      }

  pub desk_run : (task : Task) (c : Config) (text : List ℕ) (end : End)
      → RunsTask fills (λ j. Journals (images (keeper_disk j))) (KeeperRests tells images) (KeeperDoubts tells images) (2 ^ 30) task c text (on_keeper tells faults k left i i' o o' t t' n n') end
      → RunsDesk images task c text (over_disk tells faults disk (keeper_disk left) i i' o o' t t' n n') end
  desk_run task c text end run = record {
    came = elim run.came [ inl none ↦ inl (no_keys end none) | inr some ↦ elim some [ inl closed ↦ inr (inl (not_begun c text end run.changes closed)) | inr open_run ↦ inr (inr (served (2 ^ 30) task c text end refl open_run)) ] ];
    read = run.read;
    write = run.write;
    failed = λ is. rose run.changes (run.failed is);
    takes = run.takes;
  }
