-- What marking a device comes to.
use Rattle.std.proofs.Common.{◌≡◌, ◌∙◌, ℕ, [], ◌∷◌, Bool, true, false, refl}
use Rattle.std.specs.Io.KnownBytes.{Keeps}
use Rattle.disk_model.specs.Moments.{Told}
use Rattle.roam_core.specs.Desk.{Desk, moment_of}
use Rattle.book.specs.Results.{mark_of}
use Rattle.desk_top.specs.Journals.{Grows, Outside}
use Rattle.desk_top.specs.Tasks.{IsMarked, StaysUnmarked, is_suspended}
use Rattle.desk_top.proofs.Growing.{grows_none}

abbrev pub marked_done : (suspended : Bool) (device : ℕ) (s : Desk) (before now : Outside) (reading : ℕ) → (is_suspended device s ≡ suspended → ⊥) → Told before.clock now.clock (reading ∷ [])
    → Grows before.records now.records (mark_of suspended device (moment_of reading s.now) ∷ []) → IsMarked suspended device s before now
marked_done suspended device s before now reading not clock grown = record {
  reading = reading;
  clock = clock;
  already = false;
  so = (λ h. cc h, λ is. absurd (not is));
  records = grown;
}

abbrev pub marked_already : (suspended : Bool) (device : ℕ) (s : Desk) (before now : Outside) (reading : ℕ) → is_suspended device s ≡ suspended → Told before.clock now.clock (reading ∷ [])
    → now.records ≡ before.records → IsMarked suspended device s before now
marked_already suspended device s before now reading is clock same = record {
  reading = reading;
  clock = clock;
  already = true;
  so = (λ h. is, λ so. refl);
  records = same ∙ grows_none before.records;
}

pub stays_unmarked : (suspended : Bool) (device : ℕ) (s : Desk) (before now : Outside) (reading : ℕ) → (is_suspended device s ≡ suspended → ⊥) → Told before.clock now.clock (reading ∷ [])
    → Keeps before.written now.written → now.records ≡ before.records → StaysUnmarked suspended device s before now (mark_of suspended device (moment_of reading s.now))
stays_unmarked suspended device s before now reading not clock keeps same = record {
  reading = reading;
  clock = clock;
  unmarked = not;
  entry = refl;
  written = keeps;
  records = same;
}
