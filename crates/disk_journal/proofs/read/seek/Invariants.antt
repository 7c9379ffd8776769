use Rattle.std.proofs.Common.{◌≡◌, ◌≤◌, ◌+◌, ◌-◌, ℕ, List, length}
use Rattle.disk_model.specs.Disk.{WhereTold}
use Rattle.disk_journal.specs.Format.{kept}
use Rattle.disk_journal.specs.Journal.{HasRecords, place}
use Rattle.disk_journal.specs.Keeps.{Quiet}
use Rattle.disk_journal.proofs.read.seek.Given as goal

abbrev pub invariant-loop-done : goal.invariant-loop-done
invariant-loop-done g l =
    let D = g.D.Disk in
    record {
      quiet : Quiet D.seen D.images D.moment D.images_since l.fn.disk l.disk;
      within : l.done ≤ l.steps;
      later : D.faults l.fn.disk ≤ D.faults l.disk;
      at : WhereTold (D.seen l.fn.disk) (λ c. l.len ≡ length c → (end count first : ℕ) (places : List ℕ) → HasRecords end count places c → l.start ≡ place first (kept end c) → first + l.done ≤ count → l.at ≡ place (first + l.done) (kept end c));
    }

abbrev pub decreases-loop-done : goal.decreases-loop-done
decreases-loop-done g l = l.steps - l.done
