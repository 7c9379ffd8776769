use Rattle.std.proofs.Common.{◌≡◌, ◌≤◌, ◌-◌, length, take, drop}
use Rattle.disk_model.specs.Disk.{WhereTold}
use Rattle.disk_journal.specs.Keeps.{Quiet}
use Rattle.disk_journal.proofs.compare.stands.Given as goal

-- the bytes before `done` stand there
abbrev pub invariant-loop-done : goal.invariant-loop-done
invariant-loop-done g l =
    let D = g.D.Disk in
    record {
      within : l.done ≤ length l.bytes;
      quiet : Quiet D.seen D.images D.moment D.images_since l.fn.disk l.disk;
      later : D.faults l.fn.disk ≤ D.faults l.disk;
      same : WhereTold (D.seen l.fn.disk) (λ c. take l.done (drop l.at c) ≡ take l.done l.bytes);
    }

abbrev pub decreases-loop-done : goal.decreases-loop-done
decreases-loop-done g l = length l.bytes - l.done
