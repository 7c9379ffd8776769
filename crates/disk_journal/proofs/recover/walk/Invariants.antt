use Rattle.std.proofs.Common.{◌≡◌, ◌≤◌, ◌-◌, length}
use Rattle.disk_model.specs.Disk.{WhereTold}
use Rattle.disk_journal.specs.Journal.{HasRecords}
use Rattle.disk_journal.specs.Keeps.{Quiet}
use Rattle.disk_journal.specs.Windows.{Shows}
use Rattle.disk_journal.proofs.recover.walk.Given as goal

-- so far these are records, and the window shows the disk
abbrev pub invariant-records : goal.invariant-records
invariant-records g l =
    let D = g.D.Disk in
    record {
      quiet : Quiet D.seen D.images D.moment D.images_since l.fn.disk l.disk;
      later : D.faults l.fn.disk ≤ D.faults l.disk;
      few : l.count ≤ l.end;
      size : length l.places ≡ 2048;
      shows : WhereTold (D.seen l.fn.disk) (Shows l.window);
      has : WhereTold (D.seen l.fn.disk) (HasRecords l.end l.count l.places);
    }

abbrev pub decreases-records : goal.decreases-records
decreases-records g l = l.len - l.end
