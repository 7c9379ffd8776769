-- How often the objects that aren't there have failed.
use Rattle.std.specs.Prelude.{ℕ}
use Rattle.disk_model.specs.declared.disk.ClosedDisk.{ClosedDisk}
use Rattle.disk_model.specs.declared.link.ClosedLink.{ClosedLink}

abbrev pub disk_faults : ClosedDisk → ℕ
disk_faults d = d.faults

abbrev pub link_faults : ClosedLink → ℕ
link_faults l = l.faults
