-- What a fuse disk has.
use Rattle.std.specs.Prelude.{ℕ}
use Rattle.disk_model.specs.declared.fuse_disk.FuseDisk.{FuseDisk}

abbrev pub fuse_disk : {D : Type 0} → FuseDisk D → D
fuse_disk d = d.disk

-- how many calls it still passes on
abbrev pub fuse_left : {D : Type 0} → FuseDisk D → ℕ
fuse_left d = d.left

-- how many calls it has failed itself
abbrev pub fuse_blown : {D : Type 0} → FuseDisk D → ℕ
fuse_blown d = d.blown
