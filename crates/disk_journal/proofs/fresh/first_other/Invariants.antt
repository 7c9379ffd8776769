use Rattle.std.proofs.Common.{◌≡◌, take}
use Rattle.disk_journal.specs.Format.{mark}
use Rattle.disk_journal.proofs.fresh.first_other.Given as goal

abbrev pub invariant-loop-i : goal.invariant-loop-i
invariant-loop-i l = take l.i l.head ≡ take l.i mark
