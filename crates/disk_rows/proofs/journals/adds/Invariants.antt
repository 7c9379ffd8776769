use Rattle.std.proofs.Common.{◌+◌, ◌≤◌, ◌^◌, length}
use Rattle.disk_journal.specs.Journals.{Doubts, journal_end}
use Rattle.disk_rows.proofs.journals.adds.Given as goal

abbrev pub invariant-tries : goal.invariant-tries
invariant-tries g l = record {
  doubt : Doubts g.D.Disk.seen g.D.Disk.images l.bytes l.journal;
  fits : journal_end l.journal + length l.bytes + 6 ≤ 2 ^ 28;
}
