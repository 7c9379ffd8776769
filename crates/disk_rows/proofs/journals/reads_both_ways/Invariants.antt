use Rattle.disk_journal.specs.Journals.{Holds}
use Rattle.disk_rows.proofs.journals.reads_both_ways.Given as goal

abbrev pub invariant-records : goal.invariant-records
invariant-records g l = Holds g.D.Disk.seen l.journal
