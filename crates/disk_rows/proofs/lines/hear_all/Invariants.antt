use Rattle.std.proofs.Common.{◌≤◌}
use Rattle.line_reader.specs.Ahead.{budget}
use Rattle.disk_rows.proofs.lines.hear_all.Given as goal

abbrev pub invariant-loop-ahead : goal.invariant-loop-ahead
invariant-loop-ahead g l = l.ahead.taken ≤ l.ahead.limit

abbrev pub decreases-loop-ahead : goal.decreases-loop-ahead
decreases-loop-ahead g l = budget l.ahead
