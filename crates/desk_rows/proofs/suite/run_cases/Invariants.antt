use Rattle.std.proofs.Common.{◌≡◌, ◌++◌, length}
use Rattle.desk_rows.specs.Verdicts.{PrintsAll}
use Rattle.desk_rows.proofs.suite.run_cases.Given as goal

-- what was printed is of the cases so far
abbrev pub invariant-loop-case : goal.invariant-loop-case
invariant-loop-case g l = record {
  printed : PrintsAll l.all l.yielded (g.W.Write.contents l.fn.out) (g.W.Write.contents l.out);
  rest : l.fn.cases.items ≡ l.yielded ++ l.case-iterator.rest.items;
  count : length l.case-iterator.rest.items ≡ l.case-iterator.rest.len;
}
