use Rattle.std.proofs.Common.{◌≡◌, length, ap, arith}
use Rattle.desk_rows.proofs.Printing.{one_more, printed_all, prints_then}
use Rattle.desk_rows.proofs.suite.run_cases.Goals as goal

pub loop-case-preserved : goal.loop-case-preserved
loop-case-preserved g c =
    let contents = g.W.Write.contents in
    let said = c.in_ok-all.ensures in
    let steps = c.in-Some.ensures.steps in
    record {
      printed = prints_then c.loop-case.all c.in_ok-all.field-0 c.loop-case.yielded c.in-Some.case (contents c.args.out.now) (contents c.loop-case.out) (contents c.run_case.new.out) said.0 c.loop-case.invariant.printed said.1 said.2;
      rest = one_more _ c.loop-case.yielded _ _ c.in-Some.case c.loop-case.invariant.rest steps.0;
      count = omega (arith, c.loop-case.invariant.count, ap length steps.0, steps.1);
    }

pub returns : goal.returns
returns g c =
    let contents = g.W.Write.contents in
    let empty : length c.loop-case.case-iterator.rest.items ≡ 0 = omega (arith, c.loop-case.invariant.count, c.in-None.ensures.steps.0) in
    printed_all c.loop-case.all _ _ _ (contents c.args.out.now) (contents c.loop-case.out) c.loop-case.invariant.printed c.loop-case.invariant.rest empty
