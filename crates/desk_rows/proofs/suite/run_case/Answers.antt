use Rattle.std.proofs.Common.{List, ℕ, subst}
use Rattle.std.specs.Io.KnownBytes.{Appends}
use Rattle.desk_rows.specs.Verdicts.{Says}
use Rattle.desk_rows.proofs.Printing.{said_so}
use Rattle.desk_rows.proofs.suite.run_case.Goals as goal

pub returns : goal.returns
returns g c =
    let contents = g.W.Write.contents in
    let passed = c.pass_all.result in
    let lines = c.in_ok-verdict.field-0.items in
    let verdict = c.in_ok-verdict.ensures in
    let said = said_so passed c.as_slice-ended.result.now c.deref.result.now lines c.pass_all.ensures verdict.passes verdict.differs in (
      lines,
      subst (λ (name : List ℕ). Says passed name lines) c.deref.ensures said,
      subst (λ (written : List ℕ). Appends (contents c.args.out.now) (contents c.write_all.new.self) written) c.deref-2.ensures.value c.in_ok-write_all.ensures.bytes,
    )
