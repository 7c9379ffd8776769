use Rattle.std.proofs.Common.{arith, refl}
use Rattle.aes_cmac.proofs.Comparison.{same_more, same_in_all}
use Rattle.aes_cmac.proofs.compare.same_bytes.Goals as goal

pub pieces-init : goal.pieces-init
pieces-init c = (omega arith, (λ e. refl, λ e. refl))

pub pieces-preserved : goal.pieces-preserved
pieces-preserved c = (
  omega (arith, c.min-end.ensures),
  same_more c.args.a.now c.args.b.now c.pieces.all c.difference-all.result c.pieces.start c.min-end.result
      (omega (arith, c.min-end.ensures, c.pieces-test.true)) c.pieces.invariant.1 c.difference-all.ensures,
)

pub returns : goal.returns
returns c = same_in_all c.args.a.now c.args.b.now c.pieces.all c.pieces.start (omega (arith, c.if-a-b.false)) (omega (arith, c.pieces-test.false)) c.pieces.invariant.1
