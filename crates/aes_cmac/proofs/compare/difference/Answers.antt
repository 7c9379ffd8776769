use Rattle.std.proofs.Common.{refl, ap, sym, ◌∙◌, arith, add-one}
use Rattle.aes_cmac.proofs.Comparison.{difference, difference_more, difference_past, same-iff}
use Rattle.aes_cmac.proofs.compare.difference.Goals.{then-i-a, else-i-a}
use Rattle.aes_cmac.proofs.compare.difference.Goals as goal

pub each-init : goal.each-init
unfolding difference
each-init c = refl

pub each-preserved : goal.each-preserved
each-preserved c =
    let next = ap (difference c.args.a.now c.args.b.now) (sym (add-one c.each.i)) in
    elim c.if-i-a.branch [
      | then-i-a w ↦
          w.difference-is ∙ difference_more c.args.a.now c.args.b.now c.each.i c.each.difference c.each.invariant ∙ next
      | else-i-a w ↦
          w.difference-is ∙ difference_past c.args.a.now c.args.b.now c.each.i c.each.difference (omega (arith, w.if-i-a)) (omega (arith, w.if-i-a, c.requires.same_length)) c.each.invariant ∙ next
    ]

pub returns : goal.returns
returns c = same-iff c.args.a.now c.args.b.now c.each.difference c.each.i c.requires.same_length (omega (arith, c.requires.short, c.each-test.false)) c.each.invariant
