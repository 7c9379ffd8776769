use Rattle.std.proofs.Common.{◌≡◌, ◌<◌, ℕ, get_or, take, arith, subst}
use Rattle.std.proofs.lemmas.List.{take_more_same}
use Rattle.disk_journal.specs.Format.{mark}
use Rattle.disk_journal.proofs.fresh.first_other.Goals as goal

pub returns-then-head-i-clause-some : goal.returns-then-head-i-clause-some
unfolding mark
returns-then-head-i-clause-some c = λ place is.
    let same : c.loop-i.i ≡ place = cc is in
    subst (λ (p : ℕ). (p < 16) × (take p c.args.head.now ≡ take p mark) × (get_or c.args.head.now p 0 ≡ get_or mark p 0 → ⊥)) same
    (c.loop-i-test.true, c.loop-i.invariant, c.if-head-i.true)

pub loop-i-preserved : goal.loop-i-preserved
unfolding mark
loop-i-preserved c = take_more_same c.args.head.now mark c.loop-i.i 0 (omega (arith, c.requires, c.loop-i-test.true)) (omega (arith, c.loop-i-test.true)) c.loop-i.invariant c.if-head-i.false
