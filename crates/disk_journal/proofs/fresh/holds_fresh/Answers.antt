use Rattle.std.proofs.Common.{◌≡◌, ◌≤◌, ℕ, List, length, take, sym, ◌∙◌, subst, arith}
use Rattle.std.specs.Prelude.{◌↔◌, IsTrue}
use Rattle.std.proofs.lemmas.List.{take_all}
use Rattle.disk_journal.specs.Walked.{IsFresh}
use Rattle.disk_journal.proofs.Walking.{fresh_long}
use Rattle.disk_journal.proofs.fresh.holds_fresh.Goals as goal

pub returns-then-len-ne17-clause-exact : goal.returns-then-len-ne17-clause-exact
returns-then-len-ne17-clause-exact g c = λ x told. ((λ no. absurd (cc no)), λ fresh. absurd (c.if-len-ne17.true (c.requires.settled x told ∙ fresh_long x fresh)))

pub returns-then-got-ne17-clause-exact : goal.returns-then-got-ne17-clause-exact
returns-then-got-ne17-clause-exact g c = λ x told.
    ((λ no. absurd (cc no)), λ fresh. absurd (c.if-got-ne17.true (let long = fresh_long x fresh in omega (arith, c.in_ok-got.ensures.count x told, c.read.auto.room, long))))

pub returns-clause-exact : goal.returns-clause-exact
returns-clause-exact g c = λ x told.
    let long : length x ≤ 17 = omega (arith, c.requires.settled x told, c.if-len-ne17.false) in
    let same = subst (λ (n : ℕ). take n c.read.new.room ≡ take n x) c.if-got-ne17.false (c.in_ok-got.ensures.bytes x told) in
    let head : c.read.new.room ≡ x = sym (take_all 17 c.read.new.room (omega (arith, c.read.auto.room))) ∙ same ∙ take_all 17 x long in
    subst (λ (l : List ℕ). IsTrue c.is_fresh.result ↔ IsFresh l) head c.is_fresh.ensures
