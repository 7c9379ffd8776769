use Rattle.std.proofs.Common.{◌≡◌, ℕ, List, length, get_or, take, Some, arith, subst, sym, ap, ◌∙◌}
use Rattle.std.proofs.lemmas.List.{take_all, take-take, get_or-take}
use Rattle.disk_journal.proofs.fresh.check_mark.Goals as goal

-- sixteen bytes that were read
head_is : (head x : List ℕ) (got : ℕ) → length head ≡ 16 → got ≡ 16 → take got head ≡ take got x → head ≡ take 16 x
head_is head x got long sixteen same = sym (take_all 16 head (omega (arith, long))) ∙ subst (λ (n : ℕ). take n head ≡ take n x) sixteen same

pub returns-in-None-clause-marked : goal.returns-in-None-clause-marked
returns-in-None-clause-marked g c = λ x told long.
    let got : c.in_ok-got.got ≡ 16 = omega (arith, c.in_ok-got.ensures.count x told, c.read.auto.room, long) in
    sym (head_is c.read.new.room x c.in_ok-got.got (omega (arith, c.read.auto.room)) got (c.in_ok-got.ensures.bytes x told)) ∙ c.first_other.ensures.none c.in-None.is

pub returns-in-Some-clause-foreign : goal.returns-in-Some-clause-foreign
returns-in-Some-clause-foreign g c = λ place is x told long.
    let got : c.in_ok-got.got ≡ 16 = omega (arith, c.in_ok-got.ensures.count x told, c.read.auto.room, long) in
    let head = head_is c.read.new.room x c.in_ok-got.got (omega (arith, c.read.auto.room)) got (c.in_ok-got.ensures.bytes x told) in
    let same : c.in-Some.place ≡ place = cc is in
    let other = c.first_other.ensures.some place (c.in-Some.is ∙ ap Some same) in record {
      long = long;
      within = other.0;
      before = sym (take-take place 16 x (omega (arith, other.0))) ∙ ap (λ (l : List ℕ). take place l) (sym head) ∙ other.1;
      other = λ no. other.2 (ap (λ (l : List ℕ). get_or l place 0) head ∙ get_or-take 16 x place 0 other.0 ∙ no);
    }
