use Rattle.std.proofs.Common.{ℕ, List, get_or, ap}
use Rattle.disk_journal.proofs.Walking.{fresh_of, fresh_parts}
use Rattle.disk_journal.proofs.fresh.is_fresh.Goals as goal

pub returns-in-None : goal.returns-in-None
returns-in-None c =
    let head = c.args.head.now in
    (λ yes. fresh_of head c.requires (c.first_other.ensures.none c.in-None.is) (c.is_shut.ensures.0 yes), λ fresh. c.is_shut.ensures.1 (fresh_parts head fresh).1)

pub returns-in-Some : goal.returns-in-Some
returns-in-Some c =
    let head = c.args.head.now in
    (λ no. absurd (cc no), λ fresh. let other = c.first_other.ensures.some c.in-Some.field-0 c.in-Some.is in absurd (other.2 (ap (λ (l : List ℕ). get_or l c.in-Some.field-0 0) (fresh_parts head fresh).0)))
