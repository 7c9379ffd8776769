use Rattle.desk_top.proofs.OpeningLemmas.{refusal_told}
use Rattle.desk_top.proofs.opening.open_tables.Goals as goal

pub returns-in-Err-Refused-clause-unopened : goal.returns-in-Err-Refused-clause-unopened
returns-in-Err-Refused-clause-unopened g c =
    let said = rw (c.in-Err-Refused.field-0-is, c.deref.ensures.value) at c.in-Err-Refused.ensures in
    refusal_told _ _ _ _ c.in-Err-Refused.refusal c.refused.result c.in_ok-text.ensures.text said c.refused.ensures
