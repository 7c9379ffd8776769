use Rattle.agreements.proofs.Soundness.{sound_tables_in}
use Rattle.agreements.proofs.tables.read_tables.Goals as goal

pub invariant_of-result : goal.invariant_of-result
invariant_of-result c = sound_tables_in _ _ c.in_ok-sections.ensures
