use Rattle.agreements.proofs.named_rows.NamedRows.as_slice.Goals as goal

pub returns-clause-places : goal.returns-clause-places
returns-clause-places g c = rw (← c.self.view_is) c.self.invariant.2
