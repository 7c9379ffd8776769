use Rattle.agreements.proofs.tables.Tables.devices.Goals as goal

pub returns-clause-places : goal.returns-clause-places
returns-clause-places c = rw (← c.self.view_is) c.as_slice.ensures.places
