use Rattle.std.proofs.Common.{None, ap, sym, ◌∙◌}
use Rattle.address_table.specs.Table.{knows, owner_of}
use Rattle.address_table.proofs.Cells.{knows_set, owner_none, owner_set}
use Rattle.address_table.proofs.table.AddressTable.take_out.Goals as goal

pub returns-in-None-clause-owners : goal.returns-in-None-clause-owners
returns-in-None-clause-owners c own = owner_none c.args.self.now c.args.addr own (sym c.place.ensures ∙ c.in-None.is)

pub returns-in-Some-clause-known : goal.returns-in-Some-clause-known
returns-in-Some-clause-known c own = ap (knows own) c.clear.ensures ∙ knows_set c.args.self.now own c.in-Some.place None

pub returns-in-Some-clause-owners : goal.returns-in-Some-clause-owners
returns-in-Some-clause-owners c own = ap (owner_of own) c.clear.ensures ∙ owner_set c.args.self.now c.args.addr own c.in-Some.place None (sym c.place.ensures ∙ c.in-Some.is)
