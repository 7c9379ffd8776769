use Rattle.std.proofs.Common.{Some}
use Rattle.address_table.proofs.Cells.{filled}
use Rattle.address_table.proofs.table.AddressTable.fill.Goals as goal

pub invariant_of-self : goal.invariant_of-self
invariant_of-self c = filled c.self.inside.cells.items c.self.inside.taken c.take.new.self c.args.place (Some c.args.owner) c.self.invariant.0 c.self.invariant.1 c.take.ensures
