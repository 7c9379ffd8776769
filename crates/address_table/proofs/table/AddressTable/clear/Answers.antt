use Rattle.std.proofs.Common.{None}
use Rattle.address_table.proofs.Cells.{filled}
use Rattle.address_table.proofs.table.AddressTable.clear.Goals as goal

pub invariant_of-self : goal.invariant_of-self
invariant_of-self c = filled c.self.inside.cells.items c.self.inside.taken c.leave.new.self c.args.place None c.self.invariant.0 c.self.invariant.1 c.leave.ensures
