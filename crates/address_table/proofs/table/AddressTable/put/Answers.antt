use Rattle.std.proofs.Common.{◌≡◌, Some, true, ap, subst, sym, ◌∙◌}
use Rattle.address_table.specs.Table.{Table, knows, owner_of}
use Rattle.address_table.proofs.Cells.{knew_before, knows_set, owner_set, owner_stray}
use Rattle.address_table.proofs.table.AddressTable.put.Goals as goal

pub returns-in-None-clause-known : goal.returns-in-None-clause-known
returns-in-None-clause-known c own k = knew_before c.args.self.now own (subst (λ (t : Table). knows own t ≡ true) c.stray.ensures k)

pub returns-in-None-clause-owners : goal.returns-in-None-clause-owners
returns-in-None-clause-owners c own k =
    ap (owner_of own) c.stray.ensures
    ∙ owner_stray c.args.self.now c.args.addr own (Some c.args.owner) (sym c.place.ensures ∙ c.in-None.is) (subst (λ (t : Table). knows own t ≡ true) c.stray.ensures k)

pub returns-in-Some-clause-known : goal.returns-in-Some-clause-known
returns-in-Some-clause-known c own k = sym (ap (knows own) c.fill.ensures ∙ knows_set c.args.self.now own c.in-Some.place (Some c.args.owner)) ∙ k

pub returns-in-Some-clause-owners : goal.returns-in-Some-clause-owners
returns-in-Some-clause-owners c own k = ap (owner_of own) c.fill.ensures ∙ owner_set c.args.self.now c.args.addr own c.in-Some.place (Some c.args.owner) (sym c.place.ensures ∙ c.in-Some.is)
