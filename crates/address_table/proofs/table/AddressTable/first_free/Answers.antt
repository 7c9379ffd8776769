use Rattle.std.proofs.Common.{◌≡◌, length, map, ap, sym, ◌∙◌}
use Rattle.std.specs.Prelude.{is_some}
use Rattle.address_table.specs.Table.{Table, sooner, window}
use Rattle.address_table.proofs.Cells.{first_found, known_at, none_found}
use Rattle.address_table.proofs.table.AddressTable.first_free.Goals as goal

pub returns-then-free-lt-WINDOW-clause-free : goal.returns-then-free-lt-WINDOW-clause-free
returns-then-free-lt-WINDOW-clause-free c = first_found c.args.self.now c.self.inside.taken c.args.leaving cells taken c.first.result c.sooner-free.result c.first.ensures (c.sooner-free.ensures ∙ ap (sooner c.first.result) c.place_left.ensures) c.if-free-lt-WINDOW.true
  where
    cells : length c.args.self.now.cells ≡ window
    cells = sym (ap (λ (t : Table). length t.cells) c.self.view_is) ∙ c.self.invariant.0

    taken : c.self.inside.taken ≡ map is_some c.args.self.now.cells
    taken = c.self.invariant.1 ∙ ap (λ (t : Table). map is_some t.cells) c.self.view_is

pub returns-then-free-lt-WINDOW-clause-known : goal.returns-then-free-lt-WINDOW-clause-known
returns-then-free-lt-WINDOW-clause-known c = known_at c.args.self.now (sym (ap (λ (t : Table). length t.cells) c.self.view_is) ∙ c.self.invariant.0)

pub returns-else-free-lt-WINDOW-clause-free : goal.returns-else-free-lt-WINDOW-clause-free
returns-else-free-lt-WINDOW-clause-free c = none_found c.args.self.now c.self.inside.taken c.args.leaving cells taken c.first.result c.sooner-free.result c.first.ensures (c.sooner-free.ensures ∙ ap (sooner c.first.result) c.place_left.ensures) c.if-free-lt-WINDOW.false
  where
    cells : length c.args.self.now.cells ≡ window
    cells = sym (ap (λ (t : Table). length t.cells) c.self.view_is) ∙ c.self.invariant.0

    taken : c.self.inside.taken ≡ map is_some c.args.self.now.cells
    taken = c.self.invariant.1 ∙ ap (λ (t : Table). map is_some t.cells) c.self.view_is

pub returns-else-free-lt-WINDOW-clause-known : goal.returns-else-free-lt-WINDOW-clause-known
returns-else-free-lt-WINDOW-clause-known c = known_at c.args.self.now (sym (ap (λ (t : Table). length t.cells) c.self.view_is) ∙ c.self.invariant.0)
