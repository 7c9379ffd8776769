use Rattle.std.proofs.Common.{Option, subst, sym, ◌∙◌}
use Rattle.std.specs.Prelude.{IfSome}
use Rattle.entry_codec.specs.Addresses.{IsTable}
use Rattle.entry_codec.specs.Machine.{lapse}
use Rattle.entry_codec.proofs.Tabled.{first_known}
use Rattle.entry_codec.proofs.now.Now.free_in_window.Goals as goal

pub returns-in-Some : goal.returns-in-Some
returns-in-Some c = first_known c.in-Some.table.now c.args.at c.args.first c.args.who c.args.self.now.machine c.leaving.result c.first_free.result c.requires.sound table (sym c.first.ensures ∙ c.if-first.true) c.leaving.ensures c.first_free.ensures.known c.first_free.ensures.free
  where
    table : IsTable c.in-Some.table.now (lapse c.args.at c.args.self.now.machine)
    table = subst (λ (o : Option _). IfSome o (λ t. IsTable t.now (lapse c.args.at c.args.self.now.machine))) c.in-Some.is c.requires.table
