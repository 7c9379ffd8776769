use Rattle.std.proofs.Common.{ap, arith, subst, sym, ◌∙◌}
use Rattle.entry_codec.specs.Addresses.{IsTable}
use Rattle.entry_codec.specs.Machine.{Machine, lapse}
use Rattle.entry_codec.specs.State.{Stored}
use Rattle.entry_codec.proofs.Lasting.{lapse_idle}
use Rattle.entry_codec.proofs.state.State.table_at.Goals as goal

pub returns-then-at-self : goal.returns-then-at-self
returns-then-at-self c =
    let m = c.self.inside.current.machine in
    subst (λ (k : Machine). IsTable c.self.inside.addresses k) (sym (lapse_idle c.args.at c.self.inside.due m (grind (arith, c.if-at-self.true)) c.self.invariant.2) ∙ ap (λ (s : Stored). lapse c.args.at s.now) c.self.view_is) c.self.invariant.4
