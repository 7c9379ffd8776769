use Rattle.std.proofs.Common.{◌==◌, ap, ◌∙◌, is_some}
use Rattle.agreements.proofs.Places.{is_some-position}
use Rattle.agreements.proofs.named_rows.NamedRows.contains.Goals as goal

pub returns : goal.returns
returns g c =
    rw (← c.self.view_is) (c.contains_key.ensures ∙ ap is_some (c.self.invariant.0 c.args.name)
    ∙ is_some-position (λ r. g.R.Named.name r == c.args.name) c.self.inside.rows.items)
