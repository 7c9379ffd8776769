use Rattle.std.proofs.Common.{◌==◌, ap, sym, ◌∙◌, option_and_then, slice_get}
use Rattle.agreements.proofs.Places.{find_place}
use Rattle.agreements.proofs.named_rows.NamedRows.row.Goals as goal

pub returns-in-Some : goal.returns-in-Some
returns-in-Some g c =
    sym (find_place (λ r. g.R.Named.name r == c.args.name) c.args.self.now ∙ ap (option_and_then (slice_get c.args.self.now)) c.in-Some.ensures.0 ∙ c.in-Some.ensures.1)

pub returns-in-None : goal.returns-in-None
returns-in-None g c =
    sym (find_place (λ r. g.R.Named.name r == c.args.name) c.args.self.now ∙ ap (option_and_then (slice_get c.args.self.now)) c.in-None.ensures)
