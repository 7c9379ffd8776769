use Rattle.std.proofs.Common.{rules, ap, ◌∙◌}
use Rattle.std.specs.List.{filter}
use Rattle.entry_codec.specs.Machine.{has_number, is_other}
use Rattle.entry_codec.proofs.Places.{left}
use Rattle.entry_codec.proofs.asks.pull.Goals as goal

pub returns-in-Some-clause-left : goal.returns-in-Some-clause-left
returns-in-Some-clause-left c = ap (filter (is_other c.args.number)) c.remove.ensures.items ∙ left (has_number c.args.number) c.args.asks.now.items c.in-Some.at (search rules)
