use Rattle.std.proofs.Common.{rules, sym, ◌∙◌}
use Rattle.entry_codec.specs.Machine.{new_visitor, renewed, visit, visitor_number}
use Rattle.entry_codec.proofs.Ordered.{most_places, put_new, put_there}
use Rattle.entry_codec.proofs.visitors.visit.Goals as goal

pub put_at-requires-clause-within : goal.put_at-requires-clause-within
put_at-requires-clause-within c = search (rules, most_places)

pub returns-then-is_at : goal.returns-then-is_at
unfolding visit
returns-then-is_at c = c.renew.ensures.items ∙ sym (put_there visitor_number (new_visitor c.args.number c.args.new.now) (renewed c.args.number c.args.new.now) c.args.visitors.now.items c.place-at.result (sym (search rules)) (search rules))

pub returns-else-is_at : goal.returns-else-is_at
unfolding visit
returns-else-is_at c = c.put_at.ensures.items ∙ search (rules, put_new)
