use Rattle.std.proofs.Common.{arith, rules, sym, ◌∙◌}
use Rattle.entries.specs.declared.ask.HeldSession.{HeldSession}
use Rattle.entry_codec.specs.Machine.{held_number, hold}
use Rattle.entry_codec.proofs.Ordered.{length-put_new, most_places, put_new, put_there}
use Rattle.entry_codec.proofs.held.hold.Goals as goal

pub put_at-requires-clause-within : goal.put_at-requires-clause-within
put_at-requires-clause-within c = search (rules, most_places)

pub put_at-requires-clause-room : goal.put_at-requires-clause-room
unfolding hold
put_at-requires-clause-room c =
    let more = length-put_new held_number c.args.new.now (λ (old : HeldSession). c.args.new.now) c.args.held.now.items c.place-at.result (sym (search rules)) (search rules) in
    omega (arith, more, c.requires)

pub returns-then-is_at-clause-items : goal.returns-then-is_at-clause-items
unfolding hold
returns-then-is_at-clause-items c = c.replace.ensures.items ∙ sym (put_there held_number c.args.new.now (λ (old : HeldSession). c.args.new.now) c.args.held.now.items c.place-at.result (sym (search rules)) (search rules))

pub returns-else-is_at-clause-items : goal.returns-else-is_at-clause-items
unfolding hold
returns-else-is_at-clause-items c = c.put_at.ensures.items ∙ sym (put_new held_number c.args.new.now (λ (old : HeldSession). c.args.new.now) c.args.held.now.items c.place-at.result (sym (search rules)) (search rules))
