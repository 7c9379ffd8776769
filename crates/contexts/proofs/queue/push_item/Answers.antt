use Rattle.std.proofs.Common.{rules, ℕ, ◌+◌, ◌≤◌, ◌<◌, ◌^◌, List, length, sym, subst}
use Rattle.contexts.specs.declared.context.Item.{Item}
use Rattle.contexts.specs.Sound.{IsSoundContext}
use Rattle.contexts.proofs.Sound.{sound-pushed}
use Rattle.contexts.proofs.queue.push_item.Goals as goal

pub returns-clause-sound : goal.returns-clause-sound
returns-clause-sound c h =
    let le : c.args.ctx.now.next_a ≤ c.args.item.number = search rules in
    let small : c.args.item.number < 2 ^ 32 = search rules in
    let room : length c.args.ctx.now.queue.items < 8 = search rules in
    subst (λ (n : ℕ). IsSoundContext (record c.args.ctx.now { next_a = n + 1; queue = c.push.new.self })) (sym c.from-number.ensures)
    (subst (λ (items : List Item). IsSoundContext (record c.args.ctx.now { next_a = c.args.item.number + 1; queue = record { items = items } })) (sym c.push.ensures.items)
    (sound-pushed c.args.item c.args.ctx.now le small room h))
