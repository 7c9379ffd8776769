use Rattle.std.proofs.Common.{rules, List, sym, subst}
use Rattle.contexts.specs.declared.context.Item.{Item}
use Rattle.contexts.specs.Sound.{Rises}
use Rattle.contexts.proofs.Sound.{Rises-remove}
use Rattle.contexts.proofs.queue.take_item.Goals as goal

pub returns-clause-sound : goal.returns-clause-sound
returns-clause-sound c h = record {
  few = search rules;
  rising = subst (λ (items : List Item). Rises 0 items c.args.ctx.now.next_a) (sym c.remove-item.ensures.items) (Rises-remove c.args.ctx.now.queue.items c.args.ctx.now.next_a h.rising);
  next_n = h.next_n;
  next_a = h.next_a;
}
