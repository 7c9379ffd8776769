use Rattle.std.proofs.Common.{◌+◌, refl, ap, ◌∙◌, arith}
use Rattle.key_wrap.specs.Wrap.{Registers, start, after, wrapped_key, registers_text}
use Rattle.key_wrap.proofs.Unwinding.{step_more, all_steps}
use Rattle.key_wrap.proofs.all_wrapped.Goals as goal

pub all_steps-init : goal.all_steps-init
unfolding after
all_steps-init c = (c.start.ensures, c.start-2.ensures, c.start-3.ensures)

pub all_steps-preserved : goal.all_steps-preserved
all_steps-preserved c = (
  c.step_three-all.ensures.first ∙ step_more c.new-keys.result (start c.args.key1.now) c.all_steps.all.0 c.all_steps.done (c.all_steps.done + 1) refl c.all_steps.invariant.0,
  c.step_three-all.ensures.second ∙ step_more c.new-keys.result (start c.args.key2.now) c.all_steps.all.1 c.all_steps.done (c.all_steps.done + 1) refl c.all_steps.invariant.1,
  c.step_three-all.ensures.third ∙ step_more c.new-keys.result (start c.args.key3.now) c.all_steps.all.2 c.all_steps.done (c.all_steps.done + 1) refl c.all_steps.invariant.2,
)

pub returns-clause-first : goal.returns-clause-first
unfolding wrapped_key
returns-clause-first c =
    c.text.ensures
    ∙ ap (λ (x : Registers). registers_text x) (all_steps c.args.kek.now c.new-keys.result (start c.args.key1.now) c.all_steps.all.0 c.all_steps.done c.new-keys.ensures (omega arith) c.all_steps.invariant.0)

pub returns-clause-second : goal.returns-clause-second
unfolding wrapped_key
returns-clause-second c =
    c.text-2.ensures
    ∙ ap (λ (x : Registers). registers_text x) (all_steps c.args.kek.now c.new-keys.result (start c.args.key2.now) c.all_steps.all.1 c.all_steps.done c.new-keys.ensures (omega arith) c.all_steps.invariant.1)

pub returns-clause-third : goal.returns-clause-third
unfolding wrapped_key
returns-clause-third c =
    c.text-3.ensures
    ∙ ap (λ (x : Registers). registers_text x) (all_steps c.args.kek.now c.new-keys.result (start c.args.key3.now) c.all_steps.all.2 c.all_steps.done c.new-keys.ensures (omega arith) c.all_steps.invariant.2)
