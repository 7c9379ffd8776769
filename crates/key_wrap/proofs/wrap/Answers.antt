use Rattle.std.proofs.Common.{◌+◌, refl, ap, ◌∙◌, arith}
use Rattle.key_wrap.specs.Wrap.{Registers, start, after, wrapped_key, registers_text}
use Rattle.key_wrap.proofs.Unwinding.{step_more, all_steps}
use Rattle.key_wrap.proofs.wrap.Goals as goal

pub steps-init : goal.steps-init
unfolding after
steps-init c = c.start-registers.ensures

pub steps-preserved : goal.steps-preserved
steps-preserved c =
    c.step-registers.ensures ∙ step_more c.new-keys.result (start c.args.key.now) c.steps.registers c.steps.done (c.steps.done + 1) refl c.steps.invariant

pub returns : goal.returns
unfolding wrapped_key
returns c =
    c.text.ensures
    ∙ ap (λ (x : Registers). registers_text x) (all_steps c.args.kek.now c.new-keys.result (start c.args.key.now) c.steps.registers c.steps.done c.new-keys.ensures (omega arith) c.steps.invariant)
