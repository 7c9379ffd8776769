use Rattle.std.proofs.Common.{◌≡◌, ◌++◌, ◌+◌, true, Some, refl, ap, ◌∙◌, arith}
use Rattle.std.proofs.lemmas.List.{take-append-drop}
use Rattle.aes_cmac.specs.Aes.{IsBlock}
use Rattle.key_wrap.specs.Wrap.{Registers, start, registers_of, wrapped_key}
use Rattle.key_wrap.proofs.Unwinding.{undone, unstep_more, all_undone, unwound_block, unwound_wraps, unwound_is}
use Rattle.key_wrap.proofs.unwrap.Goals as goal

pub steps-init : goal.steps-init
unfolding undone
steps-init c = c.of-registers.ensures

pub steps-preserved : goal.steps-preserved
steps-preserved c =
    c.unstep-registers.ensures
    ∙ unstep_more c.new-keys.result (registers_of c.args.wrapped.now) c.steps.registers c.steps.undone (c.steps.undone + 1) refl c.steps.invariant

pub returns-then-has_initial_value-clause-wraps : goal.returns-then-has_initial_value-clause-wraps
returns-then-has_initial_value-clause-wraps c =
    let end = all_undone c.args.kek.now c.new-keys.result (registers_of c.args.wrapped.now) c.steps.registers c.steps.undone c.new-keys.ensures (omega arith) c.steps.invariant in
    rw c.key.ensures
    (unwound_wraps c.args.kek.now c.args.wrapped.now c.steps.registers c.fits-kek c.told-wrapped c.fits-wrapped end (c.has_initial_value.ensures.0 c.if-has_initial_value.true))

pub returns-then-has_initial_value-clause-undoes : goal.returns-then-has_initial_value-clause-undoes
returns-then-has_initial_value-clause-undoes c = λ key is wraps.
    let end = all_undone c.args.kek.now c.new-keys.result (registers_of c.args.wrapped.now) c.steps.registers c.steps.undone c.new-keys.ensures (omega arith) c.steps.invariant in
    let begun : c.steps.registers ≡ start key = unwound_is c.args.kek.now c.args.wrapped.now key c.steps.registers c.fits-kek end is wraps in
    ap Some (c.key.ensures ∙ ap (λ (x : Registers). x.r1 ++ x.r2) begun ∙ take-append-drop 8 key)

pub returns-then-has_initial_value-clause-none : goal.returns-then-has_initial_value-clause-none
returns-then-has_initial_value-clause-none c =
    let end = all_undone c.args.kek.now c.new-keys.result (registers_of c.args.wrapped.now) c.steps.registers c.steps.undone c.new-keys.ensures (omega arith) c.steps.invariant in
    let wraps : wrapped_key c.args.kek.now c.key.result ≡ c.args.wrapped.now =
    rw c.key.ensures
    (unwound_wraps c.args.kek.now c.args.wrapped.now c.steps.registers c.fits-kek c.told-wrapped c.fits-wrapped end (c.has_initial_value.ensures.0 c.if-has_initial_value.true)) in
    let block : IsBlock c.key.result =
    rw c.key.ensures (unwound_block c.args.kek.now c.args.wrapped.now c.steps.registers c.fits-kek c.told-wrapped c.fits-wrapped end) in
    (λ e key is wrapped. cc, λ none. absurd (none c.key.result block wraps))

pub returns-else-has_initial_value-clause-undoes : goal.returns-else-has_initial_value-clause-undoes
returns-else-has_initial_value-clause-undoes c = λ key is wraps.
    let end = all_undone c.args.kek.now c.new-keys.result (registers_of c.args.wrapped.now) c.steps.registers c.steps.undone c.new-keys.ensures (omega arith) c.steps.invariant in
    let begun : c.steps.registers ≡ start key = unwound_is c.args.kek.now c.args.wrapped.now key c.steps.registers c.fits-kek end is wraps in
    let same : c.has_initial_value.result ≡ true = c.has_initial_value.ensures.1 (ap (λ (x : Registers). x.a) begun) in
    let other = c.if-has_initial_value.false in
    cc

pub returns-else-has_initial_value-clause-none : goal.returns-else-has_initial_value-clause-none
returns-else-has_initial_value-clause-none c = (
  λ e key is wraps.
      let end = all_undone c.args.kek.now c.new-keys.result (registers_of c.args.wrapped.now) c.steps.registers c.steps.undone c.new-keys.ensures (omega arith) c.steps.invariant in
      let begun : c.steps.registers ≡ start key = unwound_is c.args.kek.now c.args.wrapped.now key c.steps.registers c.fits-kek end is wraps in
      let same : c.has_initial_value.result ≡ true = c.has_initial_value.ensures.1 (ap (λ (x : Registers). x.a) begun) in
      let other = c.if-has_initial_value.false in
      cc,
  λ none. refl,
)
