use Rattle.std.proofs.Common.{◌+◌, refl, arith}
use Rattle.aes_cmac.specs.Aes.{IsBlock}
use Rattle.aes_cmac.proofs.CipherFacts.{round_step, lanes_at}
use Rattle.aes_cmac.proofs.round_keys.RoundKeys.round_of_three.Goals as goal

pub returns-clause-first : goal.returns-clause-first
returns-clause-first c = λ b hb done.
    let key : IsBlock c.args.self.now = rw (← c.self.view_is) c.self.invariant.0 in
    round_step c.args.self.now b c.args.states.0 c.full_round.result _ c.args.r (c.args.r + 1) _ key hb (omega arith) refl refl
    (lanes_at c.self.inside.middle c.self.inside.first c.args.self.now c.args.r (omega arith) c.self.invariant.1 c.self.view_is) c.full_round.ensures done

pub returns-clause-second : goal.returns-clause-second
returns-clause-second c = λ b hb done.
    let key : IsBlock c.args.self.now = rw (← c.self.view_is) c.self.invariant.0 in
    round_step c.args.self.now b c.args.states.1 c.full_round-2.result _ c.args.r (c.args.r + 1) _ key hb (omega arith) refl refl
    (lanes_at c.self.inside.middle c.self.inside.first c.args.self.now c.args.r (omega arith) c.self.invariant.1 c.self.view_is) c.full_round-2.ensures done

pub returns-clause-third : goal.returns-clause-third
returns-clause-third c = λ b hb done.
    let key : IsBlock c.args.self.now = rw (← c.self.view_is) c.self.invariant.0 in
    round_step c.args.self.now b c.args.states.2 c.full_round-3.result _ c.args.r (c.args.r + 1) _ key hb (omega arith) refl refl
    (lanes_at c.self.inside.middle c.self.inside.first c.args.self.now c.args.r (omega arith) c.self.invariant.1 c.self.view_is) c.full_round-3.ensures done
