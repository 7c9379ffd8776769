use Rattle.std.proofs.Common.{List, ℕ, ap, arith, ◌∙◌}
use Rattle.aes_cmac.specs.Aes.{IsBlock, round_key}
use Rattle.aes_cmac.specs.Basis.{kept_last}
use Rattle.aes_cmac.proofs.CipherFacts.{vector_is_block, start_is, end_is}
use Rattle.aes_cmac.proofs.round_keys.RoundKeys.encrypt_three_lanes.Goals as goal

pub returns-clause-first : goal.returns-clause-first
returns-clause-first c =
    let key : List ℕ = c.args.self.now in
    let block : List ℕ = c.args.block1 in
    let hk : IsBlock key = rw (← c.self.view_is) c.self.invariant.0 in
    let hb : IsBlock block = vector_is_block block c.fits-block1 in
    let e0 = start_is block key c.self.inside.first c.entered.result c.fits-block1 c.self.invariant.0 c.self.view_is c.entered.ensures in
    let e1 = c.round_of_three-s1.ensures.first block hb e0 in
    let e2 = c.round_of_three-s2.ensures.first block hb e1 in
    let e3 = c.round_of_three-s3.ensures.first block hb e2 in
    let e4 = c.round_of_three-s4.ensures.first block hb e3 in
    let e5 = c.round_of_three-s5.ensures.first block hb e4 in
    let e6 = c.round_of_three-s6.ensures.first block hb e5 in
    let e7 = c.round_of_three-s7.ensures.first block hb e6 in
    let e8 = c.round_of_three-s8.ensures.first block hb e7 in
    let e9 = c.round_of_three-s9.ensures.first block hb e8 in
    end_is key block c.round_of_three-s9.result.0 c.last_round.result c.self.inside.last 9 hk c.fits-block1 (omega arith)
    (c.self.invariant.2 ∙ ap (λ (k : List ℕ). kept_last (round_key k 10)) c.self.view_is) c.last_round.ensures e9

pub returns-clause-second : goal.returns-clause-second
returns-clause-second c =
    let key : List ℕ = c.args.self.now in
    let block : List ℕ = c.args.block2 in
    let hk : IsBlock key = rw (← c.self.view_is) c.self.invariant.0 in
    let hb : IsBlock block = vector_is_block block c.fits-block2 in
    let e0 = start_is block key c.self.inside.first c.entered-2.result c.fits-block2 c.self.invariant.0 c.self.view_is c.entered-2.ensures in
    let e1 = c.round_of_three-s1.ensures.second block hb e0 in
    let e2 = c.round_of_three-s2.ensures.second block hb e1 in
    let e3 = c.round_of_three-s3.ensures.second block hb e2 in
    let e4 = c.round_of_three-s4.ensures.second block hb e3 in
    let e5 = c.round_of_three-s5.ensures.second block hb e4 in
    let e6 = c.round_of_three-s6.ensures.second block hb e5 in
    let e7 = c.round_of_three-s7.ensures.second block hb e6 in
    let e8 = c.round_of_three-s8.ensures.second block hb e7 in
    let e9 = c.round_of_three-s9.ensures.second block hb e8 in
    end_is key block c.round_of_three-s9.result.1 c.last_round-2.result c.self.inside.last 9 hk c.fits-block2 (omega arith)
    (c.self.invariant.2 ∙ ap (λ (k : List ℕ). kept_last (round_key k 10)) c.self.view_is) c.last_round-2.ensures e9

pub returns-clause-third : goal.returns-clause-third
returns-clause-third c =
    let key : List ℕ = c.args.self.now in
    let block : List ℕ = c.args.block3 in
    let hk : IsBlock key = rw (← c.self.view_is) c.self.invariant.0 in
    let hb : IsBlock block = vector_is_block block c.fits-block3 in
    let e0 = start_is block key c.self.inside.first c.entered-3.result c.fits-block3 c.self.invariant.0 c.self.view_is c.entered-3.ensures in
    let e1 = c.round_of_three-s1.ensures.third block hb e0 in
    let e2 = c.round_of_three-s2.ensures.third block hb e1 in
    let e3 = c.round_of_three-s3.ensures.third block hb e2 in
    let e4 = c.round_of_three-s4.ensures.third block hb e3 in
    let e5 = c.round_of_three-s5.ensures.third block hb e4 in
    let e6 = c.round_of_three-s6.ensures.third block hb e5 in
    let e7 = c.round_of_three-s7.ensures.third block hb e6 in
    let e8 = c.round_of_three-s8.ensures.third block hb e7 in
    let e9 = c.round_of_three-s9.ensures.third block hb e8 in
    end_is key block c.round_of_three-s9.result.2 c.last_round-3.result c.self.inside.last 9 hk c.fits-block3 (omega arith)
    (c.self.invariant.2 ∙ ap (λ (k : List ℕ). kept_last (round_key k 10)) c.self.view_is) c.last_round-3.ensures e9
