use Rattle.std.proofs.Common.{rules, IsTrue, ◌≡◌, inl, inr, arith, subst, sym, ◌∙◌}
use Rattle.std.proofs.lemmas.Bool.{cases_lt}
use Rattle.data_frames.proofs.Halves.{enabled_low, f_half_of, mic_of_halves, s_half_of}
use Rattle.data_frames.specs.Mics.{Fits, HasFHalf, HasSHalf}
use Rattle.data_frames.proofs.mic.mic_up_ok.Goals as goal

pub returns-then-not-mic_f_ok-clause-none : goal.returns-then-not-mic_f_ok-clause-none
returns-then-not-mic_f_ok-clause-none c = λ k fits.
    let f = f_half_of c.args.keys.now c.args.up.now c.args.count c.args.conf c.args.rate k fits.1 in
    let yes : IsTrue c.mic_f_ok.result = c.mic_f_ok.ensures.1 f in
    cc

pub channels-init : goal.channels-init
channels-init c = λ k low fits. absurd (omega (arith, low))

pub returns-then-fits-clause-channel : goal.returns-then-fits-clause-channel
returns-then-fits-clause-channel c =
    let f : HasFHalf c.args.keys.now.f c.args.up.now c.args.count = c.mic_f_ok.ensures.0 c.if-not-mic_f_ok.false in
    let s = c.fits.ensures.0 c.if-fits.true in
    let s_half = subst (λ key. HasSHalf key c.args.up.now c.args.count c.args.conf c.args.rate c.channels.channel) (c.of-s.ensures ∙ c.new-round_keys.ensures) s.1 in
    record {
      fits = (s.0, mic_of_halves c.args.keys.now c.args.up.now c.args.count c.args.conf c.args.rate c.channels.channel s_half f);
      least = λ k fits. elim (cases_lt k c.channels.channel) [
        | inl low ↦ absurd (c.channels.invariant k low fits)
        | inr high ↦ high
      ];
    }

pub channels-preserved : goal.channels-preserved
channels-preserved c = λ k low fits.
    elim (cases_lt k c.channels.channel) [
      | inl less ↦ c.channels.invariant k less fits
      | inr high ↦
          let same : k ≡ c.channels.channel = omega (arith, low, high) in
          let here : Fits c.args.keys.now c.args.up.now c.args.count c.args.conf c.args.rate c.args.channels c.channels.channel = subst (Fits c.args.keys.now c.args.up.now c.args.count c.args.conf c.args.rate c.args.channels) same fits in
          let s = s_half_of c.args.keys.now c.args.up.now c.args.count c.args.conf c.args.rate c.channels.channel here.1 in
          let s_half = subst (λ key. HasSHalf key c.args.up.now c.args.count c.args.conf c.args.rate c.channels.channel) (sym (c.of-s.ensures ∙ c.new-round_keys.ensures)) s in
          let yes : IsTrue c.fits.result = c.fits.ensures.1 (here.0, s_half) in
          cc
    ]

pub returns-clause-none : goal.returns-clause-none
returns-clause-none c = λ k fits. c.channels.invariant k (omega (arith, enabled_low c.args.channels k (search rules) fits.0, c.channels-test.false)) fits
