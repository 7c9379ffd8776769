use Rattle.std.proofs.Common.{◌∙◌, sym}
use Rattle.join_frames.proofs.AcceptFacts.{mic_under}
use Rattle.join_frames.proofs.open.has_mic.Goals as goal

pub returns : goal.returns
returns c =
    let is = mic_under c.args.nwk_key.now c.js_int_of.result c.accept_mic.result c.args.accept.now c.accept_mic.ensures c.js_int_of.ensures in
    (λ e. c.same_bytes.ensures.0 e ∙ is, λ e. c.same_bytes.ensures.1 (e ∙ sym is))
