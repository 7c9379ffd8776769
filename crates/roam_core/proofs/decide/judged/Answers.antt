use Rattle.std.proofs.Common.{◌≡◌, None, false, sym, ap, not, ◌∙◌}
use Rattle.std.proofs.lemmas.Result.{IfOk-weaker}
use Rattle.key_vault.specs.Table.{app_at, nwk_at}
use Rattle.entry_codec.specs.Kept.{kept_answer}
use Rattle.entry_codec.specs.LookUps.{is_asked}
use Rattle.entry_codec.specs.Machine.{lapse}
use Rattle.roam_core.specs.Order.{wrong_receiver, wrong_sender, wrong_type}
use Rattle.roam_core.proofs.Outcomes.{judged_part}
use Rattle.roam_core.proofs.decide.judged.Goals as goal

pub returns : goal.returns
returns g c =
    let config = c.args.tables.now in
    let head = c.args.head in
    let m = lapse c.args.now.0 c.args.state.now.now in
    let known : wrong_sender config head ≡ false = ap not (sym c.is_known.ensures ∙ c.if-not-is_known.false) in
    let here : wrong_receiver config head ≡ false = ap not (rw c.receiver.ensures at (sym c.reaches.ensures ∙ c.if-not-reaches.false)) in
    let may : wrong_type config head c.args.request ≡ false = ap not (rw c.sender.ensures at (sym c.may_send.ensures ∙ c.if-not-may_send.false)) in
    let none : kept_answer head.sender c.args.body.now c.args.state.now.kept ≡ None = sym c.in_default.ensures in
    let open_asks : is_asked c.args.body.now m ≡ false = sym c.is_asked.ensures ∙ c.if-is_asked.false in
    IfOk-weaker c.by_part.result _ _ (λ d h. h ∙ sym (judged_part config (nwk_at c.args.vault.now) (app_at c.args.vault.now) m head c.args.request (kept_answer head.sender c.args.body.now c.args.state.now.kept) (is_asked c.args.body.now m) known here may none open_asks)) c.by_part.ensures
