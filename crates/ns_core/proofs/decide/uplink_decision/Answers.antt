use Rattle.std.proofs.Common.{◌≡◌, List, ℕ, true, false, None, Some, sym, ap, ◌∙◌, subst}
use Rattle.std.proofs.lemmas.Result.{IfOk-weaker}
use Rattle.wire_ids.specs.declared.address.DevAddr.{DevAddr}
use Rattle.key_vault.specs.Table.{nwk_at}
use Rattle.entry_codec.specs.Machine.{lapse}
use Rattle.js_core.specs.Frames.{join_up_of, wrong_size}
use Rattle.js_core.specs.Home.{sender_found}
use Rattle.exchanges.specs.Frames.{addr_of, is_data}
use Rattle.ns_core.specs.Heard.{Data, Join}
use Rattle.ns_core.specs.Speakers.{speaker_of}
use Rattle.ns_core.proofs.Rules.{comes, decided_as, frame_said, heard_data, heard_join, size_said}
use Rattle.ns_core.proofs.decide.uplink_decision.Goals as goal

pub returns-then-wrong_size : goal.returns-then-wrong_size
returns-then-wrong_size g c =
    let wrong = subst (λ (frame : List ℕ). wrong_size frame ≡ true) c.as_slice-frame.ensures (sym c.wrong_size.ensures ∙ c.if-wrong_size.true) in
    IfOk-weaker c.refusal_decision.result _ _ (λ d h. h ∙ size_said c.args.tables.now (nwk_at c.args.vault.now) (lapse c.args.now.0 c.args.state.now.now) c.args.head c.args.request.now wrong) c.refusal_decision.ensures

pub returns-in-Some : goal.returns-in-Some
returns-in-Some g c =
    let config = c.args.tables.now in
    let nwk = nwk_at c.args.vault.now in
    let m = lapse c.args.now.0 c.args.state.now.now in
    let request = c.args.request.now in
    let up = c.in-Some.up in
    let is_up = subst (λ (frame : List ℕ). join_up_of frame ≡ Some up) c.as_slice-frame.ensures (sym c.in-Some.ensures.fields) in
    IfOk-weaker c.activation_decision.result _ _
    (λ d h. h ∙ decided_as config nwk m c.args.head request (Join up (sender_found config m up)) (heard_join config m request.phy_payload up is_up)) c.activation_decision.ensures

pub returns-in-Some-data_up : goal.returns-in-Some-data_up
returns-in-Some-data_up g c =
    let config = c.args.tables.now in
    let nwk = nwk_at c.args.vault.now in
    let m = lapse c.args.now.0 c.args.state.now.now in
    let request = c.args.request.now in
    let none = subst (λ (frame : List ℕ). join_up_of frame ≡ None) c.as_slice-frame.ensures (sym c.in_default.ensures.fields) in
    let form = subst (λ (frame : List ℕ). is_data frame ≡ true) c.as_slice-frame.ensures (sym c.in-Some-data_up.ensures.form) in
    let addr = subst (λ (frame : List ℕ). addr_of frame ≡ c.in-Some-data_up.up.addr) c.as_slice-frame.ensures c.in-Some-data_up.ensures.fields.addr in
    IfOk-weaker c.data_decision.result _ _
    (λ d h. h ∙ (ap (λ (a : DevAddr). comes config nwk m c.args.head request (Data (speaker_of config m a))) (sym addr)
    ∙ decided_as config nwk m c.args.head request (Data (speaker_of config m (addr_of request.phy_payload))) (heard_data config m request.phy_payload none form))) c.data_decision.ensures

pub returns-in-None : goal.returns-in-None
returns-in-None g c =
    let sized = subst (λ (frame : List ℕ). wrong_size frame ≡ false) c.as_slice-frame.ensures (sym c.wrong_size.ensures ∙ c.if-wrong_size.false) in
    let none = subst (λ (frame : List ℕ). join_up_of frame ≡ None) c.as_slice-frame.ensures (sym c.in_default.ensures.fields) in
    let other = subst (λ (frame : List ℕ). is_data frame ≡ false) c.as_slice-frame.ensures (sym c.in-None.ensures.form) in
    IfOk-weaker c.refusal_decision-in-None.result _ _ (λ d h. h ∙ frame_said c.args.tables.now (nwk_at c.args.vault.now) (lapse c.args.now.0 c.args.state.now.now) c.args.head c.args.request.now sized none other) c.refusal_decision-in-None.ensures
