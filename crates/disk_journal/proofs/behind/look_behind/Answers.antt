use Rattle.std.proofs.Common.{◌+◌, get_or, drop, sym, ◌∙◌, ap, subst}
use Rattle.std.proofs.lemmas.Result.{IfOk-weaker}
use Rattle.disk_journal.specs.Format.{records_from}
use Rattle.disk_journal.specs.Gates.{GateIs}
use Rattle.disk_journal.specs.Behinds.{HasWhole}
use Rattle.disk_journal.specs.declared.gate.Gate.{Gate}
use Rattle.disk_journal.specs.declared.gate.Gate.TheVariants.{Shut, Cut}
use Rattle.disk_journal.proofs.Reading.{at_gate, none_behind, whole_behind}
use Rattle.disk_journal.proofs.behind.look_behind.Goals as goal

pub returns-in-Shut-clause-behind : goal.returns-in-Shut-clause-behind
returns-in-Shut-clause-behind g c = λ x told within.
    let at = at_gate x c.args.end within in
    let now = c.len.ensures.seen ∙ c.sync.ensures.seen ∙ told in
    let found = c.in_ok-gate_at.ensures.found x now _ _ (c.in_ok-len.ensures.length x (c.sync.ensures.seen ∙ told)) at in
    let is = subst (λ (r : Gate). GateIs r (get_or x c.args.end 0) (drop (c.args.end + 1) x)) c.in-Shut.is found in
    ap (records_from 0) at ∙ none_behind Shut _ _ is (λ n no. absurd (cc no))

pub returns-in-Cut-clause-behind : goal.returns-in-Cut-clause-behind
returns-in-Cut-clause-behind g c = λ x told within.
    let at = at_gate x c.args.end within in
    let now = c.len.ensures.seen ∙ c.sync.ensures.seen ∙ told in
    let found = c.in_ok-gate_at.ensures.found x now _ _ (c.in_ok-len.ensures.length x (c.sync.ensures.seen ∙ told)) at in
    let is = subst (λ (r : Gate). GateIs r (get_or x c.args.end 0) (drop (c.args.end + 1) x)) c.in-Cut.is found in
    ap (records_from 0) at ∙ none_behind Cut _ _ is (λ n no. absurd (cc no))

pub returns-in-Whole-clause-behind : goal.returns-in-Whole-clause-behind
returns-in-Whole-clause-behind g c =
    IfOk-weaker c.look_at_record.result _ _ (λ r behind. λ x told within.
    let at = at_gate x c.args.end within in
    let before = c.sync.ensures.seen ∙ told in
    let now = c.len.ensures.seen ∙ before in
    let length_is = c.in_ok-len.ensures.length x before in
    let found = c.in_ok-gate_at.ensures.found x now _ _ length_is at in
    let is = subst (λ (r : Gate). GateIs r (get_or x c.args.end 0) (drop (c.args.end + 1) x)) c.in-Whole.is found in
    behind x (c.gate_at.ensures.quiet.same ∙ now) length_is (subst (HasWhole c.in-Whole.length) (sym at) (whole_behind c.in-Whole.length _ _ is))) c.look_at_record.ensures.behind
