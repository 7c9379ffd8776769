use Rattle.std.proofs.Common.{◌≡◌, ℕ, List, length, take, drop, sym, ◌∙◌, ap, subst}
use Rattle.std.proofs.lemmas.Bool.{both_ways}
use Rattle.std.proofs.lemmas.List.{drop-drop}
use Rattle.disk_journal.specs.Format.{records_from}
use Rattle.disk_journal.specs.Behinds.{HasWhole}
use Rattle.disk_journal.specs.Gates.{GateIs}
use Rattle.disk_journal.specs.declared.gate.Gate.{Gate}
use Rattle.disk_journal.specs.declared.gate.Gate.TheVariants.{Shut, Cut}
use Rattle.disk_journal.proofs.Reading.{next_gate, none_behind, whole_behind, other_length, other_bytes, other_more, tried_one}
use Rattle.disk_journal.proofs.behind.look_at_record.Goals as goal

pub returns-then-size-tried-clause-behind : goal.returns-then-size-tried-clause-behind
returns-then-size-tried-clause-behind g c = λ x told len has. other_length c.args.size (drop c.args.end x) c.args.tried.now has c.if-size-tried.true

pub returns-then-not-branch-clause-behind : goal.returns-then-not-branch-clause-behind
returns-then-not-branch-clause-behind g c = λ x told len has.
    let same : c.args.size ≡ length c.args.tried.now = c.if-size-tried.false in
    other_bytes c.args.size (drop c.args.end x) c.args.tried.now has same
    (λ stands. absurd (both_ways _ c.if-not-branch.true ((c.in_ok-stands.ensures.yes x told).1 (ap (λ (l : List ℕ). take (length c.args.tried.now) l) (sym (drop-drop 5 c.args.end x)) ∙ stands))))

pub returns-in-Whole-clause-behind : goal.returns-in-Whole-clause-behind
returns-in-Whole-clause-behind g c = λ x told len has.
    let at = next_gate x c.args.end c.args.size has in
    let found = c.in_ok-gate_at.ensures.found x (c.stands.ensures.quiet.same ∙ told) at.0 at.1 len at.2 in
    let is = subst (λ (r : Gate). GateIs r at.0 at.1) c.in-Whole.is found in
    other_more c.args.size (drop c.args.end x) c.args.tried.now has c.in-Whole.length (subst (HasWhole c.in-Whole.length) (sym at.3) (whole_behind c.in-Whole.length at.0 at.1 is))

pub returns-in-Shut-clause-behind : goal.returns-in-Shut-clause-behind
returns-in-Shut-clause-behind g c = λ x told len has.
    let at = next_gate x c.args.end c.args.size has in
    let found = c.in_ok-gate_at.ensures.found x (c.stands.ensures.quiet.same ∙ told) at.0 at.1 len at.2 in
    let is = subst (λ (r : Gate). GateIs r at.0 at.1) c.in-Shut.is found in
    let same : c.args.size ≡ length c.args.tried.now = c.if-size-tried.false in
    let stands = ap (λ (l : List ℕ). take (length c.args.tried.now) l) (drop-drop 5 c.args.end x) ∙ (c.in_ok-stands.ensures.yes x told).0 c.if-not-branch.false in
    tried_one c.args.size (drop c.args.end x) c.args.tried.now has same stands (ap (records_from 0) at.3 ∙ none_behind Shut at.0 at.1 is (λ n no. absurd (cc no)))

pub returns-in-Cut-clause-behind : goal.returns-in-Cut-clause-behind
returns-in-Cut-clause-behind g c = λ x told len has.
    let at = next_gate x c.args.end c.args.size has in
    let found = c.in_ok-gate_at.ensures.found x (c.stands.ensures.quiet.same ∙ told) at.0 at.1 len at.2 in
    let is = subst (λ (r : Gate). GateIs r at.0 at.1) c.in-Cut.is found in
    let same : c.args.size ≡ length c.args.tried.now = c.if-size-tried.false in
    let stands = ap (λ (l : List ℕ). take (length c.args.tried.now) l) (drop-drop 5 c.args.end x) ∙ (c.in_ok-stands.ensures.yes x told).0 c.if-not-branch.false in
    tried_one c.args.size (drop c.args.end x) c.args.tried.now has same stands (ap (records_from 0) at.3 ∙ none_behind Cut at.0 at.1 is (λ n no. absurd (cc no)))
