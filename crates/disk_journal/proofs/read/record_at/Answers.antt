use Rattle.std.proofs.Common.{◌≡◌, ◌+◌, ◌<◌, ℕ, List, length, take, drop, refl, ◌∙◌, ap, subst, arith, length-drop}
use Rattle.std.proofs.lemmas.List.{with_items_is}
use Rattle.disk_journal.specs.Gates.{GateIs}
use Rattle.disk_journal.specs.declared.gate.Gate.{Gate}
use Rattle.disk_journal.proofs.read.record_at.Goals as goal

pub returns-in-Shut-clause-found : goal.returns-in-Shut-clause-found
returns-in-Shut-clause-found g c = λ x told len body has is.
    let found = c.in_ok-length.ensures.found x told 1 has.0 len has.1 in
    absurd ((subst (λ (r : Gate). GateIs r 1 has.0) c.in-Shut.is found) refl)

pub returns-in-Cut-clause-found : goal.returns-in-Cut-clause-found
returns-in-Cut-clause-found g c = λ x told len body has is.
    let found = c.in_ok-length.ensures.found x told 1 has.0 len has.1 in
    let short = subst (λ (r : Gate). GateIs r 1 has.0) c.in-Cut.is found in
    absurd (omega (arith, short.1, has.2, has.3))

pub returns-in_ok-got-in-Whole-clause-found : goal.returns-in_ok-got-in-Whole-clause-found
returns-in_ok-got-in-Whole-clause-found g c = λ x told len body has is.
    let found = c.in_ok-length.ensures.found x told 1 has.0 len has.1 in
    let whole = subst (λ (r : Gate). GateIs r 1 has.0) c.in-Whole.is found in
    let length_is : c.in-Whole.length ≡ length body = omega (arith, whole.1, has.2) in
    let now = c.gate_at.ensures.quiet.same ∙ told in
    let size : c.resize.new.self.len ≡ c.in-Whole.length = omega (arith, c.in_ok-resize-in-Whole.ensures.len) in
    let long : length c.read.new.room ≡ c.resize.new.self.len = omega (arith, c.read.auto.room, c.as_mut_slice.ensures.len) in
    let lies : c.args.at + 5 + c.in-Whole.length < length x = omega (arith, whole.2, ap (λ (l : List ℕ). length l) has.1, length-drop c.args.at x) in
    let got : c.in_ok-got-in-Whole.got ≡ length body = omega (arith, c.in_ok-got-in-Whole.ensures.count x now, long, size, lies, length_is) in
    c.truncate.ensures.items
    ∙ ap (λ (l : List ℕ). take c.in_ok-got-in-Whole.got l) (with_items_is c.resize.new.self c.read.new.room long)
    ∙ c.in_ok-got-in-Whole.ensures.bytes x now
    ∙ ap (λ (n : ℕ). take n (drop (c.args.at + 5) x)) got
    ∙ is
