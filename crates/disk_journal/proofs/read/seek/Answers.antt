use Rattle.std.proofs.Common.{◌≡◌, ◌<◌, ◌+◌, ℕ, List, length, drop, Some, refl, ◌∙◌, ap, subst, arith}
use Rattle.disk_journal.specs.Format.{kept}
use Rattle.disk_journal.specs.Journal.{place}
use Rattle.disk_journal.specs.Gates.{GateIs}
use Rattle.disk_journal.specs.declared.gate.Gate.{Gate}
use Rattle.disk_journal.specs.declared.gate.Gate.TheVariants.{Shut, Cut, Whole}
use Rattle.disk_journal.specs.Behinds.{HasWhole}
use Rattle.disk_journal.proofs.Places.{record_at}
use Rattle.disk_journal.proofs.Runs.{quiet_then}
use Rattle.disk_journal.proofs.read.seek.Goals as goal

-- a gate before a record that is whole is found so
never_shut : (n : ℕ) (rest : List ℕ) → GateIs Shut 1 rest → ⊥
never_shut n rest is = is refl

whole_only : (n m : ℕ) (rest : List ℕ) (bytes : List ℕ) → (has : HasWhole n bytes) → GateIs (Whole m) 1 has.0 → m ≡ n
whole_only n m rest bytes has is = omega (arith, has.2, is.1)

never_cut : (n : ℕ) (bytes : List ℕ) → (has : HasWhole n bytes) → GateIs Cut 1 has.0 → ⊥
never_cut n bytes has is = omega (arith, has.2, has.3, is.1)

pub returns-in-Shut-clause-found : goal.returns-in-Shut-clause-found
returns-in-Shut-clause-found g c = λ x told len end count first places has from lt.
    let inside : first + c.loop-done.done < count = omega (arith, lt) in
    let at = record_at end count places x (first + c.loop-done.done) has inside in
    let place_is = c.loop-done.invariant.at x told len end count first places has from (omega (arith, inside)) in
    let bytes = ap (λ (n : ℕ). drop n x) place_is ∙ at.whole.1 in
    let found = c.in_ok-length.ensures.found x (c.loop-done.invariant.quiet.same ∙ told) 1 at.whole.0 len bytes in
    absurd (never_shut 0 at.whole.0 (subst (λ (r : Gate). GateIs r 1 at.whole.0) c.in-Shut.is found))

pub returns-in-Cut-clause-found : goal.returns-in-Cut-clause-found
returns-in-Cut-clause-found g c = λ x told len end count first places has from lt.
    let inside : first + c.loop-done.done < count = omega (arith, lt) in
    let at = record_at end count places x (first + c.loop-done.done) has inside in
    let place_is = c.loop-done.invariant.at x told len end count first places has from (omega (arith, inside)) in
    let bytes = ap (λ (n : ℕ). drop n x) place_is ∙ at.whole.1 in
    let found = c.in_ok-length.ensures.found x (c.loop-done.invariant.quiet.same ∙ told) 1 at.whole.0 len bytes in
    absurd (never_cut _ _ at.whole (subst (λ (r : Gate). GateIs r 1 at.whole.0) c.in-Cut.is found))

pub loop-done-preserved : goal.loop-done-preserved
loop-done-preserved g c = record {
  quiet = quiet_then g.D.Disk.seen g.D.Disk.images g.D.Disk.moment g.D.Disk.images_since _ _ _ c.loop-done.invariant.quiet c.gate_at.ensures.quiet;
  within = omega arith;
  later = omega (arith, c.loop-done.invariant.later, c.gate_at.ensures.cause.later);
  at = λ x told len end count first places has from le.
      let inside : first + c.loop-done.done < count = omega (arith, le) in
      let at = record_at end count places x (first + c.loop-done.done) has inside in
      let place_is = c.loop-done.invariant.at x told len end count first places has from (omega (arith, inside)) in
      let bytes = ap (λ (n : ℕ). drop n x) place_is ∙ at.whole.1 in
      let found = c.in_ok-length.ensures.found x (c.loop-done.invariant.quiet.same ∙ told) 1 at.whole.0 len bytes in
      let is : c.in-Whole.length ≡ length at.body = whole_only _ _ at.whole.0 _ at.whole (subst (λ (r : Gate). GateIs r 1 at.whole.0) c.in-Whole.is found) in
      let next : first + c.loop-done.done + 1 ≡ first + (c.loop-done.done + 1) = omega arith in
      subst (λ (n : ℕ). c.loop-done.at + (5 + c.in-Whole.length) ≡ place n (kept end x)) next (omega (arith, at.next, place_is, is));
}

pub returns-clause-found : goal.returns-clause-found
returns-clause-found g c = λ x told len end count first places has from lt.
    let done : c.loop-done.done ≡ c.args.steps = omega (arith, c.loop-done.invariant.within) in
    let place_is = c.loop-done.invariant.at x told len end count first places has from (omega (arith, done, lt)) in
    ap Some (place_is ∙ ap (λ (n : ℕ). place (first + n) (kept end x)) done)
