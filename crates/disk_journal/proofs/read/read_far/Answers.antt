use Rattle.std.proofs.Common.{◌≡◌, ◌+◌, ◌-◌, ◌<◌, ◌^◌, ℕ, length, drop, take, Some, sym, ◌∙◌, ap, subst, arith, length-drop}
use Rattle.disk_journal.specs.Format.{kept}
use Rattle.disk_journal.specs.Journal.{place}
use Rattle.disk_journal.specs.Behinds.{HasWhole}
use Rattle.disk_journal.proofs.Places.{record_at}
use Rattle.disk_journal.proofs.read.read_far.Goals as goal

pub returns-in_ok-record_at-in-Some-clause-found : goal.returns-in_ok-record_at-in-Some-clause-found
returns-in_ok-record_at-in-Some-clause-found g c = λ x told len end count places has lt marked.
    let from = c.before-first.ensures.marked (kept end x) marked in
    let first = c.before-first.result.number in
    let sum : first + (c.args.k - first) ≡ c.args.k = omega (arith, c.before-first.ensures.before) in
    let found_at = sym c.in-Some.is ∙ c.in_ok-at.ensures.found x told len end count first places has from.1 (omega (arith, sum, lt)) in
    let place_is : c.in-Some.at ≡ place c.args.k (kept end x) = (let e : c.in-Some.at ≡ place (first + (c.args.k - first)) (kept end x) = cc found_at in e) ∙ ap (λ (n : ℕ). place n (kept end x)) sum in
    let at = record_at end count places x c.args.k has lt in
    let whole = subst (λ (n : ℕ). HasWhole (length at.body) (drop n x)) (sym place_is) at.whole in
    let body_is = ap (λ (n : ℕ). take (length at.body) (drop (n + 5) x)) place_is ∙ at.body_is in
    let out = c.in_ok-record_at-in-Some.ensures.found x (c.seek.ensures.quiet.same ∙ told) len at.body whole body_is in
    let long : place c.args.k (kept end x) + 5 + length at.body < length x = omega (arith, at.whole.3, ap length at.whole.1, length-drop (place c.args.k (kept end x)) x) in
    let size : length c.as_slice.result.now ≡ length at.body = ap length (c.as_slice.ensures.value ∙ out) in
    let fits : c.in-Some.at + 5 + length c.as_slice.result.now < 2 ^ 64 = omega (arith, place_is, size, long, len, c.ranges.len.fits) in
    let next : c.behind.result ≡ place (c.args.k + 1) (kept end x) = omega (arith, c.behind.ensures fits, place_is, size, at.next) in
    (at.kth ∙ ap Some (sym out), (omega (arith, lt, has.counts), next))

pub returns-in-None-clause-found : goal.returns-in-None-clause-found
returns-in-None-clause-found g c = λ x told len end count places has lt marked.
    let from = c.before-first.ensures.marked (kept end x) marked in
    let first = c.before-first.result.number in
    let sum : first + (c.args.k - first) ≡ c.args.k = omega (arith, c.before-first.ensures.before) in
    let found_at = sym c.in-None.is ∙ c.in_ok-at.ensures.found x told len end count first places has from.1 (omega (arith, sum, lt)) in
    absurd (cc found_at)
