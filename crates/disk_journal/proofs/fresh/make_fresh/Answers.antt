use Rattle.std.proofs.Common.{◌≤◌, ℕ, List, length, sym, ◌∙◌, subst, arith}
use Rattle.std.proofs.lemmas.Bool.{both_ways}
use Rattle.std.proofs.lemmas.Result.{on_ok_weaker}
use Rattle.disk_journal.proofs.Runs.{quiet_keeps, quiet_then_keeps}
use Rattle.disk_journal.proofs.fresh.make_fresh.Goals as goal

pub holds_fresh-requires : goal.holds_fresh-requires
holds_fresh-requires g c = record { settled = λ x told. (c.requires.settled x told).length_is }

pub returns-in_err-done-clause-keeps : goal.returns-in_err-done-clause-keeps
returns-in_err-done-clause-keeps g c = λ x told.
    let D = g.D.Disk in
    let at = c.requires.settled x told in
    let short : length x ≤ 17 = omega (arith, at.length_is, c.requires.short) in
    quiet_keeps D.seen D.images D.moment D.images_since (λ y. length y ≤ 17) c.args.disk.now c.holds_fresh.new.disk x c.holds_fresh.ensures.quiet (g.met.D.Disk.since_is_now c.args.disk.now) told short (λ y now. subst (λ (l : List ℕ). length l ≤ 17) (sym (at.only y now)) short)

pub returns-then-done-clause-keeps : goal.returns-then-done-clause-keeps
returns-then-done-clause-keeps g c = λ x told.
    let D = g.D.Disk in
    let at = c.requires.settled x told in
    let short : length x ≤ 17 = omega (arith, at.length_is, c.requires.short) in
    quiet_keeps D.seen D.images D.moment D.images_since (λ y. length y ≤ 17) c.args.disk.now c.holds_fresh.new.disk x c.holds_fresh.ensures.quiet (g.met.D.Disk.since_is_now c.args.disk.now) told short (λ y now. subst (λ (l : List ℕ). length l ≤ 17) (sym (at.only y now)) short)

pub returns-then-done-clause-fresh : goal.returns-then-done-clause-fresh
returns-then-done-clause-fresh g c = λ x told.
    let quiet = c.holds_fresh.ensures.quiet in
    (x, quiet.same ∙ told, (c.in_ok-done.ensures.exact x told).0 c.if-done.true, λ y now. (c.requires.settled x told).only y (quiet.none_new y now))

pub returns-clause-keeps : goal.returns-clause-keeps
returns-clause-keeps g c = λ x told.
    let D = g.D.Disk in
    let quiet = c.holds_fresh.ensures.quiet in
    let at = c.requires.settled x told in
    let short : length x ≤ 17 = omega (arith, at.length_is, c.requires.short) in
    let second = c.write_fresh.ensures.keeps x (quiet.same ∙ told) short (λ y now. at.only y (quiet.none_new y now)) in
    quiet_then_keeps D.seen D.images D.moment D.images_since (λ y. length y ≤ 17) c.args.disk.now c.holds_fresh.new.disk c.write_fresh.new.disk quiet (g.met.D.Disk.since_is_now c.args.disk.now) (λ y now. subst (λ (l : List ℕ). length l ≤ 17) (sym (at.only y now)) short) second

pub returns-clause-fresh : goal.returns-clause-fresh
returns-clause-fresh g c = on_ok_weaker c.write_fresh.result (λ fresh. λ x told. fresh x (c.holds_fresh.ensures.quiet.same ∙ told) (let at = c.requires.settled x told in omega (arith, at.length_is, c.requires.short))) c.write_fresh.ensures.fresh

pub returns-clause-left : goal.returns-clause-left
returns-clause-left g c = λ x told fresh. absurd (both_ways _ c.if-done.false ((c.in_ok-done.ensures.exact x told).1 fresh))
