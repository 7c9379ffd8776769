use Rattle.std.proofs.Common.{◌≤◌, length, Some, sym, ◌∙◌, ap, subst, arith}
use Rattle.std.proofs.lemmas.Option.{same_Some}
use Rattle.std.proofs.lemmas.Result.{IfOk-weaker, on_ok_weaker}
use Rattle.disk_journal.specs.Journal.{AtRest}
use Rattle.disk_journal.proofs.Recovered.{fresh_moments, looked_then, not_foreign, told_before}
use Rattle.disk_journal.proofs.Walking.{fresh_long, fresh_rests, short_journal}
use Rattle.disk_journal.proofs.recover.recover.Goals as goal

pub make_fresh-requires-clause-settled : goal.make_fresh-requires-clause-settled
make_fresh-requires-clause-settled g c = λ x now. c.in_ok-len.ensures.settled x (sym c.settle.ensures.quiet.same ∙ now)

pub read_records-requires-clause-settled : goal.read_records-requires-clause-settled
read_records-requires-clause-settled g c = λ x now. c.in_ok-len.ensures.settled x (sym c.settle.ensures.quiet.same ∙ now)

pub returns-in_err-make_fresh-clause-any_moment : goal.returns-in_err-make_fresh-clause-any_moment
returns-in_err-make_fresh-clause-any_moment g c = λ x told.
    let D = g.D.Disk in
    let old = c.args.disk.now in
    let short : length x ≤ 17 = (let at = c.in_ok-len.ensures.settled x told in omega (arith, at.length_is, c.if-len.true)) in
    looked_then D.seen D.images D.moment D.images_since old c.settle.new.disk c.make_fresh.new.disk x c.settle.ensures.quiet (g.met.D.Disk.since_is_now old) (g.met.D.Disk.seen_is_image old x told)
    (fresh_moments D.seen D.images D.moment D.images_since c.settle.new.disk c.make_fresh.new.disk x short (c.make_fresh.ensures.keeps x (c.settle.ensures.quiet.same ∙ told)))

pub returns-then-len-clause-any_moment : goal.returns-then-len-clause-any_moment
returns-then-len-clause-any_moment g c = λ x told.
    let D = g.D.Disk in
    let old = c.args.disk.now in
    let short : length x ≤ 17 = (let at = c.in_ok-len.ensures.settled x told in omega (arith, at.length_is, c.if-len.true)) in
    looked_then D.seen D.images D.moment D.images_since old c.settle.new.disk c.make_fresh.new.disk x c.settle.ensures.quiet (g.met.D.Disk.since_is_now old) (g.met.D.Disk.seen_is_image old x told)
    (fresh_moments D.seen D.images D.moment D.images_since c.settle.new.disk c.make_fresh.new.disk x short (c.make_fresh.ensures.keeps x (c.settle.ensures.quiet.same ∙ told)))

pub returns-then-len-clause-reads : goal.returns-then-len-clause-reads
returns-then-len-clause-reads g c = λ x told.
    let short : length x ≤ 17 = (let at = c.in_ok-len.ensures.settled x told in omega (arith, at.length_is, c.if-len.true)) in
    let done = c.in_ok-make_fresh.ensures.fresh x (c.settle.ensures.quiet.same ∙ told) in
    (done.0, done.1, short_journal x short ∙ ap Some (sym (fresh_rests c.args.places.now done.0 (g.D.Disk.images c.make_fresh.new.disk) done.2 done.3).1))

pub returns-then-len-clause-rests : goal.returns-then-len-clause-rests
returns-then-len-clause-rests g c =
    let D = g.D.Disk in
    told_before (D.seen c.args.disk.now) (D.seen c.make_fresh.new.disk) _ (λ none. c.make_fresh.ensures.untold (c.settle.ensures.quiet.same ∙ none)) (λ x told y now.
    let done = c.in_ok-make_fresh.ensures.fresh x (c.settle.ensures.quiet.same ∙ told) in
    subst (AtRest 16 0 c.args.places.now (D.images c.make_fresh.new.disk)) (same_Some done.0 y (sym done.1 ∙ now)) (fresh_rests c.args.places.now done.0 (D.images c.make_fresh.new.disk) done.2 done.3).0)

pub returns-then-len-clause-own : goal.returns-then-len-clause-own
returns-then-len-clause-own g c = λ x told place foreign. (let at = c.in_ok-len.ensures.settled x told in absurd (omega (arith, at.length_is, c.if-len.true, foreign.long)))

pub returns-clause-foreign : goal.returns-clause-foreign
returns-clause-foreign g c = λ place is.
    let found = c.read_records.ensures.foreign place is in
    (λ x told. found.0 x (c.settle.ensures.quiet.same ∙ told), found.1 ∙ c.settle.ensures.quiet.same)

pub returns-clause-own : goal.returns-clause-own
returns-clause-own g c = on_ok_weaker c.read_records.result (λ own. λ x told. not_foreign x (own x (c.settle.ensures.quiet.same ∙ told))) c.read_records.ensures.own

pub returns-clause-reads : goal.returns-clause-reads
returns-clause-reads g c = IfOk-weaker c.read_records.result _ _ (λ w reads. λ x told. reads x (c.settle.ensures.quiet.same ∙ told)) c.read_records.ensures.reads

pub returns-clause-any_moment : goal.returns-clause-any_moment
returns-clause-any_moment g c = λ x told.
    let D = g.D.Disk in
    let old = c.args.disk.now in
    looked_then D.seen D.images D.moment D.images_since old c.settle.new.disk c.read_records.new.disk x c.settle.ensures.quiet (g.met.D.Disk.since_is_now old) (g.met.D.Disk.seen_is_image old x told)
    (c.read_records.ensures.any_moment x (c.settle.ensures.quiet.same ∙ told))

pub returns-in_err-make_fresh-clause-left : goal.returns-in_err-make_fresh-clause-left
returns-in_err-make_fresh-clause-left g c = λ x told fresh. c.make_fresh.ensures.left x (c.settle.ensures.quiet.same ∙ told) fresh

pub returns-then-len-clause-left : goal.returns-then-len-clause-left
returns-then-len-clause-left g c = λ x told fresh. c.make_fresh.ensures.left x (c.settle.ensures.quiet.same ∙ told) fresh

pub returns-clause-left : goal.returns-clause-left
returns-clause-left g c = λ x told fresh. (let at = c.in_ok-len.ensures.settled x told in absurd (omega (arith, at.length_is, c.if-len.false, fresh_long x fresh)))
