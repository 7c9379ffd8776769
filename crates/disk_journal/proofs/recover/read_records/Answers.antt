use Rattle.std.proofs.Common.{◌≡◌, Bool, sym, ◌∙◌, ap, subst, arith}
use Rattle.std.specs.Prelude.{Err}
use Rattle.disk_journal.specs.Format.{journal_of}
use Rattle.disk_journal.specs.Walked.{EndsAt}
use Rattle.disk_journal.proofs.Records.{journal_shut}
use Rattle.disk_journal.proofs.Recovered.{closing, closed_reads, closed_rest, told_before}
use Rattle.disk_journal.proofs.Results.{passed}
use Rattle.disk_journal.proofs.Runs.{quiet_then, quiet_leaves}
use Rattle.disk_journal.proofs.recover.read_records.Goals as goal

pub returns-in_err-check_mark-clause-foreign : goal.returns-in_err-check_mark-clause-foreign
returns-in_err-check_mark-clause-foreign g c = λ place is.
    (λ x told. c.check_mark.ensures.foreign place (c.in_err-check_mark.was ∙ ap Err (passed c.from_residual.result _ _ c.from_residual.ensures.1 is)) x told (let at = c.requires.settled x told in omega (arith, at.length_is, c.requires.long)), c.check_mark.ensures.quiet.same)

pub returns-in_err-check_mark-clause-any_moment : goal.returns-in_err-check_mark-clause-any_moment
returns-in_err-check_mark-clause-any_moment g c = λ x told.
    let D = g.D.Disk in
    quiet_leaves D.seen D.images D.moment D.images_since (λ y. journal_of y ≡ journal_of x) c.args.disk.now c.check_mark.new.disk c.check_mark.ensures.quiet (g.met.D.Disk.since_is_now c.args.disk.now) (λ y now. ap journal_of ((c.requires.settled x told).only y now))

pub walk-requires-clause-marked : goal.walk-requires-clause-marked
walk-requires-clause-marked g c = λ x now.
    let told = sym c.check_mark.ensures.quiet.same ∙ now in
    let at = c.requires.settled x told in
    (at.length_is, c.in_ok-check_mark.ensures.marked x told (omega (arith, at.length_is, c.requires.long)))

pub returns-in_err-walked-clause-any_moment : goal.returns-in_err-walked-clause-any_moment
returns-in_err-walked-clause-any_moment g c = λ x told.
    let D = g.D.Disk in
    let read = quiet_then D.seen D.images D.moment D.images_since _ _ _ c.check_mark.ensures.quiet c.walk.ensures.quiet in
    quiet_leaves D.seen D.images D.moment D.images_since (λ y. journal_of y ≡ journal_of x) c.args.disk.now c.walk.new.disk read (g.met.D.Disk.since_is_now c.args.disk.now) (λ y now. ap journal_of ((c.requires.settled x told).only y now))

pub returns-in_err-set_gate-clause-any_moment : goal.returns-in_err-set_gate-clause-any_moment
returns-in_err-set_gate-clause-any_moment g c = λ x told.
    let D = g.D.Disk in
    let w = c.in_ok-walked.walked in
    let there = c.check_mark.ensures.quiet.same ∙ told in
    let read = quiet_then D.seen D.images D.moment D.images_since _ _ _ c.check_mark.ensures.quiet c.walk.ensures.quiet in
    let cut = subst (λ (b : Bool). EndsAt b w.end x) c.if-walked.true (c.in_ok-walked.ensures.ends x there) in
    closing D.seen D.images D.moment D.images_since c.args.disk.now c.walk.new.disk c.set_gate.new.disk read (g.met.D.Disk.since_is_now c.args.disk.now) w.end w.count c.walk.new.places x told (c.requires.settled x told).only (c.in_ok-walked.ensures.found x there) cut.1 cut.2 c.set_gate.ensures.keeps

pub returns-in_ok-set_gate-clause-any_moment : goal.returns-in_ok-set_gate-clause-any_moment
returns-in_ok-set_gate-clause-any_moment g c = λ x told.
    let D = g.D.Disk in
    let w = c.in_ok-walked.walked in
    let there = c.check_mark.ensures.quiet.same ∙ told in
    let read = quiet_then D.seen D.images D.moment D.images_since _ _ _ c.check_mark.ensures.quiet c.walk.ensures.quiet in
    let cut = subst (λ (b : Bool). EndsAt b w.end x) c.if-walked.true (c.in_ok-walked.ensures.ends x there) in
    closing D.seen D.images D.moment D.images_since c.args.disk.now c.walk.new.disk c.set_gate.new.disk read (g.met.D.Disk.since_is_now c.args.disk.now) w.end w.count c.walk.new.places x told (c.requires.settled x told).only (c.in_ok-walked.ensures.found x there) cut.1 cut.2 c.set_gate.ensures.keeps

pub returns-in_ok-set_gate-clause-reads : goal.returns-in_ok-set_gate-clause-reads
returns-in_ok-set_gate-clause-reads g c = λ x told.
    let D = g.D.Disk in
    let w = c.in_ok-walked.walked in
    let there = c.check_mark.ensures.quiet.same ∙ told in
    let read = quiet_then D.seen D.images D.moment D.images_since _ _ _ c.check_mark.ensures.quiet c.walk.ensures.quiet in
    let cut = subst (λ (b : Bool). EndsAt b w.end x) c.if-walked.true (c.in_ok-walked.ensures.ends x there) in
    closed_reads D.seen D.images D.moment D.images_since c.args.disk.now c.walk.new.disk c.set_gate.new.disk read (g.met.D.Disk.since_is_now c.args.disk.now) w.end w.count c.walk.new.places x told (c.requires.settled x told).only (c.in_ok-walked.ensures.found x there) cut.1 cut.2 c.in_ok-set_gate.ensures.set

pub returns-in_ok-set_gate-clause-rests : goal.returns-in_ok-set_gate-clause-rests
returns-in_ok-set_gate-clause-rests g c =
    let D = g.D.Disk in
    let w = c.in_ok-walked.walked in
    let read = quiet_then D.seen D.images D.moment D.images_since _ _ _ c.check_mark.ensures.quiet c.walk.ensures.quiet in
    told_before (D.seen c.args.disk.now) (D.seen c.set_gate.new.disk) _ (λ none. c.set_gate.ensures.untold (read.same ∙ none)) (λ x told.
    let there = c.check_mark.ensures.quiet.same ∙ told in
    let cut = subst (λ (b : Bool). EndsAt b w.end x) c.if-walked.true (c.in_ok-walked.ensures.ends x there) in
    closed_rest D.seen D.images D.moment D.images_since c.args.disk.now c.walk.new.disk c.set_gate.new.disk read (g.met.D.Disk.since_is_now c.args.disk.now) w.end w.count c.walk.new.places x told (c.requires.settled x told).only (c.in_ok-walked.ensures.found x there) cut.1 cut.2 c.in_ok-set_gate.ensures.set)

pub returns-in_ok-set_gate-clause-own : goal.returns-in_ok-set_gate-clause-own
returns-in_ok-set_gate-clause-own g c = λ x told. c.in_ok-check_mark.ensures.marked x told (let at = c.requires.settled x told in omega (arith, at.length_is, c.requires.long))

pub returns-else-walked-clause-own : goal.returns-else-walked-clause-own
returns-else-walked-clause-own g c = λ x told. c.in_ok-check_mark.ensures.marked x told (let at = c.requires.settled x told in omega (arith, at.length_is, c.requires.long))

pub returns-else-walked-clause-any_moment : goal.returns-else-walked-clause-any_moment
returns-else-walked-clause-any_moment g c = λ x told.
    let D = g.D.Disk in
    let read = quiet_then D.seen D.images D.moment D.images_since _ _ _ c.check_mark.ensures.quiet c.walk.ensures.quiet in
    quiet_leaves D.seen D.images D.moment D.images_since (λ y. journal_of y ≡ journal_of x) c.args.disk.now c.walk.new.disk read (g.met.D.Disk.since_is_now c.args.disk.now) (λ y now. ap journal_of ((c.requires.settled x told).only y now))

pub returns-else-walked-clause-reads : goal.returns-else-walked-clause-reads
returns-else-walked-clause-reads g c = λ x told.
    let there = c.check_mark.ensures.quiet.same ∙ told in
    let shut = subst (λ (b : Bool). EndsAt b c.in_ok-walked.walked.end x) c.if-walked.false (c.in_ok-walked.ensures.ends x there) in
    (x, c.walk.ensures.quiet.same ∙ there, journal_shut (c.in_ok-walked.ensures.found x there).front x shut)

pub returns-else-walked-clause-rests : goal.returns-else-walked-clause-rests
returns-else-walked-clause-rests g c = λ x now.
    let there = sym c.walk.ensures.quiet.same ∙ now in
    let told = sym c.check_mark.ensures.quiet.same ∙ there in
    let shut = subst (λ (b : Bool). EndsAt b c.in_ok-walked.walked.end x) c.if-walked.false (c.in_ok-walked.ensures.ends x there) in
    record { has = c.in_ok-walked.ensures.found x there; shut = shut; durable = λ y left. (c.requires.settled x told).only y (c.check_mark.ensures.quiet.none_new y (c.walk.ensures.quiet.none_new y left)) }
