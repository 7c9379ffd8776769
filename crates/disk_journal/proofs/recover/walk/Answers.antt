use Rattle.std.proofs.Common.{◌≡◌, ◌+◌, ◌%◌, ℕ, get_or, set, drop, refl, sym, ◌∙◌, ap, subst, arith, length-set}
use Rattle.disk_journal.specs.Format.{records_from}
use Rattle.disk_journal.specs.Gates.{GateIs}
use Rattle.disk_journal.specs.Journal.{HasRecords}
use Rattle.disk_journal.specs.Behinds.{HasWhole}
use Rattle.disk_journal.specs.declared.gate.Gate.{Gate}
use Rattle.disk_journal.specs.declared.gate.Gate.TheVariants.{Cut}
use Rattle.disk_journal.proofs.Reading.{none_behind, whole_behind}
use Rattle.disk_journal.proofs.Runs.{quiet_none, quiet_then}
use Rattle.disk_journal.proofs.Walking.{at_first, has_more, gate_is, shut_at}
use Rattle.disk_journal.proofs.recover.walk.Goals as goal

pub records-init : goal.records-init
records-init g c = record {
  quiet = quiet_none g.D.Disk.seen g.D.Disk.images g.D.Disk.moment g.D.Disk.images_since c.args.disk.now;
  later = omega arith;
  few = omega arith;
  size = c.requires.size;
  shows = λ x told. c.requires.shows x;
  has = λ x told. let marked = c.requires.marked x told in at_first c.args.places.now x (omega (arith, marked.0, c.requires.long)) marked.1;
}

pub gate_at-requires : goal.gate_at-requires
gate_at-requires g c = record { shows = λ x told. c.records.invariant.shows x (sym c.records.invariant.quiet.same ∙ told) }

pub records-preserved : goal.records-preserved
records-preserved g c = record {
  quiet = quiet_then g.D.Disk.seen g.D.Disk.images g.D.Disk.moment g.D.Disk.images_since _ _ _ c.records.invariant.quiet c.gate_at.ensures.quiet;
  later = omega (arith, c.records.invariant.later, c.gate_at.ensures.cause.later);
  few = omega (arith, c.records.invariant.few);
  size = length-set c.records.places (c.records.count % 2048) c.records.end ∙ c.records.invariant.size;
  shows = λ x told. c.in_ok-length.ensures.shows x (c.records.invariant.quiet.same ∙ told);
  has = λ x told.
      let has = c.records.invariant.has x told in
      let at = gate_is c.records.end c.records.count c.records.places x has in
      let found = c.in_ok-length.ensures.found x (c.records.invariant.quiet.same ∙ told) _ _ (c.requires.marked x told).0 at in
      let is = subst (λ (r : Gate). GateIs r (get_or x c.records.end 0) (drop (c.records.end + 1) x)) c.in-Whole.is found in
      let whole = subst (HasWhole c.in-Whole.length) (sym at) (whole_behind c.in-Whole.length _ _ is) in
      let end : c.records.end + 5 + c.in-Whole.length ≡ c.records.end + (5 + c.in-Whole.length) = omega arith in
      subst (λ (n : ℕ). HasRecords n (c.records.count + 1) (set c.records.places (c.records.count % 2048) c.records.end) x) end
      (has_more c.records.end c.records.count c.records.places x has c.in-Whole.length whole _ refl c.records.invariant.size);
}

pub returns-in-Shut-clause-ends : goal.returns-in-Shut-clause-ends
returns-in-Shut-clause-ends g c = λ x told.
    let has = c.records.invariant.has x told in
    let at = gate_is c.records.end c.records.count c.records.places x has in
    let found = c.in_ok-length.ensures.found x (c.records.invariant.quiet.same ∙ told) _ _ (c.requires.marked x told).0 at in
    shut_at c.records.end c.records.count c.records.places x has (subst (λ (r : Gate). GateIs r (get_or x c.records.end 0) (drop (c.records.end + 1) x)) c.in-Shut.is found)

pub returns-in-Cut-clause-ends : goal.returns-in-Cut-clause-ends
returns-in-Cut-clause-ends g c = λ x told.
    let has = c.records.invariant.has x told in
    let at = gate_is c.records.end c.records.count c.records.places x has in
    let found = c.in_ok-length.ensures.found x (c.records.invariant.quiet.same ∙ told) _ _ (c.requires.marked x told).0 at in
    let is = subst (λ (r : Gate). GateIs r (get_or x c.records.end 0) (drop (c.records.end + 1) x)) c.in-Cut.is found in
    (has.within, is.0, ap (records_from 0) at ∙ none_behind Cut _ _ is (λ n no. absurd (cc no)))
