use Rattle.std.proofs.Common.{◌≡◌, ◌+◌, ◌%◌, ℕ, List, length, get_or, drop, take, Some, sym, ◌∙◌, ap, subst, arith}
use Rattle.std.specs.Prelude.{slice_get}
use Rattle.std.specs.Option.{option_map}
use Rattle.std.proofs.lemmas.List.{get_or_default}
use Rattle.std.proofs.lemmas.Result.{on_ok_weaker}
use Rattle.disk_journal.specs.Format.{kept}
use Rattle.disk_journal.specs.Journal.{IsMarked}
use Rattle.disk_journal.specs.Behinds.{HasWhole}
use Rattle.disk_journal.proofs.Marks.{marked_same}
use Rattle.disk_journal.proofs.Results.{mapped}
use Rattle.disk_journal.proofs.Reopen.{doubt_still, rest_stays}
use Rattle.disk_journal.proofs.Places.{record_at}
use Rattle.disk_journal.proofs.journal.Journal.read.Goals as goal

pub returns-then-behind-le-KEPT-clause-gives : goal.returns-then-behind-le-KEPT-clause-gives
returns-then-behind-le-KEPT-clause-gives g c =
    on_ok_weaker c.record_at.result (λ found. λ records is.
    let s = c.args.self.now in
    let from = mapped (kept s.end) (g.D.Disk.seen s.disk) records is in
    let has = c.requires.holds.0 from.0 from.1 in
    let at = record_at s.end s.count s.places.items from.0 c.args.k has c.requires.below in
    let listed : c.index-at.result.now ≡ get_or s.places.items (c.args.k % 2048) 0 = c.index-at.ensures ∙ get_or_default s.places.items (c.args.k % 2048) c.index-at.result.now 0 (omega (arith, s.ring, s.places.ok.0)) in
    let place_is = listed ∙ has.placed c.args.k c.requires.below (omega arith) in
    let whole = subst (λ (n : ℕ). HasWhole (length at.body) (drop n from.0)) (sym place_is) at.whole in
    let body_is = ap (λ (n : ℕ). take (length at.body) (drop (n + 5) from.0)) place_is ∙ at.body_is in
    ap (λ (r : List (List ℕ)). slice_get r c.args.k) (sym from.2) ∙ at.kth ∙ ap Some (sym (found from.0 (c.len.ensures.seen ∙ from.1) (c.in_ok-len.ensures.length from.0 from.1) at.body whole body_is))) c.record_at.ensures.found

pub returns-clause-gives : goal.returns-clause-gives
returns-clause-gives g c = λ records is.
    let s = c.args.self.now in
    let from = mapped (kept s.end) (g.D.Disk.seen s.disk) records is in
    let far = c.in_ok-self.ensures.found from.0 (c.len.ensures.seen ∙ from.1) (c.in_ok-len.ensures.length from.0 from.1) s.end s.count s.places.items (c.requires.holds.0 from.0 from.1) c.requires.below (c.requires.holds.1 (kept s.end from.0) (ap (option_map (kept s.end)) from.1)) in
    ap (λ (r : List (List ℕ)). slice_get r c.args.k) (sym from.2) ∙ far.0

pub returns-in_err-len-clause-holds : goal.returns-in_err-len-clause-holds
returns-in_err-len-clause-holds g c =
    let s = c.args.self.now in
    (λ x now. c.requires.holds.0 x (sym c.len.ensures.seen ∙ now), (marked_same _ _ _ (ap (option_map (kept s.end)) c.len.ensures.seen) c.requires.holds.1))

pub returns-in_err-len-clause-rests : goal.returns-in_err-len-clause-rests
returns-in_err-len-clause-rests g c = λ old.
    let s = c.args.self.now in
    (rest_stays g.D.Disk.seen g.D.Disk.images _ _ _ s.disk c.len.new.self c.len.ensures.seen c.len.ensures.crash old.0, (marked_same _ _ _ (ap (option_map (kept s.end)) c.len.ensures.seen) c.requires.holds.1))

pub returns-in_err-len-clause-doubts : goal.returns-in_err-len-clause-doubts
returns-in_err-len-clause-doubts g c = λ tried old.
    let s = c.args.self.now in
    (doubt_still g.D.Disk.seen g.D.Disk.images _ _ _ tried s.disk c.len.new.self c.len.ensures.seen c.len.ensures.crash old.0, (marked_same _ _ _ (ap (option_map (kept s.end)) c.len.ensures.seen) c.requires.holds.1))

pub returns-then-behind-le-KEPT-clause-holds : goal.returns-then-behind-le-KEPT-clause-holds
returns-then-behind-le-KEPT-clause-holds g c =
    let s = c.args.self.now in
    (λ x now. c.requires.holds.0 x (sym (c.record_at.ensures.quiet.same ∙ c.len.ensures.seen) ∙ now), (marked_same _ _ _ (ap (option_map (kept s.end)) (c.record_at.ensures.quiet.same ∙ c.len.ensures.seen)) c.requires.holds.1))

pub returns-then-behind-le-KEPT-clause-rests : goal.returns-then-behind-le-KEPT-clause-rests
returns-then-behind-le-KEPT-clause-rests g c = λ old.
    let s = c.args.self.now in
    (rest_stays g.D.Disk.seen g.D.Disk.images _ _ _ s.disk c.record_at.new.disk (c.record_at.ensures.quiet.same ∙ c.len.ensures.seen) (λ x left. c.len.ensures.crash x (c.record_at.ensures.quiet.none_new x left)) old.0, (marked_same _ _ _ (ap (option_map (kept s.end)) (c.record_at.ensures.quiet.same ∙ c.len.ensures.seen)) c.requires.holds.1))

pub returns-then-behind-le-KEPT-clause-doubts : goal.returns-then-behind-le-KEPT-clause-doubts
returns-then-behind-le-KEPT-clause-doubts g c = λ tried old.
    let s = c.args.self.now in
    (doubt_still g.D.Disk.seen g.D.Disk.images _ _ _ tried s.disk c.record_at.new.disk (c.record_at.ensures.quiet.same ∙ c.len.ensures.seen) (λ x left. c.len.ensures.crash x (c.record_at.ensures.quiet.none_new x left)) old.0, (marked_same _ _ _ (ap (option_map (kept s.end)) (c.record_at.ensures.quiet.same ∙ c.len.ensures.seen)) c.requires.holds.1))

pub returns-in_err-self-clause-holds : goal.returns-in_err-self-clause-holds
returns-in_err-self-clause-holds g c =
    let s = c.args.self.now in
    (λ x now. c.requires.holds.0 x (sym (c.read_far.ensures.quiet.same ∙ c.len.ensures.seen) ∙ now), (marked_same _ _ _ (ap (option_map (kept s.end)) (c.read_far.ensures.quiet.same ∙ c.len.ensures.seen)) c.requires.holds.1))

pub returns-in_err-self-clause-rests : goal.returns-in_err-self-clause-rests
returns-in_err-self-clause-rests g c = λ old.
    let s = c.args.self.now in
    (rest_stays g.D.Disk.seen g.D.Disk.images _ _ _ s.disk c.read_far.new.disk (c.read_far.ensures.quiet.same ∙ c.len.ensures.seen) (λ x left. c.len.ensures.crash x (c.read_far.ensures.quiet.none_new x left)) old.0, (marked_same _ _ _ (ap (option_map (kept s.end)) (c.read_far.ensures.quiet.same ∙ c.len.ensures.seen)) c.requires.holds.1))

pub returns-in_err-self-clause-doubts : goal.returns-in_err-self-clause-doubts
returns-in_err-self-clause-doubts g c = λ tried old.
    let s = c.args.self.now in
    (doubt_still g.D.Disk.seen g.D.Disk.images _ _ _ tried s.disk c.read_far.new.disk (c.read_far.ensures.quiet.same ∙ c.len.ensures.seen) (λ x left. c.len.ensures.crash x (c.read_far.ensures.quiet.none_new x left)) old.0, (marked_same _ _ _ (ap (option_map (kept s.end)) (c.read_far.ensures.quiet.same ∙ c.len.ensures.seen)) c.requires.holds.1))

pub returns-clause-holds : goal.returns-clause-holds
returns-clause-holds g c =
    let s = c.args.self.now in (
      λ x now. c.requires.holds.0 x (sym (c.read_far.ensures.quiet.same ∙ c.len.ensures.seen) ∙ now),
      (λ records is.
          let from = mapped (kept s.end) (g.D.Disk.seen s.disk) records (sym (ap (option_map (kept s.end)) (c.read_far.ensures.quiet.same ∙ c.len.ensures.seen)) ∙ is) in
          let far = c.in_ok-self.ensures.found from.0 (c.len.ensures.seen ∙ from.1) (c.in_ok-len.ensures.length from.0 from.1) s.end s.count s.places.items (c.requires.holds.0 from.0 from.1) c.requires.below (c.requires.holds.1 (kept s.end from.0) (ap (option_map (kept s.end)) from.1)) in
          subst (IsMarked _ _) from.2 far.1),
    )

pub returns-clause-rests : goal.returns-clause-rests
returns-clause-rests g c = λ old.
    let s = c.args.self.now in (
      rest_stays g.D.Disk.seen g.D.Disk.images _ _ _ s.disk c.read_far.new.disk (c.read_far.ensures.quiet.same ∙ c.len.ensures.seen) (λ x left. c.len.ensures.crash x (c.read_far.ensures.quiet.none_new x left)) old.0,
      (λ records is.
          let from = mapped (kept s.end) (g.D.Disk.seen s.disk) records (sym (ap (option_map (kept s.end)) (c.read_far.ensures.quiet.same ∙ c.len.ensures.seen)) ∙ is) in
          let far = c.in_ok-self.ensures.found from.0 (c.len.ensures.seen ∙ from.1) (c.in_ok-len.ensures.length from.0 from.1) s.end s.count s.places.items (c.requires.holds.0 from.0 from.1) c.requires.below (c.requires.holds.1 (kept s.end from.0) (ap (option_map (kept s.end)) from.1)) in
          subst (IsMarked _ _) from.2 far.1),
    )

pub returns-clause-doubts : goal.returns-clause-doubts
returns-clause-doubts g c = λ tried old.
    let s = c.args.self.now in (
      doubt_still g.D.Disk.seen g.D.Disk.images _ _ _ tried s.disk c.read_far.new.disk (c.read_far.ensures.quiet.same ∙ c.len.ensures.seen) (λ x left. c.len.ensures.crash x (c.read_far.ensures.quiet.none_new x left)) old.0,
      (λ records is.
          let from = mapped (kept s.end) (g.D.Disk.seen s.disk) records (sym (ap (option_map (kept s.end)) (c.read_far.ensures.quiet.same ∙ c.len.ensures.seen)) ∙ is) in
          let far = c.in_ok-self.ensures.found from.0 (c.len.ensures.seen ∙ from.1) (c.in_ok-len.ensures.length from.0 from.1) s.end s.count s.places.items (c.requires.holds.0 from.0 from.1) c.requires.below (c.requires.holds.1 (kept s.end from.0) (ap (option_map (kept s.end)) from.1)) in
          subst (IsMarked _ _) from.2 far.1),
    )
