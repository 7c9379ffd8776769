use Rattle.std.proofs.Common.{◌≡◌, ◌<◌, ℕ, List, ◌++◌, length, map, Some, inl, inr, sym, ap, subst, ◌∙◌, arith}
use Rattle.std.specs.Prelude.{◌==◌, option_map}
use Rattle.std.proofs.lemmas.Option.{none-some}
use Rattle.wire_ids.specs.Causes.{Rose}
use Rattle.agreements.specs.Walk.{Config}
use Rattle.disk_model.specs.Disk.{LeavesOnly, WhereTold}
use Rattle.disk_model.proofs.Moments.{then, weaker}
use Rattle.entries.specs.Entries.{encode_of}
use Rattle.keepers.specs.Keeper.{Quiet}
use Rattle.keepers.proofs.Runs.{quiet_leaves, quiet_then}
use Rattle.roam_core.specs.Desk.{moment_of}
use Rattle.book.specs.Histories.{IsLegalSince}
use Rattle.book.specs.Opening.{CountLeft, FailsToBegin, MayOpen, UnlessFailed, opening}
use Rattle.book.specs.Pages.{AddsSome}
use Rattle.book.specs.Replays.{IsRead}
use Rattle.book.specs.declared.faults.BookFault.{BookFault}
use Rattle.book.proofs.Openings.{count_same, entries_then, fails_to_open, rose_from, some_opening, told_opening, unless, unless_then, whole_after}
use Rattle.book.proofs.book.Book.open.Goals as goal

pub returns-in-Err-clause-any_moment : goal.returns-in-Err-clause-any_moment
returns-in-Err-clause-any_moment g c =
    let K = g.K.Keeper in
    let old = c.args.keeper in
    let new = c.in-Err.held.object in
    λ x told. weaker K.moment K.held_since old new (λ image. image ≡ Some x) (MayOpen c.args.tables c.args.text c.args.now.0 x) (λ image is. inl is)
    (quiet_leaves K.records K.holds K.moment K.held_since (λ image. image ≡ Some x) old new c.in-Err.ensures.quiet_err (g.met.K.Keeper.since_is_now old) (g.met.K.Keeper.rest_holds old c.requires.rests x told).each)

pub returns-in-Err-begin-clause-fails : goal.returns-in-Err-begin-clause-fails
returns-in-Err-begin-clause-fails g c =
    let K = g.K.Keeper in
    let mid = c.in-Ok.pages in
    λ x told. fails_to_open (K.is_full mid.keeper) (K.fills x) c.args.tables c.args.text c.args.now.0 x mid.desk c.in-Err-begin.fault mid c.begin.new.self (subst (λ (t : List ℕ). IsRead c.args.tables t x mid.desk) c.as_slice.ensures (c.in-Ok.ensures.read x told))
    (λ n bytes full. (g.met.K.Keeper.full_of mid.keeper n bytes (g.met.K.Keeper.rest_is_readable mid.keeper c.in-Ok.ensures.rests) x (c.in-Ok.ensures.quiet.same ∙ told)).0 full) c.in-Err-begin.ensures.fails

pub returns-in-Err-begin-clause-cause : goal.returns-in-Err-begin-clause-cause
returns-in-Err-begin-clause-cause g c =
    let K = g.K.Keeper in
    let mid = c.in-Ok.pages in
    λ is.
    let rose : Rose mid.faults c.begin.new.self.faults = subst (λ (f : BookFault). FailsToBegin (K.is_full mid.keeper) (opening c.args.text c.args.now.0 mid.desk) f mid c.begin.new.self) is c.in-Err-begin.ensures.fails in
    subst (λ (n : ℕ). Rose (K.faults c.args.keeper) n) (sym c.into_keeper.ensures.faults) (rose_from (K.faults c.args.keeper) mid.faults c.begin.new.self.faults c.in-Ok.ensures.later rose)

pub returns-in-Err-clause-left : goal.returns-in-Err-clause-left
returns-in-Err-clause-left g c = unless c.in-Err.held.fault c.in-Err.ensures.quiet_err

pub returns-in-Err-clause-rests_left : goal.returns-in-Err-clause-rests_left
returns-in-Err-clause-rests_left g c = unless c.in-Err.held.fault c.in-Err.ensures.rests_err

pub returns-in-Err-clause-count_left : goal.returns-in-Err-clause-count_left
returns-in-Err-clause-count_left g c =
    let K = g.K.Keeper in
    count_same c.in-Err.held.fault (K.counted c.args.keeper) (K.counted c.in-Err.held.object) c.in-Err.ensures.counted_err

pub returns-in-Err-begin-clause-left : goal.returns-in-Err-begin-clause-left
returns-in-Err-begin-clause-left g c =
    let K = g.K.Keeper in
    let old = c.args.keeper in
    let mid = c.in-Ok.pages.keeper in
    subst (λ k. UnlessFailed (Quiet K.records K.holds K.moment K.held_since old k) c.in-Err-begin.fault) (sym c.into_keeper.ensures.keeper)
    (unless_then c.in-Err-begin.fault (quiet_then K.records K.holds K.moment K.held_since old mid c.begin.new.self.keeper c.in-Ok.ensures.quiet) c.in-Err-begin.ensures.left)

pub returns-in-Err-begin-clause-rests_left : goal.returns-in-Err-begin-clause-rests_left
returns-in-Err-begin-clause-rests_left g c =
    let K = g.K.Keeper in
    let mid = c.in-Ok.pages in
    let es = opening c.args.text c.args.now.0 mid.desk in
    subst (λ k. UnlessFailed (K.rests k) c.in-Err-begin.fault) (sym c.into_keeper.ensures.keeper)
    (whole_after (K.is_full mid.keeper) es c.in-Err-begin.fault mid c.begin.new.self c.in-Ok.ensures.whole c.in-Err-begin.ensures.fails c.sound.ensures.page.whole)

pub returns-in-Err-begin-clause-count_left : goal.returns-in-Err-begin-clause-count_left
returns-in-Err-begin-clause-count_left g c =
    let K = g.K.Keeper in
    let now : c.begin.new.self.desk.now.entries ≡ K.counted c.into_keeper.result = c.sound.ensures.page.count ∙ ap K.counted (sym c.into_keeper.ensures.keeper) in
    subst (λ n. CountLeft n (K.counted c.into_keeper.result) c.in-Err-begin.fault) c.in-Ok.ensures.entries
    (subst (λ n. CountLeft c.in-Ok.pages.desk.now.entries n c.in-Err-begin.fault) now c.in-Err-begin.ensures.count_left)

pub returns-in-Err-begin-clause-changes : goal.returns-in-Err-begin-clause-changes
returns-in-Err-begin-clause-changes g c = ap g.K.Keeper.changes c.into_keeper.ensures.keeper ∙ c.begin.ensures.changes ∙ c.in-Ok.ensures.changes

pub returns-in-Err-begin-clause-later : goal.returns-in-Err-begin-clause-later
returns-in-Err-begin-clause-later g c = omega (arith, c.into_keeper.ensures.faults, c.in-Ok.ensures.later, c.begin.ensures.later)

pub returns-in-Err-begin-clause-any_moment : goal.returns-in-Err-begin-clause-any_moment
returns-in-Err-begin-clause-any_moment g c =
    let K = g.K.Keeper in
    let old = c.args.keeper in
    let mid = c.in-Ok.pages in
    let new = c.begin.new.self.keeper in
    λ x told.
    let P = MayOpen c.args.tables c.args.text c.args.now.0 x in
    let es = opening c.args.text c.args.now.0 mid.desk in
    subst (λ k. LeavesOnly K.moment K.held_since old k P) (sym c.into_keeper.ensures.keeper)
    (then K.moment K.held_since old mid.keeper new P
    (weaker K.moment K.held_since old mid.keeper (λ image. image ≡ Some x) P (λ image is. inl is)
    (quiet_leaves K.records K.holds K.moment K.held_since (λ image. image ≡ Some x) old mid.keeper c.in-Ok.ensures.quiet (g.met.K.Keeper.since_is_now old) (g.met.K.Keeper.rest_holds old c.requires.rests x told).each))
    (weaker K.moment K.held_since mid.keeper new (AddsSome x es) P (λ image some. inr (mid.desk, subst (λ (t : List ℕ). IsRead c.args.tables t x mid.desk) c.as_slice.ensures (c.in-Ok.ensures.read x told), some)) (c.begin.ensures.any_moment x (c.in-Ok.ensures.records ∙ told))))

pub invariant_of-result : goal.invariant_of-result
invariant_of-result g c =
    let K = g.K.Keeper in
    let mid = c.in-Ok.pages in
    let new = c.begin.new.self in
    let added = c.in-Ok-begin.ensures.added in
    let es = opening c.args.text c.args.now.0 mid.desk in
    let tables = c.args.tables in
    let size = ap (λ d. d.now.entries) added.desk ∙ entries_then mid.desk es in
    let some : 0 < length es = some_opening (mid.desk.now.entries == 0) c.args.text (moment_of c.args.now.0 mid.desk.now) in
    let before : K.counted c.of-before.result.value ≡ mid.desk.now.entries = ap K.counted c.of-before.ensures ∙ sym c.in-Ok.ensures.entries in
    let config : new.config ≡ tables = added.config ∙ c.in-Ok.ensures.config in
    record {
      begun = omega (arith, size, some);
      keys = c.requires.keys ∙ ap (λ (d : Config). length d.devices) (sym config);
      opened = omega (arith, size, before);
      faults = omega (arith, c.snapshot-opened.ensures.faults);
      legal = subst (λ (d : Config). WhereTold new.records (IsLegalSince d c.args.vault (K.counted c.of-before.result.value))) (sym config)
          (subst (λ (n : ℕ). WhereTold new.records (IsLegalSince tables c.args.vault n)) (sym before)
          (told_opening tables c.args.vault c.args.text c.args.now.0 mid.records new.records mid.desk added.records
          (λ rs told. subst (λ (t : List ℕ). IsRead tables t rs mid.desk) c.as_slice.ensures (c.in-Ok.ensures.read rs (sym c.in-Ok.ensures.records ∙ told))) c.requires.text c.in-Ok-begin.ensures.fit c.in-Ok-begin.ensures.again));
      tried = λ e is. absurd (none-some e (sym added.tried ∙ is));
    }

pub returns-clause-opens : goal.returns-clause-opens
returns-clause-opens g c =
    let K = g.K.Keeper in
    let mid = c.in-Ok.pages in
    let added = c.in-Ok-begin.ensures.added in
    let es = opening c.args.text c.args.now.0 mid.desk in
    λ x told. record {
      desk = mid.desk;
      read = subst (λ (t : List ℕ). IsRead c.args.tables t x mid.desk) c.as_slice.ensures (c.in-Ok.ensures.read x told);
      records = added.records ∙ ap (option_map (λ (rs : List (List ℕ)). rs ++ map encode_of es)) (c.in-Ok.ensures.records ∙ told);
      leads = added.desk;
      room = λ yes. c.in-Ok-begin.ensures.room ((g.met.K.Keeper.full_of mid.keeper _ _ (g.met.K.Keeper.rest_is_readable mid.keeper c.in-Ok.ensures.rests) x (c.in-Ok.ensures.quiet.same ∙ told)).1 yes);
    }

pub returns-clause-opening_faults : goal.returns-clause-opening_faults
returns-clause-opening_faults g c = c.snapshot-opened.ensures.faults

pub returns-clause-later : goal.returns-clause-later
returns-clause-later g c =
    let K = g.K.Keeper in
    let same = ap K.faults c.snapshot-opened.ensures.value in
    omega (arith, same, c.snapshot-opened.ensures.faults, c.in-Ok.ensures.later, c.begin.ensures.later)

pub returns-clause-any_moment : goal.returns-clause-any_moment
returns-clause-any_moment g c =
    let K = g.K.Keeper in
    let old = c.args.keeper in
    let mid = c.in-Ok.pages in
    let new = c.begin.new.self.keeper in
    λ x told.
    let P = MayOpen c.args.tables c.args.text c.args.now.0 x in
    let es = opening c.args.text c.args.now.0 mid.desk in
    then K.moment K.held_since old mid.keeper new P
    (weaker K.moment K.held_since old mid.keeper (λ image. image ≡ Some x) P (λ image is. inl is)
    (quiet_leaves K.records K.holds K.moment K.held_since (λ image. image ≡ Some x) old mid.keeper c.in-Ok.ensures.quiet (g.met.K.Keeper.since_is_now old) (g.met.K.Keeper.rest_holds old c.requires.rests x told).each))
    (weaker K.moment K.held_since mid.keeper new (AddsSome x es) P (λ image some. inr (mid.desk, subst (λ (t : List ℕ). IsRead c.args.tables t x mid.desk) c.as_slice.ensures (c.in-Ok.ensures.read x told), some)) (c.begin.ensures.any_moment x (c.in-Ok.ensures.records ∙ told)))

pub returns-clause-begins : goal.returns-clause-begins
returns-clause-begins g c =
    let K = g.K.Keeper in
    let mid = c.in-Ok.pages in
    let added = c.in-Ok-begin.ensures.added in
    let es = opening c.args.text c.args.now.0 mid.desk in
    record {
      desk = mid.desk;
      read = λ x told. subst (λ (t : List ℕ). IsRead c.args.tables t x mid.desk) c.as_slice.ensures (c.in-Ok.ensures.read x told);
      entries = c.in-Ok.ensures.entries;
      leads = added.desk;
      records = added.records ∙ ap (option_map (λ (rs : List (List ℕ)). rs ++ map encode_of es)) c.in-Ok.ensures.records;
    }
