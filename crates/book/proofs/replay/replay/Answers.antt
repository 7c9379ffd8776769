use Rattle.std.proofs.Common.{◌≡◌, ℕ, ◌<◌, ◌≤◌, ◌^◌, [], length, take, inl, refl, sym, ap, subst, ◌∙◌, arith}
use Rattle.keepers.proofs.Runs.{quiet_none, quiet_then}
use Rattle.entry_codec.specs.Machine.{Machine}
use Rattle.roam_core.specs.Desk.{Desk, IsStateOf, desk_of, empty_desk}
use Rattle.book.specs.Histories.{entries_of}
use Rattle.book.specs.Replays.{IsReadTo}
use Rattle.book.proofs.Paging.{entries_after, first_entries, first_moment, in_time}
use Rattle.book.proofs.Replaying.{all_read, fails_at, read_more}
use Rattle.book.proofs.replay.replay.Goals as goal

pub records-init : goal.records-init
records-init g c =
    let K = g.K.Keeper in
    let keeper = c.args.keeper.now in
    let now = c.in_ok-state.ensures.now in
    let none = ap (λ (m : Machine). m.entries) now ∙ first_entries c.args.tables.now in
    let began = ap (λ (m : Machine). m.moment) now ∙ first_moment c.args.tables.now in
    let desk : desk_of c.in_ok-state.state ≡ empty_desk c.args.tables.now = λ i. record { now = now i; kept = c.in_ok-state.ensures.kept i } in
    record {
      rests = c.requires;
      quiet = quiet_none K.records K.holds K.moment K.held_since keeper;
      later = omega arith;
      changes = refl;
      counted = refl;
      count = c.count-count.ensures;
      within = omega (arith, none);
      time = omega (arith, began);
      state = subst (λ (m : Machine). IsStateOf c.args.tables.now m) (sym now) (c.states_stay.ensures.first c.args.tables.now);
      steps = omega (arith, none);
      so_far = λ rs told. (record { entries = []; spelled = ap (λ n. entries_of (take n rs)) none; fit = tt; leads = sym desk }, inl none);
    }

pub records-smaller : goal.records-smaller
records-smaller g c =
    let taken = c.in-Ok.ensures.taken in
    let next = ap (λ (d : Desk). d.now.entries) taken.leads ∙ entries_after c.records.state.now taken.spells.entry in
    omega (arith, next, c.entries.ensures)

pub records-preserved : goal.records-preserved
records-preserved g c =
    let K = g.K.Keeper in
    let at = c.records in
    let was = at.invariant in
    let tables = c.args.tables.now in
    let text = c.args.text.now in
    let taken = c.in-Ok.ensures.taken in
    let entry = taken.spells.entry in
    let next = ap (λ (d : Desk). d.now.entries) taken.leads ∙ entries_after at.state.now entry in
    let steps = c.in-Ok.ensures.steps in
    record {
      rests = c.read_next.ensures.rests;
      quiet = quiet_then K.records K.holds K.moment K.held_since c.args.keeper.now at.keeper c.read_next.new.keeper was.quiet c.read_next.ensures.quiet;
      later = omega (arith, was.later, c.read_next.ensures.later);
      changes = c.read_next.ensures.changes ∙ was.changes;
      counted = c.read_next.ensures.counted ∙ was.counted;
      count = was.count;
      within = omega (arith, next, c.entries.ensures);
      time = subst (λ (d : Desk). d.now.moment ≤ 2 ^ 53) (sym taken.leads) (in_time at.state.now entry taken.spells.fit);
      state = subst (λ (d : Desk). IsStateOf tables d.now) (sym taken.leads) (c.states_stay.ensures.later tables at.state.now entry was.state);
      steps = omega (arith, was.steps, steps, next);
      so_far = λ rs told.
          let all = g.met.K.Keeper.counts at.keeper (g.met.K.Keeper.rest_is_readable at.keeper was.rests) rs (was.quiet.same ∙ told) in
          let within : at.state.now.entries < length rs = omega (arith, all, was.counted, was.count, c.entries.ensures) in
          subst (λ (n : ℕ). IsReadTo tables text n rs (desk_of c.read_next.new.state)) (sym next)
          (read_more tables text rs at.state.now.entries (desk_of at.state) (desk_of c.read_next.new.state) within (was.so_far rs told) (c.in-Ok.ensures.next rs (was.quiet.same ∙ told)));
    }

pub returns-in-Err-clause-fails : goal.returns-in-Err-clause-fails
returns-in-Err-clause-fails g c = λ rs told.
    let at = c.records in
    let was = at.invariant in
    let all = g.met.K.Keeper.counts at.keeper (g.met.K.Keeper.rest_is_readable at.keeper was.rests) rs (was.quiet.same ∙ told) in
    let within : at.state.now.entries < length rs = omega (arith, all, was.counted, was.count, c.entries.ensures) in
    fails_at c.args.tables.now c.args.text.now rs at.state.now.entries (desk_of at.state) c.in-Err.fault within (was.so_far rs told) (c.in-Err.ensures.next rs (was.quiet.same ∙ told))

pub returns-clause-read : goal.returns-clause-read
returns-clause-read g c = λ rs told.
    let at = c.records in
    let was = at.invariant in
    let all = g.met.K.Keeper.counts at.keeper (g.met.K.Keeper.rest_is_readable at.keeper was.rests) rs (was.quiet.same ∙ told) in
    let done : length rs ≤ at.state.now.entries = omega (arith, all, was.counted, was.count, c.entries.ensures) in
    all_read c.args.tables.now c.args.text.now rs at.state.now.entries (desk_of at.state) done (was.so_far rs told)
