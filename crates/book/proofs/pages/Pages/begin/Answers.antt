use Rattle.std.proofs.Common.{◌≡◌, ℕ, map, Some, refl, sym, ap, subst, ◌∙◌, arith}
use Rattle.std.specs.Prelude.{◌==◌}
use Rattle.disk_model.proofs.Moments.{weaker}
use Rattle.entry_codec.specs.Replay.{AllFit}
use Rattle.keepers.proofs.Runs.{quiet_none}
use Rattle.roam_core.specs.Desk.{Desk, moment_of}
use Rattle.book.specs.Opening.{opening, opening_at}
use Rattle.book.specs.Pages.{AddsSome, entry_in}
use Rattle.book.proofs.Entering.{opening_fits}
use Rattle.book.proofs.Openings.{count_stopped, short_text}
use Rattle.book.proofs.Running.{none_yet, stood}
use Rattle.book.proofs.pages.Pages.begin.Goals as goal

pub drafts_at-requires : goal.drafts_at-requires
drafts_at-requires g c = short_text c.args.text c.args.self.now.config c.requires.text

pub returns-then-entries-ge-MOST_ENTRIES-clause-any_moment : goal.returns-then-entries-ge-MOST_ENTRIES-clause-any_moment
returns-then-entries-ge-MOST_ENTRIES-clause-any_moment g c =
    let K = g.K.Keeper in
    let self = c.args.self.now in
    let keeper = self.keeper in
    let es = opening c.args.text c.args.now.0 self.desk in
    λ x told. weaker K.moment K.held_since keeper keeper (λ image. image ≡ Some x) (AddsSome x es) (none_yet x es)
    (stood K.moment K.held_since (K.holds keeper) keeper x (g.met.K.Keeper.since_is_now keeper) (g.met.K.Keeper.rest_holds keeper (c.sound.ensures.page.whole c.requires.whole) x (sym c.sound.ensures.page.told ∙ told)))

pub returns-in-Err-clause-any_moment : goal.returns-in-Err-clause-any_moment
returns-in-Err-clause-any_moment g c =
    let K = g.K.Keeper in
    let self = c.args.self.now in
    let keeper = self.keeper in
    let es = opening c.args.text c.args.now.0 self.desk in
    λ x told. weaker K.moment K.held_since keeper keeper (λ image. image ≡ Some x) (AddsSome x es) (none_yet x es)
    (stood K.moment K.held_since (K.holds keeper) keeper x (g.met.K.Keeper.since_is_now keeper) (g.met.K.Keeper.rest_holds keeper (c.sound.ensures.page.whole c.requires.whole) x (sym c.sound.ensures.page.told ∙ told)))

pub write-requires-clause-fit : goal.write-requires-clause-fit
write-requires-clause-fit g c =
    let m = c.args.self.now.desk.now in
    let count : c.entries-entries.result ≡ m.entries = c.entries-entries.ensures ∙ ap (λ (d : Desk). d.now.entries) c.state.ensures in
    let at = c.moment-moment.ensures in
    let time = c.sound.ensures.page.time in
    subst (AllFit m) (sym c.in-Ok.ensures.drafts)
    (opening_fits m (c.entries-entries.result == 0) c.args.text c.moment-moment.result.0 (ap (λ (n : ℕ). n == 0) count) (omega (arith, at)) (omega (arith, at, time)) (omega (arith, count)))

pub returns-in-Done-clause-fit : goal.returns-in-Done-clause-fit
returns-in-Done-clause-fit g c =
    let m = c.args.self.now.desk.now in
    let count : c.entries-entries.result ≡ m.entries = c.entries-entries.ensures ∙ ap (λ (d : Desk). d.now.entries) c.state.ensures in
    let time = c.sound.ensures.page.time in
    opening_fits m (m.entries == 0) c.args.text (moment_of c.args.now.0 m) refl (omega arith) (omega (arith, time)) (omega (arith, count))

pub returns-then-entries-ge-MOST_ENTRIES-clause-left : goal.returns-then-entries-ge-MOST_ENTRIES-clause-left
returns-then-entries-ge-MOST_ENTRIES-clause-left g c =
    let K = g.K.Keeper in
    quiet_none K.records K.holds K.moment K.held_since c.args.self.now.keeper

pub returns-in-Err-clause-left : goal.returns-in-Err-clause-left
returns-in-Err-clause-left g c =
    let K = g.K.Keeper in
    quiet_none K.records K.holds K.moment K.held_since c.args.self.now.keeper

pub returns-in-NotKept-clause-count_left : goal.returns-in-NotKept-clause-count_left
returns-in-NotKept-clause-count_left g c =
    let self = c.args.self.now in
    let count : c.entries-entries.result ≡ self.desk.now.entries = c.entries-entries.ensures ∙ ap (λ (d : Desk). d.now.entries) c.state.ensures in
    let at = c.moment-moment.ensures in
    count_stopped c.args.text c.args.now.0 (map entry_in c.in-Ok.drafts.items) self c.write.new.self (c.in-Ok.ensures.drafts ∙ (λ i. opening_at (count i == 0) c.args.text (at i))) c.in-NotKept.ensures.writes.0
