use Rattle.std.proofs.Common.{◌≡◌, Some, inl, sym, subst, ltb-true}
use Rattle.std.specs.Prelude.{IsTrue}
use Rattle.disk_model.proofs.Moments.{weaker}
use Rattle.entries.specs.Entries.{encode_of}
use Rattle.entries.specs.declared.entry.Entry.{Entry}
use Rattle.entry_codec.specs.Fits.{fits}
use Rattle.keepers.specs.Keeper.{OneMoreOrNot}
use Rattle.book.specs.Results.{mark_of, moment_in}
use Rattle.book.proofs.Entering.{device_at, mark_fits}
use Rattle.book.proofs.Running.{stood}
use Rattle.book.proofs.book.Book.mark.Goals as goal

pub returns-then-is_marked-clause-any_moment : goal.returns-then-is_marked-clause-any_moment
returns-then-is_marked-clause-any_moment g c =
    let K = g.K.Keeper in
    let keeper = c.args.self.now.page.keeper in
    let e = mark_of c.args.suspended c.args.device (moment_in c.args.self.now c.args.now.0) in
    λ x told. weaker K.moment K.held_since keeper keeper (λ image. image ≡ Some x) (OneMoreOrNot x (encode_of e)) (λ image is. inl is) (stood K.moment K.held_since (K.holds keeper) keeper x (g.met.K.Keeper.since_is_now keeper) (c.sound.ensures.held c.requires.whole x told))

pub returns-then-not-can_enter-clause-any_moment :
    goal.returns-then-not-can_enter-clause-any_moment
returns-then-not-can_enter-clause-any_moment g c =
    let K = g.K.Keeper in
    let keeper = c.args.self.now.page.keeper in
    let e = mark_of c.args.suspended c.args.device (moment_in c.args.self.now c.args.now.0) in
    λ x told. weaker K.moment K.held_since keeper keeper (λ image. image ≡ Some x) (OneMoreOrNot x (encode_of e)) (λ image is. inl is) (stood K.moment K.held_since (K.holds keeper) keeper x (g.met.K.Keeper.since_is_now keeper) (c.sound.ensures.held c.requires.whole x told))

pub enter-requires-clause-fit : goal.enter-requires-clause-fit
enter-requires-clause-fit g c =
    let self = c.args.self.now in
    let m = self.page.desk.now in
    let can = c.can_enter.ensures.yes c.if-not-can_enter.false in
    let there = device_at self.page.config m c.args.device c.sound.ensures.page.state c.requires.device in
    subst (λ (e : Entry). IsTrue (fits m e)) (sym c.mark_of.ensures)
    (mark_fits c.args.suspended m c.args.device c.moment-moment.result.0 there.0 can.time (ltb-true 0 m.entries can.begun) there.1
    (λ marked. absurd (let yes = c.is_marked.ensures.1 marked in let no_mark = c.if-is_marked.false in cc)))
