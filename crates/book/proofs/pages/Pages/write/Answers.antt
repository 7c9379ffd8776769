use Rattle.std.proofs.Common.{◌≡◌, Some, map, sym, ◌∙◌}
use Rattle.disk_model.proofs.Moments.{weaker}
use Rattle.keepers.proofs.Runs.{ready_quiet}
use Rattle.book.specs.Pages.{AddsSome, entry_in}
use Rattle.book.proofs.Running.{none_yet, passed, stood}
use Rattle.book.proofs.pages.Pages.write.Goals as goal

pub returns-in-Err-Full-clause-any_moment : goal.returns-in-Err-Full-clause-any_moment
returns-in-Err-Full-clause-any_moment g c =
    let K = g.K.Keeper in
    let old = c.args.self.now.keeper in
    let all = map entry_in c.args.drafts.items in
    λ x told. passed K.moment K.held_since old c.prepare.new.self.keeper (AddsSome x all) c.prepare.ensures.time c.prepare.ensures.since
    (weaker K.moment K.held_since old old (λ image. image ≡ Some x) (AddsSome x all) (none_yet x all)
    (stood K.moment K.held_since (K.holds old) old x (g.met.K.Keeper.since_is_now old) (g.met.K.Keeper.rest_holds old (c.sound.ensures.page.whole c.requires.whole) x (sym c.sound.ensures.page.told ∙ told))))

pub returns-in-Err-Memory-clause-any_moment : goal.returns-in-Err-Memory-clause-any_moment
returns-in-Err-Memory-clause-any_moment g c =
    let K = g.K.Keeper in
    let old = c.args.self.now.keeper in
    let all = map entry_in c.args.drafts.items in
    λ x told. passed K.moment K.held_since old c.prepare.new.self.keeper (AddsSome x all) c.prepare.ensures.time c.prepare.ensures.since
    (weaker K.moment K.held_since old old (λ image. image ≡ Some x) (AddsSome x all) (none_yet x all)
    (stood K.moment K.held_since (K.holds old) old x (g.met.K.Keeper.since_is_now old) (g.met.K.Keeper.rest_holds old (c.sound.ensures.page.whole c.requires.whole) x (sym c.sound.ensures.page.told ∙ told))))

pub returns-in-Err-Full-clause-quiet : goal.returns-in-Err-Full-clause-quiet
returns-in-Err-Full-clause-quiet g c =
    let K = g.K.Keeper in
    let same = c.prepare.ensures in
    ready_quiet K.records K.holds K.moment K.held_since c.args.self.now.keeper c.prepare.new.self.keeper same.kept same.holds same.time same.since

pub returns-in-Err-Memory-clause-quiet : goal.returns-in-Err-Memory-clause-quiet
returns-in-Err-Memory-clause-quiet g c =
    let K = g.K.Keeper in
    let same = c.prepare.ensures in
    ready_quiet K.records K.holds K.moment K.held_since c.args.self.now.keeper c.prepare.new.self.keeper same.kept same.holds same.time same.since
