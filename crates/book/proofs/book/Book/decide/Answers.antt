use Rattle.std.proofs.Common.{rules, ◌≡◌, Some, sym, ◌∙◌}
use Rattle.disk_model.proofs.Moments.{weaker}
use Rattle.book.specs.Results.{MadeOrNot, reaction_in}
use Rattle.book.proofs.Entering.{step_of}
use Rattle.book.proofs.Legality.{made_or_not}
use Rattle.book.proofs.Running.{stood}
use Rattle.book.proofs.book.Book.decide.Goals as goal

pub returns-in_default-clause-any_moment : goal.returns-in_default-clause-any_moment
returns-in_default-clause-any_moment g c =
    let K = g.K.Keeper in
    let keeper = c.args.self.now.page.keeper in
    let made = (reaction_in c.args.self.now c.args.body.now c.args.moment.0).entry in
    λ x told. weaker K.moment K.held_since keeper keeper (λ image. image ≡ Some x) (MadeOrNot x made) (made_or_not x made) (stood K.moment K.held_since (K.holds keeper) keeper x (g.met.K.Keeper.since_is_now keeper) (c.sound.ensures.held c.requires.whole x told))

pub returns-in_default-entry-clause-any_moment : goal.returns-in_default-entry-clause-any_moment
returns-in_default-entry-clause-any_moment g c =
    let K = g.K.Keeper in
    let keeper = c.args.self.now.page.keeper in
    let made = (reaction_in c.args.self.now c.args.body.now c.args.moment.0).entry in
    λ x told. weaker K.moment K.held_since keeper keeper (λ image. image ≡ Some x) (MadeOrNot x made) (made_or_not x made) (stood K.moment K.held_since (K.holds keeper) keeper x (g.met.K.Keeper.since_is_now keeper) (c.sound.ensures.held c.requires.whole x told))

pub enter-requires-clause-step : goal.enter-requires-clause-step
enter-requires-clause-step g c =
    let self = c.args.self.now in
    let made = sym c.in-Ok.ensures.entry ∙ c.in-Some.is in
    let desk = c.state-2.ensures in
    step_of self.page.config self.fixed.keys self.page.desk c.args.body.now c.args.moment.0 c.in-Some.entry (search (rules, made, desk))
