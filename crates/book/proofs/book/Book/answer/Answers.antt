use Rattle.std.proofs.Common.{◌≡◌, ℕ, Some, sym, subst, ◌∙◌, arith}
use Rattle.disk_model.proofs.Moments.{weaker}
use Rattle.book.specs.Results.{DecidesSo, MadeOrNot, moment_in, reaction_in}
use Rattle.book.proofs.Legality.{made_or_not}
use Rattle.book.proofs.Receipting.{gives_good, lacks_room}
use Rattle.book.proofs.Running.{stood}
use Rattle.book.proofs.book.Book.answer.Goals as goal

pub returns-then-not-can_enter-clause-any_moment :
    goal.returns-then-not-can_enter-clause-any_moment
returns-then-not-can_enter-clause-any_moment g c =
    let K = g.K.Keeper in
    let keeper = c.args.self.now.page.keeper in
    let made = (reaction_in c.args.self.now c.args.body.now (moment_in c.args.self.now c.args.now.0)).entry in
    λ x told. weaker K.moment K.held_since keeper keeper (λ image. image ≡ Some x) (MadeOrNot x made) (made_or_not x made) (stood K.moment K.held_since (K.holds keeper) keeper x (g.met.K.Keeper.since_is_now keeper) (c.sound.ensures.held c.requires.whole x told))

pub returns-clause-good : goal.returns-clause-good
returns-clause-good g c =
    let K = g.K.Keeper in
    let self = c.args.self.now in
    let at = c.moment-moment.ensures in
    let time = c.sound.ensures.page.time in
    gives_good (K.is_full self.page.keeper) c.decide-answered.result c.args.body.now c.moment-moment.result.0 self c.decide-answered.new.self c.sound.ensures.page.history (omega (arith, at)) (omega (arith, at, time)) c.decide-answered.ensures.answers

pub returns-clause-full : goal.returns-clause-full
returns-clause-full g c =
    let K = g.K.Keeper in
    let self = c.args.self.now in
    let keeper = self.page.keeper in
    let readable = g.met.K.Keeper.rest_is_readable keeper (c.sound.ensures.page.whole c.requires.whole) in
    let at = c.moment-moment.ensures in
    let answers = subst (λ (n : ℕ). DecidesSo (K.is_full keeper) c.decide-answered.result c.args.body.now n self c.decide-answered.new.self) at c.decide-answered.ensures.answers in
    λ is x told. lacks_room (K.is_full keeper) (K.fills x) c.decide-answered.result c.args.body.now (moment_in self c.args.now.0) self c.decide-answered.new.self
    (λ n bytes full. (g.met.K.Keeper.full_of keeper n bytes readable x (sym c.sound.ensures.page.told ∙ told)).0 full) answers is
