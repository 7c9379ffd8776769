use Rattle.std.proofs.Common.{◌≡◌, List, Some, map, inl, refl, ap, subst, sym, ◌∙◌}
use Rattle.std.specs.Prelude.{IsTrue}
use Rattle.disk_model.specs.Disk.{LeavesOnly, WhereTold}
use Rattle.disk_model.proofs.Moments.{weaker}
use Rattle.entries.specs.Entries.{encode_of}
use Rattle.entries.specs.declared.entry.Entry.{Entry}
use Rattle.entry_codec.specs.Fits.{fits}
use Rattle.keepers.specs.Keeper.{OneMoreOrNot}
use Rattle.roam_core.specs.Legal.{IsStep}
use Rattle.book.specs.Pages.{AddsSome, entry_in}
use Rattle.book.specs.Sight.{Sight}
use Rattle.book.proofs.Legality.{book_written, one_or_none, writes_one}
use Rattle.book.proofs.Running.{stood}
use Rattle.book.proofs.book.Book.enter.Goals as goal

pub invariant_of-self : goal.invariant_of-self
invariant_of-self g c =
    let K = g.K.Keeper in
    let entry = c.args.entry in
    let full = K.is_full c.self.inside.pages.keeper in
    book_written full c.write.result entry _ _ c.self.invariant
    (ap (λ (b : Sight g.row.K.Denot). b.page.tried) c.self.view_is ∙ c.requires.whole)
    c.sound.ensures.page.history
    c.in-Ok.ensures.again
    (subst (λ (b : Sight g.row.K.Denot). IsTrue (fits b.page.desk.now entry)) (sym c.self.view_is) c.requires.fit)
    (subst (λ (b : Sight g.row.K.Denot). IsStep b.page.config b.fixed.keys b.page.desk entry entry.event) (sym c.self.view_is) c.requires.step)
    (writes_one full c.write.result (map entry_in c.in-Ok.drafts.items) entry _ _ c.in-Ok.ensures.one refl c.in-Ok.ensures.again c.write.ensures.writes)

pub returns-in-Ok-clause-any_moment : goal.returns-in-Ok-clause-any_moment
returns-in-Ok-clause-any_moment g c =
    let K = g.K.Keeper in
    let entry = c.args.entry in
    let new = c.write.new.self.keeper in
    subst (λ (b : Sight g.row.K.Denot). WhereTold b.page.records (λ rs. LeavesOnly K.moment K.held_since b.page.keeper new (OneMoreOrNot rs (encode_of entry)))) c.self.view_is
    (λ x told. weaker K.moment K.held_since c.self.inside.pages.keeper new (AddsSome x (map entry_in c.in-Ok.drafts.items)) (OneMoreOrNot x (encode_of entry))
    (λ image some. one_or_none x entry image (subst (λ (es : List Entry). AddsSome x es image) c.in-Ok.ensures.one some)) (c.write.ensures.any_moment x told))

pub returns-in-Err-clause-any_moment : goal.returns-in-Err-clause-any_moment
returns-in-Err-clause-any_moment g c =
    let K = g.K.Keeper in
    let entry = c.args.entry in
    subst (λ (b : Sight g.row.K.Denot). WhereTold b.page.records (λ rs. LeavesOnly K.moment K.held_since b.page.keeper b.page.keeper (OneMoreOrNot rs (encode_of entry)))) c.self.view_is
    (λ x told.
    let keeper = c.self.inside.pages.keeper in
    let whole = ap (λ (b : Sight g.row.K.Denot). b.page.tried) c.self.view_is ∙ c.requires.whole in
    weaker K.moment K.held_since keeper keeper (λ image. image ≡ Some x) (OneMoreOrNot x (encode_of entry)) (λ image is. inl is)
    (stood K.moment K.held_since (K.holds keeper) keeper x (g.met.K.Keeper.since_is_now keeper) (g.met.K.Keeper.rest_holds keeper (c.sound.ensures.page.whole whole) x (sym c.sound.ensures.page.told ∙ told))))
