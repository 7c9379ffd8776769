use Rattle.std.proofs.Common.{◌≡◌, None, ap, subst, sym, ◌∙◌}
use Rattle.disk_model.specs.Disk.{WhereTold}
use Rattle.keepers.specs.Keeper.{HoldsOnly}
use Rattle.book.specs.Pages.{Page}
use Rattle.book.specs.Sight.{Sight}
use Rattle.book.proofs.book.Book.sound.Goals as goal

pub returns-clause-held : goal.returns-clause-held
returns-clause-held g c =
    let K = g.K.Keeper in
    subst (λ (p : Page g.row.K.Denot). p.tried ≡ None → WhereTold p.records (HoldsOnly (K.holds p.keeper))) (ap (λ (b : Sight g.row.K.Denot). b.page) c.self.view_is)
    (λ none x told. g.met.K.Keeper.rest_holds c.self.inside.pages.keeper (c.sound.ensures.page.whole none) x (sym c.sound.ensures.page.told ∙ told))
