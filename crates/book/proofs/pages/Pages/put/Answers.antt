use Rattle.std.proofs.Common.{ap, subst, sym, ◌∙◌}
use Rattle.std.specs.Prelude.{IsTrue}
use Rattle.entries.specs.Entries.{decode_of}
use Rattle.entry_codec.specs.Fits.{fits}
use Rattle.book.specs.Pages.{Page}
use Rattle.book.proofs.Paging.{page_more}
use Rattle.book.proofs.pages.Pages.put.Goals as goal

pub invariant_of-self : goal.invariant_of-self
invariant_of-self g c =
    let K = g.K.Keeper in
    let draft = c.args.draft in
    page_more K.counted K.rests K.doubts K.records K.faults c.self.inside.keeper c.append.new.self c.self.inside.tables c.self.inside.state c.apply.new.self c.self.inside.tried c.self.inside.tried c.as_slice.result.now draft.entry
    c.self.invariant c.states_stay.ensures c.apply.ensures.now c.apply.ensures.kept
    c.in-Ok.ensures.added c.in-Ok.ensures.counted c.in-Ok.ensures.rests
    (ap decode_of (c.as_slice.ensures ∙ draft.spelled) ∙ draft.again)
    (subst (λ (p : Page g.row.K.Denot). IsTrue (fits p.desk.now draft.entry)) (sym c.self.view_is) c.requires.fit)
    (ap (λ (p : Page g.row.K.Denot). p.tried) c.self.view_is ∙ c.requires.whole)
