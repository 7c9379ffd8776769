use Rattle.std.proofs.Common.{ℕ, ◌+◌, List, Bool, ap, sym, ◌∙◌}
use Rattle.std.specs.Prelude.{option_map, if◌then◌else◌}
use Rattle.disk_journal.specs.Journal.{WithIf}
use Rattle.entries.specs.Entries.{decode_of}
use Rattle.book.specs.Pages.{entry_in}
use Rattle.book.proofs.Paging.{page_more}
use Rattle.book.proofs.pages.Pages.mend.Goals as goal

pub invariant_of-self-then-reopen : goal.invariant_of-self-then-reopen
invariant_of-self-then-reopen g c =
    let K = g.K.Keeper in
    let draft = c.in-Some.draft in
    let was = c.self.invariant.broken draft.entry (ap (option_map entry_in) (sym c.take.ensures.value ∙ c.in-Some.is)) in
    page_more K.counted K.rests K.doubts K.records K.faults c.self.inside.keeper c.reopen.new.self c.self.inside.tables c.self.inside.state c.apply.new.self c.self.inside.tried c.take.new.self c.as_slice.result.now draft.entry
    c.self.invariant c.states_stay.ensures c.apply.ensures.now c.apply.ensures.kept
    (c.in-Ok-true.ensures.found ∙ ap (λ (b : Bool). option_map (λ (rs : List (List ℕ)). WithIf b rs c.as_slice.result.now) (K.records c.self.inside.keeper)) c.in-Ok-true.field-0-test)
    (c.in-Ok-true.ensures.counted ∙ ap (λ (b : Bool). if b then K.counted c.self.inside.keeper + 1 else K.counted c.self.inside.keeper) c.in-Ok-true.field-0-test) c.in-Ok-true.ensures.rests
    (ap decode_of (c.as_slice.ensures ∙ draft.spelled) ∙ draft.again)
    was.fit
    (ap (option_map entry_in) c.take.ensures.after)
