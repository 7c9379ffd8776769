use Rattle.std.proofs.Common.{List, ℕ, ◌++◌, take, drop, Some, sym, ◌∙◌, ap}
use Rattle.std.specs.Prelude.{slice_get, sum}
use Rattle.std.proofs.lemmas.List.{get_or_default}
use Rattle.std.proofs.lemmas.Option.{same_Some}
use Rattle.keepers.proofs.Records.{kth}
use Rattle.keepers.proofs.memory_keeper.MemoryKeeperKeeper.read.Goals as goal

pub returns-in-Ok-clause-gives : goal.returns-in-Ok-clause-gives
returns-in-Ok-clause-gives c = λ r told.
    let s = c.args.self.now in
    let size = c.index.ensures ∙ get_or_default s.lengths.items c.args.k c.index.result.now 0 c.requires.below in
    let at = c.start-at.ensures ∙ ap (λ (l : List ℕ). sum (take c.args.k l)) c.deref.ensures.value in
    let read = c.in-Ok.ensures.items ∙ ap (λ (l : List ℕ). l ++ c.piece-record.result.now) c.clear.ensures.items ∙ c.piece-record.ensures ∙ (λ i. take (size i) (drop (at i) (c.deref-2.ensures.value i))) in
    ap (λ (l : List (List ℕ)). slice_get l c.args.k) (sym (same_Some _ r told)) ∙ kth c.args.k s.lengths.items s.text.items c.requires.below ∙ ap Some (sym read)
