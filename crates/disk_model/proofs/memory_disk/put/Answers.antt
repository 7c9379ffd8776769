use Rattle.std.proofs.Common.{◌≡◌, ◌+◌, ℕ, List, ◌++◌, length, take, drop, arith, ap, ◌∙◌}
use Rattle.std.proofs.lemmas.List.{with_items_is}
use Rattle.disk_model.proofs.CallLemmas.{written}
use Rattle.disk_model.proofs.memory_disk.put.Goals as goal

pub returns-clause-content : goal.returns-clause-content
returns-clause-content c =
    let room = c.args.room.now in
    let same : length c.overwrite.new.room ≡ room.len = omega (arith, c.overwrite.auto.room, c.deref_mut.ensures.len) in
    let items = with_items_is room c.overwrite.new.room same in
    let put_is = c.overwrite.ensures ∙ ap (λ (l : List ℕ). take c.args.at l ++ c.args.piece.now ++ drop (c.args.at + length c.args.piece.now) l) c.deref_mut.ensures.value in
    ap (λ (l : List ℕ). take c.max.result l) items ∙ ap (λ (n : ℕ). take n c.overwrite.new.room) c.max.ensures
    ∙ written room.items c.overwrite.new.room c.args.piece.now c.args.used c.args.at c.requires.used c.requires.at c.requires.fits put_is
