use Rattle.std.proofs.Common.{refl}
use Rattle.book.proofs.Legality.{book_mended}
use Rattle.book.proofs.book.Book.mend.Goals as goal

pub invariant_of-self : goal.invariant_of-self
invariant_of-self g c =
    let K = g.K.Keeper in
    book_mended K.records K.counted K.rests K.doubts c.mend-mended.result _ _ c.self.invariant c.sound.ensures.page c.mend-mended.ensures.mends refl
