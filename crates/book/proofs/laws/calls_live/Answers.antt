use Rattle.book.proofs.Calling.{calls_live}
use Rattle.book.proofs.laws.calls_live.Goals as goal

pub returns : goal.returns
returns g c =
    let K = g.K.Keeper in
    calls_live K.records K.counted K.rests K.doubts K.is_full
