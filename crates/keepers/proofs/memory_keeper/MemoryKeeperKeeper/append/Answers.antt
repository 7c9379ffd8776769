use Rattle.std.proofs.Common.{Some, ap}
use Rattle.keepers.proofs.Records.{adds, one_more}
use Rattle.keepers.proofs.memory_keeper.MemoryKeeperKeeper.append.Goals as goal

pub returns-clause-added : goal.returns-clause-added
returns-clause-added c = ap Some (one_more _ _ _ _ _ c.in-Ok.ensures.items c.push_reserved.ensures.items c.args.self.now.sums)

pub returns-clause-any_moment : goal.returns-clause-any_moment
returns-clause-any_moment c = λ r told.
    adds c.args.self.now _ c.args.bytes.now r told (one_more _ _ _ _ _ c.in-Ok.ensures.items c.push_reserved.ensures.items c.args.self.now.sums)
