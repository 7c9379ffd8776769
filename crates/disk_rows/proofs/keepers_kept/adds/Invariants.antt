use Rattle.disk_rows.proofs.keepers_kept.adds.Given as goal

abbrev pub invariant-tries : goal.invariant-tries
invariant-tries g l = g.K.Keeper.doubts l.keeper l.bytes
