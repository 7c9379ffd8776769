use Rattle.disk_rows.proofs.keepers_kept.counted.Given as goal

abbrev pub invariant-records : goal.invariant-records
invariant-records g l = g.K.Keeper.readable l.keeper
