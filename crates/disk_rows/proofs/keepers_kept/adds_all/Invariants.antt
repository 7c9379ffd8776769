use Rattle.disk_rows.proofs.keepers_kept.adds_all.Given as goal

abbrev pub invariant-records : goal.invariant-records
invariant-records g l = g.K.Keeper.rests l.keeper
