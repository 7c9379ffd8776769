use Rattle.std.proofs.Common.{◌≡◌}
use Rattle.aes_cmac.proofs.Comparison.{difference}
use Rattle.aes_cmac.proofs.compare.difference.Given as goal

abbrev pub invariant-each : goal.invariant-each
invariant-each l = l.difference ≡ difference l.a l.b l.i
