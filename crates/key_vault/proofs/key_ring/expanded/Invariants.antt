use Rattle.std.proofs.Common.{◌≡◌, take}
use Rattle.key_vault.proofs.key_ring.expanded.Given as goal

abbrev pub invariant-loop-row : goal.invariant-loop-row
invariant-loop-row l = l.rows.items ≡ take l.row-index l.keys
