use Rattle.std.proofs.Common.{◌≡◌, ◌≤◌, ◌↔◌, ◌-◌, take, length}
use Rattle.aes_cmac.proofs.compare.same_bytes.Given as goal

abbrev pub invariant-pieces : goal.invariant-pieces
invariant-pieces l = (l.start ≤ length l.a) × ((l.all ≡ 0) ↔ (take l.start l.a ≡ take l.start l.b))

abbrev pub decreases-pieces : goal.decreases-pieces
decreases-pieces l = length l.a - l.start
