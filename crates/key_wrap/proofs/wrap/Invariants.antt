use Rattle.std.proofs.Common.{◌≡◌}
use Rattle.key_wrap.specs.Wrap.{start, after}
use Rattle.key_wrap.proofs.wrap.Given as goal

abbrev pub invariant-steps : goal.invariant-steps
invariant-steps l = l.registers ≡ after l.keys (start l.key) l.done
