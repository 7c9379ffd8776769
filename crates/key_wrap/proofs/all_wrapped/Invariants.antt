use Rattle.std.proofs.Common.{◌≡◌}
use Rattle.key_wrap.specs.Wrap.{start, after}
use Rattle.key_wrap.proofs.all_wrapped.Given as goal

abbrev pub invariant-all_steps : goal.invariant-all_steps
invariant-all_steps l =
    (l.all.0 ≡ after l.keys (start l.key1) l.done)
    × (l.all.1 ≡ after l.keys (start l.key2) l.done)
    × (l.all.2 ≡ after l.keys (start l.key3) l.done)
