-- What true conjunctions and false disjunctions say of their parts.
use Rattle.std.proofs.Common.{◌≡◌, Bool, true, false, refl}
use Rattle.std.specs.Prelude.{IsTrue, ◌&&◌, ◌||◌}

pub and_right : (a b : Bool) → IsTrue (a && b) → IsTrue b
and_right true b h = h
and_right false b h = absurd cc

pub and_left : (a b : Bool) → IsTrue (a && b) → IsTrue a
and_left true b h = refl
and_left false b h = absurd cc

pub or_rest : (a b : Bool) → a ≡ false → IsTrue (a || b) → IsTrue b
or_rest true b e h = absurd cc
or_rest false b e h = h
