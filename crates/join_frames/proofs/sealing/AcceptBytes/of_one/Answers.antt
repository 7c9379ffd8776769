use Rattle.std.proofs.Common.{rules, ap, ◌∷◌, List, ℕ}
use Rattle.join_frames.proofs.Blocks.{first_block}
use Rattle.join_frames.proofs.sealing.AcceptBytes.of_one.Goals as goal

pub returns-clause-value : goal.returns-clause-value
returns-clause-value c = ap (λ (t : List ℕ). 0x20 ∷ t) (first_block _ _ _ (search rules) c.copy_from_slice.ensures.after)
