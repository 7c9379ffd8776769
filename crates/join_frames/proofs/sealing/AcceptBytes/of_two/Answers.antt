use Rattle.std.proofs.Common.{rules, ◌≡◌, ◌∙◌, ap, arith, suc, length, length-append, ◌∷◌, List, ℕ}
use Rattle.join_frames.proofs.Blocks.{two_blocks}
use Rattle.join_frames.proofs.sealing.AcceptBytes.of_two.Goals as goal

pub returns-clause-value : goal.returns-clause-value
returns-clause-value c = ap (λ (t : List ℕ). 0x20 ∷ t)
    (two_blocks _ _ _ _ _ _ (search rules) (search rules) c.copy_from_slice.ensures.after c.copy_from_slice-2.ensures.after)

pub returns-clause-sized : goal.returns-clause-sized
returns-clause-sized c =
    let first : length c.args.first ≡ 16 = search rules in
    let second : length c.args.second ≡ 16 = search rules in
    ap length (returns-clause-value c) ∙ ap suc (length-append c.args.first c.args.second ∙ omega (arith, first, second))
