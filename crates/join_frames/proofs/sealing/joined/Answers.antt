use Rattle.std.proofs.Common.{refl, replicate}
use Rattle.join_frames.proofs.Blocks.{joined_parts}
use Rattle.join_frames.proofs.sealing.joined.Goals as goal

pub returns : goal.returns
returns c =
    joined_parts c.args.first.now c.args.last.now _ _ (replicate 16 0) refl c.requires c.copy_from_slice.ensures.after c.copy_from_slice-2.ensures.after
