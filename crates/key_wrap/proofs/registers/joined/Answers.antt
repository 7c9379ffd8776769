use Rattle.std.proofs.Common.{rules, replicate, refl}
use Rattle.key_wrap.proofs.Bytes.{put_end}
use Rattle.key_wrap.proofs.registers.joined.Goals as goal

pub returns : goal.returns
returns c =
    put_end c.args.a (replicate 8 0) c.args.r c.copy_from_slice.new.self c.copy_from_slice-2.new.self 8 8 (search rules) refl
    c.copy_from_slice.ensures.after c.copy_from_slice-2.ensures.after
