use Rattle.std.proofs.Common.{rules, replicate, refl, ap, ◌∙◌, append_assoc}
use Rattle.key_wrap.specs.Wrap.{Registers, registers_text}
use Rattle.key_wrap.proofs.Bytes.{put_end}
use Rattle.key_wrap.proofs.registers.Registers.text.Goals as goal

pub returns : goal.returns
returns c =
    put_end c.joined.result (replicate 8 0) c.self.inside.r2 c.copy_from_slice.new.self c.copy_from_slice-2.new.self 16 8 (search rules) refl
    c.copy_from_slice.ensures.after c.copy_from_slice-2.ensures.after
    ∙ rw c.joined.ensures (append_assoc c.self.inside.a c.self.inside.r1 c.self.inside.r2) ∙ ap (λ (s : Registers). registers_text s) c.self.view_is
