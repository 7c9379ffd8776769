use Rattle.std.proofs.Common.{refl}
use Rattle.join_frames.specs.Mics.{mic}
use Rattle.join_frames.specs.Accepts.{mic_text}
use Rattle.join_frames.proofs.sealing.accept_mic.Goals as goal

pub returns : goal.returns
unfolding mic mic_text
returns c =
    let three = c.update-3.ensures _ _ (c.update-2.ensures _ _ (c.update.ensures _ _ c.new-cmac.ensures)) in
    let six = c.update-6.ensures _ _ (c.update-5.ensures _ _ (c.update-4.ensures _ _ three)) in
    rw (
      c.first_four.ensures,
      c.finish.ensures _ _ six,
      c.new-keys.ensures,
      c.cf_list.ensures,
      c.fixed_fields.ensures,
      c.to_le_bytes.ensures,
      c.to_wire.ensures,
      c.join_req_type.ensures,
    ) refl
