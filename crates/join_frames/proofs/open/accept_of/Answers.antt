use Rattle.std.proofs.Common.{rules, ◌≡◌, length}
use Rattle.join_frames.specs.Accepts.{fixed_fields}
use Rattle.join_frames.proofs.Bytes.{AreBytes}
use Rattle.join_frames.proofs.Opening.{fields_read, one_accept}
use Rattle.join_frames.proofs.open.accept_of.Goals as goal

pub returns-clause-fields : goal.returns-clause-fields
unfolding fixed_fields
returns-clause-fields c =
    let len : length c.args.block ≡ 16 = search rules in
    let below : AreBytes c.args.block = search rules in
    fields_read c.args.block _ _ _ len below c.from_wire.ensures.bytes c.from_wire-2.ensures.bytes c.from_wire-3.ensures

pub returns-clause-only : goal.returns-clause-only
returns-clause-only c = λ a rest ranges answers begins same_cf.
    one_accept a rest c.args.block c.args.kind c.args.dev c.args.join_eui c.args.counter _ _ _ c.args.cf ranges answers begins same_cf
    (search rules) (search rules) c.from_wire.ensures.bytes c.from_wire-2.ensures.bytes c.from_wire-3.ensures
