use Rattle.entry_codec.proofs.Window.{marks_slots}
use Rattle.entry_codec.proofs.free.mark_slots.Goals as goal

pub returns : goal.returns
returns c = marks_slots c.args.first c.args.slots.now c.args.marks.now c.mark_slot.new.marks c.mark_slot-2.new.marks c.mark_slot.ensures c.mark_slot-2.ensures
