use Rattle.entry_codec.proofs.Tabled.{taken_slots}
use Rattle.entry_codec.proofs.addresses.take_slots.Goals as goal

pub returns : goal.returns
returns c = taken_slots c.args.slots.now c.args.table.now c.take_slot.new.table c.take_slot-2.new.table c.take_slot.ensures c.take_slot-2.ensures
