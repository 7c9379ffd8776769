use Rattle.std.proofs.Common.{Some}
use Rattle.entry_codec.proofs.Tabled.{put_slots}
use Rattle.entry_codec.proofs.addresses.put_slots.Goals as goal

pub returns : goal.returns
returns c = put_slots (Some c.args.owner) c.args.slots.now c.args.table.now c.put_slot.new.table c.put_slot-2.new.table c.put_slot.ensures c.put_slot-2.ensures
