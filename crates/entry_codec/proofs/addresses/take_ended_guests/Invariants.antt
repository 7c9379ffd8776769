use Rattle.std.proofs.Common.{take}
use Rattle.std.specs.List.{list_any}
use Rattle.wire_ids.specs.declared.address.DevAddr.{DevAddr}
use Rattle.entry_codec.specs.Addresses.{TakenOut, guest_ended}
use Rattle.entry_codec.proofs.addresses.take_ended_guests.Given as goal

abbrev pub invariant-loop-visitor : goal.invariant-loop-visitor
invariant-loop-visitor l = TakenOut (λ (a : DevAddr). list_any (guest_ended l.at a) (take l.visitor-index l.visitors)) l.fn.table l.table
