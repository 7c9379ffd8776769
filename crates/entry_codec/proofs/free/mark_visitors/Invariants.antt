use Rattle.std.proofs.Common.{take}
use Rattle.std.specs.List.{list_any}
use Rattle.wire_ids.specs.declared.address.DevAddr.{DevAddr}
use Rattle.entry_codec.specs.Free.{Marks, visitor_stays}
use Rattle.entry_codec.proofs.free.mark_visitors.Given as goal

abbrev pub invariant-loop-visitor : goal.invariant-loop-visitor
invariant-loop-visitor l = Marks l.first (λ (a : DevAddr). list_any (visitor_stays l.at a) (take l.visitor-index l.visitors)) l.fn.marks l.marks
