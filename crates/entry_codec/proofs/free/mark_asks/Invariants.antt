use Rattle.std.proofs.Common.{take}
use Rattle.std.specs.List.{list_any}
use Rattle.wire_ids.specs.declared.address.DevAddr.{DevAddr}
use Rattle.entry_codec.specs.Free.{Marks, ask_stays}
use Rattle.entry_codec.proofs.free.mark_asks.Given as goal

abbrev pub invariant-loop-ask : goal.invariant-loop-ask
invariant-loop-ask l = Marks l.first (λ (a : DevAddr). list_any (ask_stays l.at a) (take l.ask-index l.asks)) l.fn.marks l.marks
