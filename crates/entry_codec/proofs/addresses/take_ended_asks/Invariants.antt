use Rattle.std.proofs.Common.{take}
use Rattle.std.specs.List.{list_any}
use Rattle.wire_ids.specs.declared.address.DevAddr.{DevAddr}
use Rattle.entry_codec.specs.Addresses.{TakenOut, ask_ended}
use Rattle.entry_codec.proofs.addresses.take_ended_asks.Given as goal

abbrev pub invariant-loop-ask : goal.invariant-loop-ask
invariant-loop-ask l = TakenOut (λ (a : DevAddr). list_any (ask_ended l.at a) (take l.ask-index l.asks)) l.fn.table l.table
