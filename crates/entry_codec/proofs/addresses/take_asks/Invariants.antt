use Rattle.std.proofs.Common.{take}
use Rattle.std.specs.List.{list_any}
use Rattle.wire_ids.specs.declared.address.DevAddr.{DevAddr}
use Rattle.entry_codec.specs.Addresses.{TakenOut}
use Rattle.entry_codec.specs.LookUps.{asks_for}
use Rattle.entry_codec.proofs.addresses.take_asks.Given as goal

abbrev pub invariant-loop-ask : goal.invariant-loop-ask
invariant-loop-ask l = TakenOut (λ (a : DevAddr). list_any (asks_for a) (take l.ask-index l.asks)) l.fn.table l.table
