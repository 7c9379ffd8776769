use Rattle.std.proofs.Common.{take}
use Rattle.std.specs.List.{list_any}
use Rattle.wire_ids.specs.declared.address.DevAddr.{DevAddr}
use Rattle.entry_codec.specs.Free.{Marks}
use Rattle.entry_codec.specs.LookUps.{device_has}
use Rattle.entry_codec.proofs.free.mark_devices.Given as goal

abbrev pub invariant-loop-device : goal.invariant-loop-device
invariant-loop-device l = Marks l.first (λ (a : DevAddr). list_any (device_has a) (take l.device-index l.devices)) l.fn.marks l.marks
