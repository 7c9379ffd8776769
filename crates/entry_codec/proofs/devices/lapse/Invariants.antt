use Rattle.std.proofs.Common.{◌≡◌, ◌++◌, take, drop, map, vec_len}
use Rattle.entry_codec.specs.Devices.{lapsed}
use Rattle.entry_codec.proofs.devices.lapse.Given as goal

abbrev pub invariant-loop-i : goal.invariant-loop-i
invariant-loop-i l = record {
  devices : l.devices.items ≡ map (lapsed l.at) (take l.i l.fn.devices.items) ++ drop l.i l.fn.devices.items;
  count : l.count ≡ vec_len l.devices;
}
