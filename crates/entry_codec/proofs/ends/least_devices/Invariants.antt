use Rattle.std.proofs.Common.{◌≤◌, take}
use Rattle.std.specs.List.{AllByRecursion}
use Rattle.entry_codec.specs.Ends.{DeviceEndsFrom}
use Rattle.entry_codec.proofs.ends.least_devices.Given as goal

abbrev pub invariant-loop-device : goal.invariant-loop-device
invariant-loop-device l = record {
  all : AllByRecursion (DeviceEndsFrom l.least) (take l.device-index l.devices);
  most : l.least ≤ l.fn.most;
}
