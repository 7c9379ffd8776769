use Rattle.std.proofs.Common.{arith, rules, subst}
use Rattle.entry_codec.specs.Ends.{DeviceEndsFrom}
use Rattle.entry_codec.proofs.Lasting.{all_next, device-less}
use Rattle.entry_codec.proofs.ends.least_devices.Goals as goal

pub loop-device-preserved : goal.loop-device-preserved
loop-device-preserved c = record {
  all = all_next (DeviceEndsFrom c.loop-device.least) (DeviceEndsFrom c.least_device-least.result) c.args.devices.now c.loop-device.device-index c.device-item.result
      (device-less c.least_device-least.result c.loop-device.least c.least_device-least.ensures.most) c.loop-device.invariant.all (search rules)
      (subst (DeviceEndsFrom c.least_device-least.result) c.device-item.is c.least_device-least.ensures.device);
  most = omega (arith, c.least_device-least.ensures.most, c.loop-device.invariant.most);
}
