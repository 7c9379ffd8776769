use Rattle.std.proofs.Common.{arith, rules}
use Rattle.std.proofs.lemmas.List.Edits.{map_over_more}
use Rattle.entry_codec.specs.Devices.{lapsed}
use Rattle.entry_codec.proofs.devices.lapse.Goals as goal

pub loop-i-preserved : goal.loop-i-preserved
loop-i-preserved c = record {
  devices = rw c.lapse.ensures (map_over_more (lapsed c.args.at) c.args.devices.now.items c.loop-i.devices.items c.loop-i.i c.index_mut-device.result.now (omega arith) c.loop-i.invariant.devices c.index_mut-device.ensures.value);
  count = search rules;
}
