use Rattle.std.proofs.Common.{◌<◌, ◌∙◌, arith, length, sym}
use Rattle.entry_codec.specs.LookUps.{device_has}
use Rattle.entry_codec.specs.Machine.{lapse}
use Rattle.entry_codec.proofs.Ordered.{place_within}
use Rattle.entry_codec.proofs.Ready.{length_lapse}
use Rattle.entry_codec.proofs.now.Now.holder_with.Goals as goal

pub overflow_cast-result : goal.overflow_cast-result
overflow_cast-result c =
    let m = c.args.self.now.machine in
    let within : c.in-Some.device < length (lapse c.args.at m).devices = place_within (device_has c.args.addr) (lapse c.args.at m).devices c.in-Some.device (sym c.device_with_at.ensures ∙ c.in-Some.is) in
    omega (arith, within, length_lapse c.args.at m, c.requires)
