use Rattle.std.proofs.Common.{List, ap, subst, ◌∙◌}
use Rattle.std.specs.List.{list_any}
use Rattle.wire_ids.specs.declared.address.DevAddr.{DevAddr}
use Rattle.entry_codec.specs.Free.{Marks, ask_stays, visitor_stays}
use Rattle.entry_codec.specs.LookUps.{device_has}
use Rattle.entry_codec.specs.State.{Room}
use Rattle.entry_codec.specs.declared.device.Device.{Device}
use Rattle.entry_codec.specs.declared.parties.OpenAsk.{OpenAsk}
use Rattle.entry_codec.specs.declared.parties.Visitor.{Visitor}
use Rattle.entry_codec.proofs.Window.{marks_taken}
use Rattle.entry_codec.proofs.now.Now.mark_taken.Goals as goal

pub returns : goal.returns
returns c = marks_taken c.args.first c.args.at c.args.self.now.machine c.args.marks.now c.mark_devices.new.marks c.mark_visitors.new.marks c.mark_asks.new.marks
    (subst (λ (ds : List Device). Marks c.args.first (λ (x : DevAddr). list_any (device_has x) ds) c.args.marks.now c.mark_devices.new.marks) (c.as_slice.ensures.value ∙ ap (λ (r : Room). r.machine.devices) c.self.view_is) c.mark_devices.ensures)
    (subst (λ (vs : List Visitor). Marks c.args.first (λ (x : DevAddr). list_any (visitor_stays c.args.at x) vs) c.mark_devices.new.marks c.mark_visitors.new.marks) (c.as_slice-2.ensures.value ∙ ap (λ (r : Room). r.machine.visitors) c.self.view_is) c.mark_visitors.ensures)
    (subst (λ (xs : List OpenAsk). Marks c.args.first (λ (x : DevAddr). list_any (ask_stays c.args.at x) xs) c.mark_visitors.new.marks c.mark_asks.new.marks) (c.as_slice-3.ensures.value ∙ ap (λ (r : Room). r.machine.asks) c.self.view_is) c.mark_asks.ensures)
