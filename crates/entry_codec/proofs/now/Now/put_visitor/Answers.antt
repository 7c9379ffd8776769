use Rattle.std.proofs.Common.{false, None, Some, ap, sym, ◌∙◌}
use Rattle.std.specs.Option.{option_copied}
use Rattle.wire_ids.specs.declared.address.DevAddr.{DevAddr}
use Rattle.address_table.specs.declared.owner.Owner.TheVariants as owner
use Rattle.entry_codec.specs.Addresses.{has}
use Rattle.entry_codec.specs.LookUps.{slots_have}
use Rattle.entry_codec.proofs.Tabled.{guest_is, put_as, none_put}
use Rattle.entry_codec.proofs.now.Now.put_visitor.Goals as goal

pub returns-in-Some : goal.returns-in-Some
returns-in-Some c =
    let m = c.args.self.now.machine in
    put_as (Some (owner.Visitor c.args.dev)) (λ (a : DevAddr). slots_have a c.in-Some.visitor.now.slots) (λ (a : DevAddr). has (owner.Visitor c.args.dev) a m) c.args.table.now c.put_slots.new.table
    (guest_is m c.requires c.args.dev (Some c.in-Some.visitor.now) (sym c.guest.ensures ∙ ap option_copied c.in-Some.is)) c.put_slots.ensures

pub returns-in_default : goal.returns-in_default
returns-in_default c =
    let m = c.args.self.now.machine in
    put_as (Some (owner.Visitor c.args.dev)) (λ (a : DevAddr). false) (λ (a : DevAddr). has (owner.Visitor c.args.dev) a m) c.args.table.now c.args.table.now
    (guest_is m c.requires c.args.dev None (sym c.guest.ensures ∙ ap option_copied c.in_default.is)) (none_put (Some (owner.Visitor c.args.dev)) c.args.table.now)
