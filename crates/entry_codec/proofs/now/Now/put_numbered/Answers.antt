use Rattle.std.proofs.Common.{false, None, Some, ap, sym, ◌∙◌}
use Rattle.std.specs.Option.{option_copied}
use Rattle.wire_ids.specs.declared.address.DevAddr.{DevAddr}
use Rattle.address_table.specs.declared.owner.Owner.TheVariants as owner
use Rattle.entry_codec.specs.Addresses.{has}
use Rattle.entry_codec.specs.LookUps.{asks_for}
use Rattle.entry_codec.proofs.Tabled.{ask_is, put_as, none_put}
use Rattle.entry_codec.proofs.now.Now.put_numbered.Goals as goal

pub returns-in-Some : goal.returns-in-Some
returns-in-Some c =
    let m = c.args.self.now.machine in
    put_as (Some (owner.Ask c.args.number)) (λ (a : DevAddr). asks_for a c.in-Some.ask.now) (λ (a : DevAddr). has (owner.Ask c.args.number) a m) c.args.table.now c.put_ask.new.table
    (ask_is m c.requires c.args.number (Some c.in-Some.ask.now) (sym c.ask_numbered.ensures ∙ ap option_copied c.in-Some.is)) c.put_ask.ensures

pub returns-in_default : goal.returns-in_default
returns-in_default c =
    let m = c.args.self.now.machine in
    put_as (Some (owner.Ask c.args.number)) (λ (a : DevAddr). false) (λ (a : DevAddr). has (owner.Ask c.args.number) a m) c.args.table.now c.args.table.now
    (ask_is m c.requires c.args.number None (sym c.ask_numbered.ensures ∙ ap option_copied c.in_default.is)) (none_put (Some (owner.Ask c.args.number)) c.args.table.now)
