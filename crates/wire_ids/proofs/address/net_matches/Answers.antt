use Rattle.std.proofs.Common.{◌-◌, lt-ltb, ltb-true}
use Rattle.wire_ids.specs.Addresses.{base_of, room_of}
use Rattle.wire_ids.proofs.Spans.{number_at, number_from}
use Rattle.wire_ids.proofs.address.net_matches.Goals as goal

pub returns-then-addr-base : goal.returns-then-addr-base
returns-then-addr-base c =
    let net = c.args.net in
    let low = rw c.span-base.ensures.base at c.if-addr-base.true in
    rw (c.span-base.ensures.base, c.span-base.ensures.room) (
      λ h. (c.args.addr.0 - base_of net, number_at (base_of net) (room_of net) c.args.addr.0 low (ltb-true _ _ h)),
      λ m. lt-ltb _ _ (number_from (base_of net) (room_of net) m.0 c.args.addr.0 m.1),
    )
