use Rattle.std.proofs.Common.{◌≡◌, length, ap, arith, ◌∙◌}
use Rattle.std.proofs.lemmas.List.{length-map}
use Rattle.desk_top.proofs.desk.run_desk.Goals as goal

pub with_closures-requires-clause-few : goal.with_closures-requires-clause-few
with_closures-requires-clause-few g c =
    let rows : length c.in-Ok.keys_and_ring.0.items ≡ length c.args.opened.tables.devices = ap length c.in-Ok.ensures.keys ∙ simp length-map in
    omega (arith, rows, c.devices-count.ensures.few)
