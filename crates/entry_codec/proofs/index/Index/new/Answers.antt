use Rattle.std.proofs.Common.{◌-◌, length, refl, rules}
use Rattle.entry_codec.proofs.Names.{index_next}
use Rattle.entry_codec.proofs.index.Index.new.Goals as goal

pub loop-done-preserved : goal.loop-done-preserved
loop-done-preserved c = record {
  count = refl;
  places = index_next c.loop-done.places c.put.new.places c.args.rows.now c.loop-done.done (length c.args.rows.now - 1 - c.loop-done.done) c.index-rows-at.result (search rules) refl
      (λ q. c.in_ok-put.ensures q) c.loop-done.invariant.places;
}
