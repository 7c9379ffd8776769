use Rattle.std.proofs.Common.{arith}
use Rattle.disk_model.proofs.WrittenLemmas.{Appends_take}
use Rattle.disk_model.proofs.whole.write_whole.Goals as goal

pub loop-done-preserved : goal.loop-done-preserved
loop-done-preserved g c = record {
  within = omega (arith, c.in_ok-done.ensures.bound);
  part = Appends_take _ _ _ _ _ _ c.loop-done.invariant.part c.in_ok-done.ensures.bytes;
  count = omega (arith, c.loop-done.invariant.count, c.in_ok-done.ensures.cause.later);
}
