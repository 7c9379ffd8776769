use Rattle.std.proofs.Common.{◌≡◌, ◌-◌, length, map}
use Rattle.entry_codec.specs.Index.{row_number}
use Rattle.entry_codec.proofs.Names.{IsIndexFrom}
use Rattle.entry_codec.proofs.index.Index.new.Given as goal

abbrev pub invariant-loop-done : goal.invariant-loop-done
invariant-loop-done l = record {
  count : l.count ≡ length l.rows;
  places : IsIndexFrom l.places (l.count - l.done) (map row_number l.rows);
}
