use Rattle.std.proofs.Common.{◌≡◌, drop, length}
use Rattle.std.specs.Prelude.{find}
use Rattle.entry_codec.specs.Kept.{has_body}
use Rattle.entry_codec.proofs.kept.KeptPairs.answer_among.Given as goal

abbrev pub invariant-loop-i : goal.invariant-loop-i
invariant-loop-i l = record {
  count : l.count ≡ length l.self;
  none : find (has_body l.body) (drop l.i l.self) ≡ find (has_body l.body) l.self;
}
