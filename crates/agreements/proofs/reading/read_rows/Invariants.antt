use Rattle.std.proofs.Common.{map, drop, [], ◌≡◌, length}
use Rattle.toml.specs.View.{view}
use Rattle.agreements.specs.Steps.{all_after, numbered}
use Rattle.agreements.proofs.reading.read_rows.Given as goal

-- the walk from here is the walk from the start
abbrev pub invariant-loop-value : goal.invariant-loop-value
invariant-loop-value g l = (length l.rows ≡ l.value-index) × (all_after (numbered (g.S.ReadRow.row_in l.fn.section)) l.rows (map view (drop l.value-index l.values)) ≡ all_after (numbered (g.S.ReadRow.row_in l.fn.section)) [] (map view l.fn.values))
