use Rattle.std.proofs.Common.{◌≤◌, ◌-◌, length}
use Rattle.std.specs.Io.KnownBytes.{Consumes}
use Rattle.desk_top.proofs.opening.read_text.Given as goal

-- what was taken so far is the text
abbrev pub invariant-pieces : goal.invariant-pieces
invariant-pieces g l = record {
  part : Consumes (g.S.Source.left l.fn.source) (g.S.Source.left l.source) l.text.items;
  within : length l.text.items ≤ l.most;
  count : g.S.Source.faults l.fn.source ≤ g.S.Source.faults l.source;
}

abbrev pub decreases-pieces : goal.decreases-pieces
decreases-pieces g l = l.most - length l.text.items
