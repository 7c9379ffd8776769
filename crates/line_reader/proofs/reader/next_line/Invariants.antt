use Rattle.std.proofs.Common.{◌≡◌, ℕ, ◌≤◌, ◌+◌, List, length, take}
use Rattle.std.specs.Io.KnownBytes.{Consumes}
use Rattle.line_reader.specs.Ahead.{budget, coming, TakesCount}
use Rattle.line_reader.specs.Lines.{HasNoBreak}
use Rattle.line_reader.proofs.reader.next_line.Given as goal

-- a part of the line has come, and stands in what is held
abbrev pub invariant-pieces : goal.invariant-pieces
invariant-pieces g l =
    let left = g.T.Source.left in
    let faults = g.T.Source.faults in
    record {
      part : (front : List ℕ) × Consumes (coming l.fn.ahead (left l.fn.source)) (coming l.ahead (left l.source)) front × HasNoBreak front × (l.text.items ≡ take 8193 front) × (budget l.ahead + length front ≤ budget l.fn.ahead);
      taken : TakesCount (left l.fn.source) (left l.source) l.fn.ahead.taken l.ahead.taken;
      limit : l.ahead.limit ≡ l.fn.ahead.limit;
      within : l.ahead.taken ≤ l.ahead.limit;
      count : faults l.fn.source ≤ faults l.source;
    }

abbrev pub decreases-pieces : goal.decreases-pieces
decreases-pieces g l = budget l.ahead
