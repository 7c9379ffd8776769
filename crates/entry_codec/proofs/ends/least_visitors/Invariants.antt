use Rattle.std.proofs.Common.{◌≤◌, take}
use Rattle.std.specs.List.{AllByRecursion}
use Rattle.entry_codec.specs.Ends.{VisitorEndsFrom}
use Rattle.entry_codec.proofs.ends.least_visitors.Given as goal

abbrev pub invariant-loop-visitor : goal.invariant-loop-visitor
invariant-loop-visitor l = record {
  all : AllByRecursion (VisitorEndsFrom l.least) (take l.visitor-index l.visitors);
  most : l.least ≤ l.fn.most;
}
