use Rattle.std.proofs.Common.{◌≤◌, take}
use Rattle.std.specs.List.{AllByRecursion}
use Rattle.entry_codec.specs.Ends.{IsGrantedFrom}
use Rattle.entry_codec.proofs.ends.least_granted.Given as goal

abbrev pub invariant-loop-one : goal.invariant-loop-one
invariant-loop-one l = record {
  all : AllByRecursion (IsGrantedFrom l.least) (take l.one-index l.granted);
  most : l.least ≤ l.fn.most;
}
