use Rattle.std.proofs.Common.{◌≤◌, take}
use Rattle.std.specs.List.{AllByRecursion}
use Rattle.entry_codec.specs.Ends.{HeldEndsFrom}
use Rattle.entry_codec.proofs.ends.least_held.Given as goal

abbrev pub invariant-loop-session : goal.invariant-loop-session
invariant-loop-session l = record {
  all : AllByRecursion (HeldEndsFrom l.least) (take l.session-index l.held);
  most : l.least ≤ l.fn.most;
}
