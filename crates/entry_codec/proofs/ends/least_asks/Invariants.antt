use Rattle.std.proofs.Common.{◌≤◌, take}
use Rattle.std.specs.List.{AllByRecursion}
use Rattle.entry_codec.specs.Ends.{AskEndsFrom}
use Rattle.entry_codec.proofs.ends.least_asks.Given as goal

abbrev pub invariant-loop-ask : goal.invariant-loop-ask
invariant-loop-ask l = record {
  all : AllByRecursion (AskEndsFrom l.least) (take l.ask-index l.asks);
  most : l.least ≤ l.fn.most;
}
