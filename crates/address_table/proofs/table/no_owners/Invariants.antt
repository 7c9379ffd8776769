use Rattle.std.proofs.Common.{◌≡◌, ◌≤◌, None, replicate, vec_capacity}
use Rattle.address_table.proofs.table.no_owners.Given as goal

abbrev pub invariant-loop-done : goal.invariant-loop-done
invariant-loop-done l = record {
  room : 10368 ≤ vec_capacity l.cells;
  so_far : l.cells.items ≡ replicate l.done None;
}
