use Rattle.std.proofs.Common.{◌≡◌, ◌<◌, ℕ, ◌^◌, Some}
use Rattle.std.specs.Prelude.{slice_get}
use Rattle.agreements.specs.declared.rows.NetworkRow.{NetworkRow}
use Rattle.roam_core.proofs.senders.have_net_ids.Given as goal

abbrev pub invariant-loop-row : goal.invariant-loop-row
invariant-loop-row l = (k : ℕ) (r : NetworkRow) → k < l.row-index → slice_get l.rows k ≡ Some r → r.net_id < 2 ^ 24
