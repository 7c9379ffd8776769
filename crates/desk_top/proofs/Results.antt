-- Clauses over results.
use Rattle.std.proofs.Common.{Result, Ok, Err, OnErr, Option, Some, None}
use Rattle.std.specs.Prelude.{IfErr, IfNone}
use Rattle.desk_top.specs.Faults.{StopsLines}
use Rattle.desk_top.specs.declared.fault.Fault.{Fault}

pub on_err : {T E P : Type 0} (r : Result T E) → P → OnErr r P
on_err (Ok x) p = tt
on_err (Err e) p = p

pub none_weaker : {A P Q : Type 0} (r : Option A) → (P → Q) → IfNone r P → IfNone r Q
none_weaker None f p = f p
none_weaker (Some x) f p = tt

-- whatever the fault is, but one that stops the lines
pub not_stopped : {T Q : Type 0} (r : Result T Fault) → Q → IfErr r (λ e. (StopsLines e → ⊥) → Q)
not_stopped (Ok x) q = tt
not_stopped (Err e) q = λ not. q
