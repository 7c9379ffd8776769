use Rattle.std.proofs.Common.{◌≡◌, ◌≤◌, ℕ, List, [], ◌∷◌, ◌++◌, length, ◌∙◌, ap, arith}
use Rattle.std.proofs.lemmas.List.{drop_all}
use Rattle.std.proofs.lemmas.Result.{on_ok_weaker}
use Rattle.disk_model.specs.Disk.{Overwrites}
use Rattle.disk_journal.specs.Format.{mark}
use Rattle.disk_journal.proofs.fresh.write_fresh.Goals as goal

-- the mark and a closed gate, written over at most so many bytes
fresh_is : (c d : List ℕ) → length c ≤ 17 → Overwrites 0 (mark ++ 0 ∷ []) c d → d ≡ mark ++ 0 ∷ []
unfolding mark
fresh_is c d short holds = holds ∙ ap (λ (l : List ℕ). (mark ++ 0 ∷ []) ++ l) (drop_all 17 c short)

pub returns-clause-fresh : goal.returns-clause-fresh
unfolding mark
returns-clause-fresh g c =
    on_ok_weaker c.sync.result (λ durable. λ x told short.
    let step = c.in_ok-write_at.ensures.written.told x told in
    let is = fresh_is x step.0 short step.2 in
    (step.0, c.sync.ensures.seen ∙ step.1, (0, (λ no. absurd (omega arith)), is), durable step.0 step.1)) c.sync.ensures.lasts
