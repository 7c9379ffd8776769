use Rattle.std.proofs.Common.{◌≡◌, ℕ, ◌∙◌, None, Option, ap, arith, replicate}
use Rattle.address_table.specs.Table.{window}
use Rattle.address_table.specs.declared.owner.Owner.{Owner}
use Rattle.address_table.proofs.table.no_owners.Goals as goal

pub returns : goal.returns
returns c =
    let all : c.loop-done.done ≡ window = grind (arith, c.loop-done.auto.done-end, c.loop-done-test.false) in
    c.loop-done.invariant.so_far ∙ ap (λ (n : ℕ). replicate n nobody) all
  where
    nobody : Option Owner
    nobody = None
