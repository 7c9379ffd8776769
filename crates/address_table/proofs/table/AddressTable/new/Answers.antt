use Rattle.std.proofs.Common.{false, ap, length, map, sym, ◌∙◌, List, Option}
use Rattle.std.specs.Prelude.{is_some}
use Rattle.address_table.specs.declared.owner.Owner.{Owner}
use Rattle.address_table.proofs.Cells.{none_marked, none_owned, none_there}
use Rattle.address_table.proofs.table.AddressTable.new.Goals as goal

pub invariant_of-result : goal.invariant_of-result
invariant_of-result c = (
  ap (λ (l : List (Option Owner)). length l) c.in_ok-no_owners.ensures ∙ none_there,
  c.in_ok-new.ensures ∙ none_marked ∙ sym (ap (map is_some) c.in_ok-no_owners.ensures),
)

pub returns : goal.returns
returns c addr = none_owned c.args.first.0 c.in_ok-no_owners.field-0.items false addr c.in_ok-no_owners.ensures
