use Rattle.wire_ids.proofs.Sharing.{same_from_shared, shared_from_same}
use Rattle.wire_ids.proofs.laws.networks_of_one_address.Goals as goal

pub returns : goal.returns
returns c = λ a b ha hb. (same_from_shared a b ha hb, shared_from_same a b)
