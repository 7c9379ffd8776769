use Rattle.roam_core.proofs.Staying.{state_after, state_first}
use Rattle.roam_core.proofs.laws.states_stay.Goals as goal

pub returns : goal.returns
returns c = record { first = state_first; later = state_after }
