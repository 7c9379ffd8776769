use Rattle.data_frames.proofs.Written.{first_count, next_count, one_count}
use Rattle.data_frames.proofs.laws.full_counters_are_found.Goals as goal

pub returns-clause-one : goal.returns-clause-one
returns-clause-one c = one_count

pub returns-clause-first : goal.returns-clause-first
returns-clause-first c = first_count

pub returns-clause-next : goal.returns-clause-next
returns-clause-next c = next_count
