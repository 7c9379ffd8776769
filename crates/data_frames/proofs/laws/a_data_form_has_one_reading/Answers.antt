use Rattle.data_frames.proofs.Spelling.{form_has_no_fault, one_reading}
use Rattle.data_frames.proofs.laws.a_data_form_has_one_reading.Goals as goal

pub returns-clause-one : goal.returns-clause-one
returns-clause-one c = one_reading

pub returns-clause-none : goal.returns-clause-none
returns-clause-none c = form_has_no_fault
