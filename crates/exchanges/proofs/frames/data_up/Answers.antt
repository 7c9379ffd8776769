use Rattle.std.proofs.Common.{sym}
use Rattle.exchanges.proofs.Reading.{data_read, no_data}
use Rattle.exchanges.proofs.frames.data_up.Goals as goal

pub returns-in-Ok-clause-form : goal.returns-in-Ok-clause-form
returns-in-Ok-clause-form c = sym (data_read _ _ c.in-Ok.ensures.form).form

pub returns-in-Ok-clause-fields : goal.returns-in-Ok-clause-fields
returns-in-Ok-clause-fields c = data_read _ _ c.in-Ok.ensures.form

pub returns-in-Err-clause-form : goal.returns-in-Err-clause-form
returns-in-Err-clause-form c = sym (no_data _ _ c.in-Err.ensures.fault)
