use Rattle.wire_ids.specs.Forms.{both, short, u32}
use Rattle.wire_ids.proofs.Forms.{form-below, form-both, form-exactly, form-flag, form-long, form-mark, form-optional, form-short, form-u16, form-u24, form-u32, form-u64, form-u8}
use Rattle.wire_ids.proofs.laws.fields_have_one_spelling.Goals as goal

pub returns-clause-numbers : goal.returns-clause-numbers
returns-clause-numbers c = (form-u8, form-u16, form-u24, form-u32, form-u64)

pub returns-clause-bytes : goal.returns-clause-bytes
returns-clause-bytes c = λ n. (form-below n, form-mark n, form-exactly n)

pub returns-clause-texts : goal.returns-clause-texts
returns-clause-texts c = (form-short, form-long)

pub returns-clause-flag : goal.returns-clause-flag
returns-clause-flag c = form-flag

pub returns-clause-composed : goal.returns-clause-composed
returns-clause-composed c = form-optional (both u32 short) (form-both u32 short form-u32 form-short)
