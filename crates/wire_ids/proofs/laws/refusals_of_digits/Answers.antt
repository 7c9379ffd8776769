use Rattle.wire_ids.proofs.Reading.{bad_first, bad_length, first_bad, length_bad}
use Rattle.wire_ids.proofs.laws.refusals_of_digits.Goals as goal

pub returns-clause-length : goal.returns-clause-length
returns-clause-length c = λ n got text. (bad_length n got text, length_bad n got text)

pub returns-clause-digit : goal.returns-clause-digit
returns-clause-digit c = λ n place text. (first_bad n place text, bad_first n place text)
