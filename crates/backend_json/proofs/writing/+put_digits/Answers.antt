use Rattle.backend_json.proofs.Digits.{digits_more}
use Rattle.backend_json.proofs.writing.+put_digits.Goals as goal

pub returns : goal.returns
returns t c = digits_more c.put_digits.result _ _ _ _ _ _ 32 c.split_at.ensures.front c.split_at.ensures.back c.in_ok-put_block.ensures c.put_digits.ensures
