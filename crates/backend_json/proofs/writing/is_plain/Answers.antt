use Rattle.std.proofs.Common.{arith}
use Rattle.backend_json.proofs.Digits.{plain_yet}
use Rattle.backend_json.proofs.writing.is_plain.Goals as goal

pub loop-byte-preserved : goal.loop-byte-preserved
loop-byte-preserved c = plain_yet c.loop-byte.plain c.args.text.now c.loop-byte.byte-index (omega arith) c.loop-byte.invariant
