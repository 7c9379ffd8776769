use Rattle.std.proofs.Common.{◌≡◌, ◌++◌, true, take, drop}
use Rattle.json.specs.Print.{escape}
use Rattle.backend_json.proofs.writing.is_plain.Given as goal

abbrev pub invariant-loop-byte : goal.invariant-loop-byte
invariant-loop-byte l = l.plain ≡ true → escape l.text ≡ take l.byte-index l.text ++ escape (drop l.byte-index l.text)
