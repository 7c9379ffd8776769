-- A line above the limit is answered as its first bytes are.
use Rattle.std.proofs.Common.{◌≡◌, ℕ, ◌<◌, List, length, take, Err, arith, lt-ltb, refl}
use Rattle.std.proofs.lemmas.List.{length-take}
use Rattle.backend_json.specs.Messages.{message_of}
use Rattle.backend_json.specs.declared.message.Bad.TheVariants as bad
use Rattle.roam_core.specs.Lines.{TooLongAlike, line_decided, reaction}

long : (line : List ℕ) → 8192 < length line → message_of line ≡ Err bad.TooLong
unfolding message_of
long line h = rw (lt-ltb 8192 (length line) h) refl

first_long : (line : List ℕ) → 8192 < length line → message_of (take 8193 line) ≡ Err bad.TooLong
first_long line h = long (take 8193 line) (omega (arith, length-take 8193 line))

pub too_long_alike : TooLongAlike
unfolding reaction line_decided
too_long_alike c keys s line now h = rw (first_long line h, long line h) (refl, refl)
