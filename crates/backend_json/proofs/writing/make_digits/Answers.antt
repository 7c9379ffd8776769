use Rattle.std.proofs.Common.{rules, ℕ, ◌<◌, get_or}
use Rattle.backend_json.proofs.Digits.{digits_escape, of_ok}
use Rattle.backend_json.proofs.writing.make_digits.Goals as goal

pub returns : goal.returns
returns c =
    let bytes = c.args.bytes.now in
    let small : (i : ℕ) → get_or bytes i 0 < 256 = λ i. search rules in
    rw (digits_escape bytes small) (of_ok c.encode_to_slice.result (c.encode_to_slice.ensures.fits.1 c.requires) c.encode_to_slice.ensures.written)
