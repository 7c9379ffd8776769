use Rattle.std.proofs.Common.{rules, ◌≡◌, ap, ◌∙◌}
use Rattle.entries.specs.Entries.{decode_of, encode_of}
use Rattle.entries.proofs.Entries.{decode-encode}
use Rattle.entries.proofs.codec.encode.Goals as goal

pub returns-clause-again : goal.returns-clause-again
unfolding encode_of
returns-clause-again c =
    let spelled : c.new.result ≡ encode_of c.args.entry.now = search rules in
    ap decode_of spelled ∙ decode-encode c.args.entry.now c.in_ok-put_entry.ensures.fits
