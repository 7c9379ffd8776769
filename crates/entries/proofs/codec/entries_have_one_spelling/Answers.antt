use Rattle.std.proofs.Common.{sym, ◌∙◌}
use Rattle.entries.proofs.Entries.{decode-encode, encode-decode}
use Rattle.entries.proofs.codec.entries_have_one_spelling.Goals as goal

pub returns : goal.returns
returns c = record { again = decode-encode; one = λ a b e ia ib ra rb. (encode-decode a e ia ra).0 ∙ sym (encode-decode b e ib rb).0 }
