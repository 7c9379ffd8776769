use Rattle.std.proofs.Common.{◌≡◌, ◌++◌, OnOk, ◌∙◌, subst, append-nil}
use Rattle.std.specs.Prelude.{codes}
use Rattle.serde_json.specs.Data.{member, no_members, object, string}
use Rattle.serde_json.specs.Written.{compact_text}
use Rattle.backend_json.specs.Answers.{hex_data, key_data}
use Rattle.backend_json.proofs.value.put_key.Goals as goal

-- a label is its own text, with nothing behind it
pub returns : goal.returns
unfolding key_data
returns c = subst (λ label. OnOk c.put_pair.result (c.put_pair.new.out.items ≡ c.args.out.now.items ++ compact_text (object
    (member (codes "AESKey") (hex_data c.args.key.now.aes_key) (member (codes "KEKLabel") (string label) no_members)))))
    (append-nil c.as_slice.result.now ∙ c.as_slice.ensures) c.put_pair.ensures
