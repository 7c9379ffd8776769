-- What a body is, where it is text and where it isn't.
use Rattle.std.proofs.Common.{◌≡◌, List, ℕ, Bool, cond, None, IsUtf8, ap, inl, inr}
use Rattle.std.specs.Str.{is_utf8}
use Rattle.std.proofs.lemmas.Bool.{cases_Bool}
use Rattle.std.proofs.lemmas.Str.{IsUtf8-from_is_utf8, is_utf8-from_IsUtf8}
use Rattle.serde_json.specs.Read.{read}
use Rattle.backend_json.specs.Messages.{json_of}

pub json_of_text : (body : List ℕ) → IsUtf8 body → json_of body ≡ read body
json_of_text body text = ap (λ (t : Bool). cond t (read body) None) (is_utf8-from_IsUtf8 body text)

pub json_of_none : (body : List ℕ) → (IsUtf8 body → ⊥) → json_of body ≡ None
json_of_none body none = elim (cases_Bool (is_utf8 body)) [
  | inl e ↦ absurd (none (IsUtf8-from_is_utf8 body e))
  | inr e ↦ ap (λ (t : Bool). cond t (read body) None) e
]
