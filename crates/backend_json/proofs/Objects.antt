-- An object is written a member at a time.
use Rattle.std.proofs.Common.{◌≡◌, ℕ, List, [], ◌∷◌, ◌++◌, Bool, true, Some, sym, ap, ◌∙◌, append_assoc, ◌<◌, ◌+◌, length, drop, map, get_or}
use Rattle.std.proofs.lemmas.List.{at_drop_more}
use Rattle.serde_json.specs.Data.{Data, member, no_members, object}
use Rattle.serde_json.specs.Written.{comma_if, compact_text, members_text}
use Rattle.backend_json.specs.Objects.{Field, field, members_of}
use Rattle.backend_json.specs.Writing.{GoesOn, entry_text}

-- what was written at each step of a member
pub goes_on : (old commaed new name : List ℕ) (d : Data) (later : Bool)
    → commaed ≡ old ++ comma_if later → new ≡ commaed ++ entry_text name d
    → GoesOn (field name (Some d)) old later new true
unfolding entry_text
goes_on old commaed new name d later c n rest = rw (n, c) (simp append_assoc)

-- what was written at each step of an object of two members
pub pair : (out begun first commaed second whole name last : List ℕ) (d e : Data)
    → begun ≡ out ++ 123 ∷ [] → first ≡ begun ++ entry_text name d → commaed ≡ first ++ 44 ∷ [] → second ≡ commaed ++ entry_text last e → whole ≡ second ++ 125 ∷ []
    → whole ≡ out ++ compact_text (object (member name d (member last e no_members)))
unfolding entry_text
pair out begun first commaed second whole name last d e b f c s w = rw (w, s, c, f, b) (simp append_assoc)

-- a list of members, the rest of which is still to be written
module _ {V : Type 0} (field_of : V → Field) where
  pub next_member : (ms : List V) (i : ℕ) (m : V) (old new whole : List ℕ) (later after : Bool) → i < length ms → m ≡ get_or ms i m
      → GoesOn (field_of m) old later new after → old ++ members_text later (members_of (map field_of (drop i ms))) ≡ whole → new ++ members_text after (members_of (map field_of (drop (i + 1) ms))) ≡ whole
  next_member ms i m old new whole later after inside is goes h =
      goes (members_of (map field_of (drop (i + 1) ms)))
      ∙ ap (λ (v : V). old ++ members_text later (members_of (map field_of (v ∷ drop (i + 1) ms)))) is
      ∙ sym (at_drop_more (λ l. old ++ members_text later (members_of (map field_of l))) ms i m inside)
      ∙ h
