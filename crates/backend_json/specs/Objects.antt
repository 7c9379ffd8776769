-- An object that is written: of a list of members those that are there.
use Rattle.std.specs.Prelude.{ℕ, List, [], ◌∷◌, Option, Some, None}
use Rattle.serde_json.specs.Data.{Data, Members, no_members, member, object}
use Rattle.serde_json.specs.Written.{compact_text}

-- a member, which isn't there at None
pub record Field : Type 0 where
  pub name : List ℕ
  pub value : Option Data

abbrev pub field : List ℕ → Option Data → Field
field name value = record { name = name; value = value }

abbrev pub member_if : List ℕ → Option Data → Members → Members
member_if name None rest = rest
member_if name (Some d) rest = member name d rest

abbrev pub members_of : List Field → Members
members_of [] = no_members
members_of (f ∷ rest) = member_if f.name f.value (members_of rest)

-- compact JSON
abbrev pub object_text : List Field → List ℕ
object_text fields = compact_text (object (members_of fields))
