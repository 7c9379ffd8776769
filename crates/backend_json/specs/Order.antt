-- The order of the members of an answer.
use Rattle.std.specs.Prelude.{◌≡◌, ℕ, List, [], ◌∷◌}
use Rattle.std.specs.List.{AllPairs}
use Rattle.std.specs.Ordering.{nat_cmp}
use Rattle.std.specs.declared.cmp.Ordering.TheVariants.{Less}
use Rattle.std.specs.Cmp.Lexicographic.{slice_cmp}
use Rattle.serde_json.specs.Data.{Members, no_members, member}
use Rattle.backend_json.specs.declared.answer.Answer.{Answer}
use Rattle.backend_json.specs.Answers.{answer_members, named}
use Rattle.backend_json.specs.Objects.{members_of}

abbrev pub names_in : Members → List (List ℕ)
names_in no_members = []
names_in (member name d rest) = name ∷ names_in rest

-- a name stands before another in the byte order
abbrev pub IsBefore : List ℕ → List ℕ → Type 0
IsBefore first second = slice_cmp nat_cmp first second ≡ Less

-- the names of the members of each answer ascend, so that none stands twice
abbrev pub NamesAscend : Type 0
NamesAscend = (answer : Answer) → AllPairs IsBefore (names_in (members_of (named (answer_members answer))))
