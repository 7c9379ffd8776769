-- The members of each answer ascend by their names.
use Rattle.std.proofs.Common.{arith, ◌≡◌, ℕ, Bool, true, false, ◌&&◌, List, [], ◌∷◌, Option, Some, None, All, refl}
use Rattle.std.specs.List.{AllPairs, list_all}
use Rattle.std.specs.Ordering.{nat_cmp}
use Rattle.std.specs.declared.cmp.Ordering.{Ordering}
use Rattle.std.specs.declared.cmp.Ordering.TheVariants.{Less, Equal, Greater}
use Rattle.std.specs.Cmp.Lexicographic.{slice_cmp}
use Rattle.std.proofs.lemmas.List.Elements.{All-cons}
use Rattle.std.proofs.lemmas.List.Kept.{AllPairs-cons}
use Rattle.serde_json.specs.Data.{Data}
use Rattle.backend_json.specs.Answers.{AnswerMembers, answer_members, named}
use Rattle.backend_json.specs.Objects.{Field, member_if, members_of}
use Rattle.backend_json.specs.Order.{IsBefore, NamesAscend, names_in}

abbrev is_less : Ordering → Bool
is_less Less = true
is_less Equal = false
is_less Greater = false

abbrev is_before : List ℕ → List ℕ → Bool
is_before first second = is_less (slice_cmp nat_cmp first second)

less_of : (o : Ordering) → is_less o ≡ true → o ≡ Less
less_of Less h = refl
less_of Equal h = absurd cc
less_of Greater h = absurd cc

-- each name is before all that follow
abbrev ascends : List Field → Bool
ascends [] = true
ascends (f ∷ fs) = list_all (λ (g : Field). is_before f.name g.name) fs && ascends fs

both : (a b : Bool) → (a && b) ≡ true → (a ≡ true) × (b ≡ true)
both true true h = (refl, refl)
both true false h = absurd cc
both false b h = absurd cc

named_ascends : (m : AnswerMembers) → ascends (named m) ≡ true
unfolding named
named_ascends m = refl

before_if : (name other : List ℕ) (value : Option Data) (fs : List Field) → IsBefore name other → All (IsBefore name) (names_in (members_of fs)) → All (IsBefore name) (names_in (member_if other value (members_of fs)))
before_if name other None fs is all = all
before_if name other (Some d) fs is all = All-cons (IsBefore name) other (names_in (members_of fs)) is all

before_all : (name : List ℕ) (fs : List Field) → list_all (λ (g : Field). is_before name g.name) fs ≡ true → All (IsBefore name) (names_in (members_of fs))
before_all name [] h = λ i d within. absurd (omega arith)
before_all name (f ∷ fs) h =
    let parts = both (is_before name f.name) (list_all (λ (g : Field). is_before name g.name) fs) h in
    before_if name f.name f.value fs (less_of _ parts.0) (before_all name fs parts.1)

ascend_if : (f : Field) (value : Option Data) (fs : List Field) → All (IsBefore f.name) (names_in (members_of fs)) → AllPairs IsBefore (names_in (members_of fs)) → AllPairs IsBefore (names_in (member_if f.name value (members_of fs)))
ascend_if f None fs before rest = rest
ascend_if f (Some d) fs before rest = AllPairs-cons IsBefore f.name (names_in (members_of fs)) before rest

ascend : (fs : List Field) → ascends fs ≡ true → AllPairs IsBefore (names_in (members_of fs))
ascend [] h = λ i j d below within. absurd (omega arith)
ascend (f ∷ fs) h =
    let parts = both (list_all (λ (g : Field). is_before f.name g.name) fs) (ascends fs) h in
    ascend_if f f.value fs (before_all f.name fs parts.0) (ascend fs parts.1)

pub names_ascend : NamesAscend
names_ascend answer = ascend (named (answer_members answer)) (named_ascends (answer_members answer))
