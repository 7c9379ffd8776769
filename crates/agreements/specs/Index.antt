-- Where a list has the element of a name, which is a number.
use Rattle.std.specs.Prelude.{◌≡◌, ℕ, ◌==◌, ◌<◌, Bool, List, length, slice_index_or, Option, Some}
use Rattle.std.specs.BTreeMap.{BTreeMap, get}
use Rattle.std.specs.List.{list_any, position}
use Rattle.std.specs.Ordering.{nat_cmp}

-- whether an element has this name
abbrev pub has_name : {R : Type 0} → (R → ℕ) → ℕ → List R → Bool
has_name name key rows = list_any (λ r. name r == key) rows

-- the place of the first that has it
abbrev pub place_of : {R : Type 0} → (R → ℕ) → ℕ → List R → Option ℕ
place_of name key rows = position (λ r. name r == key) rows

-- the map has the place of each name
abbrev pub IsIndex : {R : Type 0} → (R → ℕ) → BTreeMap ℕ ℕ → List R → Type 0
IsIndex name index rows = (key : ℕ) → get nat_cmp index key ≡ place_of name key rows

-- each element is found by its own name, so that none stands twice
abbrev pub HasPlaces : {R : Type 0} → (R → ℕ) → List R → Type 0
HasPlaces {R} name rows = (i : ℕ) (d : R) → i < length rows → place_of name (name (slice_index_or rows i d)) rows ≡ Some i
