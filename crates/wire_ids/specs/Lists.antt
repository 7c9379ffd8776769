-- Rows that may be missing, and a list with one of its elements changed.
use Rattle.std.specs.Prelude.{ℕ, List, Option, Some, None, Bool, false, slice_get, slice_set, position}

module _ {X : Type 0} where
  -- a test on a row that may be missing: false where it is
  abbrev pub holds_of : (X → Bool) → Option X → Bool
  holds_of test None = false
  holds_of test (Some x) = test x

  -- the row at a place, where there are both
  abbrev pub at_place : List X → Option ℕ → Option X
  at_place xs None = None
  at_place xs (Some at) = slice_get xs at

  abbrev pub with_changed : List X → ℕ → (X → X) → Option X → List X
  with_changed xs i f None = xs
  with_changed xs i f (Some x) = slice_set xs i (f x)

  -- the list with element i changed, where there is one
  abbrev pub changed : ℕ → (X → X) → List X → List X
  changed i f xs = with_changed xs i f (slice_get xs i)

  -- the list with the element at a place changed, where there is one
  abbrev pub changed_there : (X → X) → List X → Option ℕ → List X
  changed_there f xs None = xs
  changed_there f xs (Some i) = changed i f xs

  -- the list with the first element that passes the test changed, where one does
  abbrev pub changed_first : (X → Bool) → (X → X) → List X → List X
  changed_first test f xs = changed_there f xs (position test xs)
