-- Causes of refusals, in their order.
use Rattle.std.specs.Prelude.{List, [], ◌∷◌, Option, Some, None, Bool, if◌then◌else◌}

-- a row of a table of refusals: a cause, and whether it holds
pub record Rule (C : Type 0) : Type 0 where
  pub cause : C
  pub holds : Bool

-- the first cause that holds
abbrev pub first_rule : {C : Type 0} → List (Rule C) → Option C
first_rule [] = None
first_rule (r ∷ rs) = if r.holds then Some r.cause else first_rule rs
