-- What a link is asked, and what it answers.
use Rattle.std.specs.Prelude.{◌≡◌, ◌⊎◌, ℕ, List, [], ◌∷◌, ◌++◌, take, option_map, Option, Some, None, Result, Ok, Err}
use Rattle.disk_model.specs.declared.link.Asked.{Asked}
use Rattle.disk_model.specs.declared.link.LinkFault.{LinkFault}
use Rattle.disk_model.specs.declared.link.LinkFault.TheVariants.{Failed, Memory}

-- the list of what was asked has this at its end, and after want of memory perhaps not
abbrev pub AddsQuestion : {T : Type 0} → List Asked → List Asked → Asked → Result T LinkFault → Type 0
AddsQuestion old new question (Ok done) = new ≡ old ++ question ∷ []
AddsQuestion old new question (Err Failed) = new ≡ old ++ question ∷ []
AddsQuestion old new question (Err Memory) = (new ≡ old ++ question ∷ []) ⊎ (new ≡ old)

-- the same, where the list is told
abbrev pub Asks : {T : Type 0} → Option (List Asked) → Option (List Asked) → Asked → Result T LinkFault → Type 0
Asks None new question result = Unit {0}
Asks (Some old) None question result = ⊥
Asks (Some old) (Some new) question result = AddsQuestion old new question result

-- the first of these answers was given, cut behind its first 8,193 bytes, and the rest are left; none is a failure,
-- and want of memory uses up one or none
abbrev pub UsesAnswer : {T : Type 0} → List (Option (List ℕ)) → List (Option (List ℕ)) → List ℕ → Result T LinkFault → Type 0
UsesAnswer [] new given (Ok done) = ⊥
UsesAnswer [] new given (Err fault) = new ≡ []
UsesAnswer (next ∷ more) new given (Ok done) = (option_map (take 8193) next ≡ Some given) × (new ≡ more)
UsesAnswer (next ∷ more) new given (Err Failed) = (next ≡ None) × (new ≡ more)
UsesAnswer (next ∷ more) new given (Err Memory) = (new ≡ more) ⊎ (new ≡ next ∷ more)

-- the same, where the answers are told
abbrev pub Answers : {T : Type 0} → Option (List (Option (List ℕ))) → Option (List (Option (List ℕ))) → List ℕ → Result T LinkFault → Type 0
Answers None new given result = Unit {0}
Answers (Some old) None given result = ⊥
Answers (Some old) (Some new) given result = UsesAnswer old new given result
