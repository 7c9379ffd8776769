-- What the calls of a disk do to what it holds, and what a crash may make of it between two syncs.
use Rattle.std.specs.Prelude.{◌≡◌, ◌⊎◌, ℕ, ◌+◌, ◌≤◌, max, List, ◌++◌, length, take, drop, Option, Some, None, Result, MatchResult}

-- P of what is told
abbrev pub WhereTold : {A : Type 0} → Option A → (A → Type 0) → Type 0
WhereTold {A} told P = (x : A) → told ≡ Some x → P x

-- what is told stays told, after this step, and what isn't told stays untold
pub record Becomes (old new : Option (List ℕ)) (step : List ℕ → List ℕ → Type 0) : Type 0 where
  pub told : (x : List ℕ) → old ≡ Some x → (y : List ℕ) × (new ≡ Some y) × step x y
  pub untold : old ≡ None → new ≡ None

-- new is old with these bytes at this place
abbrev pub Overwrites : ℕ → List ℕ → List ℕ → List ℕ → Type 0
Overwrites at bytes old new = new ≡ take at old ++ bytes ++ drop (at + length bytes) old

-- new has any bytes in the range and past the old end, any length from the old one to the new one, and the old bytes elsewhere
pub record Torn (at count : ℕ) (old new : List ℕ) : Type 0 where
  pub before : take at new ≡ take at old
  pub after : drop (at + count) new ≡ drop (at + count) old
  pub no_shorter : length old ≤ length new
  pub no_longer : length new ≤ max (length old) (at + count)

-- each new image is an old one after this step
abbrev pub Follows : (List ℕ → List ℕ → Type 0) → (List ℕ → Type 0) → (List ℕ → Type 0) → Type 0
Follows step old new = (c : List ℕ) → new c → (d : List ℕ) × old d × step d c

-- each old image after this step is an image
abbrev pub Includes : (List ℕ → List ℕ → Type 0) → (List ℕ → Type 0) → (List ℕ → Type 0) → Type 0
Includes step old new = (c : List ℕ) → (d : List ℕ) → old d → step d c → new c

-- no image is new
abbrev pub NoneNew : (List ℕ → Type 0) → (List ℕ → Type 0) → Type 0
NoneNew old new = (c : List ℕ) → new c → old c

-- this is the one image
abbrev pub Only : (List ℕ → Type 0) → List ℕ → Type 0
Only images content = (c : List ℕ) → images c → c ≡ content

-- time goes on: since a moment there were the images that there had been, and those of now
pub record Elapses {A : Type 0} (before now : ℕ) (past since : ℕ → A → Type 0) (images : A → Type 0) : Type 0 where
  pub later : before ≤ now
  pub nothing_else : (t : ℕ) (c : A) → t ≤ before → since t c → past t c ⊎ images c
  pub keeps : (t : ℕ) (c : A) → t ≤ before → past t c → since t c

-- a call that succeeds is one moment, and one that fails at most one
abbrev pub Counts : {T E : Type 0} → ℕ → ℕ → Result T E → Type 0
Counts before now result = MatchResult result (λ _. now ≡ before + 1) (λ _. (before ≤ now) × (now ≤ before + 1))

-- at each moment since old each image has P
pub record LeavesOnly {A D : Type 0} (moment : D → ℕ) (since : D → ℕ → A → Type 0) (old new : D) (P : A → Type 0) : Type 0 where
  pub later : moment old ≤ moment new
  pub each : (c : A) → since new (moment old) c → P c
  -- for a run that began earlier
  pub before : (t : ℕ) (c : A) → t ≤ moment old → since new t c → since old t c ⊎ P c
