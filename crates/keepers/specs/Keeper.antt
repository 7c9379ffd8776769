-- What a keeper stands for: its list of records, and the lists that its images hold.
use Rattle.std.specs.Prelude.{◌≡◌, ◌⊎◌, ◌≤◌, ℕ, List, ◌∷◌, [], ◌++◌, Option, Some}
use Rattle.wire_ids.specs.Causes.{Rose}

-- a list of records, where an image holds one
abbrev pub Image : Type 0
Image = Option (List (List ℕ))

-- an image holds these records, with this one or without it
abbrev pub OneMoreOrNot : List (List ℕ) → List ℕ → Image → Type 0
OneMoreOrNot records body image = (image ≡ Some records) ⊎ (image ≡ Some (records ++ body ∷ []))

-- one image holds these records, and each does
pub record HoldsOnly (holds : Image → Type 0) (records : List (List ℕ)) : Type 0 where
  pub one : holds (Some records)
  pub each : (image : Image) → holds image → image ≡ Some records

-- Nothing was written: the records are the same, and no image is new.
pub record Quiet {K : Type 0} (records : K → Image) (holds : K → Image → Type 0) (moment : K → ℕ) (since : K → ℕ → Image → Type 0) (old new : K) : Type 0 where
  pub same : records new ≡ records old
  pub none_new : (image : Image) → holds new image → holds old image
  pub later : moment old ≤ moment new
  pub before : (t : ℕ) (image : Image) → t ≤ moment old → since new t image → since old t image ⊎ holds old image

-- a count is the same, or has risen
abbrev pub MayChange : ℕ → ℕ → Type 0
MayChange before now = (now ≡ before) ⊎ Rose before now
