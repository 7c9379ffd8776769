-- How a run of disk calls keeps what each content has.
use Rattle.std.specs.Prelude.{◌≡◌, ◌⊎◌, ◌≤◌, ℕ, List, Option, Some}
use Rattle.disk_model.specs.Disk.{LeavesOnly, NoneNew}

-- Each image, at each moment since old and now, has P, and what a read gives too.
pub record Keeps {D : Type 0} (seen : D → Option (List ℕ)) (images : D → List ℕ → Type 0) (moment : D → ℕ) (since : D → ℕ → List ℕ → Type 0) (P : List ℕ → Type 0) (old new : D) : Type 0 where
  pub leaves : LeavesOnly moment since old new P
  pub each : (c : List ℕ) → images new c → P c
  pub shown : (c : List ℕ) → seen new ≡ Some c → P c
  pub told : (c : List ℕ) × (seen new ≡ Some c)

-- Nothing was written: a read gives what it gave, and no image is new.
pub record Quiet {D : Type 0} (seen : D → Option (List ℕ)) (images : D → List ℕ → Type 0) (moment : D → ℕ) (since : D → ℕ → List ℕ → Type 0) (old new : D) : Type 0 where
  pub same : seen new ≡ seen old
  pub none_new : NoneNew (images old) (images new)
  pub later : moment old ≤ moment new
  pub before : (t : ℕ) (c : List ℕ) → t ≤ moment old → since new t c → since old t c ⊎ images old c
