-- Where the records of a content end.
use Rattle.std.specs.Prelude.{◌≡◌, ◌≢◌, ◌<◌, Bool, true, false, ℕ, List, [], ◌∷◌, ◌++◌, take, drop, get_or, length}
use Rattle.disk_model.specs.Disk.{Only}
use Rattle.disk_journal.specs.Format.{mark, records_from, IsShut}

-- a closed gate, or an open one before no whole record
abbrev pub EndsAt : Bool → ℕ → List ℕ → Type 0
EndsAt false end c = IsShut (take end c) c
EndsAt true end c = (end < length c) × (get_or c end 0 ≡ 1) × (records_from 0 (drop end c) ≡ [])

-- the mark and a gate that isn't open
abbrev pub IsFresh : List ℕ → Type 0
IsFresh c = (gate : ℕ) × (gate ≡ 1 → ⊥) × (c ≡ mark ++ gate ∷ [])

-- more than 17 bytes that differ from a journal's first 16, first at this place
pub record IsForeign (place : ℕ) (c : List ℕ) : Type 0 where
  pub long : 17 < length c
  pub within : place < 16
  pub before : take place c ≡ take place mark
  pub other : get_or c place 0 ≢ get_or mark place 0

-- this is so long, and the one image
pub record IsSettled (images : List ℕ → Type 0) (len : ℕ) (c : List ℕ) : Type 0 where
  pub length_is : len ≡ length c
  pub only : Only images c
