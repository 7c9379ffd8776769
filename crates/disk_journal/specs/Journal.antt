-- How a journal stands to the content and the images of its disk.
use Rattle.std.specs.Prelude.{◌≡◌, ◌⊎◌, ◌<◌, ◌+◌, ◌≤◌, ◌%◌, Bool, if◌then◌else◌, ℕ, zero, suc, List, ◌∷◌, [], ◌++◌, length, take, get_or, Option, Some}
use Rattle.std.specs.Option.{option_map}
use Rattle.disk_model.specs.Disk.{Only}
use Rattle.disk_journal.specs.Format.{kept, journal_of, size_field, Begins, IsFront, IsShut, IsOpened}

-- behind the front stands a closed gate, or the record that was tried
abbrev pub MayHave : List ℕ → List ℕ → List ℕ → Type 0
MayHave front tried bytes = IsShut front bytes ⊎ IsOpened front tried bytes

-- behind the front stands some gate, and then this
abbrev pub HasGate : List ℕ → List ℕ → List ℕ → Type 0
HasGate front rest bytes = (gate : ℕ) × (bytes ≡ front ++ gate ∷ rest)

-- where a record's gate stands, behind the records before it
abbrev pub place : ℕ → List (List ℕ) → ℕ
place zero records = 16
place (suc k) [] = 16
place (suc k) (body ∷ records) = 5 + length body + place k records

-- behind so many of the records the next one stands at this place
abbrev pub IsMarked : ℕ → ℕ → List (List ℕ) → Type 0
IsMarked number at records = (number ≤ length records) × (at ≡ place number records)

-- the content up to the end is the mark and the records that count, and the places of the last 2,048 are listed
pub record HasRecords (end count : ℕ) (places content : List ℕ) : Type 0 where
  pub front : IsFront (take end content) (kept end content)
  pub within : end < length content
  pub counts : count ≡ length (kept end content)
  pub ends : end ≡ place count (kept end content)
  pub placed : (k : ℕ) → k < count → count ≤ k + 2048 → get_or places (k % 2048) 0 ≡ place k (kept end content)

-- the records are all on the disk, and the gate behind them is closed
pub record AtRest (end count : ℕ) (places : List ℕ) (images : List ℕ → Type 0) (content : List ℕ) : Type 0 where
  pub has : HasRecords end count places content
  pub shut : IsShut (take end content) content
  pub durable : Only images content

-- this record was tried, and may stand behind them
pub record InDoubt (end count : ℕ) (places : List ℕ) (images : List ℕ → Type 0) (tried content : List ℕ) : Type 0 where
  pub has : HasRecords end count places content
  pub shown : MayHave (take end content) tried content
  pub each : (c : List ℕ) → images c → MayHave (take end content) tried c

-- behind the front stand a gate, this record and a closed gate
abbrev pub IsStaged : List ℕ → List ℕ → List ℕ → Type 0
IsStaged front body bytes = (gate : ℕ) × Begins (front ++ gate ∷ (size_field (length body) ++ body ++ 0 ∷ [])) bytes

-- the journal of these bytes is that of one of the images
abbrev pub IsOneOf : (List ℕ → Type 0) → List ℕ → Type 0
IsOneOf images bytes = (image : List ℕ) × images image × (journal_of bytes ≡ journal_of image)

-- the journal of an image is this list, or this list with the record
abbrev pub WithOrWithout : List (List ℕ) → List ℕ → List ℕ → Type 0
WithOrWithout records body bytes = (journal_of bytes ≡ Some records) ⊎ (journal_of bytes ≡ Some (records ++ body ∷ []))

-- what the journal stands for, where its disk tells
abbrev pub history : {D : Type 0} → (D → Option (List ℕ)) → D → ℕ → Option (List (List ℕ))
history seen disk end = option_map (kept end) (seen disk)

-- with the record where r is true
abbrev pub WithIf : Bool → List (List ℕ) → List ℕ → List (List ℕ)
WithIf r records body = if r then records ++ body ∷ [] else records
