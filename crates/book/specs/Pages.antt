-- What pages stand for, and what writing does to them.
use Rattle.std.specs.Prelude.{◌≡◌, ℕ, ◌+◌, ◌≤◌, ◌^◌, List, [], ◌∷◌, ◌++◌, length, map, take, Option, Some, None, option_map, IsTrue}
use Rattle.std.specs.List.{AllByRecursion}
use Rattle.wire_ids.specs.Causes.{Rose}
use Rattle.agreements.specs.Walk.{Config}
use Rattle.disk_model.specs.Disk.{WhereTold}
use Rattle.entries.specs.Entries.{decode_of, encode_of}
use Rattle.entries.specs.declared.entry.Entry.{Entry}
use Rattle.entry_codec.specs.Fits.{fits}
use Rattle.entry_codec.specs.State.{Stored, needs}
use Rattle.keepers.specs.Keeper.{Image, MayChange}
use Rattle.roam_core.specs.Desk.{Desk, IsStateOf, desk_of}
use Rattle.roam_core.specs.Legal.{desk_from}
use Rattle.book.specs.Histories.{IsHistory}
use Rattle.book.specs.declared.draft.Draft.{Draft}
use Rattle.book.specs.declared.faults.Mended.{Mended}
use Rattle.book.specs.declared.faults.Mended.TheVariants as mended
use Rattle.book.specs.declared.pages.Written.{Written}
use Rattle.book.specs.declared.pages.Written.TheVariants as written

-- ---- what they stand for

pub record Page (K : Type 0) : Type 0 where
  pub keeper : K
  pub records : Image  -- those of the keeper, where it tells them
  pub faults : ℕ  -- how often the keeper has failed
  pub config : Config  -- the tables
  pub desk : Desk  -- what the entries make
  pub spare : ℕ  -- for how many more visitors the state has room
  pub tried : Option Entry  -- the entry that the keeper may have or not, where it failed

abbrev pub entry_in : Draft → Entry
entry_in draft = draft.entry

abbrev pub page : {K : Type 0} → (K → Image) → (K → ℕ) → K → Config → Stored → Option Draft → Page K
page records_in faults_in keeper c state tried = record {
  keeper = keeper;
  records = records_in keeper;
  faults = faults_in keeper;
  config = c;
  desk = desk_of state;
  spare = state.spare;
  tried = option_map entry_in tried;
}

-- the keeper is in doubt about an entry that fits, that its spelling spells, and for which the state has room
pub record IsTried (doubts : List ℕ → Type 0) (s : Desk) (spare : ℕ) (e : Entry) : Type 0 where
  pub doubt : doubts (encode_of e)
  pub again : decode_of (encode_of e) ≡ Some e
  pub fit : IsTrue (fits s.now e)
  pub room : needs e.event ≤ spare

pub record IsPage {K : Type 0} (records_in : K → Image) (counted : K → ℕ) (rests : K → Type 0) (doubts : K → List ℕ → Type 0) (p : Page K) : Type 0 where
  pub told : p.records ≡ records_in p.keeper
  pub history : WhereTold p.records (λ rs. IsHistory p.config rs p.desk)
  pub count : p.desk.now.entries ≡ counted p.keeper
  pub time : p.desk.now.moment ≤ 2 ^ 53
  pub state : IsStateOf p.config p.desk.now
  pub whole : p.tried ≡ None → rests p.keeper
  pub broken : (e : Entry) → p.tried ≡ Some e → IsTried (doubts p.keeper) p.desk p.spare e

-- ---- what is asked of entries that are written together

abbrev pub NeedsNone : Entry → Type 0
NeedsNone e = needs e.event ≡ 0

-- there is room for the first, and the others need none
abbrev pub HasRoom : ℕ → List Entry → Type 0
HasRoom spare [] = Unit {0}
HasRoom spare (e ∷ es) = (needs e.event ≤ spare) × AllByRecursion NeedsNone es

-- only the first may need room
abbrev pub OneNeeds : List Entry → Type 0
OneNeeds [] = Unit {0}
OneNeeds (e ∷ es) = AllByRecursion NeedsNone es

-- how many bytes they are
abbrev pub bytes_in : List Entry → ℕ
bytes_in [] = 0
bytes_in (e ∷ es) = length (encode_of e) + bytes_in es

-- ---- what writing them does

-- these entries are new, behind those before, and this one is in doubt
pub record Adds {K : Type 0} (es : List Entry) (doubted : Option Entry) (old new : Page K) : Type 0 where
  pub records : new.records ≡ option_map (λ (rs : List (List ℕ)). rs ++ map encode_of es) old.records
  pub desk : new.desk ≡ desk_from old.desk es
  pub config : new.config ≡ old.config
  pub tried : new.tried ≡ doubted
  pub later : old.faults ≤ new.faults

-- nothing is new but that this entry is in doubt
pub record Doubts {K : Type 0} (doubted : Option Entry) (old new : Page K) : Type 0 where
  pub records : new.records ≡ old.records
  pub desk : new.desk ≡ old.desk
  pub config : new.config ≡ old.config
  pub tried : new.tried ≡ doubted
  pub later : old.faults ≤ new.faults

-- the keeper failed at one of the entries
pub record Stops {K : Type 0} (es : List Entry) (old new : Page K) : Type 0 where
  pub done : List Entry
  pub doubted : Entry
  pub more : List Entry
  pub cut : es ≡ done ++ doubted ∷ more
  pub adds : Adds done (Some doubted) old new
  pub rose : Rose old.faults new.faults

-- nothing is new
pub record Same {K : Type 0} (old new : Page K) : Type 0 where
  pub records : new.records ≡ old.records
  pub faults : new.faults ≡ old.faults
  pub desk : new.desk ≡ old.desk
  pub config : new.config ≡ old.config
  pub tried : new.tried ≡ old.tried

-- `full` says that the keeper had no room for so many records of together so many bytes
abbrev pub Writes : {K : Type 0} → (ℕ → ℕ → Type 0) → Written → List Entry → Page K → Page K → Type 0
Writes full written.Done es old new = Adds es None old new × (full (length es) (bytes_in es) → ⊥)
Writes full written.NotKept es old new = Stops es old new × (full (length es) (bytes_in es) → ⊥)
Writes full written.NoRoom es old new = Same old new × full (length es) (bytes_in es)
Writes full written.NoMemory es old new = Same old new

-- where there was no room or no memory
abbrev pub WhereNone : Type 0 → Written → Type 0
WhereNone claim written.Done = Unit {0}
WhereNone claim written.NotKept = Unit {0}
WhereNone claim written.NoRoom = claim
WhereNone claim written.NoMemory = claim

-- an image holds these records and the first so many of the entries
abbrev pub AddsSome : List (List ℕ) → List Entry → Image → Type 0
AddsSome records es image = (n : ℕ) × (n ≤ length es) × (image ≡ Some (records ++ map encode_of (take n es)))

-- ---- what mending does

abbrev pub Mends : {K : Type 0} → Mended → Page K → Page K → Type 0
Mends mended.Whole old new = Doubts None old new
Mends (mended.Found place) old new = (place ≡ old.desk.now.entries) × ((e : Entry) × (old.tried ≡ Some e) × Adds (e ∷ []) None old new)
Mends mended.Fault old new = ((e : Entry) × (old.tried ≡ Some e) × Doubts (Some e) old new) × Rose old.faults new.faults

-- how often a keeper had found something changed, before and after
abbrev pub MendChanges : Mended → ℕ → ℕ → Type 0
MendChanges mended.Whole before now = now ≡ before
MendChanges (mended.Found place) before now = now ≡ before
MendChanges mended.Fault before now = MayChange before now
