-- What opening a book does.
use Rattle.std.specs.Prelude.{◌≡◌, ◌⊎◌, ℕ, ◌+◌, ◌≤◌, ◌==◌, Result, Ok, Err, List, [], ◌∷◌, ◌++◌, length, map, option_map, Some, Bool, if◌then◌else◌}
use Rattle.wire_ids.specs.Causes.{Rose}
use Rattle.agreements.specs.Walk.{Config}
use Rattle.disk_model.specs.Disk.{WhereTold}
use Rattle.entries.specs.Entries.{decode_of, encode_of}
use Rattle.entries.specs.declared.entry.Entry.{Entry}
use Rattle.entries.specs.declared.entry.Event.TheVariants as event
use Rattle.roam_core.specs.Desk.{Desk, moment_of}
use Rattle.roam_core.specs.Legal.{desk_from}
use Rattle.disk_model.specs.declared.ran.Held.{Held}
use Rattle.keepers.specs.Keeper.{Image}
use Rattle.book.specs.Pages.{AddsSome, Page, Same, bytes_in}
use Rattle.book.specs.Sight.{Sight}
use Rattle.book.specs.Replays.{Fails, IsRead}
use Rattle.book.specs.declared.faults.BookFault.{BookFault}
use Rattle.book.specs.declared.faults.BookFault.TheVariants as fault

abbrev pub tables_entry : List ℕ → ℕ → Entry
tables_entry text at = record { moment = record { 0 = at }; event = event.Tables text }

abbrev pub opened_entry : ℕ → Entry
opened_entry at = record { moment = record { 0 = at }; event = event.Opened }

abbrev pub opening_at : Bool → List ℕ → ℕ → List Entry
opening_at is_new text at = if is_new then tables_entry text at ∷ opened_entry at ∷ [] else opened_entry at ∷ []

-- the entries of an opening of this desk, where the clock reads `now`: before the first one comes the text of the tables
abbrev pub opening : List ℕ → ℕ → Desk → List Entry
opening text now s = opening_at (s.now.entries == 0) text (moment_of now s.now)

-- an entry is read again from its spelling
abbrev pub IsReadAgain : Entry → Type 0
IsReadAgain e = decode_of (encode_of e) ≡ Some e

-- why they weren't written; `full` says that the keeper had no room for so many records of together so many bytes
abbrev pub FailsToBegin : {K : Type 0} → (ℕ → ℕ → Type 0) → List Entry → BookFault → Page K → Page K → Type 0
FailsToBegin full es fault.KeeperFault old new = Rose old.faults new.faults
FailsToBegin full es (fault.BadEntry n) old new = ⊥
FailsToBegin full es fault.OtherTables old new = ⊥
FailsToBegin full es fault.Full old new = Same old new × full (length es) (bytes_in es)
FailsToBegin full es fault.Memory old new = Same old new

-- of a fault that isn't the keeper's own
abbrev pub UnlessFailed : Type 0 → BookFault → Type 0
UnlessFailed claim fault.KeeperFault = Unit {0}
UnlessFailed claim (fault.BadEntry n) = claim
UnlessFailed claim fault.OtherTables = claim
UnlessFailed claim fault.Full = claim
UnlessFailed claim fault.Memory = claim

-- how many there were and are: after a fault of the keeper the first entry of the opening may be new
abbrev pub CountLeft : ℕ → ℕ → BookFault → Type 0
CountLeft before now fault.KeeperFault = (before ≤ now) × (now ≤ before + 1)
CountLeft before now (fault.BadEntry n) = now ≡ before
CountLeft before now fault.OtherTables = now ≡ before
CountLeft before now fault.Full = now ≡ before
CountLeft before now fault.Memory = now ≡ before

-- ---- told or not

-- behind so many entries stand those of the opening
pub record Begins {K : Type 0} (c : Config) (text : List ℕ) (now : ℕ) (before : Image) (count : ℕ) (new : Page K) : Type 0 where
  pub desk : Desk
  pub read : WhereTold before (λ rs. IsRead c text rs desk)
  pub entries : desk.now.entries ≡ count
  pub leads : new.desk ≡ desk_from desk (opening text now desk)
  pub records : new.records ≡ option_map (λ (rs : List (List ℕ)). rs ++ map encode_of (opening text now desk)) before

-- ---- on a keeper that tells its records; `fills` says that behind them there is no room for so many more

-- they are a history that begins with this text, and behind them stand the entries of the opening
pub record Opens {K : Type 0} (fills : ℕ → ℕ → Type 0) (c : Config) (text : List ℕ) (now : ℕ) (before : List (List ℕ)) (new : Page K) : Type 0 where
  pub desk : Desk
  pub read : IsRead c text before desk
  pub records : new.records ≡ Some (before ++ map encode_of (opening text now desk))
  pub leads : new.desk ≡ desk_from desk (opening text now desk)
  pub room : fills (length (opening text now desk)) (bytes_in (opening text now desk)) → ⊥

-- they are a history that begins with this text, and behind them there is no room for the entries of the opening
pub record HasNoRoom (fills : ℕ → ℕ → Type 0) (c : Config) (text : List ℕ) (now : ℕ) (before : List (List ℕ)) : Type 0 where
  pub desk : Desk
  pub read : IsRead c text before desk
  pub full : fills (length (opening text now desk)) (bytes_in (opening text now desk))

abbrev pub FailsToOpen : (ℕ → ℕ → Type 0) → Config → List ℕ → ℕ → List (List ℕ) → BookFault → Type 0
FailsToOpen fills c text now before fault.KeeperFault = Unit {0}
FailsToOpen fills c text now before (fault.BadEntry n) = Fails c text before (fault.BadEntry n)
FailsToOpen fills c text now before fault.OtherTables = Fails c text before fault.OtherTables
FailsToOpen fills c text now before fault.Full = HasNoRoom fills c text now before
FailsToOpen fills c text now before fault.Memory = Unit {0}

-- an image has the records before, with none or the first so many of the entries of the opening
abbrev pub MayOpen : Config → List ℕ → ℕ → List (List ℕ) → Image → Type 0
MayOpen c text now before image = (image ≡ Some before) ⊎ ((s : Desk) × IsRead c text before s × AddsSome before (opening text now s) image)

-- the keeper of an opened book, or that is handed back
abbrev pub keeper_after : {K : Type 0} → Result (Sight K) (Held K BookFault) → K
keeper_after (Ok b) = b.page.keeper
keeper_after (Err h) = h.object
