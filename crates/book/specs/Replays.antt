-- What reading the records of a keeper, one after another, comes to.
use Rattle.std.specs.Prelude.{◌≡◌, ◌≢◌, ◌⊎◌, ◌+◌, ◌≤◌, ℕ, List, [], take, Some, Result, Ok, Err, IsTrue, false}
use Rattle.agreements.specs.Walk.{Config}
use Rattle.entries.specs.Entries.{decode_of}
use Rattle.entries.specs.declared.entry.Entry.{Entry}
use Rattle.entry_codec.specs.Fits.{fits}
use Rattle.roam_core.specs.Desk.{Desk, desk_after}
use Rattle.book.specs.Histories.{IsBad, IsHistory, kept_text, tables_text}
use Rattle.book.specs.declared.faults.BookFault.{BookFault}
use Rattle.book.specs.declared.faults.BookFault.TheVariants as fault

-- ---- one record

-- the first record has to keep this text
abbrev pub HasText : List ℕ → ℕ → Entry → Type 0
HasText text number e = number ≡ 0 → tables_text e.event ≡ Some text

-- these bytes spell an entry that fits
pub record Spells (bytes : List ℕ) (s : Desk) : Type 0 where
  pub entry : Entry
  pub spelled : decode_of bytes ≡ Some entry
  pub fit : IsTrue (fits s.now entry)

-- the entry that they spell is taken in
pub record TakesIn (text : List ℕ) (number : ℕ) (bytes : List ℕ) (old new : Desk) : Type 0 where
  pub spells : Spells bytes old
  pub first : HasText text number spells.entry
  pub leads : new ≡ desk_after old spells.entry

-- they spell the first entry, which keeps another text
pub record OtherText (text : List ℕ) (number : ℕ) (bytes : List ℕ) (old : Desk) : Type 0 where
  pub first : number ≡ 0
  pub spells : Spells bytes old
  pub other : List ℕ
  pub keeps : tables_text spells.entry.event ≡ Some other
  pub differs : other ≢ text

-- they spell no entry, or one that doesn't fit
abbrev pub NoneFits : List ℕ → Desk → Type 0
NoneFits bytes s = (e : Entry) → decode_of bytes ≡ Some e → fits s.now e ≡ false

abbrev pub FailsAt : List ℕ → ℕ → List ℕ → Desk → BookFault → Type 0
FailsAt text number bytes old fault.KeeperFault = Unit {0}
FailsAt text number bytes old (fault.BadEntry n) = (n ≡ number) × NoneFits bytes old
FailsAt text number bytes old fault.OtherTables = OtherText text number bytes old
FailsAt text number bytes old fault.Full = ⊥
FailsAt text number bytes old fault.Memory = Unit {0}

abbrev pub TakesNext : List ℕ → ℕ → List ℕ → Desk → Desk → Result (Unit {0}) BookFault → Type 0
TakesNext text number bytes old new (Ok u) = TakesIn text number bytes old new
TakesNext text number bytes old new (Err f) = FailsAt text number bytes old f

-- a record is counted before it is decoded, and not where it can't be read
abbrev pub FewSteps : Result (Unit {0}) BookFault → ℕ → ℕ → Type 0
FewSteps (Ok u) before now = now ≡ before + 1
FewSteps (Err fault.KeeperFault) before now = now ≤ before + 1
FewSteps (Err (fault.BadEntry n)) before now = now ≡ before + 1
FewSteps (Err fault.OtherTables) before now = now ≡ before + 1
FewSteps (Err fault.Full) before now = ⊥
FewSteps (Err fault.Memory) before now = now ≤ before + 1

-- ---- all records

-- the first record keeps this text, where there is one
abbrev pub KeepsText : List ℕ → List (List ℕ) → Type 0
KeepsText text records = (records ≡ []) ⊎ (kept_text records ≡ Some text)

-- the first record spells an entry that fits, and keeps another text
pub record KeepsOther (c : Config) (text : List ℕ) (records : List (List ℕ)) : Type 0 where
  pub desk : Desk
  pub first : IsHistory c (take 1 records) desk
  pub other : List ℕ
  pub keeps : kept_text records ≡ Some other
  pub differs : other ≢ text

-- of the causes in their order the first that holds: the first record is bad; it keeps another text; a later one is bad
abbrev pub Fails : Config → List ℕ → List (List ℕ) → BookFault → Type 0
Fails c text records fault.KeeperFault = Unit {0}
Fails c text records (fault.BadEntry n) = IsBad c records n × ((n ≡ 0) ⊎ (kept_text records ≡ Some text))
Fails c text records fault.OtherTables = KeepsOther c text records
Fails c text records fault.Full = ⊥
Fails c text records fault.Memory = Unit {0}

-- the first so many of them are a history, which begins with this text
abbrev pub IsReadTo : Config → List ℕ → ℕ → List (List ℕ) → Desk → Type 0
IsReadTo c text number records s = IsHistory c (take number records) s × ((number ≡ 0) ⊎ (kept_text records ≡ Some text))

-- all of them are a history, which begins with this text
abbrev pub IsRead : Config → List ℕ → List (List ℕ) → Desk → Type 0
IsRead c text records s = IsHistory c records s × KeepsText text records
