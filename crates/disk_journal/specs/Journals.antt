-- A journal as its callers see it.
use Rattle.std.specs.Prelude.{ℕ, List, Option, Result, Ok, Err}
use Rattle.disk_model.specs.Disk.{WhereTold}
use Rattle.disk_model.specs.declared.ran.Held.{Held}
use Rattle.disk_journal.specs.Journal.{AtRest, HasRecords, InDoubt, IsMarked, history}
use Rattle.disk_journal.specs.declared.fault.JournalFault.{JournalFault}
use Rattle.disk_journal.specs.declared.fault.JournalFault.TheVariants.{DiskFault, NotAJournal, Full, Changed, Memory}
use Rattle.disk_journal.specs.declared.journal.Journal.{Journal}

abbrev pub journal_disk : {D : Type 0} → Journal D → D
journal_disk j = j.disk

-- where its next gate stands
abbrev pub journal_end : {D : Type 0} → Journal D → ℕ
journal_end j = j.end

-- how many records it has
abbrev pub journal_count : {D : Type 0} → Journal D → ℕ
journal_count j = j.count

-- its records, where its disk tells
abbrev pub records_of : {D : Type 0} → (D → Option (List ℕ)) → Journal D → Option (List (List ℕ))
records_of seen j = history seen j.disk j.end

-- its bookmark is true
abbrev pub Marked : {D : Type 0} → (D → Option (List ℕ)) → Journal D → Type 0
Marked seen j = WhereTold (history seen j.disk j.end) (IsMarked j.bookmark.number j.bookmark.place)

-- where its disk tells, it holds its records below its end
abbrev pub Stand : {D : Type 0} → (D → Option (List ℕ)) → Journal D → Type 0
Stand seen j = WhereTold (seen j.disk) (HasRecords j.end j.count j.places.items)

-- and a crash leaves them and no more
abbrev pub Last : {D : Type 0} → (D → Option (List ℕ)) → (D → List ℕ → Type 0) → Journal D → Type 0
Last seen images j = WhereTold (seen j.disk) (AtRest j.end j.count j.places.items (images j.disk))

-- or this record may stand behind them
abbrev pub MayGrow : {D : Type 0} → (D → Option (List ℕ)) → (D → List ℕ → Type 0) → List ℕ → Journal D → Type 0
MayGrow seen images tried j = WhereTold (seen j.disk) (InDoubt j.end j.count j.places.items (images j.disk) tried)

-- a journal can be read; it can be added to; it has to be read again first
abbrev pub Holds : {D : Type 0} → (D → Option (List ℕ)) → Journal D → Type 0
Holds seen j = Stand seen j × Marked seen j

abbrev pub Rests : {D : Type 0} → (D → Option (List ℕ)) → (D → List ℕ → Type 0) → Journal D → Type 0
Rests seen images j = Last seen images j × Marked seen j

abbrev pub Doubts : {D : Type 0} → (D → Option (List ℕ)) → (D → List ℕ → Type 0) → List ℕ → Journal D → Type 0
Doubts seen images tried j = MayGrow seen images tried j × Marked seen j

-- the disk that an opening hands back
abbrev pub disk_after : {D : Type 0} → Result (Journal D) (Held D JournalFault) → D
disk_after (Ok j) = j.disk
disk_after (Err h) = h.object

-- the faults of an opening
abbrev pub IsOpeningFault : JournalFault → Type 0
IsOpeningFault DiskFault = Unit {0}
IsOpeningFault (NotAJournal place) = Unit {0}
IsOpeningFault Full = ⊥
IsOpeningFault (Changed place) = ⊥
IsOpeningFault Memory = Unit {0}
