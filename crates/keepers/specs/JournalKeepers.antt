-- A keeper over a journal, as its callers see it.
use Rattle.std.specs.Prelude.{◌≡◌, ◌<◌, ◌≤◌, ◌+◌, ◌*◌, ◌^◌, ℕ, List, length, Option, Result, Ok, Err}
use Rattle.disk_model.specs.Disk.{WhereTold}
use Rattle.disk_model.specs.declared.ran.Held.{Held}
use Rattle.disk_journal.specs.Format.{journal_of}
use Rattle.disk_journal.specs.Journal.{place}
use Rattle.disk_journal.specs.Journals.{journal_disk, journal_end, journal_count, records_of, Doubts, Holds, Rests}
use Rattle.disk_journal.specs.declared.fault.JournalFault.{JournalFault}
use Rattle.keepers.specs.Keeper.{Image}
use Rattle.keepers.specs.declared.journal_keeper.JournalKeeper.{JournalKeeper}

abbrev pub keeper_disk : {D : Type 0} → JournalKeeper D → D
keeper_disk k = journal_disk k.journal

-- where its journal ends
abbrev pub keeper_end : {D : Type 0} → JournalKeeper D → ℕ
keeper_end k = journal_end k.journal

abbrev pub keeper_count : {D : Type 0} → JournalKeeper D → ℕ
keeper_count k = journal_count k.journal

-- how often reading it again found anything else behind its end
abbrev pub keeper_changed : {D : Type 0} → JournalKeeper D → ℕ
keeper_changed k = k.changed

-- its records, where its disk tells
abbrev pub keeper_records : {D : Type 0} → (D → Option (List ℕ)) → JournalKeeper D → Image
keeper_records seen k = records_of seen k.journal

-- the journal of one of these images is this
abbrev pub Journals : (List ℕ → Type 0) → Image → Type 0
Journals images image = (c : List ℕ) × images c × (journal_of c ≡ image)

abbrev pub keeper_faults : {D : Type 0} → (D → ℕ) → JournalKeeper D → ℕ
keeper_faults faults k = faults (keeper_disk k) + keeper_changed k

-- a disk that tells has never shown anything else there, so the keeper's count of faults is the disk's
abbrev pub IsUnchanged : {D : Type 0} → (D → Option (List ℕ)) → JournalKeeper D → Type 0
IsUnchanged seen k = WhereTold (keeper_records seen k) (λ r. keeper_changed k ≡ 0)

-- it can be read; it rests; it is in doubt about a record, for which there is room
abbrev pub KeeperReads : {D : Type 0} → (D → Option (List ℕ)) → JournalKeeper D → Type 0
KeeperReads seen k = IsUnchanged seen k × Holds seen k.journal

abbrev pub KeeperRests : {D : Type 0} → (D → Option (List ℕ)) → (D → List ℕ → Type 0) → JournalKeeper D → Type 0
KeeperRests seen images k = IsUnchanged seen k × Rests seen images k.journal

abbrev pub KeeperDoubts : {D : Type 0} → (D → Option (List ℕ)) → (D → List ℕ → Type 0) → JournalKeeper D → List ℕ → Type 0
KeeperDoubts seen images k tried = IsUnchanged seen k × (keeper_end k + length tried + 6 ≤ 2 ^ 28) × Doubts seen images tried k.journal

-- so many records of together so many bytes don't lie below the limit of a journal that ends here
abbrev pub IsPastLimit : ℕ → ℕ → ℕ → Type 0
IsPastLimit end n bytes = 2 ^ 28 < end + bytes + 5 * n + 1

-- where a journal of these records ends
abbrev pub end_of : List (List ℕ) → ℕ
end_of records = place (length records) records

-- the disk that an opening hands back
abbrev pub keeper_disk_after : {D : Type 0} → Result (JournalKeeper D) (Held D JournalFault) → D
keeper_disk_after (Ok k) = keeper_disk k
keeper_disk_after (Err h) = h.object
