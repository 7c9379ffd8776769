-- Histories: the entries that records spell, and the desk to which they lead.
use Rattle.std.specs.Prelude.{◌≡◌, ℕ, zero, suc, ◌<◌, ◌≤◌, List, [], ◌∷◌, length, take, drop, get_or, Option, Some, None, option_map, option_and_then, false}
use Rattle.wire_ids.specs.declared.keys.RootKeys.{RootKeys}
use Rattle.agreements.specs.Walk.{Config}
use Rattle.entries.specs.Entries.{decode_of}
use Rattle.entries.specs.declared.entry.Entry.{Entry}
use Rattle.entries.specs.declared.entry.Event.{Event}
use Rattle.entries.specs.declared.entry.Event.TheVariants as event
use Rattle.entry_codec.specs.Empty.{empty}
use Rattle.entry_codec.specs.Fits.{fits}
use Rattle.entry_codec.specs.Replay.{AllFit}
use Rattle.roam_core.specs.Desk.{Desk}
use Rattle.roam_core.specs.Legal.{IsLegal, MayFollow, desk_at}

-- one more in front, where there is one
abbrev pub in_front : Option Entry → Option (List Entry) → Option (List Entry)
in_front None es = None
in_front (Some e) es = option_map (λ (l : List Entry). e ∷ l) es

-- the entries that records spell, where each spells one
abbrev pub entries_of : List (List ℕ) → Option (List Entry)
entries_of [] = Some []
entries_of (r ∷ rs) = in_front (decode_of r) (entries_of rs)

-- these records spell entries, each of which fits behind those before it, and they lead to this desk
pub record IsHistory (c : Config) (records : List (List ℕ)) (s : Desk) : Type 0 where
  pub entries : List Entry
  pub spelled : entries_of records ≡ Some entries
  pub fit : AllFit (empty c) entries
  pub leads : desk_at c entries ≡ s

-- the record of this number is the first that spells no entry, or one that doesn't fit
pub record IsBad (c : Config) (records : List (List ℕ)) (number : ℕ) : Type 0 where
  pub within : number < length records
  pub desk : Desk
  pub before : IsHistory c (take number records) desk
  pub bad : (e : Entry) → decode_of (get_or records number []) ≡ Some e → fits desk.now e ≡ false

-- ---- the text of the tables

abbrev pub tables_text : Event → Option (List ℕ)
tables_text (event.Tables text) = Some text
tables_text event.Opened = None
tables_text (event.Kept request change) = None
tables_text (event.Asked ask) = None
tables_text (event.Told outcome) = None
tables_text (event.Suspend device) = None
tables_text (event.Resume device) = None

-- the text that the first record keeps
abbrev pub kept_text : List (List ℕ) → Option (List ℕ)
kept_text [] = None
kept_text (r ∷ rs) = option_and_then (λ (e : Entry). tables_text e.event) (decode_of r)

-- ---- what came since an opening

-- all of these entries but the first so many are legal behind those before them
abbrev pub IsLegalFrom : Config → List RootKeys → ℕ → List Entry → Type 0
IsLegalFrom c keys zero es = IsLegal c keys es
IsLegalFrom c keys (suc n) es = MayFollow c keys (desk_at c (take (suc n) es)) (drop (suc n) es)

-- the records from this number on spell entries that are legal behind those before them
pub record IsLegalSince (c : Config) (keys : List RootKeys) (opened : ℕ) (records : List (List ℕ)) : Type 0 where
  pub entries : List Entry
  pub spelled : entries_of records ≡ Some entries
  pub long : opened ≤ length entries
  pub legal : IsLegalFrom c keys opened entries
