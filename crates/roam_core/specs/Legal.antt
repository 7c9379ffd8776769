-- Which histories are legal: the first entry has the tables, and each later one fits and is what its event has to be.
use Rattle.std.specs.Prelude.{◌≡◌, ℕ, ◌<◌, List, [], ◌∷◌, ◌++◌, length, Some, Ok, IsTrue}
use Rattle.wire_ids.specs.Decisions.{entry_of}
use Rattle.wire_ids.specs.declared.keys.RootKeys.{RootKeys}
use Rattle.agreements.specs.Walk.{Config, tables_of}
use Rattle.entries.specs.declared.entry.Entry.{Entry}
use Rattle.entries.specs.declared.entry.Event.{Event}
use Rattle.entries.specs.declared.entry.Event.TheVariants as event
use Rattle.entry_codec.specs.Fits.{fits, is_time}
use Rattle.entry_codec.specs.Empty.{empty}
use Rattle.roam_core.specs.Desk.{Desk, desk_after, empty_desk}
use Rattle.roam_core.specs.Entering.{KnowsSenders}
use Rattle.roam_core.specs.Lines.{line_decided, reaction}

-- the text of the tables comes first, and it has these tables
abbrev pub IsFirst : Config → Event → Type 0
IsFirst c (event.Tables text) = tables_of text ≡ Ok c
IsFirst c event.Opened = ⊥
IsFirst c (event.Kept request change) = ⊥
IsFirst c (event.Asked ask) = ⊥
IsFirst c (event.Told outcome) = ⊥
IsFirst c (event.Suspend device) = ⊥
IsFirst c (event.Resume device) = ⊥

-- a kept request's entry is the one that its body makes at its moment; openings and marks may come at any time, the tables' text
-- no more; no request asks a peer yet
abbrev pub IsStep : Config → List RootKeys → Desk → Entry → Event → Type 0
IsStep c keys s e (event.Tables text) = ⊥
IsStep c keys s e event.Opened = Unit {0}
IsStep c keys s e (event.Kept request change) = entry_of (line_decided c keys s request.body e.moment.0) ≡ Some e
IsStep c keys s e (event.Asked ask) = ⊥
IsStep c keys s e (event.Told outcome) = ⊥
IsStep c keys s e (event.Suspend device) = Unit {0}
IsStep c keys s e (event.Resume device) = Unit {0}

-- entries that may follow a desk
abbrev pub MayFollow : Config → List RootKeys → Desk → List Entry → Type 0
MayFollow c keys s [] = Unit {0}
MayFollow c keys s (e ∷ es) = IsTrue (fits s.now e) × IsStep c keys s e e.event × MayFollow c keys (desk_after s e) es

abbrev pub IsLegal : Config → List RootKeys → List Entry → Type 0
IsLegal c keys [] = Unit {0}
IsLegal c keys (e ∷ es) = IsTrue (fits (empty_desk c).now e) × IsFirst c e.event × MayFollow c keys (desk_after (empty_desk c) e) es

-- the desk that entries lead to
abbrev pub desk_from : Desk → List Entry → Desk
desk_from s [] = s
desk_from s (e ∷ es) = desk_from (desk_after s e) es

abbrev pub desk_at : Config → List Entry → Desk
desk_at c history = desk_from (empty_desk c) history

-- a legal history that has its first entry goes on legally by the entry of each line, at a moment from its last one to 2^53
abbrev pub LinesGoOn : Type 0
LinesGoOn = (c : Config) (keys : List RootKeys) (history : List Entry) (body : List ℕ) (now : ℕ) (e : Entry) → KnowsSenders c (empty c) → IsLegal c keys history → 0 < length history
    → IsTrue (is_time now (desk_at c history).now) → (reaction c keys (desk_at c history) body now).entry ≡ Some e → IsLegal c keys (history ++ e ∷ [])
