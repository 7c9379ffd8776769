-- What a state stands for, and what an entry makes of it.
use Rattle.std.specs.Prelude.{ℕ, ◌≤◌, List, length, IsTrue}
use Rattle.wire_ids.specs.Lists.{holds_of}
use Rattle.entries.specs.declared.change.Change.{Change}
use Rattle.entries.specs.declared.change.Change.TheVariants as change
use Rattle.entry_codec.specs.Devices.{can_grant}
use Rattle.entry_codec.specs.LookUps.{device_named}
use Rattle.entries.specs.declared.ask.Effect.{Effect}
use Rattle.entries.specs.declared.ask.Effect.TheVariants as effect
use Rattle.entries.specs.declared.entry.Entry.{Entry}
use Rattle.entries.specs.declared.entry.Event.{Event}
use Rattle.entries.specs.declared.entry.Event.TheVariants as event
use Rattle.entry_codec.specs.Kept.{keep, kept_by}
use Rattle.entry_codec.specs.Machine.{Machine, granted_by, hold, ready}
use Rattle.entry_codec.specs.declared.kept.KeptAnswers.{KeptAnswers}

-- what decisions read, and for how many more visitors there is room
pub record Room : Type 0 where
  pub machine : Machine
  pub spare : ℕ

-- what decisions read, the answers that are kept, and for how many more visitors there is room
pub record Stored : Type 0 where
  pub now : Machine
  pub kept : List KeptAnswers  -- by sender, in the order of their bytes
  pub spare : ℕ

abbrev pub effect_needs : Effect → ℕ
effect_needs (effect.Visitor n) = 1
effect_needs _ = 0

-- for how many more visitors an event needs room
abbrev pub needs : Event → ℕ
needs (event.Told t) = effect_needs t.effect
needs _ = 0

-- ---- that there is room, which holds of every event that fits a state that entries led to

abbrev pub CanGrant : Change → Machine → Type 0
CanGrant (change.Passive p) m = IsTrue (holds_of (can_grant (granted_by p)) (device_named p.up.dev_eui m))
CanGrant _ m = Unit {0}

abbrev pub HasRoomFor : Effect → Machine → Type 0
HasRoomFor (effect.Held h) m = length (hold h m.held) ≤ 4096
HasRoomFor _ m = Unit {0}

abbrev pub HasRoomAt : Event → Machine → Type 0
HasRoomAt (event.Kept request c) m = CanGrant c m
HasRoomAt (event.Told t) m = HasRoomFor t.effect m
HasRoomAt _ m = Unit {0}

-- the answers that are kept after an entry
abbrev pub kept_after : Machine → List KeptAnswers → Entry → List KeptAnswers
kept_after m kept e = keep (kept_by e.event (ready m e)) kept
