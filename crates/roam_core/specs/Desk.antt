-- What the desk decides by.
use Rattle.std.specs.Prelude.{◌≡◌, ℕ, ◌^◌, max, min, List, map, Option, Some, None, Bool}
use Rattle.wire_ids.specs.declared.eui.Eui.{Eui}
use Rattle.agreements.specs.Walk.{Config}
use Rattle.entries.specs.declared.entry.Entry.{Entry}
use Rattle.entry_codec.specs.Empty.{empty, empty_kept}
use Rattle.entry_codec.specs.Machine.{Machine, after}
use Rattle.entry_codec.specs.State.{Stored, kept_after}
use Rattle.entry_codec.specs.declared.device.Device.{Device}
use Rattle.entry_codec.specs.declared.kept.KeptAnswers.{KeptAnswers}

-- what the entries made, and the answers that are kept
pub record Desk : Type 0 where
  pub now : Machine
  pub kept : List KeptAnswers

abbrev pub desk_of : Stored → Desk
desk_of s = record { now = s.now; kept = s.kept }

-- the desk of these tables before the first entry
abbrev pub empty_desk : Config → Desk
empty_desk c = record { now = empty c; kept = empty_kept c }

-- the desk after an entry
abbrev pub desk_after : Desk → Entry → Desk
desk_after s e = record { now = after s.now e; kept = kept_after s.now s.kept e }

-- the desk after what a request made, which may be no entry
abbrev pub desk_with : Desk → Option Entry → Desk
desk_with s None = s
desk_with s (Some e) = desk_after s e

-- the moment at which a line is decided, where the clock reads this one: at most 2^53, and not before that of the last entry
abbrev pub moment_of : ℕ → Machine → ℕ
moment_of reading m = max (min reading (2 ^ 53)) m.moment

-- what no entry changes of a device
pub record Named : Type 0 where
  pub dev_eui : Eui
  pub join_eui : Eui
  pub is_home : Bool

abbrev pub named : Device → Named
named d = record { dev_eui = d.dev_eui; join_eui = d.join_eui; is_home = d.is_home }

-- the state is one of these tables: it has their devices and senders
pub record IsStateOf (c : Config) (m : Machine) : Type 0 where
  pub devices : map named m.devices ≡ map named (empty c).devices
  pub senders : m.senders ≡ (empty c).senders
