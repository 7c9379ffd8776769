-- States that entries led to.
use Rattle.std.specs.Prelude.{◌≤◌, List, [], ◌∷◌, length, IsTrue}
use Rattle.agreements.specs.Walk.{Config}
use Rattle.entries.specs.declared.entry.Entry.{Entry}
use Rattle.entry_codec.specs.Empty.{empty}
use Rattle.entry_codec.specs.Fits.{fits}
use Rattle.entry_codec.specs.Machine.{Machine, after}
use Rattle.entry_codec.specs.Sound.{IsSound}

-- a state changed by each entry in order
abbrev pub replay : Machine → List Entry → Machine
replay m [] = m
replay m (e ∷ es) = replay (after m e) es

-- each entry fits the state that those before it leave
abbrev pub AllFit : Machine → List Entry → Type 0
AllFit m [] = Unit {0}
AllFit m (e ∷ es) = IsTrue (fits m e) × AllFit (after m e) es

-- what holds of every state holds of the first one of tables, and after every list of entries that fit
pub record SoundReplays : Type 0 where
  pub first : (c : Config) → length c.devices ≤ 4096 → length c.networks ≤ 32 → IsSound (empty c)
  pub later : (m : Machine) (es : List Entry) → IsSound m → AllFit m es → IsSound (replay m es)
