-- What ends, and when.
use Rattle.std.specs.Prelude.{ℕ, ◌-◌, ◌≤◌, ◌^◌, Option, Some, None}
use Rattle.std.specs.List.{AllByRecursion}
use Rattle.entries.specs.declared.ask.Effect.{Effect}
use Rattle.entries.specs.declared.ask.Effect.TheVariants as effect
use Rattle.entries.specs.declared.ask.HeldSession.{HeldSession}
use Rattle.entries.specs.declared.change.Change.{Change}
use Rattle.entries.specs.declared.change.Change.TheVariants as change
use Rattle.entries.specs.declared.entry.Event.{Event}
use Rattle.entries.specs.declared.entry.Event.TheVariants as event
use Rattle.entry_codec.specs.Machine.{Machine}
use Rattle.entry_codec.specs.declared.device.Device.{Device}
use Rattle.entry_codec.specs.declared.device.Granted.{Granted}
use Rattle.entry_codec.specs.declared.device.LentTo.{LentTo}
use Rattle.entry_codec.specs.declared.parties.OpenAsk.{OpenAsk}
use Rattle.entry_codec.specs.declared.parties.Visitor.{Visitor}

abbrev pub IsLentFrom : ℕ → Option LentTo → Type 0
IsLentFrom at None = Unit {0}
IsLentFrom at (Some l) = at ≤ l.until.0

abbrev pub IsGrantedFrom : ℕ → Granted → Type 0
IsGrantedFrom at g = at ≤ g.until.0

pub record DeviceEndsFrom (at : ℕ) (d : Device) : Type 0 where
  pub lent : IsLentFrom at d.lent
  pub granted : AllByRecursion (IsGrantedFrom at) d.granted.items

abbrev pub VisitorEndsFrom : ℕ → Visitor → Type 0
VisitorEndsFrom at v = at ≤ v.until.0

abbrev pub HeldEndsFrom : ℕ → HeldSession → Type 0
HeldEndsFrom at h = at ≤ h.until.0

abbrev pub AskEndsFrom : ℕ → OpenAsk → Type 0
AskEndsFrom at a = at ≤ a.ends.0

-- nothing ends before this moment
pub record EndsFrom (at : ℕ) (m : Machine) : Type 0 where
  pub devices : AllByRecursion (DeviceEndsFrom at) m.devices
  pub visitors : AllByRecursion (VisitorEndsFrom at) m.visitors
  pub held : AllByRecursion (HeldEndsFrom at) m.held
  pub asks : AllByRecursion (AskEndsFrom at) m.asks

-- ---- the end that an event adds, or the last moment that there is

abbrev pub never : ℕ
never = 2 ^ 64 - 1

abbrev pub change_end : Change → ℕ
change_end (change.Lent l) = l.until.0
change_end (change.Passive p) = p.until.0
change_end _ = never

abbrev pub effect_end : Effect → ℕ
effect_end (effect.Visitor n) = n.until.0
effect_end (effect.Held h) = h.until.0
effect_end _ = never

unfoldable pub event_end : Event → ℕ
event_end (event.Kept request c) = change_end c
event_end (event.Asked a) = a.ends.0
event_end (event.Told t) = effect_end t.effect
event_end _ = never
