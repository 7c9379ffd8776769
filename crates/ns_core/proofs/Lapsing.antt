-- What lapses isn't looked at where a context is made, nor is a seed where no context waits.
use Rattle.std.proofs.Common.{◌≡◌, ℕ, Bool, Option, Some, None, false, cond, is_some, refl, ap, ◌∙◌}
use Rattle.std.specs.Prelude.{slice_get}
use Rattle.contexts.specs.declared.context.Context.{Context}
use Rattle.wire_ids.specs.Lists.{holds_of}
use Rattle.wire_ids.specs.declared.radio.Radio.{Radio}
use Rattle.entries.specs.declared.used_seed.UsedSeed.{UsedSeed}
use Rattle.entries.specs.declared.used_seed.UsedSeed.TheVariants.{Rejoin0, Rejoin1, Rejoin2}
use Rattle.entry_codec.specs.Devices.{is_from, is_pending, lapsed, uses_pending}
use Rattle.entry_codec.specs.declared.device.Device.{Device}
use Rattle.entry_codec.specs.declared.device.KeptSeed.{KeptSeed}
use Rattle.entry_codec.specs.declared.parties.Holder.TheVariants as holder
use Rattle.js_core.specs.Home.{home_found}
use Rattle.js_core.specs.declared.home.HomeStep.{HomeStep}
use Rattle.ns_core.specs.Own.{radio_by, waking}

pub uses_lapsed : (used : UsedSeed) (at : ℕ) (d : Device) → uses_pending used (lapsed at d) ≡ uses_pending used d
unfolding uses_pending lapsed
uses_lapsed (Rejoin0 place) at d = refl
uses_lapsed Rejoin1 at d = refl
uses_lapsed (Rejoin2 place) at d = refl

pub radio_at : (used : Option UsedSeed) (at : ℕ) (d : Device) (radio : Radio) → radio_by used (lapsed at d) radio ≡ radio_by used d radio
unfolding radio_by lapsed
radio_at None at d radio = refl
radio_at (Some (Rejoin0 place)) at d radio = refl
radio_at (Some Rejoin1) at d radio = refl
radio_at (Some (Rejoin2 place)) at d radio = refl

none_at : (place : ℕ) (d : Device) → is_some d.slots.pending ≡ false → is_pending place d ≡ false
none_at place d none = by d.slots.pending (slice_get d.seeds.items place) none
  where
    by : (o : Option Context) (k : Option KeptSeed) → is_some o ≡ false → holds_of (λ (kept : KeptSeed). holds_of (is_from kept) o) k ≡ false
    by None None e = refl
    by None (Some kept) e = refl
    by (Some context) k e = absurd cc

none_used : (used : UsedSeed) (d : Device) → is_some d.slots.pending ≡ false → uses_pending used d ≡ false
unfolding uses_pending
none_used (Rejoin0 place) d none = none_at place d none
none_used Rejoin1 d none = refl
none_used (Rejoin2 place) d none = none_at place d none

pub none_wakes : (used : Option UsedSeed) (at : ℕ) (s : HomeStep) → is_some s.kept.now.slots.pending ≡ false → waking used (home_found at s) ≡ None
none_wakes None at s none = refl
none_wakes (Some used) at s none =
    ap (λ (b : Bool). cond b (Some (holder.Device s.number)) None) (uses_lapsed used at s.kept.now ∙ none_used used s.kept.now none)
