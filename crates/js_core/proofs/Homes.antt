-- A home step looks at nothing that lapses.
use Rattle.std.proofs.Common.{◌≡◌, ℕ, List, Option, Some, None, option_map, Result, Ok, Err, IfOk, false, refl, sym, ap, ◌∙◌}
use Rattle.agreements.specs.Walk.{Config}
use Rattle.backend_json.specs.declared.refusal.Refusal.{Refusal}
use Rattle.entry_codec.specs.Devices.{lapsed}
use Rattle.entry_codec.specs.Machine.{Machine, lapse}
use Rattle.entry_codec.specs.declared.device.Device.{Device}
use Rattle.join_frames.specs.declared.join_up.JoinUp.{JoinUp}
use Rattle.join_frames.specs.declared.join_up.JoinUp.TheVariants.{Join, Rejoin02, Rejoin1}
use Rattle.js_core.specs.Found.{Found}
use Rattle.js_core.specs.Frames.{dev_eui_of}
use Rattle.js_core.specs.declared.home.HomeStep.{HomeStep}
use Rattle.js_core.specs.Home.{home_found, home_rules_at, sender_found, stepping}
use Rattle.js_core.specs.Steps.{is_spent, seed_place, step_of}
use Rattle.js_core.proofs.Lapsing.{found_lapsed, of_lapsed}

sender_lapsed : (c : Config) (m : Machine) (at : ℕ) (up : JoinUp) → sender_found c (lapse at m) up ≡ option_map (found_lapsed at) (sender_found c m up)
sender_lapsed c m at up = of_lapsed c m at (dev_eui_of up)

rules_lapsed : (nwk : ℕ → List ℕ) (at : ℕ) (frame : List ℕ) (up : JoinUp) (found : Option Found)
    → home_rules_at nwk frame (Some up) (option_map (found_lapsed at) found) ≡ home_rules_at nwk frame (Some up) found
unfolding lapsed seed_place
rules_lapsed nwk at frame up None = refl
rules_lapsed nwk at frame (Join join_eui dev_eui nonce mic) (Some f) = refl
rules_lapsed nwk at frame (Rejoin02 kind net dev_eui count mic) (Some f) = refl
rules_lapsed nwk at frame (Rejoin1 join_eui dev_eui count mic) (Some f) = refl

-- the rules are the same in the state where what has ended is gone
pub home_rules_lapsed : (c : Config) (m : Machine) (nwk : ℕ → List ℕ) (at : ℕ) (frame : List ℕ) (up : JoinUp)
    → home_rules_at nwk frame (Some up) (sender_found c (lapse at m) up) ≡ home_rules_at nwk frame (Some up) (sender_found c m up)
home_rules_lapsed c m nwk at frame up =
    ap (home_rules_at nwk frame (Some up)) (sender_lapsed c m at up) ∙ rules_lapsed nwk at frame up (sender_found c m up)

step_lapsed : (nwk frame : List ℕ) (at : ℕ) (up : JoinUp) (kept : Device) → step_of nwk frame up (lapsed at kept) ≡ step_of nwk frame up kept
unfolding lapsed seed_place
step_lapsed nwk frame at (Join join_eui dev_eui nonce mic) kept = refl
step_lapsed nwk frame at (Rejoin02 kind net dev_eui count mic) kept = refl
step_lapsed nwk frame at (Rejoin1 join_eui dev_eui count mic) kept = refl

-- ---- what is found and what it gives, in that state

pub found_there : (c : Config) (m : Machine) (at : ℕ) (up : JoinUp) (r : Result HomeStep Refusal)
    → IfOk r (λ s. sender_found c m up ≡ Some (stepping s)) → IfOk r (λ s. sender_found c (lapse at m) up ≡ Some (home_found at s))
found_there c m at up (Ok s) is = sender_lapsed c m at up ∙ ap (option_map (found_lapsed at)) is
found_there c m at up (Err why) is = is

pub step_there : (nwk : ℕ → List ℕ) (frame : List ℕ) (at : ℕ) (up : JoinUp) (r : Result HomeStep Refusal)
    → IfOk r (λ s. s.step ≡ step_of (nwk s.number) frame up s.kept.now) → IfOk r (λ s. s.step ≡ step_of (nwk s.number) frame up (home_found at s).kept)
step_there nwk frame at up (Ok s) is = is ∙ sym (step_lapsed (nwk s.number) frame at up s.kept.now)
step_there nwk frame at up (Err why) is = is

pub unspent_there : (at : ℕ) (r : Result HomeStep Refusal) → IfOk r (λ s. is_spent s.kept.now ≡ false) → IfOk r (λ s. is_spent (home_found at s).kept ≡ false)
unfolding lapsed
unspent_there at (Ok s) is = is
unspent_there at (Err why) is = is
