-- A join- or rejoin-request that a device sends its home, which is this desk: the network server and the join server in one.
use Rattle.std.specs.Prelude.{ℕ, not, List, ◌∷◌, Option, Some, None, Bool, true}
use Rattle.wire_ids.specs.Rules.{Rule}
use Rattle.agreements.specs.Walk.{Config}
use Rattle.backend_json.specs.declared.refusal.Refusal.{Refusal}
use Rattle.backend_json.specs.declared.refusal.Refusal.TheVariants.{Device, Suspended}
use Rattle.entry_codec.specs.Devices.{lapsed}
use Rattle.entry_codec.specs.Machine.{Machine}
use Rattle.join_frames.specs.declared.join_up.JoinUp.{JoinUp}
use Rattle.js_core.specs.declared.home.HomeStep.{HomeStep}
use Rattle.js_core.specs.Found.{Found, found_of}
use Rattle.js_core.specs.Frames.{dev_eui_of}
use Rattle.js_core.specs.Rules.{is_suspended, step_rules}

-- there is no such device at home here
abbrev pub not_home : Option Found → Bool
not_home None = true
not_home (Some f) = not f.kept.is_home

-- the rules of a device at home here, from that of the device on
abbrev pub home_rules_at : (ℕ → List ℕ) → List ℕ → Option JoinUp → Option Found → List (Rule Refusal)
home_rules_at nwk frame up found =
    record { cause = Device; holds = not_home found }
    ∷ record { cause = Suspended; holds = is_suspended found }
    ∷ step_rules nwk frame up found

-- the device that a frame names
abbrev pub sender_found : Config → Machine → JoinUp → Option Found
sender_found c m up = found_of c m (dev_eui_of up)

-- the device of a step
abbrev pub stepping : HomeStep → Found
stepping s = record { device = s.number; row = s.row.now; kept = s.kept.now }

-- the same, where what has ended by this moment is gone
abbrev pub home_found : ℕ → HomeStep → Found
home_found at s = record (stepping s) { kept = lapsed at s.kept.now }
