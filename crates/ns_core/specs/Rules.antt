-- The rules by which an UplinkReq is refused, in their order: the first that holds gives the answer.
use Rattle.std.specs.Prelude.{◌≡◌, ℕ, List, [], ◌∷◌, Some, Bool, true, false, is_none}
use Rattle.wire_ids.specs.Lists.{holds_of}
use Rattle.wire_ids.specs.Rules.{Rule}
use Rattle.agreements.specs.Walk.{Config}
use Rattle.backend_json.specs.declared.request.UplinkRequest.{UplinkRequest}
use Rattle.backend_json.specs.declared.refusal.Refusal.{Refusal}
use Rattle.backend_json.specs.declared.refusal.Refusal.TheVariants.{Size, Frame, Device, Address, Suspended, Eui, Mic, Counter, Spent, AddressesSpent}
use Rattle.entry_codec.specs.Machine.{Machine}
use Rattle.join_frames.specs.declared.join_up.JoinUp.{JoinUp}
use Rattle.js_core.specs.Found.{Found}
use Rattle.js_core.specs.Frames.{wrong_size}
use Rattle.js_core.specs.Home.{not_home}
use Rattle.js_core.specs.Rules as js
use Rattle.js_core.specs.Rules.{numbers, these}
use Rattle.js_core.specs.Steps.{used_seed}
use Rattle.ns_core.specs.Heard.{Heard, Join, Data, Neither, heard_of}
use Rattle.ns_core.specs.Own.{own_context}
use Rattle.ns_core.specs.Speakers.{is_wrong}

-- ---- one test for each rule

-- the frame is no uplink
abbrev pub wrong_frame : Heard → Bool
wrong_frame (Join up found) = false
wrong_frame (Data speaker) = false
wrong_frame Neither = true

-- the device isn't at home here
abbrev pub wrong_device : Heard → Bool
wrong_device (Join up found) = not_home found
wrong_device (Data speaker) = false
wrong_device Neither = false

-- no live context has the frame's address
abbrev pub wrong_address : Heard → Bool
wrong_address (Join up found) = false
wrong_address (Data speaker) = is_none speaker
wrong_address Neither = false

-- a suspended device begins no session
abbrev pub is_suspended : Heard → Bool
is_suspended (Join up found) = js.is_suspended found
is_suspended (Data speaker) = false
is_suspended Neither = false

abbrev pub wrong_eui : Heard → Bool
wrong_eui (Join up found) = js.wrong_eui (Some up) found
wrong_eui (Data speaker) = false
wrong_eui Neither = false

abbrev pub wrong_mic : (ℕ → List ℕ) → UplinkRequest → Heard → Bool
wrong_mic nwk request (Join up found) = js.wrong_mic nwk request.phy_payload (Some up) found
wrong_mic nwk request (Data speaker) = holds_of (is_wrong nwk request.phy_payload request.data_rate) speaker
wrong_mic nwk request Neither = false

abbrev pub low_counter : (ℕ → List ℕ) → UplinkRequest → Heard → Bool
low_counter nwk request (Join up found) = js.low_counter nwk request.phy_payload (Some up) found
low_counter nwk request (Data speaker) = false
low_counter nwk request Neither = false

abbrev pub is_spent : Heard → Bool
is_spent (Join up found) = js.is_spent found
is_spent (Data speaker) = false
is_spent Neither = false

abbrev pub has_no_address : Config → (ℕ → List ℕ) → Machine → List ℕ → JoinUp → Found → Bool
has_no_address c nwk m frame up f = is_none (own_context c m (used_seed (nwk f.device) frame up f.kept) f)

-- the network has no further address for the device
abbrev pub no_address : Config → (ℕ → List ℕ) → Machine → UplinkRequest → Heard → Bool
no_address c nwk m request (Join up found) = holds_of (has_no_address c nwk m request.phy_payload up) found
no_address c nwk m request (Data speaker) = false
no_address c nwk m request Neither = false

-- ---- their order

abbrev pub uplink_rules_at : Config → (ℕ → List ℕ) → Machine → UplinkRequest → Heard → List (Rule Refusal)
uplink_rules_at c nwk m request heard =
    record { cause = Size; holds = wrong_size request.phy_payload }
    ∷ record { cause = Frame; holds = wrong_frame heard }
    ∷ record { cause = Device; holds = wrong_device heard }
    ∷ record { cause = Address; holds = wrong_address heard }
    ∷ record { cause = Suspended; holds = is_suspended heard }
    ∷ record { cause = Eui; holds = wrong_eui heard }
    ∷ record { cause = Mic; holds = wrong_mic nwk request heard }
    ∷ record { cause = Counter; holds = low_counter nwk request heard }
    ∷ record { cause = Spent; holds = is_spent heard }
    ∷ record { cause = AddressesSpent; holds = no_address c nwk m request heard }
    ∷ []

unfoldable pub uplink_rules : Config → (ℕ → List ℕ) → Machine → UplinkRequest → List (Rule Refusal)
uplink_rules c nwk m request = uplink_rules_at c nwk m request (heard_of c m request.phy_payload)

-- ---- the order of the rules

-- they stand in the order of the table of refusals
abbrev pub CausesAscend : Type 0
CausesAscend = (c : Config) (nwk : ℕ → List ℕ) (m : Machine) (request : UplinkRequest)
    → numbers (uplink_rules c nwk m request) ≡ these (8 ∷ 9 ∷ 10 ∷ 11 ∷ 13 ∷ 18 ∷ 19 ∷ 20 ∷ 21 ∷ 22 ∷ [])
