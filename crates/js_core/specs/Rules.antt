-- The rules by which requests are refused, in their order: the first that holds gives the answer.
use Rattle.std.specs.Prelude.{◌≡◌, ℕ, ◌==◌, ◌||◌, not, List, [], ◌∷◌, map, Option, Some, None, Bool, true, is_none, if◌then◌else◌}
use Rattle.std.specs.List.{list_any}
use Rattle.wire_ids.specs.Lists.{holds_of}
use Rattle.wire_ids.specs.Rules.{Rule}
use Rattle.join_frames.specs.declared.join_up.JoinUp.{JoinUp}
use Rattle.agreements.specs.Walk.{Config}
use Rattle.backend_json.specs.Refusals.{number_of}
use Rattle.backend_json.specs.declared.head.Head.{Head}
use Rattle.backend_json.specs.declared.request.JoinRequest.{JoinRequest}
use Rattle.backend_json.specs.declared.request.AppSKeyRequest.{AppSKeyRequest}
use Rattle.backend_json.specs.declared.request.Request.{Request}
use Rattle.backend_json.specs.declared.request.Request.TheVariants.{AppSKeyReq, HomeNSReq, JoinReq, RejoinReq, Unknown, UplinkReq, XmitDataReq, XmitUplink}
use Rattle.backend_json.specs.declared.refusal.Refusal.{Refusal}
use Rattle.backend_json.specs.declared.refusal.Refusal.TheVariants.{«Type», Size, Frame, Device, Home, Suspended, Eui, Mic, Counter, Spent, Session}
use Rattle.entry_codec.specs.Machine.{Machine}
use Rattle.entry_codec.specs.declared.device.Device as kept
use Rattle.entry_codec.specs.declared.device.KeptSeed.{KeptSeed}
use Rattle.js_core.specs.declared.activation.Activation.{Activation}
use Rattle.js_core.specs.declared.activation.Activation.TheVariants as by
use Rattle.js_core.specs.Found.{Found, found_of}
use Rattle.js_core.specs.Frames.{join_up_of, wrong_frame, wrong_size}
use Rattle.js_core.specs.Parties.{is_app, is_net}
use Rattle.js_core.specs.Steps as step

-- ---- the rules of a join- or rejoin-request, each by its own test; false where what it looks at isn't there

-- the sender isn't the device's home network
abbrev pub wrong_home : Head → Option Found → Bool
wrong_home head found = holds_of (λ (f : Found). not (is_net f.row.home head.sender)) found

abbrev pub is_suspended : Option Found → Bool
is_suspended found = holds_of (λ (f : Found). f.kept.suspended) found

abbrev pub wrong_eui : Option JoinUp → Option Found → Bool
wrong_eui up found = holds_of (λ (f : Found). holds_of (λ (u : JoinUp). step.wrong_eui u f.row) up) found

abbrev pub wrong_mic : (ℕ → List ℕ) → List ℕ → Option JoinUp → Option Found → Bool
wrong_mic nwk frame up found = holds_of (λ (f : Found). holds_of (λ (u : JoinUp). step.wrong_mic (nwk f.device) frame u f.row f.kept) up) found

abbrev pub low_counter : (ℕ → List ℕ) → List ℕ → Option JoinUp → Option Found → Bool
low_counter nwk frame up found = holds_of (λ (f : Found). holds_of (λ (u : JoinUp). step.low_counter (nwk f.device) frame u f.kept) up) found

abbrev pub is_spent : Option Found → Bool
is_spent found = holds_of (λ (f : Found). step.is_spent f.kept) found

-- the rules of the join step
abbrev pub step_rules : (ℕ → List ℕ) → List ℕ → Option JoinUp → Option Found → List (Rule Refusal)
step_rules nwk frame up found =
    record { cause = Eui; holds = wrong_eui up found }
    ∷ record { cause = Mic; holds = wrong_mic nwk frame up found }
    ∷ record { cause = Counter; holds = low_counter nwk frame up found }
    ∷ record { cause = Spent; holds = is_spent found }
    ∷ []

abbrev pub join_rules_at : (ℕ → List ℕ) → Activation → Head → JoinRequest → Option JoinUp → Option Found → List (Rule Refusal)
join_rules_at nwk activation head request up found =
    record { cause = Size; holds = wrong_size request.phy_payload }
    ∷ record { cause = Frame; holds = wrong_frame activation request up }
    ∷ record { cause = Device; holds = is_none found }
    ∷ record { cause = Home; holds = wrong_home head found }
    ∷ record { cause = Suspended; holds = is_suspended found }
    ∷ step_rules nwk request.phy_payload up found

-- the rules of a JoinReq or a RejoinReq
unfoldable pub join_rules : Config → (ℕ → List ℕ) → Machine → Activation → Head → JoinRequest → List (Rule Refusal)
join_rules c nwk m activation head request = join_rules_at nwk activation head request (join_up_of request.phy_payload) (found_of c m request.dev_eui)

-- ---- the rules of an application that asks for its key

-- the seed with the JoinNonce that a SessionKeyID names is kept
abbrev pub has_nonce : ℕ → KeptSeed → Bool
has_nonce nonce seed = seed.seed.nonce == nonce

-- no kept seed of the device has this SessionKeyID
abbrev pub is_no_session : AppSKeyRequest → kept.Device → Bool
is_no_session request d =
    not (request.session_key_id.dev_eui.0 == request.dev_eui.0) || not (list_any (has_nonce request.session_key_id.join_nonce) d.seeds.items)

abbrev pub wrong_session : AppSKeyRequest → Option Found → Bool
wrong_session request found = holds_of (λ (f : Found). is_no_session request f.kept) found

-- there is no such device of the application
abbrev pub wrong_app : Head → Option Found → Bool
wrong_app head None = true
wrong_app head (Some f) = not (is_app f.row.app head.sender)

abbrev pub app_s_key_rules_at : Head → AppSKeyRequest → Option Found → List (Rule Refusal)
app_s_key_rules_at head request found =
    record { cause = Device; holds = wrong_app head found }
    ∷ record { cause = Session; holds = wrong_session request found }
    ∷ []

-- ---- the rules of each request

abbrev pub home_ns_rules_at : Option Found → List (Rule Refusal)
home_ns_rules_at found = record { cause = Device; holds = is_none found } ∷ []

-- what isn't a join server's to answer
abbrev pub other_rules : List (Rule Refusal)
other_rules = record { cause = «Type»; holds = true } ∷ []

abbrev pub rules_of : Config → (ℕ → List ℕ) → Machine → Head → Request → List (Rule Refusal)
rules_of c nwk m head (JoinReq request) = join_rules c nwk m by.Join head request
rules_of c nwk m head (RejoinReq request) = join_rules c nwk m by.Rejoin head request
rules_of c nwk m head (AppSKeyReq request) = app_s_key_rules_at head request (found_of c m request.dev_eui)
rules_of c nwk m head (HomeNSReq request) = home_ns_rules_at (found_of c m request.dev_eui)
rules_of c nwk m head (UplinkReq request) = other_rules
rules_of c nwk m head (XmitDataReq request) = other_rules
rules_of c nwk m head (XmitUplink request) = other_rules
rules_of c nwk m head Unknown = other_rules

-- the first rule that holds is answered, and else the request succeeds
abbrev pub by_rules : {C D : Type 0} → (C → D) → List (Rule C) → D → D
by_rules answer [] success = success
by_rules answer (r ∷ rs) success = if r.holds then answer r.cause else by_rules answer rs success

-- ---- the order of the rules

-- the causes' numbers in the table of the refusals
abbrev pub numbers : List (Rule Refusal) → List (Option ℕ)
numbers rules = map (λ (r : Rule Refusal). number_of r.cause) rules

abbrev pub these : List ℕ → List (Option ℕ)
these ns = map (λ n. Some n) ns

abbrev pub rule_numbers : Request → List ℕ
rule_numbers (JoinReq request) = 8 ∷ 9 ∷ 10 ∷ 12 ∷ 13 ∷ 18 ∷ 19 ∷ 20 ∷ 21 ∷ []
rule_numbers (RejoinReq request) = 8 ∷ 9 ∷ 10 ∷ 12 ∷ 13 ∷ 18 ∷ 19 ∷ 20 ∷ 21 ∷ []
rule_numbers (AppSKeyReq request) = 10 ∷ 27 ∷ []
rule_numbers (HomeNSReq request) = 10 ∷ []
rule_numbers (UplinkReq request) = 5 ∷ []
rule_numbers (XmitDataReq request) = 5 ∷ []
rule_numbers (XmitUplink request) = 5 ∷ []
rule_numbers Unknown = 5 ∷ []

-- the rules of each message stand in the order of that table
abbrev pub CausesAscend : Type 0
CausesAscend = (c : Config) (nwk : ℕ → List ℕ) (m : Machine) (head : Head) (request : Request) → numbers (rules_of c nwk m head request) ≡ these (rule_numbers request)
