-- The order in which a request is looked at, line by line: the first line that holds gives its answer. A type that a line doesn't
-- speak of passes it.
use Rattle.std.specs.Prelude.{◌≡◌, ℕ, ◌<◌, List, [], ◌∷◌, Option, Some, None, Bool, false, is_none, is_some, not, if◌then◌else◌}
use Rattle.agreements.specs.Walk.{Config}
use Rattle.backend_json.specs.Refusals.{number_of}
use Rattle.backend_json.specs.Types.{receiver_of, sender_of}
use Rattle.backend_json.specs.declared.head.Head.{Head}
use Rattle.backend_json.specs.declared.refusal.Refusal.{Refusal}
use Rattle.backend_json.specs.declared.refusal.Refusal.TheVariants.{Sender, Receiver, «Type», Asked, Size, Frame, Device, Address, Home, Suspended, Eui, Mic, Counter, Spent, AddressesSpent, Port, XmitSession, XmitCounter, QueueFull, Session}
use Rattle.backend_json.specs.declared.request.Request.{Request}
use Rattle.backend_json.specs.declared.request.Request.TheVariants.{AppSKeyReq, HomeNSReq, JoinReq, RejoinReq, UplinkReq, Unknown, XmitDataReq, XmitUplink}
use Rattle.entry_codec.specs.Machine.{Machine}
use Rattle.js_core.specs.declared.activation.Activation.TheVariants as by
use Rattle.js_core.specs.Found.{Found, found_of}
use Rattle.js_core.specs.Frames.{join_up_of, wrong_frame, wrong_size}
use Rattle.js_core.specs.Parties.{is_known, may_send, reaches}
use Rattle.js_core.specs.Rules as js
use Rattle.ns_core.specs.Heard.{Heard, Neither, heard_of}
use Rattle.ns_core.specs.Payloads as payload
use Rattle.ns_core.specs.Rules as ns

-- what a line comes to, where it holds: the request is refused, or gets the answer that was kept for it
pub data Verdict : Type 0 where
  Refused : Refusal → Verdict
  Kept : Verdict

pub record Line : Type 0 where
  pub number : ℕ
  pub verdict : Verdict
  pub holds : Bool

abbrev pub refuses : ℕ → Refusal → Bool → Line
refuses number cause holds = record { number = number; verdict = Refused cause; holds = holds }

-- ---- one test for each line

abbrev pub wrong_sender : Config → Head → Bool
wrong_sender c head = not (is_known c head.sender)

abbrev pub wrong_receiver : Config → Head → Bool
wrong_receiver c head = not (reaches c (receiver_of head.message_type) head.receiver)

abbrev pub wrong_type : Config → Head → Request → Bool
wrong_type c head request = not (may_send c (sender_of request) head.sender)

abbrev pub size : Request → Bool
size (JoinReq request) = wrong_size request.phy_payload
size (RejoinReq request) = wrong_size request.phy_payload
size (AppSKeyReq request) = false
size (HomeNSReq request) = false
size (UplinkReq request) = wrong_size request.phy_payload
size (XmitDataReq request) = payload.too_large request
size (XmitUplink request) = false
size Unknown = false

abbrev pub frame : Heard → Request → Bool
frame heard (JoinReq request) = wrong_frame by.Join request (join_up_of request.phy_payload)
frame heard (RejoinReq request) = wrong_frame by.Rejoin request (join_up_of request.phy_payload)
frame heard (AppSKeyReq request) = false
frame heard (HomeNSReq request) = false
frame heard (UplinkReq request) = ns.wrong_frame heard
frame heard (XmitDataReq request) = false
frame heard (XmitUplink request) = false
frame heard Unknown = false

-- the device that a request names
abbrev pub device_of : Config → Machine → Request → Option Found
device_of c m (JoinReq request) = found_of c m request.dev_eui
device_of c m (RejoinReq request) = found_of c m request.dev_eui
device_of c m (AppSKeyReq request) = found_of c m request.dev_eui
device_of c m (HomeNSReq request) = found_of c m request.dev_eui
device_of c m (UplinkReq request) = None
device_of c m (XmitDataReq request) = found_of c m request.dev_eui
device_of c m (XmitUplink request) = None
device_of c m Unknown = None

-- what a gateway heard that sends a request
abbrev pub heard_in : Config → Machine → Request → Heard
heard_in c m (JoinReq request) = Neither
heard_in c m (RejoinReq request) = Neither
heard_in c m (AppSKeyReq request) = Neither
heard_in c m (HomeNSReq request) = Neither
heard_in c m (UplinkReq request) = heard_of c m request.phy_payload
heard_in c m (XmitDataReq request) = Neither
heard_in c m (XmitUplink request) = Neither
heard_in c m Unknown = Neither

abbrev pub device : Head → Option Found → Heard → Request → Bool
device head found heard (JoinReq request) = is_none found
device head found heard (RejoinReq request) = is_none found
device head found heard (AppSKeyReq request) = js.wrong_app head found
device head found heard (HomeNSReq request) = is_none found
device head found heard (UplinkReq request) = ns.wrong_device heard
device head found heard (XmitDataReq request) = payload.wrong_device head found
device head found heard (XmitUplink request) = false
device head found heard Unknown = false

abbrev pub address : Heard → Request → Bool
address heard (JoinReq request) = false
address heard (RejoinReq request) = false
address heard (AppSKeyReq request) = false
address heard (HomeNSReq request) = false
address heard (UplinkReq request) = ns.wrong_address heard
address heard (XmitDataReq request) = false
address heard (XmitUplink request) = false
address heard Unknown = false

abbrev pub home : Head → Option Found → Request → Bool
home head found (JoinReq request) = js.wrong_home head found
home head found (RejoinReq request) = js.wrong_home head found
home head found (AppSKeyReq request) = false
home head found (HomeNSReq request) = false
home head found (UplinkReq request) = false
home head found (XmitDataReq request) = false
home head found (XmitUplink request) = false
home head found Unknown = false

abbrev pub suspended : Option Found → Heard → Request → Bool
suspended found heard (JoinReq request) = js.is_suspended found
suspended found heard (RejoinReq request) = js.is_suspended found
suspended found heard (AppSKeyReq request) = false
suspended found heard (HomeNSReq request) = false
suspended found heard (UplinkReq request) = ns.is_suspended heard
suspended found heard (XmitDataReq request) = false
suspended found heard (XmitUplink request) = false
suspended found heard Unknown = false

abbrev pub eui : Option Found → Heard → Request → Bool
eui found heard (JoinReq request) = js.wrong_eui (join_up_of request.phy_payload) found
eui found heard (RejoinReq request) = js.wrong_eui (join_up_of request.phy_payload) found
eui found heard (AppSKeyReq request) = false
eui found heard (HomeNSReq request) = false
eui found heard (UplinkReq request) = ns.wrong_eui heard
eui found heard (XmitDataReq request) = false
eui found heard (XmitUplink request) = false
eui found heard Unknown = false

abbrev pub mic : (ℕ → List ℕ) → Option Found → Heard → Request → Bool
mic nwk found heard (JoinReq request) = js.wrong_mic nwk request.phy_payload (join_up_of request.phy_payload) found
mic nwk found heard (RejoinReq request) = js.wrong_mic nwk request.phy_payload (join_up_of request.phy_payload) found
mic nwk found heard (AppSKeyReq request) = false
mic nwk found heard (HomeNSReq request) = false
mic nwk found heard (UplinkReq request) = ns.wrong_mic nwk request heard
mic nwk found heard (XmitDataReq request) = false
mic nwk found heard (XmitUplink request) = false
mic nwk found heard Unknown = false

abbrev pub counter : (ℕ → List ℕ) → Option Found → Heard → Request → Bool
counter nwk found heard (JoinReq request) = js.low_counter nwk request.phy_payload (join_up_of request.phy_payload) found
counter nwk found heard (RejoinReq request) = js.low_counter nwk request.phy_payload (join_up_of request.phy_payload) found
counter nwk found heard (AppSKeyReq request) = false
counter nwk found heard (HomeNSReq request) = false
counter nwk found heard (UplinkReq request) = ns.low_counter nwk request heard
counter nwk found heard (XmitDataReq request) = false
counter nwk found heard (XmitUplink request) = false
counter nwk found heard Unknown = false

abbrev pub spent : Option Found → Heard → Request → Bool
spent found heard (JoinReq request) = js.is_spent found
spent found heard (RejoinReq request) = js.is_spent found
spent found heard (AppSKeyReq request) = false
spent found heard (HomeNSReq request) = false
spent found heard (UplinkReq request) = ns.is_spent heard
spent found heard (XmitDataReq request) = false
spent found heard (XmitUplink request) = false
spent found heard Unknown = false

abbrev pub addresses_spent : Config → (ℕ → List ℕ) → Machine → Heard → Request → Bool
addresses_spent c nwk m heard (JoinReq request) = false
addresses_spent c nwk m heard (RejoinReq request) = false
addresses_spent c nwk m heard (AppSKeyReq request) = false
addresses_spent c nwk m heard (HomeNSReq request) = false
addresses_spent c nwk m heard (UplinkReq request) = ns.no_address c nwk m request heard
addresses_spent c nwk m heard (XmitDataReq request) = false
addresses_spent c nwk m heard (XmitUplink request) = false
addresses_spent c nwk m heard Unknown = false

abbrev pub port : Request → Bool
port (JoinReq request) = false
port (RejoinReq request) = false
port (AppSKeyReq request) = false
port (HomeNSReq request) = false
port (UplinkReq request) = false
port (XmitDataReq request) = payload.wrong_port request
port (XmitUplink request) = false
port Unknown = false

abbrev pub xmit_session : Option Found → Request → Bool
xmit_session found (JoinReq request) = false
xmit_session found (RejoinReq request) = false
xmit_session found (AppSKeyReq request) = false
xmit_session found (HomeNSReq request) = false
xmit_session found (UplinkReq request) = false
xmit_session found (XmitDataReq request) = payload.wrong_session request found
xmit_session found (XmitUplink request) = false
xmit_session found Unknown = false

abbrev pub xmit_counter : Option Found → Request → Bool
xmit_counter found (JoinReq request) = false
xmit_counter found (RejoinReq request) = false
xmit_counter found (AppSKeyReq request) = false
xmit_counter found (HomeNSReq request) = false
xmit_counter found (UplinkReq request) = false
xmit_counter found (XmitDataReq request) = payload.low_number request found
xmit_counter found (XmitUplink request) = false
xmit_counter found Unknown = false

abbrev pub queue_full : Option Found → Request → Bool
queue_full found (JoinReq request) = false
queue_full found (RejoinReq request) = false
queue_full found (AppSKeyReq request) = false
queue_full found (HomeNSReq request) = false
queue_full found (UplinkReq request) = false
queue_full found (XmitDataReq request) = payload.is_full found
queue_full found (XmitUplink request) = false
queue_full found Unknown = false

abbrev pub session : Option Found → Request → Bool
session found (JoinReq request) = false
session found (RejoinReq request) = false
session found (AppSKeyReq request) = js.wrong_session request found
session found (HomeNSReq request) = false
session found (UplinkReq request) = false
session found (XmitDataReq request) = false
session found (XmitUplink request) = false
session found Unknown = false

-- ---- the order

-- the lines for a request of which an answer was kept or not, whose body an open ask has or not, which names this device, or with
-- which a gateway heard this
abbrev pub order_at : Config → (ℕ → List ℕ) → Machine → Head → Request → Option (List ℕ) → Bool → Option Found → Heard → List Line
order_at c nwk m head request kept asked found heard =
    refuses 3 Sender (wrong_sender c head)
    ∷ refuses 4 Receiver (wrong_receiver c head)
    ∷ refuses 5 «Type» (wrong_type c head request)
    ∷ record { number = 6; verdict = Kept; holds = is_some kept }
    ∷ refuses 7 Asked asked
    ∷ refuses 8 Size (size request)
    ∷ refuses 9 Frame (frame heard request)
    ∷ refuses 10 Device (device head found heard request)
    ∷ refuses 11 Address (address heard request)
    ∷ refuses 12 Home (home head found request)
    ∷ refuses 13 Suspended (suspended found heard request)
    ∷ refuses 18 Eui (eui found heard request)
    ∷ refuses 19 Mic (mic nwk found heard request)
    ∷ refuses 20 Counter (counter nwk found heard request)
    ∷ refuses 21 Spent (spent found heard request)
    ∷ refuses 22 AddressesSpent (addresses_spent c nwk m heard request)
    ∷ refuses 23 Port (port request)
    ∷ refuses 24 XmitSession (xmit_session found request)
    ∷ refuses 25 XmitCounter (xmit_counter found request)
    ∷ refuses 26 QueueFull (queue_full found request)
    ∷ refuses 27 Session (session found request)
    ∷ []

unfoldable pub order : Config → (ℕ → List ℕ) → Machine → Head → Request → Option (List ℕ) → Bool → List Line
order c nwk m head request kept asked = order_at c nwk m head request kept asked (device_of c m request) (heard_in c m request)

-- the first line that holds is said, and else the request succeeds
abbrev pub by_order : {D : Type 0} → (Verdict → D) → List Line → D → D
by_order said [] success = success
by_order said (l ∷ ls) success = if l.holds then said l.verdict else by_order said ls success

-- ---- the order's numbers

abbrev pub IsNumbered : ℕ → Verdict → Type 0
IsNumbered number (Refused cause) = number_of cause ≡ Some number
IsNumbered number Kept = number ≡ 6

-- they rise, and each refusal has its own in the table of refusals
abbrev pub IsOrderedFrom : ℕ → List Line → Type 0
IsOrderedFrom least [] = Unit {0}
IsOrderedFrom least (l ∷ ls) = (least < l.number) × IsNumbered l.number l.verdict × IsOrderedFrom l.number ls

abbrev pub NumbersRise : Type 0
NumbersRise = (c : Config) (nwk : ℕ → List ℕ) (m : Machine) (head : Head) (request : Request) (kept : Option (List ℕ)) (asked : Bool)
    → IsOrderedFrom 2 (order c nwk m head request kept asked)
