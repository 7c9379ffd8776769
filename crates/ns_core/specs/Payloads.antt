-- An application's payload for a device at home here, which waits for a downlink of the device's active context.
use Rattle.std.specs.Prelude.{◌≡◌, ℕ, ◌==◌, ◌||◌, nat_lt, not, List, [], ◌∷◌, length, Bool, Option, Some, None, option_and_then}
use Rattle.wire_ids.specs.Lists.{holds_of}
use Rattle.wire_ids.specs.Rules.{Rule}
use Rattle.wire_ids.specs.declared.decision.Decision.TheVariants as decision
use Rattle.agreements.specs.Walk.{Config}
use Rattle.backend_json.specs.declared.answer.Answer.{Answer}
use Rattle.backend_json.specs.declared.answer.Answer.TheVariants.{Headed}
use Rattle.backend_json.specs.declared.answer.Outcome.TheVariants.{XmitDataAns}
use Rattle.backend_json.specs.declared.head.Head.{Head}
use Rattle.backend_json.specs.declared.refusal.Refusal.{Refusal}
use Rattle.backend_json.specs.declared.refusal.Refusal.TheVariants.{Size, Device, Port, XmitSession, XmitCounter, QueueFull}
use Rattle.backend_json.specs.declared.request.XmitDataRequest.{XmitDataRequest}
use Rattle.contexts.specs.declared.context.Context.{Context}
use Rattle.entries.specs.declared.change.Change.{Change}
use Rattle.entries.specs.declared.change.Change.TheVariants as change
use Rattle.entry_codec.specs.Machine.{Machine}
use Rattle.js_core.specs.Found.{Found, found_of}
use Rattle.js_core.specs.Home.{not_home}
use Rattle.js_core.specs.Replies.{JsDecision, refuses}
use Rattle.js_core.specs.Rules.{by_rules, numbers, these, wrong_app}
use Rattle.ns_core.specs.Sessions.{is_session}

-- ---- one test for each rule; false where what it looks at isn't there

-- FRMPayload is larger than that of any data rate
abbrev pub too_large : XmitDataRequest → Bool
too_large request = nat_lt 242 (length request.frm_payload)

-- there is no such device at home here of the application
abbrev pub wrong_device : Head → Option Found → Bool
wrong_device head found = not_home found || wrong_app head found

-- FPort isn't one of applications, 1 to 223 (LoRaWAN 1.1, 4.3.2)
abbrev pub wrong_port : XmitDataRequest → Bool
wrong_port request = request.f_port == 0 || nat_lt 223 request.f_port

abbrev pub active_of : Option Found → Option Context
active_of found = option_and_then (λ (f : Found). f.kept.slots.active) found

abbrev pub is_under : XmitDataRequest → Context → Bool
is_under request c = is_session request.session_key_id request.dev_eui c.origin

-- the device has no active context with this SessionKeyID
abbrev pub wrong_session : XmitDataRequest → Option Found → Bool
wrong_session request found = not (holds_of (is_under request) (active_of found))

abbrev pub is_used : XmitDataRequest → Context → Bool
is_used request c = nat_lt request.f_cnt_down c.next_a

-- FCntDown is below the next AFCntDown number
abbrev pub low_number : XmitDataRequest → Option Found → Bool
low_number request found = holds_of (is_used request) (active_of found)

abbrev pub has_8 : Context → Bool
has_8 c = length c.queue.items == 8

-- as many items wait as may
abbrev pub is_full : Option Found → Bool
is_full found = holds_of has_8 (active_of found)

-- ---- their order

abbrev pub payload_rules_at : Head → XmitDataRequest → Option Found → List (Rule Refusal)
payload_rules_at head request found =
    record { cause = Size; holds = too_large request }
    ∷ record { cause = Device; holds = wrong_device head found }
    ∷ record { cause = Port; holds = wrong_port request }
    ∷ record { cause = XmitSession; holds = wrong_session request found }
    ∷ record { cause = XmitCounter; holds = low_number request found }
    ∷ record { cause = QueueFull; holds = is_full found }
    ∷ []

abbrev pub payload_rules : Config → Machine → Head → XmitDataRequest → List (Rule Refusal)
payload_rules c m head request = payload_rules_at head request (found_of c m request.dev_eui)

-- they stand in the order of the table of refusals
abbrev pub PayloadCausesAscend : Type 0
PayloadCausesAscend = (c : Config) (m : Machine) (head : Head) (request : XmitDataRequest)
    → numbers (payload_rules c m head request) ≡ these (8 ∷ 10 ∷ 23 ∷ 24 ∷ 25 ∷ 26 ∷ [])

-- ---- success

abbrev pub queued_answer : Head → Answer
queued_answer head = Headed head (XmitDataAns (record { phy_payload = None }))

-- the payload goes last in the queue
abbrev pub queue_of : XmitDataRequest → ℕ → Change
queue_of request device = change.Queue (record {
  device = device;
  number = request.f_cnt_down;
  port = request.f_port;
  confirmed = request.confirmed;
  payload = request.frm_payload;
})

abbrev pub queued_with : Head → XmitDataRequest → ℕ → JsDecision
queued_with head request device = decision.Accept (queued_answer head) (queue_of request device)

abbrev pub payload_success_at : Head → XmitDataRequest → Option Found → JsDecision
payload_success_at head request None = refuses head Device
payload_success_at head request (Some f) = queued_with head request f.device

-- what an XmitDataReq comes to that no rule stands against
abbrev pub payload_success : Config → Machine → Head → XmitDataRequest → JsDecision
payload_success c m head request = payload_success_at head request (found_of c m request.dev_eui)

unfoldable pub payload_decided : Config → Machine → Head → XmitDataRequest → JsDecision
payload_decided c m head request = by_rules (refuses head) (payload_rules c m head request) (payload_success c m head request)
