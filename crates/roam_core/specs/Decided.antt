-- What a request comes to, from the rule of its sender on.
use Rattle.std.specs.Prelude.{◌≡◌, ℕ, List, [], Option, None, Bool, true, false, unwrap_or, if◌then◌else◌}
use Rattle.wire_ids.specs.declared.decision.Decision.{Decision}
use Rattle.wire_ids.specs.declared.decision.Decision.TheVariants as decision
use Rattle.agreements.specs.Walk.{Config}
use Rattle.backend_json.specs.Answers.{text_of}
use Rattle.backend_json.specs.declared.answer.Answer.{Answer}
use Rattle.backend_json.specs.declared.head.Head.{Head}
use Rattle.backend_json.specs.declared.request.Request.{Request}
use Rattle.backend_json.specs.declared.request.Request.TheVariants.{AppSKeyReq, HomeNSReq, JoinReq, RejoinReq, UplinkReq, Unknown, XmitDataReq, XmitUplink}
use Rattle.entries.specs.declared.change.Change.{Change}
use Rattle.entries.specs.declared.entry.Entry.{Entry}
use Rattle.entries.specs.declared.entry.Event.TheVariants as event
use Rattle.entry_codec.specs.Kept.{kept_answer}
use Rattle.entry_codec.specs.LookUps.{is_asked}
use Rattle.entry_codec.specs.Machine.{Machine, lapse}
use Rattle.js_core.specs.declared.question.NoQuestion.{NoQuestion}
use Rattle.js_core.specs.Replies.{JsDecision, js_decided, refused}
use Rattle.js_core.specs.Replies as js
use Rattle.ns_core.specs.Payloads.{payload_success}
use Rattle.ns_core.specs.Replies.{ns_decided, uplink_success}
use Rattle.roam_core.specs.Desk.{Desk}
use Rattle.roam_core.specs.Order.{Verdict, Refused, Kept, by_order, order, wrong_receiver, wrong_sender, wrong_type}

-- what a request comes to: an answer, with the entry that it makes
abbrev pub RoamDecision : Type 0
RoamDecision = Decision Answer NoQuestion Entry

-- ---- the answer, and what changes

abbrev pub said : Head → Option (List ℕ) → Verdict → JsDecision
said head kept (Refused cause) = decision.Reply (refused head cause)
said head kept Kept = decision.Repeat (unwrap_or kept [])

-- what a request comes to that no line stands against: the home network answers a gateway, and an application with a payload; the join server all others
abbrev pub success_of : Config → (ℕ → List ℕ) → (ℕ → List ℕ) → Machine → Head → Request → JsDecision
success_of c nwk app m head (JoinReq request) = js.success_of c nwk app m head (JoinReq request)
success_of c nwk app m head (RejoinReq request) = js.success_of c nwk app m head (RejoinReq request)
success_of c nwk app m head (AppSKeyReq request) = js.success_of c nwk app m head (AppSKeyReq request)
success_of c nwk app m head (HomeNSReq request) = js.success_of c nwk app m head (HomeNSReq request)
success_of c nwk app m head (UplinkReq request) = uplink_success c nwk m head request
success_of c nwk app m head (XmitDataReq request) = payload_success c m head request
success_of c nwk app m head (XmitUplink request) = js.success_of c nwk app m head (XmitUplink request)
success_of c nwk app m head Unknown = js.success_of c nwk app m head Unknown

-- of a request in a state in which what has ended is gone, of which an answer was kept or not, and whose body an open ask has or not
abbrev pub judged_at : Config → (ℕ → List ℕ) → (ℕ → List ℕ) → Machine → Head → Request → Option (List ℕ) → Bool → JsDecision
judged_at c nwk app m head request kept asked = by_order (said head kept) (order c nwk m head request kept asked) (success_of c nwk app m head request)

-- ---- the entry, which is made in this place alone

abbrev pub entry_in : Head → List ℕ → ℕ → Answer → Change → Entry
entry_in head body now answer change = record {
  moment = record { 0 = now };
  event = event.Kept (record { sender = head.sender; body = body; answer = text_of answer }) change;
}

abbrev pub with_entry : Head → List ℕ → ℕ → JsDecision → RoamDecision
with_entry head body now (decision.Repeat text) = decision.Repeat text
with_entry head body now (decision.Reply answer) = decision.Reply answer
with_entry head body now (decision.Accept answer change) = decision.Accept answer (entry_in head body now answer change)
with_entry head body now (decision.AskPeer peer question change) = elim question [ ]

-- ---- the decision: first what has ended goes

unfoldable pub decided : Config → (ℕ → List ℕ) → (ℕ → List ℕ) → Desk → Head → Request → List ℕ → ℕ → RoamDecision
decided c nwk app s head request body now =
    let m = lapse now s.now in
    with_entry head body now (judged_at c nwk app m head request (kept_answer head.sender body s.kept) (is_asked body m))

-- ---- the parts

-- the home network decides it
abbrev pub is_home_network : Request → Bool
is_home_network (JoinReq request) = false
is_home_network (RejoinReq request) = false
is_home_network (AppSKeyReq request) = false
is_home_network (HomeNSReq request) = false
is_home_network (UplinkReq request) = true
is_home_network (XmitDataReq request) = true
is_home_network (XmitUplink request) = false
is_home_network Unknown = false

-- what the home network makes of what a gateway heard and of a payload, and the join server of any other request
abbrev pub by_part : Config → (ℕ → List ℕ) → (ℕ → List ℕ) → Machine → Head → Request → JsDecision
by_part c nwk app m head request = if is_home_network request then ns_decided c nwk m head request else js_decided c nwk app m head request

-- a request that no line before the size stands against comes to what its part makes of it
abbrev pub PartsDecide : Type 0
PartsDecide = (c : Config) (nwk app : ℕ → List ℕ) (m : Machine) (head : Head) (request : Request) → wrong_sender c head ≡ false → wrong_receiver c head ≡ false → wrong_type c head request ≡ false
    → judged_at c nwk app m head request None false ≡ by_part c nwk app m head request
