-- What a request to a network server is answered, and what it changes.
use Rattle.std.specs.Prelude.{ℕ, List, Option, Some, None, if◌then◌else◌}
use Rattle.wire_ids.specs.declared.decision.Decision.TheVariants as decision
use Rattle.agreements.specs.Walk.{Config}
use Rattle.backend_json.specs.declared.answer.Answer.{Answer}
use Rattle.backend_json.specs.declared.answer.Answer.TheVariants.{Headed}
use Rattle.backend_json.specs.declared.answer.Outcome.TheVariants.{UplinkAns}
use Rattle.backend_json.specs.declared.answer.UplinkAnswer.{UplinkAnswer}
use Rattle.backend_json.specs.declared.head.Head.{Head}
use Rattle.backend_json.specs.declared.refusal.Refusal.TheVariants as cause
use Rattle.backend_json.specs.declared.request.Request.{Request}
use Rattle.backend_json.specs.declared.request.Request.TheVariants.{AppSKeyReq, HomeNSReq, JoinReq, RejoinReq, UplinkReq, Unknown, XmitDataReq, XmitUplink}
use Rattle.backend_json.specs.declared.request.UplinkRequest.{UplinkRequest}
use Rattle.entries.specs.declared.change.Change.{Change}
use Rattle.entries.specs.declared.change.Change.TheVariants as change
use Rattle.entries.specs.declared.change.OwnContext.{OwnContext}
use Rattle.entry_codec.specs.Machine.{Machine}
use Rattle.join_frames.specs.Accepts.{accept_text}
use Rattle.join_frames.specs.declared.join_up.JoinUp.{JoinUp}
use Rattle.js_core.specs.Found.{Found}
use Rattle.js_core.specs.Replies.{JsDecision, home_accept, refuses}
use Rattle.js_core.specs.Rules.{by_rules}
use Rattle.js_core.specs.Steps.{change_of, step_of}
use Rattle.js_core.specs.declared.step.JoinStep.{JoinStep}
use Rattle.exchanges.specs.Downlinks.{down_fields, down_of, text_under}
use Rattle.ns_core.specs.Heard.{Heard, Join, Data, Neither, heard_of}
use Rattle.ns_core.specs.Own.{own_context}
use Rattle.ns_core.specs.Payloads.{payload_decided}
use Rattle.ns_core.specs.Rules.{uplink_rules}
use Rattle.ns_core.specs.Sessions.{session_of}
use Rattle.ns_core.specs.Speakers.{Speaker, count_of, is_duplicate, keys_of}
use Rattle.exchanges.specs.declared.valid.Count.{Count}

-- ---- joins and rejoins

-- the accept goes out in the answer
unfoldable pub accept_members : List ℕ → JoinUp → Found → JoinStep → OwnContext → UplinkAnswer
accept_members nwk up f step own = record {
  dev_eui = f.row.dev_eui;
  f_cnt_up = None;
  phy_payload = Some (accept_text nwk (home_accept up f.row step.seed own));
  session_key_id = Some (record { dev_eui = f.row.dev_eui; join_nonce = step.seed.nonce });
}

abbrev pub activated_with : (ℕ → List ℕ) → Head → JoinUp → Found → JoinStep → Option OwnContext → JsDecision
activated_with nwk head up f step None = refuses head cause.AddressesSpent
activated_with nwk head up f step (Some own) = decision.Accept (Headed head (UplinkAns (accept_members (nwk f.device) up f step own))) (change_of f.device step (Some own))

-- the device gets a context of this desk, which is pending until it is heard under it
abbrev pub activated_by : Config → (ℕ → List ℕ) → Machine → Head → JoinUp → Found → JoinStep → JsDecision
activated_by c nwk m head up f step = activated_with nwk head up f step (own_context c m step.used f)

abbrev pub activation_success : Config → (ℕ → List ℕ) → Machine → Head → UplinkRequest → JoinUp → Option Found → JsDecision
activation_success c nwk m head request up None = refuses head cause.Device
activation_success c nwk m head request up (Some f) = activated_by c nwk m head up f (step_of (nwk f.device) request.phy_payload up f.kept)

-- ---- data uplinks

-- whoever sent the frame is told the device and the full counter, and is given the downlink where there is one
abbrev pub heard_members : Speaker → Option ℕ → Option (List ℕ) → UplinkAnswer
heard_members s count down = record { dev_eui = s.dev_eui; f_cnt_up = count; phy_payload = down; session_key_id = session_of s.dev_eui s.context.origin }

abbrev pub heard_answer : Head → Speaker → Option ℕ → Option (List ℕ) → Answer
heard_answer head s count down = Headed head (UplinkAns (heard_members s count down))

-- a duplicate has no downlink
abbrev pub duplicate_answer : Head → Speaker → Answer
duplicate_answer head s = heard_answer head s s.context.last None

abbrev pub duplicate_with : Head → Speaker → JsDecision
duplicate_with head s = decision.Reply (duplicate_answer head s)

-- the downlink behind an uplink, under the session's keys
unfoldable pub down_behind : (ℕ → List ℕ) → UplinkRequest → Speaker → ℕ → Option (List ℕ)
down_behind nwk request s count =
    text_under (keys_of nwk s.holder s.context.origin) (down_fields s.context request.phy_payload request.data_rate count)

abbrev pub counted_answer : (ℕ → List ℕ) → Head → UplinkRequest → Speaker → ℕ → Answer
counted_answer nwk head request s count = heard_answer head s (Some count) (down_behind nwk request s count)

-- the uplink is kept as the last one of its context, with which downlink answers it
abbrev pub up_of : Speaker → UplinkRequest → Count → Change
up_of s request v = change.Up (record {
  dev_eui = s.dev_eui;
  pending = s.pending;
  count = v.count;
  frame = request.phy_payload;
  channel = v.channel;
  down = down_of s.context request.phy_payload request.data_rate;
})

abbrev pub counted_with : (ℕ → List ℕ) → Head → UplinkRequest → Speaker → Option Count → JsDecision
counted_with nwk head request s None = refuses head cause.Mic
counted_with nwk head request s (Some v) = decision.Accept (counted_answer nwk head request s v.count) (up_of s request v)

-- a duplicate gets the same counter, and changes nothing
abbrev pub spoken : (ℕ → List ℕ) → Head → UplinkRequest → Speaker → JsDecision
spoken nwk head request s =
    if is_duplicate request.phy_payload s then duplicate_with head s
    else counted_with nwk head request s (count_of nwk request.phy_payload request.data_rate s)

abbrev pub data_success : (ℕ → List ℕ) → Head → UplinkRequest → Option Speaker → JsDecision
data_success nwk head request None = refuses head cause.Address
data_success nwk head request (Some s) = spoken nwk head request s

-- ---- all requests of a gateway

abbrev pub success_at : Config → (ℕ → List ℕ) → Machine → Head → UplinkRequest → Heard → JsDecision
success_at c nwk m head request (Join up found) = activation_success c nwk m head request up found
success_at c nwk m head request (Data speaker) = data_success nwk head request speaker
success_at c nwk m head request Neither = refuses head cause.Frame

-- what an UplinkReq comes to that no rule stands against
unfoldable pub uplink_success : Config → (ℕ → List ℕ) → Machine → Head → UplinkRequest → JsDecision
uplink_success c nwk m head request = success_at c nwk m head request (heard_of c m request.phy_payload)

unfoldable pub uplink_decided : Config → (ℕ → List ℕ) → Machine → Head → UplinkRequest → JsDecision
uplink_decided c nwk m head request = by_rules (refuses head) (uplink_rules c nwk m request) (uplink_success c nwk m head request)

-- a network server's part: from the rule of the size on
unfoldable pub ns_decided : Config → (ℕ → List ℕ) → Machine → Head → Request → JsDecision
ns_decided c nwk m head (UplinkReq request) = uplink_decided c nwk m head request
ns_decided c nwk m head (XmitDataReq request) = payload_decided c m head request
ns_decided c nwk m head (XmitUplink request) = refuses head cause.«Type»
ns_decided c nwk m head (JoinReq request) = refuses head cause.«Type»
ns_decided c nwk m head (RejoinReq request) = refuses head cause.«Type»
ns_decided c nwk m head (AppSKeyReq request) = refuses head cause.«Type»
ns_decided c nwk m head (HomeNSReq request) = refuses head cause.«Type»
ns_decided c nwk m head Unknown = refuses head cause.«Type»
