-- What a request is answered, and what it changes.
use Rattle.std.specs.Prelude.{ℕ, ◌==◌, List, find, Option, Some, None, option_map, Bool, true, false, if◌then◌else◌}
use Rattle.std.specs.List.{list_any}
use Rattle.wire_ids.specs.declared.decision.Decision.{Decision}
use Rattle.wire_ids.specs.declared.decision.Decision.TheVariants as decision
use Rattle.wire_ids.specs.declared.eui.Eui.{Eui}
use Rattle.wire_ids.specs.declared.keys.Seed.{Seed}
use Rattle.wire_ids.specs.declared.party.Sender.{Sender}
use Rattle.key_wrap.specs.Wrap.{wrapped_key}
use Rattle.key_vault.specs.Keys.{app_session_key, network_keys}
use Rattle.join_frames.specs.Accepts.{accept_text}
use Rattle.join_frames.specs.declared.accept.Accept.{Accept}
use Rattle.join_frames.specs.declared.accept.AcceptKind.{AcceptKind}
use Rattle.join_frames.specs.declared.accept.AcceptKind.TheVariants as accept
use Rattle.join_frames.specs.declared.join_up.JoinUp.{JoinUp}
use Rattle.join_frames.specs.declared.join_up.JoinUp.TheVariants.{Join, Rejoin02, Rejoin1}
use Rattle.agreements.specs.Walk.{Config}
use Rattle.agreements.specs.declared.rows.ApplicationRow.{ApplicationRow}
use Rattle.agreements.specs.declared.rows.DeviceRow.{DeviceRow}
use Rattle.agreements.specs.declared.rows.NetworkRow.{NetworkRow}
use Rattle.backend_json.specs.declared.answer.Answer.{Answer}
use Rattle.backend_json.specs.declared.answer.Answer.TheVariants.{Headed}
use Rattle.backend_json.specs.declared.answer.AnswerKeys.{AnswerKeys}
use Rattle.backend_json.specs.declared.answer.JoinAnswer.{JoinAnswer}
use Rattle.backend_json.specs.declared.answer.KeyEnvelope.{KeyEnvelope}
use Rattle.backend_json.specs.declared.answer.Outcome.{Outcome}
use Rattle.backend_json.specs.declared.answer.Outcome.TheVariants.{AppSKeyAns, HomeNSAns, JoinAns, Refused, RejoinAns}
use Rattle.backend_json.specs.declared.head.Head.{Head}
use Rattle.backend_json.specs.declared.refusal.Refusal.{Refusal}
use Rattle.backend_json.specs.declared.refusal.Refusal.TheVariants as cause
use Rattle.backend_json.specs.declared.request.AppSKeyRequest.{AppSKeyRequest}
use Rattle.backend_json.specs.declared.request.JoinRequest.{JoinRequest}
use Rattle.backend_json.specs.declared.request.Request.{Request}
use Rattle.backend_json.specs.declared.request.Request.TheVariants.{AppSKeyReq, HomeNSReq, JoinReq, RejoinReq, Unknown, UplinkReq, XmitDataReq, XmitUplink}
use Rattle.entitlement.specs.declared.roles.AnswerKind.{AnswerKind}
use Rattle.entitlement.specs.declared.roles.AnswerKind.TheVariants as answer
use Rattle.entitlement.specs.declared.roles.Facts.{Facts}
use Rattle.entitlement.specs.Keys.{Entry, FNwkSIntKey, SNwkSIntKey, NwkSEncKey, AppSKey, entitled}
use Rattle.entitlement.specs.Roles.{role}
use Rattle.entries.specs.declared.change.Change.{Change}
use Rattle.entries.specs.declared.change.OwnContext.{OwnContext}
use Rattle.entry_codec.specs.Machine.{Machine}
use Rattle.entry_codec.specs.declared.device.Device as device
use Rattle.entry_codec.specs.declared.device.KeptSeed.{KeptSeed}
use Rattle.js_core.specs.declared.activation.Activation.{Activation}
use Rattle.js_core.specs.declared.activation.Activation.TheVariants as by
use Rattle.js_core.specs.declared.question.NoQuestion.{NoQuestion}
use Rattle.js_core.specs.Found.{Found, found_of}
use Rattle.js_core.specs.Frames.{join_up_of}
use Rattle.js_core.specs.Parties.{application_named, network_of}
use Rattle.js_core.specs.Rules.{by_rules, has_nonce, rules_of}
use Rattle.js_core.specs.Steps as step

-- what the join server makes of a request: it asks no peer, and an answer comes with what it changes
abbrev pub JsDecision : Type 0
JsDecision = Decision Answer NoQuestion Change

abbrev pub refused : Head → Refusal → Answer
refused head cause = Headed head (Refused cause)

abbrev pub refuses : Head → Refusal → JsDecision
refuses head cause = decision.Reply (refused head cause)

-- ---- the keys of an answer, each wrapped under the KEK of its label

abbrev pub sealed_by : List ℕ → List ℕ → List ℕ → KeyEnvelope
sealed_by label kek key = record { kek_label = label; aes_key = wrapped_key kek key }

-- a key for a network, under the network's label
unfoldable pub for_network : Config → ℕ → List ℕ → Option KeyEnvelope
for_network c net key = option_map (λ (n : NetworkRow). sealed_by n.kek_label n.kek key) (network_of c net)

-- a key for an application, under the application's label
unfoldable pub for_application : Config → Eui → List ℕ → Option KeyEnvelope
for_application c app key = option_map (λ (a : ApplicationRow). sealed_by a.kek_label a.kek key) (application_named c app)

abbrev pub where_set : Bool → Option KeyEnvelope → Option KeyEnvelope
where_set set envelope = if set then envelope else None

-- which key an entry of the table is
abbrev pub is_f_nwk_s_int_key : Entry → Bool
is_f_nwk_s_int_key entry = elim entry.0 [ FNwkSIntKey ↦ true | SNwkSIntKey ↦ false | NwkSEncKey ↦ false | AppSKey ↦ false ]

abbrev pub is_s_nwk_s_int_key : Entry → Bool
is_s_nwk_s_int_key entry = elim entry.0 [ FNwkSIntKey ↦ false | SNwkSIntKey ↦ true | NwkSEncKey ↦ false | AppSKey ↦ false ]

abbrev pub is_nwk_s_enc_key : Entry → Bool
is_nwk_s_enc_key entry = elim entry.0 [ FNwkSIntKey ↦ false | SNwkSIntKey ↦ false | NwkSEncKey ↦ true | AppSKey ↦ false ]

abbrev pub is_app_s_key : Entry → Bool
is_app_s_key entry = elim entry.0 [ FNwkSIntKey ↦ false | SNwkSIntKey ↦ false | NwkSEncKey ↦ false | AppSKey ↦ true ]

-- the key of the device's application, where it is among these entries
abbrev pub application_key : Config → List ℕ → DeviceRow → Seed → List Entry → Option KeyEnvelope
application_key c app row seed entries = where_set (list_any is_app_s_key entries) (for_application c row.app (app_session_key app seed))

-- the keys of these entries
unfoldable pub answer_keys : Config → List ℕ → List ℕ → DeviceRow → Seed → List Entry → AnswerKeys
answer_keys c nwk app row seed entries = record {
  f_nwk_s_int_key = where_set (list_any is_f_nwk_s_int_key entries) (for_network c row.home (network_keys nwk seed).f);
  s_nwk_s_int_key = where_set (list_any is_s_nwk_s_int_key entries) (for_network c row.home (network_keys nwk seed).s);
  nwk_s_enc_key = where_set (list_any is_nwk_s_enc_key entries) (for_network c row.home (network_keys nwk seed).e);
  app_s_key = application_key c app row seed entries;
}

-- the roles of these answers' receivers stand in the device's row, whatever there is of roaming
abbrev pub no_facts : Facts
no_facts = record { lent = None; granted = None; now = record { 0 = 0 } }

-- the keys to which the sender of a request is entitled (the entitlement table)
abbrev pub entries_for : DeviceRow → Sender → AnswerKind → ℕ → List Entry
entries_for row sender asked lifetime = entitled asked (role row no_facts sender asked) row.carry_app lifetime

-- ---- joins and rejoins

abbrev pub rejoin_kind : ℕ → AcceptKind
rejoin_kind kind = if kind == 0 then accept.Rejoin0 else accept.Rejoin2

abbrev pub accept_kind : JoinUp → AcceptKind
accept_kind (Join join_eui dev_eui nonce mic) = accept.Join
accept_kind (Rejoin02 kind net dev_eui count mic) = rejoin_kind kind
accept_kind (Rejoin1 join_eui dev_eui count mic) = accept.Rejoin1

-- the join-accept with the address and the radio parameters of this context, in the name of the device's home
abbrev pub home_accept : JoinUp → DeviceRow → Seed → OwnContext → Accept
home_accept up row seed own = record {
  kind = accept_kind up;
  dev = row.dev_eui;
  seed = seed;
  net = row.home;
  addr = own.dev_addr;
  radio = own.radio;
}

-- the context that the request's network gives the device
abbrev pub context_of : JoinRequest → OwnContext
context_of request = record { dev_addr = request.dev_addr; radio = request.radio }

abbrev pub accept_of : JoinUp → JoinRequest → DeviceRow → Seed → Accept
accept_of up request row seed = home_accept up row seed (context_of request)

abbrev pub answer_kind : Activation → AnswerKind
answer_kind by.Join = answer.JoinAns
answer_kind by.Rejoin = answer.RejoinAns

abbrev pub outcome_of : Activation → JoinAnswer → Outcome
outcome_of by.Join members = JoinAns members
outcome_of by.Rejoin members = RejoinAns members

-- the members of the answer to a join- or rejoin-request that is accepted
unfoldable pub join_members : Config → List ℕ → List ℕ → Activation → Head → JoinRequest → JoinUp → DeviceRow → Seed → JoinAnswer
join_members c nwk app activation head request up row seed = record {
  phy_payload = accept_text nwk (accept_of up request row seed);
  lifetime = c.desk.lifetime_s;
  keys = answer_keys c nwk app row seed (entries_for row head.sender (answer_kind activation) c.desk.lifetime_s);
  session_key_id = record { dev_eui = row.dev_eui; join_nonce = seed.nonce };
}

abbrev pub accepted : Config → (ℕ → List ℕ) → (ℕ → List ℕ) → Activation → Head → JoinRequest → JoinUp → Found → JsDecision
accepted c nwk app activation head request up f =
    let s = step.step_of (nwk f.device) request.phy_payload up f.kept in
    decision.Accept (Headed head (outcome_of activation (join_members c (nwk f.device) (app f.device) activation head request up f.row s.seed))) (step.change_of f.device s None)

-- where no rule holds, there are a frame and a device with a next JoinNonce
abbrev pub join_success_at : Config → (ℕ → List ℕ) → (ℕ → List ℕ) → Activation → Head → JoinRequest → Option JoinUp → Option Found → JsDecision
join_success_at c nwk app activation head request None found = refuses head cause.Frame
join_success_at c nwk app activation head request (Some up) None = refuses head cause.Device
join_success_at c nwk app activation head request (Some up) (Some f) =
    if step.is_spent f.kept then refuses head cause.Spent else accepted c nwk app activation head request up f

unfoldable pub join_success : Config → (ℕ → List ℕ) → (ℕ → List ℕ) → Machine → Activation → Head → JoinRequest → JsDecision
join_success c nwk app m activation head request = join_success_at c nwk app activation head request (join_up_of request.phy_payload) (found_of c m request.dev_eui)

-- ---- an application asks for its key

unfoldable pub app_s_key_answer : Config → List ℕ → Head → AppSKeyRequest → DeviceRow → Seed → Answer
app_s_key_answer c app head request row seed = Headed head (AppSKeyAns (record {
  dev_eui = request.dev_eui;
  app_s_key = application_key c app row seed (entries_for row head.sender answer.AppSKeyAns 0);
  session_key_id = request.session_key_id;
}))

-- the kept seed with this JoinNonce
abbrev pub seed_with : ℕ → device.Device → Option KeptSeed
seed_with nonce kept = find (has_nonce nonce) kept.seeds.items

abbrev pub app_s_key_reply : Config → (ℕ → List ℕ) → Head → AppSKeyRequest → Found → Seed → JsDecision
app_s_key_reply c app head request f seed = decision.Reply (app_s_key_answer c (app f.device) head request f.row seed)

abbrev pub app_s_key_success_with : Config → (ℕ → List ℕ) → Head → AppSKeyRequest → Found → Option KeptSeed → JsDecision
app_s_key_success_with c app head request f None = refuses head cause.Session
app_s_key_success_with c app head request f (Some kept) = app_s_key_reply c app head request f kept.seed

abbrev pub app_s_key_success_at : Config → (ℕ → List ℕ) → Head → AppSKeyRequest → Option Found → JsDecision
app_s_key_success_at c app head request None = refuses head cause.Device
app_s_key_success_at c app head request (Some f) = app_s_key_success_with c app head request f (seed_with request.session_key_id.join_nonce f.kept)

-- ---- a network asks for a device's home

abbrev pub home_ns_success_at : Head → Option Found → JsDecision
home_ns_success_at head None = refuses head cause.Device
home_ns_success_at head (Some f) = decision.Reply (Headed head (HomeNSAns (record { h_net_id = f.row.home })))

-- ---- all requests of a join server

-- what a request comes to that no rule stands against
abbrev pub success_of : Config → (ℕ → List ℕ) → (ℕ → List ℕ) → Machine → Head → Request → JsDecision
success_of c nwk app m head (JoinReq request) = join_success c nwk app m by.Join head request
success_of c nwk app m head (RejoinReq request) = join_success c nwk app m by.Rejoin head request
success_of c nwk app m head (AppSKeyReq request) = app_s_key_success_at c app head request (found_of c m request.dev_eui)
success_of c nwk app m head (HomeNSReq request) = home_ns_success_at head (found_of c m request.dev_eui)
success_of c nwk app m head (UplinkReq request) = refuses head cause.«Type»
success_of c nwk app m head (XmitDataReq request) = refuses head cause.«Type»
success_of c nwk app m head (XmitUplink request) = refuses head cause.«Type»
success_of c nwk app m head Unknown = refuses head cause.«Type»

-- from the rule of the frame's size on
unfoldable pub js_decided : Config → (ℕ → List ℕ) → (ℕ → List ℕ) → Machine → Head → Request → JsDecision
js_decided c nwk app m head request = by_rules (refuses head) (rules_of c nwk m head request) (success_of c nwk app m head request)
