-- The AppKey of a device reaches no answer but those whose receiver is entitled to the device's AppSKey, and of these the AESKey of AppSKey alone.
use Rattle.std.specs.Prelude.{◌≡◌, ℕ, ◌==◌, ◌&&◌, List, [], map, slice_get, Bool, false, Option, Some, None, option_map}
use Rattle.std.specs.List.{list_any}
use Rattle.wire_ids.specs.Lists.{changed, holds_of}
use Rattle.wire_ids.specs.declared.decision.Decision.TheVariants as decision
use Rattle.wire_ids.specs.declared.eui.Eui.{Eui}
use Rattle.wire_ids.specs.declared.party.Sender.{Sender}
use Rattle.key_vault.specs.Table.{app_at, nwk_at}
use Rattle.agreements.specs.Walk.{Config}
use Rattle.agreements.specs.LookUps.{keys_of}
use Rattle.agreements.specs.declared.rows.DeviceRow.{DeviceRow}
use Rattle.backend_json.specs.declared.answer.Answer.{Answer}
use Rattle.backend_json.specs.declared.answer.Answer.TheVariants.{Headed, Headless}
use Rattle.backend_json.specs.declared.answer.AnswerKeys.{AnswerKeys}
use Rattle.backend_json.specs.declared.answer.JoinAnswer.{JoinAnswer}
use Rattle.backend_json.specs.declared.answer.KeyEnvelope.{KeyEnvelope}
use Rattle.backend_json.specs.declared.answer.Outcome.{Outcome}
use Rattle.backend_json.specs.declared.answer.Outcome.TheVariants.{AppSKeyAns, HomeNSAns, JoinAns, Refused, RejoinAns, UplinkAns, XmitDataAns}
use Rattle.backend_json.specs.declared.head.Head.{Head}
use Rattle.backend_json.specs.declared.request.Request.{Request}
use Rattle.entitlement.specs.Keys.{Entry}
use Rattle.entitlement.specs.declared.roles.AnswerKind.TheVariants as answer
use Rattle.entry_codec.specs.Machine.{Machine}
use Rattle.js_core.specs.Replies.{JsDecision, entries_for, is_app_s_key, js_decided}

-- ---- two tables that differ in one AppKey

abbrev pub row_with_app_key : List ℕ → DeviceRow → DeviceRow
row_with_app_key key row = record row { app_key = key }

-- the tables with this AppKey in row d, and nothing else changed
unfoldable pub with_app_key : ℕ → List ℕ → Config → Config
with_app_key d key c = record c { devices = changed d (row_with_app_key key) c.devices }

-- ---- who is entitled to the AppSKey

-- the device whose keys an answer tells
abbrev pub device_told : Outcome → Option Eui
device_told (Refused cause) = None
device_told (JoinAns members) = Some members.session_key_id.dev_eui
device_told (RejoinAns members) = Some members.session_key_id.dev_eui
device_told (AppSKeyAns members) = Some members.dev_eui
device_told (HomeNSAns members) = None
device_told (UplinkAns members) = None
device_told (XmitDataAns members) = None

abbrev pub tells_of : Outcome → DeviceRow → Bool
tells_of outcome row = holds_of (λ (dev : Eui). row.dev_eui.0 == dev.0) (device_told outcome)

-- what the entitlement table gives the receiver of an answer of this kind and Lifetime, for the device in this row
abbrev pub entitled_by : Outcome → DeviceRow → Sender → List Entry
entitled_by (Refused cause) row receiver = []
entitled_by (JoinAns members) row receiver = entries_for row receiver answer.JoinAns members.lifetime
entitled_by (RejoinAns members) row receiver = entries_for row receiver answer.RejoinAns members.lifetime
entitled_by (AppSKeyAns members) row receiver = entries_for row receiver answer.AppSKeyAns 0
entitled_by (HomeNSAns members) row receiver = []
entitled_by (UplinkAns members) row receiver = []
entitled_by (XmitDataAns members) row receiver = []

abbrev pub gives_app_s_key : Head → Outcome → DeviceRow → Bool
gives_app_s_key head outcome row = tells_of outcome row && list_any is_app_s_key (entitled_by outcome row head.sender)

-- the answer is one to a receiver to whom the entitlement table gives the AppSKey of the device in row d
abbrev pub is_entitled : Config → ℕ → Answer → Bool
is_entitled c d Headless = false
is_entitled c d (Headed head outcome) = holds_of (gives_app_s_key head outcome) (slice_get c.devices d)

-- ---- all of an answer but the AESKey of AppSKey

abbrev pub without_key : KeyEnvelope → KeyEnvelope
without_key envelope = record envelope { aes_key = [] }

abbrev pub keys_without : AnswerKeys → AnswerKeys
keys_without keys = record keys { app_s_key = option_map without_key keys.app_s_key }

abbrev pub members_without : JoinAnswer → JoinAnswer
members_without members = record members { keys = keys_without members.keys }

abbrev pub outcome_without : Outcome → Outcome
outcome_without (Refused cause) = Refused cause
outcome_without (JoinAns members) = JoinAns (members_without members)
outcome_without (RejoinAns members) = RejoinAns (members_without members)
outcome_without (AppSKeyAns members) = AppSKeyAns (record members { app_s_key = option_map without_key members.app_s_key })
outcome_without (HomeNSAns members) = HomeNSAns members
outcome_without (UplinkAns members) = UplinkAns members
outcome_without (XmitDataAns members) = XmitDataAns members

abbrev pub without_aes_key : Answer → Answer
without_aes_key Headless = Headless
without_aes_key (Headed head outcome) = Headed head (outcome_without outcome)

-- ---- the law

-- two answers to one request, over tables that differ in the AppKey of row d: the same but to those who are entitled to the
-- AppSKey, and to these too but for its AESKey
pub record AnswersAlike (c : Config) (d : ℕ) (left right : Answer) : Type 0 where
  pub others : is_entitled c d left ≡ false → left ≡ right
  pub rest : without_aes_key left ≡ without_aes_key right

-- what they change is the same
abbrev pub DecisionsAlike : Config → ℕ → JsDecision → JsDecision → Type 0
DecisionsAlike c d (decision.Reply left) (decision.Reply right) = AnswersAlike c d left right
DecisionsAlike c d (decision.Accept left change) (decision.Accept right change') = AnswersAlike c d left right × (change ≡ change')
DecisionsAlike c d _ _ = ⊥

abbrev pub AppKeyStays : Type 0
AppKeyStays = (c : Config) (d : ℕ) (key : List ℕ) (m : Machine) (head : Head) (request : Request) →
    let keys = map keys_of c.devices in
    let keys' = map keys_of (with_app_key d key c).devices in
    DecisionsAlike c d (js_decided c (nwk_at keys) (app_at keys) m head request) (js_decided (with_app_key d key c) (nwk_at keys') (app_at keys') m head request)
