-- The keys of an answer are those that the entitlement table gives its receiver, each wrapped under the KEK of its own label.
use Rattle.std.specs.Prelude.{◌≡◌, ℕ, List, [], ◌++◌, find, filter, map, All, Option, Some, None, option_map, true, codes}
use Rattle.wire_ids.specs.declared.decision.Decision.TheVariants as decision
use Rattle.wire_ids.specs.declared.keys.RootKeys.{RootKeys}
use Rattle.wire_ids.specs.declared.keys.Seed.{Seed}
use Rattle.wire_ids.specs.declared.party.Sender.{Sender}
use Rattle.wire_ids.specs.declared.party.Sender.TheVariants.{Network, Party}
use Rattle.key_vault.specs.Keys.{app_session_key, network_keys}
use Rattle.key_vault.specs.Table.{app_at, nwk_at}
use Rattle.agreements.specs.Walk.{Config}
use Rattle.agreements.specs.LookUps.{Belongs}
use Rattle.agreements.specs.declared.rows.DeviceRow.{DeviceRow}
use Rattle.agreements.specs.declared.rows.ApplicationRow.{ApplicationRow}
use Rattle.agreements.specs.declared.rows.NetworkRow.{NetworkRow}
use Rattle.backend_json.specs.Keys.{KeyMember, key_member, key_members}
use Rattle.backend_json.specs.declared.answer.Answer.{Answer}
use Rattle.backend_json.specs.declared.answer.Answer.TheVariants.{Headed, Headless}
use Rattle.backend_json.specs.declared.answer.Outcome.{Outcome}
use Rattle.backend_json.specs.declared.answer.Outcome.TheVariants.{AppSKeyAns, HomeNSAns, JoinAns, Refused, RejoinAns, UplinkAns, XmitDataAns}
use Rattle.backend_json.specs.declared.head.Head.{Head}
use Rattle.backend_json.specs.declared.request.Request.{Request}
use Rattle.backend_json.specs.declared.session.SessionKeyId.{SessionKeyId}
use Rattle.entitlement.specs.Fields.{Envelope, fields_of}
use Rattle.entitlement.specs.Fields as entitlement
use Rattle.entitlement.specs.Keys.{Entry, KeyName, FNwkSIntKey, SNwkSIntKey, NwkSEncKey, AppSKey, LabelOwner, TheNetwork, TheApplication, entitled}
use Rattle.entitlement.specs.Roles.{role}
use Rattle.entitlement.specs.declared.roles.AnswerKind.{AnswerKind}
use Rattle.entitlement.specs.declared.roles.AnswerKind.TheVariants as answer
use Rattle.entitlement.specs.declared.roles.Facts.{Facts}
use Rattle.entry_codec.specs.Machine.{Machine, is_the_network, on_change}
use Rattle.entry_codec.specs.declared.device.Device.{Device}
use Rattle.entry_codec.specs.declared.device.Granted.{Granted}
use Rattle.entry_codec.specs.declared.device.KeptSeed.{KeptSeed}
use Rattle.entry_codec.specs.declared.device.LentTo.{LentTo}
use Rattle.js_core.specs.Found.{Found, found_of}
use Rattle.js_core.specs.Parties.{application_named, is_known, network_of}
use Rattle.js_core.specs.Replies.{JsDecision, is_app_s_key, is_nwk_s_enc_key, is_f_nwk_s_int_key, is_s_nwk_s_int_key, js_decided, seed_with}

-- ---- whose label, and which key

abbrev pub network_envelope : Option NetworkRow → Envelope
network_envelope None = record { label = []; kek = [] }
network_envelope (Some network) = record { label = network.kek_label; kek = network.kek }

abbrev pub application_envelope : Option ApplicationRow → Envelope
application_envelope None = record { label = []; kek = [] }
application_envelope (Some application) = record { label = application.kek_label; kek = application.kek }

-- the label and KEK of the network that receives the answer
abbrev pub receiver_envelope : Config → Sender → Envelope
receiver_envelope c (Network net) = network_envelope (network_of c net)
receiver_envelope c (Party id) = network_envelope None

-- the label and KEK of the network that receives the answer, or of the device's application
abbrev pub envelope_of : Config → DeviceRow → Sender → LabelOwner → Envelope
envelope_of c row receiver TheNetwork = receiver_envelope c receiver
envelope_of c row receiver TheApplication = application_envelope (application_named c row.app)

-- the session key of this name (LoRaWAN 1.1, 6.2.3)
abbrev pub session_key : List RootKeys → ℕ → Seed → KeyName → List ℕ
session_key keys at seed FNwkSIntKey = (network_keys (nwk_at keys at) seed).f
session_key keys at seed SNwkSIntKey = (network_keys (nwk_at keys at) seed).s
session_key keys at seed NwkSEncKey = (network_keys (nwk_at keys at) seed).e
session_key keys at seed AppSKey = app_session_key (app_at keys at) seed

-- the name of a key's member (TS002-1.1.0)
abbrev pub member_name : KeyName → List ℕ
member_name FNwkSIntKey = codes "FNwkSIntKey"
member_name SNwkSIntKey = codes "SNwkSIntKey"
member_name NwkSEncKey = codes "NwkSEncKey"
member_name AppSKey = codes "AppSKey"

abbrev pub member_of : entitlement.KeyField → KeyMember
member_of field = key_member (member_name field.name) field.label field.aes_key

-- in the order of an answer's members: AppSKey, FNwkSIntKey, NwkSEncKey, SNwkSIntKey
abbrev pub in_member_order : List Entry → List Entry
in_member_order entries = filter is_app_s_key entries ++ (filter is_f_nwk_s_int_key entries ++ (filter is_nwk_s_enc_key entries ++ filter is_s_nwk_s_int_key entries))

-- the key members for these entries of the table: the session's key of that name, wrapped under the KEK of its owner's label
abbrev pub entitled_fields : Config → List RootKeys → ℕ → DeviceRow → Sender → Seed → List Entry → List KeyMember
entitled_fields c keys at row receiver seed entries = map member_of (fields_of (session_key keys at seed) (envelope_of c row receiver) (in_member_order entries))

-- ---- an answer agrees with the table in a state

-- what the state has of a network's roaming with the device, at a moment
abbrev pub facts_of : Sender → ℕ → Device → Facts
facts_of sender now d = record {
  lent = option_map (λ (l : LentTo). (l.net, l.until)) d.lent;
  granted = option_map (λ (g : Granted). g.until) (find (λ (g : Granted). is_the_network sender g.net) d.granted.items);
  now = record { 0 = now };
}

-- the keys to which the receiver is entitled, by its role in this state
abbrev pub entitled_in : Found → Sender → ℕ → AnswerKind → ℕ → List Entry
entitled_in f receiver now asked lifetime = entitled asked (role f.row (facts_of receiver now f.kept) receiver asked) f.row.carry_app lifetime

-- the keys of an answer of this kind and Lifetime are those of the kept seed that its SessionKeyID names, for the role of its receiver
pub record KeysAgree (c : Config) (keys : List RootKeys) (m : Machine) (now : ℕ) (asked : AnswerKind) (lifetime : ℕ) (head : Head) (outcome : Outcome) (id : SessionKeyId) : Type 0 where
  pub device : Found
  pub seed : KeptSeed
  pub is_found : found_of c m id.dev_eui ≡ Some device
  pub is_seed : seed_with id.join_nonce device.kept ≡ Some seed
  pub fields : key_members (Headed head outcome) ≡ entitled_fields c keys device.device device.row head.sender seed.seed (entitled_in device head.sender now asked lifetime)

abbrev pub HasNoKeys : Answer → Type 0
HasNoKeys reply = key_members reply ≡ []

-- an answer agrees with the entitlement table in a state at a moment; what the table doesn't name has no key
abbrev pub AnswerAgrees : Config → List RootKeys → Machine → ℕ → Answer → Type 0
AnswerAgrees c keys m now Headless = HasNoKeys Headless
AnswerAgrees c keys m now (Headed head (Refused cause)) = HasNoKeys (Headed head (Refused cause))
AnswerAgrees c keys m now (Headed head (JoinAns members)) = KeysAgree c keys m now answer.JoinAns members.lifetime head (JoinAns members) members.session_key_id
AnswerAgrees c keys m now (Headed head (RejoinAns members)) = KeysAgree c keys m now answer.RejoinAns members.lifetime head (RejoinAns members) members.session_key_id
AnswerAgrees c keys m now (Headed head (AppSKeyAns members)) =
    KeysAgree c keys m now answer.AppSKeyAns 0 head (AppSKeyAns members) members.session_key_id × (members.session_key_id.dev_eui ≡ members.dev_eui)
AnswerAgrees c keys m now (Headed head (HomeNSAns members)) = HasNoKeys (Headed head (HomeNSAns members))
AnswerAgrees c keys m now (Headed head (UplinkAns members)) = HasNoKeys (Headed head (UplinkAns members))
AnswerAgrees c keys m now (Headed head (XmitDataAns members)) = HasNoKeys (Headed head (XmitDataAns members))

-- an answer agrees in the state that its change leaves
abbrev pub Agrees : Config → List RootKeys → Machine → ℕ → Sender → JsDecision → Type 0
Agrees c keys m now sender (decision.Repeat text) = ⊥
Agrees c keys m now sender (decision.Reply reply) = AnswerAgrees c keys m now reply
Agrees c keys m now sender (decision.Accept reply change) = AnswerAgrees c keys (on_change sender change m) now reply
Agrees c keys m now sender (decision.AskPeer peer question change) = ⊥

-- over the tables of each valid text the answer to each sender that has a row agrees, whatever the root keys, the state and the request
abbrev pub AnswersAgree : Type 0
AnswersAgree = (c : Config) (keys : List RootKeys) (m : Machine) (now : ℕ) (head : Head) (request : Request)
    → All (Belongs c.desk.net_id c.networks c.applications) c.devices → is_known c head.sender ≡ true → Agrees c keys m now head.sender (js_decided c (nwk_at keys) (app_at keys) m head request)
