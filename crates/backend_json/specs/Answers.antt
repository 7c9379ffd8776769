-- The texts of answers (TS002, Messages and Payloads): compact JSON, the members in the ascending byte order of their names.
use Rattle.std.specs.Prelude.{ℕ, List, [], ◌∷◌, ◌++◌, codes, Option, Some, None, option_map}
use Rattle.std.specs.Int.{w64, to_be_bytes}
use Rattle.hex.specs.Hex.{encode_lower}
use Rattle.serde_json.specs.Data.{Data, no_members, member, string, number, unsigned, object}
use Rattle.wire_ids.specs.Digits.{eui_digits, net_digits}
use Rattle.wire_ids.specs.Numbers.{three_bytes}
use Rattle.wire_ids.specs.declared.party.Sender.{Sender}
use Rattle.wire_ids.specs.declared.party.Sender.TheVariants as sender
use Rattle.wire_ids.specs.declared.party.PeerId.{PeerId}
use Rattle.wire_ids.specs.declared.party.PeerId.TheVariants as peer
use Rattle.backend_json.specs.declared.head.Head.{Head}
use Rattle.backend_json.specs.declared.session.SessionKeyId.{SessionKeyId}
use Rattle.backend_json.specs.declared.refusal.Refusal.{Refusal}
use Rattle.backend_json.specs.declared.refusal.Refusal.TheVariants as refusal
use Rattle.backend_json.specs.declared.refusal.ResultCode.{ResultCode}
use Rattle.backend_json.specs.declared.refusal.ResultCode.TheVariants as code
use Rattle.backend_json.specs.declared.answer.Answer.{Answer}
use Rattle.backend_json.specs.declared.answer.Answer.TheVariants.{Headless, Headed}
use Rattle.backend_json.specs.declared.answer.JoinAnswer.{JoinAnswer}
use Rattle.backend_json.specs.declared.answer.KeyEnvelope.{KeyEnvelope}
use Rattle.backend_json.specs.declared.answer.Outcome.{Outcome}
use Rattle.backend_json.specs.declared.answer.Outcome.TheVariants.{Refused, JoinAns, RejoinAns, AppSKeyAns, HomeNSAns, UplinkAns, XmitDataAns}
use Rattle.backend_json.specs.Objects.{Field, field, object_text}
use Rattle.backend_json.specs.Refusals.{code_of, code_text, description_of}
use Rattle.backend_json.specs.Types.{answer_name}

-- ---- values

abbrev pub hex_data : List ℕ → Data
hex_data bytes = string (encode_lower bytes)

abbrev pub sender_digits : Sender → List ℕ
sender_digits (sender.Network net) = net_digits net
sender_digits (sender.Party eui) = eui_digits eui

abbrev pub peer_digits : PeerId → List ℕ
peer_digits (peer.Network net) = net_digits net
peer_digits (peer.JoinServer eui) = eui_digits eui

unfoldable pub session_bytes : SessionKeyId → List ℕ
session_bytes id = to_be_bytes w64 id.dev_eui.0 ++ three_bytes id.join_nonce

abbrev pub number_data : ℕ → Data
number_data n = number (unsigned n)

abbrev pub session_data : SessionKeyId → Data
session_data id = hex_data (session_bytes id)

-- a wrapped key beside the label of its KEK
unfoldable pub key_data : KeyEnvelope → Data
key_data key = object (member (codes "AESKey") (hex_data key.aes_key) (member (codes "KEKLabel") (string key.kek_label) no_members))

unfoldable pub result_data : ResultCode → List ℕ → Data
result_data code description = object (member (codes "Description") (string description) (member (codes "ResultCode") (string (code_text code)) no_members))

-- ---- the members of an answer

-- every member that an answer may have, each where it is there
pub record AnswerMembers : Type 0 where
  pub app_s_key : Option Data
  pub dev_eui : Option Data
  pub f_cnt_up : Option Data
  pub f_nwk_s_int_key : Option Data
  pub h_net_id : Option Data
  pub lifetime : Option Data
  pub message_type : Option Data
  pub nwk_s_enc_key : Option Data
  pub phy_payload : Option Data
  pub protocol_version : Option Data
  pub receiver_id : Option Data
  pub result : Option Data
  pub s_nwk_s_int_key : Option Data
  pub sender_id : Option Data
  pub session_key_id : Option Data
  pub transaction_id : Option Data

-- by their names
unfoldable pub named : AnswerMembers → List Field
named m =
    field (codes "AppSKey") m.app_s_key
    ∷ field (codes "DevEUI") m.dev_eui
    ∷ field (codes "FCntUp") m.f_cnt_up
    ∷ field (codes "FNwkSIntKey") m.f_nwk_s_int_key
    ∷ field (codes "HNetID") m.h_net_id
    ∷ field (codes "Lifetime") m.lifetime
    ∷ field (codes "MessageType") m.message_type
    ∷ field (codes "NwkSEncKey") m.nwk_s_enc_key
    ∷ field (codes "PHYPayload") m.phy_payload
    ∷ field (codes "ProtocolVersion") m.protocol_version
    ∷ field (codes "ReceiverID") m.receiver_id
    ∷ field (codes "Result") m.result
    ∷ field (codes "SNwkSIntKey") m.s_nwk_s_int_key
    ∷ field (codes "SenderID") m.sender_id
    ∷ field (codes "SessionKeyID") m.session_key_id
    ∷ field (codes "TransactionID") m.transaction_id
    ∷ []

-- of every answer, its MessageType
abbrev pub of_type : List ℕ → AnswerMembers
of_type message_type = record {
  app_s_key = None;
  dev_eui = None;
  f_cnt_up = None;
  f_nwk_s_int_key = None;
  h_net_id = None;
  lifetime = None;
  message_type = Some (string message_type);
  nwk_s_enc_key = None;
  phy_payload = None;
  protocol_version = None;
  receiver_id = None;
  result = None;
  s_nwk_s_int_key = None;
  sender_id = None;
  session_key_id = None;
  transaction_id = None;
}

-- of an answer to a request with this head, what it takes from the head: its receiver is the request's sender, and its sender
-- the request's receiver
abbrev pub headed : Head → List ℕ → AnswerMembers
headed head version = record (of_type (answer_name head.message_type)) {
  protocol_version = Some (string version);
  receiver_id = Some (string (sender_digits head.sender));
  sender_id = Some (string (peer_digits head.receiver));
  transaction_id = Some (number_data head.transaction_id);
}

-- the request's version, but 1.1 where it is the cause of refusal
abbrev pub answer_version : Head → Refusal → List ℕ
answer_version head refusal.Version = codes "1.1"
answer_version head cause = head.protocol_version

abbrev pub refusal_data : Refusal → Data
refusal_data cause = result_data (code_of cause) (description_of cause)

abbrev pub success : Head → AnswerMembers
success head = record (headed head head.protocol_version) { result = Some (result_data code.Success []) }

-- of a JoinAns and of a RejoinAns
abbrev pub join_members : Head → JoinAnswer → AnswerMembers
join_members head answer = record (success head) {
  app_s_key = option_map key_data answer.keys.app_s_key;
  f_nwk_s_int_key = option_map key_data answer.keys.f_nwk_s_int_key;
  lifetime = Some (number_data answer.lifetime);
  nwk_s_enc_key = option_map key_data answer.keys.nwk_s_enc_key;
  phy_payload = Some (hex_data answer.phy_payload);
  s_nwk_s_int_key = option_map key_data answer.keys.s_nwk_s_int_key;
  session_key_id = Some (session_data answer.session_key_id);
}

-- the members of each answer; a refusal has its Result, and no further member
abbrev pub members_for : Head → Outcome → AnswerMembers
members_for head (Refused cause) = record (headed head (answer_version head cause)) { result = Some (refusal_data cause) }
members_for head (JoinAns answer) = join_members head answer
members_for head (RejoinAns answer) = join_members head answer
members_for head (AppSKeyAns answer) = record (success head) {
  app_s_key = option_map key_data answer.app_s_key;
  dev_eui = Some (string (eui_digits answer.dev_eui));
  session_key_id = Some (session_data answer.session_key_id);
}
members_for head (HomeNSAns answer) = record (success head) { h_net_id = Some (string (net_digits answer.h_net_id)) }
members_for head (UplinkAns answer) = record (success head) {
  dev_eui = Some (string (eui_digits answer.dev_eui));
  f_cnt_up = option_map number_data answer.f_cnt_up;
  phy_payload = option_map hex_data answer.phy_payload;
  session_key_id = option_map session_data answer.session_key_id;
}
members_for head (XmitDataAns answer) = record (success head) { phy_payload = option_map hex_data answer.phy_payload }

-- without a readable head there are a type and a result alone
abbrev pub headless : AnswerMembers
headless = record (of_type (codes "ErrorNotif")) { result = Some (refusal_data refusal.Message) }

unfoldable pub answer_members : Answer → AnswerMembers
answer_members Headless = headless
answer_members (Headed head outcome) = members_for head outcome

-- the text of an answer
abbrev pub text_of : Answer → List ℕ
text_of answer = object_text (named (answer_members answer))
