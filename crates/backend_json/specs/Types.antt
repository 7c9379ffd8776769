-- The types of messages (TS002, Messages and Payloads).
use Rattle.std.specs.Prelude.{ℕ, List, [], ◌∷◌, Bool, codes, find, unwrap_or}
use Rattle.std.specs.Str.{bytes_eq}
use Rattle.backend_json.specs.declared.message_type.MessageType.{MessageType}
use Rattle.backend_json.specs.declared.message_type.MessageType.TheVariants.{JoinReq, RejoinReq, AppSKeyReq, HomeNSReq, UplinkReq, XmitDataReq, Unknown}
use Rattle.backend_json.specs.declared.message_type.SenderKind.{SenderKind}
use Rattle.backend_json.specs.declared.message_type.SenderKind.TheVariants.{Network, Application, Gateway, Nobody}
use Rattle.backend_json.specs.declared.message_type.ReceiverKind.{ReceiverKind}
use Rattle.backend_json.specs.declared.message_type.ReceiverKind.TheVariants.{JoinServer, NetworkServer, Any}
use Rattle.backend_json.specs.declared.request.Request.{Request}
use Rattle.backend_json.specs.declared.request.Request.TheVariants as request

pub record TypeRow : Type 0 where
  pub name : List ℕ
  pub answer : List ℕ
  pub receiver : ReceiverKind

abbrev pub a_type : List ℕ → List ℕ → ReceiverKind → TypeRow
a_type name answer receiver = record { name = name; answer = answer; receiver = receiver }

-- the table of the types: an answer is named with Ans for Req, and ErrorNotif where the type isn't served
unfoldable pub type_row : MessageType → TypeRow
type_row JoinReq = a_type (codes "JoinReq") (codes "JoinAns") JoinServer
type_row RejoinReq = a_type (codes "RejoinReq") (codes "RejoinAns") JoinServer
type_row AppSKeyReq = a_type (codes "AppSKeyReq") (codes "AppSKeyAns") JoinServer
type_row HomeNSReq = a_type (codes "HomeNSReq") (codes "HomeNSAns") JoinServer
type_row UplinkReq = a_type (codes "UplinkReq") (codes "UplinkAns") NetworkServer
type_row XmitDataReq = a_type (codes "XmitDataReq") (codes "XmitDataAns") NetworkServer
type_row Unknown = a_type [] (codes "ErrorNotif") Any

abbrev pub name_of : MessageType → List ℕ
name_of message_type = (type_row message_type).name

abbrev pub answer_name : MessageType → List ℕ
answer_name message_type = (type_row message_type).answer

abbrev pub receiver_of : MessageType → ReceiverKind
receiver_of message_type = (type_row message_type).receiver

-- the types that are served
abbrev pub served : List MessageType
served = JoinReq ∷ RejoinReq ∷ AppSKeyReq ∷ HomeNSReq ∷ UplinkReq ∷ XmitDataReq ∷ []

-- byte for byte
abbrev pub has_name : List ℕ → MessageType → Bool
has_name name message_type = bytes_eq (name_of message_type) name

-- the type of this name
abbrev pub type_named : List ℕ → MessageType
type_named name = unwrap_or (find (has_name name) served) Unknown

-- of which kind the senders of a request are; an XmitDataReq with PHYPayload is a network's, and isn't served
unfoldable pub sender_of : Request → SenderKind
sender_of (request.JoinReq members) = Network
sender_of (request.RejoinReq members) = Network
sender_of (request.AppSKeyReq members) = Application
sender_of (request.HomeNSReq members) = Network
sender_of (request.UplinkReq members) = Gateway
sender_of (request.XmitDataReq members) = Application
sender_of (request.XmitUplink members) = Nobody
sender_of request.Unknown = Nobody
