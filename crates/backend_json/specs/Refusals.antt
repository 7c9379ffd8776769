-- The refusals, and the ResultCodes of the Backend Interfaces (TS002, Messages and Payloads).
use Rattle.std.specs.Prelude.{ℕ, List, [], ◌++◌, Option, Some, None, codes}
use Rattle.backend_json.specs.declared.refusal.Refusal.{Refusal}
use Rattle.backend_json.specs.declared.refusal.Refusal.TheVariants as refusal
use Rattle.backend_json.specs.declared.refusal.ResultCode.{ResultCode}
use Rattle.backend_json.specs.declared.refusal.ResultCode.TheVariants.{Success, MalformedRequest, InvalidProtocolVersion, UnknownSender, UnknownReceiver, Deferred, FrameSizeError, UnknownDevEui, UnknownDevAddr, ActivationDisallowed, JoinReqFailed, MicFailed, InvalidFPort, XmitFailed, Other}

abbrev pub code_text : ResultCode → List ℕ
code_text Success = codes "Success"
code_text MalformedRequest = codes "MalformedRequest"
code_text InvalidProtocolVersion = codes "InvalidProtocolVersion"
code_text UnknownSender = codes "UnknownSender"
code_text UnknownReceiver = codes "UnknownReceiver"
code_text Deferred = codes "Deferred"
code_text FrameSizeError = codes "FrameSizeError"
code_text UnknownDevEui = codes "UnknownDevEUI"
code_text UnknownDevAddr = codes "UnknownDevAddr"
code_text ActivationDisallowed = codes "ActivationDisallowed"
code_text JoinReqFailed = codes "JoinReqFailed"
code_text MicFailed = codes "MICFailed"
code_text InvalidFPort = codes "InvalidFPort"
code_text XmitFailed = codes "XmitFailed"
code_text Other = codes "Other"

-- the words of the Description begin it; what a peer said may complete it
pub record Row : Type 0 where
  pub number : Option ℕ
  pub code : ResultCode
  pub words : List ℕ

abbrev pub row : ℕ → ResultCode → List ℕ → Row
row number code words = record { number = Some number; code = code; words = words }

-- what the peer that was asked comes to has no number in the order
abbrev pub peer_row : ResultCode → List ℕ → Row
peer_row code words = record { number = None; code = code; words = words }

-- the table of the refusals, in their order
unfoldable pub row_of : Refusal → Row
row_of refusal.Message = row 1 MalformedRequest (codes "message")
row_of refusal.Version = row 2 InvalidProtocolVersion (codes "version")
row_of refusal.Sender = row 3 UnknownSender (codes "sender")
row_of refusal.Receiver = row 4 UnknownReceiver (codes "receiver")
row_of refusal.Type = row 5 MalformedRequest (codes "type")
row_of refusal.Asked = row 7 Deferred (codes "asked")
row_of refusal.Size = row 8 FrameSizeError (codes "size")
row_of refusal.Frame = row 9 MalformedRequest (codes "frame")
row_of refusal.Device = row 10 UnknownDevEui (codes "device")
row_of refusal.Address = row 11 UnknownDevAddr (codes "address")
row_of refusal.Home = row 12 ActivationDisallowed (codes "home")
row_of refusal.Suspended = row 13 ActivationDisallowed (codes "suspended")
row_of refusal.Eui = row 18 JoinReqFailed (codes "eui")
row_of refusal.Mic = row 19 MicFailed (codes "mic")
row_of refusal.Counter = row 20 JoinReqFailed (codes "counter")
row_of refusal.Spent = row 21 JoinReqFailed (codes "spent")
row_of refusal.AddressesSpent = row 22 Other (codes "addresses spent")
row_of refusal.Port = row 23 InvalidFPort (codes "port")
row_of refusal.XmitSession = row 24 XmitFailed (codes "session")
row_of refusal.XmitCounter = row 25 XmitFailed (codes "counter")
row_of refusal.QueueFull = row 26 XmitFailed (codes "queue full")
row_of refusal.Session = row 27 Other (codes "session")
row_of refusal.PeerLate = peer_row Other (codes "peer late")
row_of refusal.PeerFailed = peer_row Other (codes "peer failed")
row_of refusal.PeerAnswer = peer_row Other (codes "peer answer")
row_of (refusal.PeerSaid code) = peer_row Other (codes "peer said ")

abbrev pub number_of : Refusal → Option ℕ
number_of refusal = (row_of refusal).number

abbrev pub code_of : Refusal → ResultCode
code_of refusal = (row_of refusal).code

abbrev pub words_of : Refusal → List ℕ
words_of refusal = (row_of refusal).words

-- the ResultCode that a peer said
abbrev pub said_of : Refusal → List ℕ
said_of (refusal.PeerSaid code) = code
said_of refusal = []

-- the Description
abbrev pub description_of : Refusal → List ℕ
description_of refusal = words_of refusal ++ said_of refusal
