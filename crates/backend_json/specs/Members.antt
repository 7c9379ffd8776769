-- The members of an object that is read: what stands there, or the first that is missing or ill-formed.
use Rattle.std.specs.Prelude.{◌≡◌, ◌++◌, ℕ, List, codes, Option, Some, None, option_and_then, option_map, Result, Ok, Err}
use Rattle.serde_json.specs.Data.{Data}
use Rattle.serde_json.specs.Find.{get}
use Rattle.backend_json.specs.declared.member.Gap.{Gap}
use Rattle.backend_json.specs.declared.member.Gap.TheVariants.{Member, Memory}
use Rattle.backend_json.specs.declared.member.Key.{Key}
use Rattle.backend_json.specs.declared.member.Key.TheVariants as member

-- where a member stands: under its name in the message itself, or in an object that stands under this name in the message
pub data Place : Type 0 where
  At : List ℕ → Place
  Inside : List ℕ → List ℕ → Place

unfoldable pub place_of : Key → Place
place_of member.ProtocolVersion = At (codes "ProtocolVersion")
place_of member.SenderId = At (codes "SenderID")
place_of member.ReceiverId = At (codes "ReceiverID")
place_of member.TransactionId = At (codes "TransactionID")
place_of member.MessageType = At (codes "MessageType")
place_of member.MacVersion = At (codes "MACVersion")
place_of member.PhyPayload = At (codes "PHYPayload")
place_of member.DevEui = At (codes "DevEUI")
place_of member.DevAddr = At (codes "DevAddr")
place_of member.DlSettings = At (codes "DLSettings")
place_of member.RxDelay = At (codes "RxDelay")
place_of member.CfList = At (codes "CFList")
place_of member.SessionKeyId = At (codes "SessionKeyID")
place_of member.DataRate = At (codes "DataRate")
place_of member.UplinkDataRate = Inside (codes "ULMetaData") (codes "DataRate")
place_of member.FrmPayload = At (codes "FRMPayload")
place_of member.DownlinkDevEui = Inside (codes "DLMetaData") (codes "DevEUI")
place_of member.FPort = Inside (codes "DLMetaData") (codes "FPort")
place_of member.FCntDown = Inside (codes "DLMetaData") (codes "FCntDown")
place_of member.Confirmed = Inside (codes "DLMetaData") (codes "Confirmed")

-- the path by which a fault names a member
abbrev pub path_in : Place → List ℕ
path_in (At name) = name
path_in (Inside object name) = object ++ (codes "." ++ name)

abbrev pub path_of : Key → List ℕ
path_of key = path_in (place_of key)

-- what stands there
abbrev pub found_at : Place → Data → Option Data
found_at (At name) d = get name d
found_at (Inside object name) d = option_and_then (get name) (get object d)

infixl 10 ◌>>=◌
abbrev pub ◌>>=◌ : {A B : Type 0} → Result A Key → (A → Result B Key) → Result B Key
(Ok x) >>= f = f x
(Err key) >>= f = Err key

-- a value in its form
abbrev pub in_form : {A : Type 0} → Key → Option A → Result A Key
in_form key None = Err key
in_form key (Some a) = Ok a

abbrev pub needed_at : {A : Type 0} → (Data → Option A) → Key → Option Data → Result A Key
needed_at form key None = Err key
needed_at form key (Some d) = in_form key (form d)

-- a member that must stand there
abbrev pub needed : {A : Type 0} → (Data → Option A) → Key → Data → Result A Key
needed form key d = needed_at form key (found_at (place_of key) d)

abbrev pub optional_at : {A : Type 0} → (Data → Option A) → Key → Option Data → Result (Option A) Key
optional_at form key None = Ok None
optional_at form key (Some d) = in_form key (option_map (λ a. Some a) (form d))

-- a member that may be missing: it is ill-formed where it stands there in another form, as null
abbrev pub optional : {A : Type 0} → (Data → Option A) → Key → Data → Result (Option A) Key
optional form key d = optional_at form key (found_at (place_of key) d)

-- what the code answered is this, unless memory ran out
abbrev pub GivesMember : {A : Type 0} → Result A Gap → Result A Key → Type 0
GivesMember (Ok a) read = read ≡ Ok a
GivesMember (Err Memory) read = Unit {0}
GivesMember (Err (Member key)) read = read ≡ Err key
