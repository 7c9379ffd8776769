-- The forms in which the members of messages are written (TS002, Messages and Payloads): what a value is, where it has the form.
use Rattle.std.specs.Prelude.{ℕ, List, take, drop, length, nat_lt, ◌==◌, slice_index, if◌then◌else◌, Option, Some, None, option_and_then, option_map, Result, Ok, Err}
use Rattle.std.specs.Borrow.{Bor}
use Rattle.std.specs.Int.{w64, from_be_bytes}
use Rattle.std.specs.Result.{result_ok}
use Rattle.hex.specs.Hex.{decode_sized, decode_of}
use Rattle.serde_json.specs.Data.{Data}
use Rattle.serde_json.specs.Find.{as_str, as_number, as_u64}
use Rattle.wire_ids.specs.Digits.{without_prefix, read_addr, read_eui, read_net}
use Rattle.wire_ids.specs.Numbers.{three_number}
use Rattle.wire_ids.specs.declared.address.DevAddr.{DevAddr}
use Rattle.wire_ids.specs.declared.eui.Eui.{Eui}
use Rattle.wire_ids.specs.declared.faults.IdFault.{IdFault}
use Rattle.wire_ids.specs.declared.party.Sender.{Sender}
use Rattle.wire_ids.specs.declared.party.Sender.TheVariants as sender
use Rattle.wire_ids.specs.declared.party.PeerId.{PeerId}
use Rattle.wire_ids.specs.declared.party.PeerId.TheVariants as peer
use Rattle.backend_json.specs.declared.message_type.MessageType.{MessageType}
use Rattle.backend_json.specs.declared.session.SessionKeyId.{SessionKeyId}
use Rattle.backend_json.specs.Types.{type_named}

-- ---- numbers

abbrev pub below : ℕ → ℕ → Option ℕ
below limit n = if nat_lt n limit then Some n else None

-- a whole number below the limit, written without fraction or exponent
unfoldable pub whole_form : ℕ → Data → Option ℕ
whole_form limit d = option_and_then (below limit) (option_and_then as_u64 (as_number d))

-- ---- hexadecimal digits of both cases, behind an optional 0x or 0X

unfoldable pub digits_in : Data → Option (List ℕ)
digits_in d = option_map without_prefix (as_str d)

-- any number of bytes, by an even number of digits
unfoldable pub bytes_form : Data → Option (List ℕ)
bytes_form d = option_and_then (λ digits. result_ok (decode_of digits)) (digits_in d)

abbrev pub bytes_of : ℕ → List ℕ → Option (List ℕ)
bytes_of count digits = result_ok (decode_sized digits count)

-- one byte, by 2 digits
unfoldable pub byte_form : Data → Option ℕ
byte_form d = option_map (λ bytes. slice_index bytes 0) (option_and_then (bytes_of 1) (digits_in d))

-- a CFList has 16 bytes, by 32 digits, or none
unfoldable pub cf_list_of : List ℕ → Option (Option (List ℕ))
cf_list_of digits = if length digits == 0 then Some None else option_map (λ bytes. Some bytes) (bytes_of 16 digits)

unfoldable pub cf_list_form : Data → Option (Option (List ℕ))
cf_list_form d = option_and_then cf_list_of (digits_in d)

abbrev pub session_by : Option (List ℕ) → Option (List ℕ) → Option SessionKeyId
session_by None _ = None
session_by (Some dev_eui) None = None
session_by (Some dev_eui) (Some join_nonce) = Some (record { dev_eui = record { 0 = from_be_bytes w64 dev_eui }; join_nonce = three_number join_nonce })

-- a SessionKeyID has 22 digits: the 16 of the DevEUI, and then the 6 of the JoinNonce
unfoldable pub session_of : List ℕ → Option SessionKeyId
session_of digits = if length digits == 22 then session_by (bytes_of 8 (take 16 digits)) (bytes_of 3 (drop 16 digits)) else None

unfoldable pub session_form : Data → Option SessionKeyId
session_form d = option_and_then session_of (digits_in d)

-- ---- identifiers

unfoldable pub eui_form : Data → Option Eui
eui_form d = option_and_then (λ text. result_ok (read_eui text)) (as_str d)

unfoldable pub dev_addr_form : Data → Option DevAddr
dev_addr_form d = option_and_then (λ text. result_ok (read_addr text)) (as_str d)

abbrev pub sender_by : Result ℕ IdFault → Result Eui IdFault → Option Sender
sender_by (Ok net) eui = Some (sender.Network net)
sender_by (Err _) (Ok eui) = Some (sender.Party eui)
sender_by (Err _) (Err _) = None

-- a sender is a network by its NetID, or an application or a gateway by its EUI
unfoldable pub sender_form : Data → Option Sender
sender_form d = option_and_then (λ text. sender_by (read_net text) (read_eui text)) (as_str d)

abbrev pub peer_by : Result ℕ IdFault → Result Eui IdFault → Option PeerId
peer_by (Ok net) eui = Some (peer.Network net)
peer_by (Err _) (Ok eui) = Some (peer.JoinServer eui)
peer_by (Err _) (Err _) = None

-- a receiver is a network by its NetID, or a join server by its JoinEUI
unfoldable pub peer_form : Data → Option PeerId
peer_form d = option_and_then (λ text. peer_by (read_net text) (read_eui text)) (as_str d)

-- what a text that may be missing is
abbrev pub texts_now : Option (Bor (List ℕ)) → Option (List ℕ)
texts_now text = option_map (λ (t : Bor (List ℕ)). t.now) text

-- ---- types

-- any text names a type
unfoldable pub type_form : Data → Option MessageType
type_form d = option_map type_named (as_str d)
