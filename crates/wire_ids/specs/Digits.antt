-- Identifiers as hexadecimal text, the highest digit first (TS002-1.1.0).
use Rattle.std.specs.Prelude.{◌≡◌, ℕ, ◌<◌, ◌==◌, ◌&&◌, ◌||◌, false, if◌then◌else◌, List, length, take, drop, slice_index, Result}
use Rattle.std.specs.Int.{w32, w64, from_be_bytes, to_be_bytes}
use Rattle.std.specs.List.{AllPass}
use Rattle.std.specs.Result.{result_map_both}
use Rattle.hex.specs.Hex.{decode_sized, encode_lower, is_hex_digit}
use Rattle.hex.specs.declared.error.FromHexError.{FromHexError}
use Rattle.hex.specs.declared.error.FromHexError.TheVariants.{InvalidHexCharacter}
use Rattle.wire_ids.specs.Numbers.{net_number, three_bytes}
use Rattle.wire_ids.specs.declared.eui.Eui.{Eui}
use Rattle.wire_ids.specs.declared.address.DevAddr.{DevAddr}
use Rattle.wire_ids.specs.declared.faults.IdFault.{IdFault}
use Rattle.wire_ids.specs.declared.faults.IdFault.TheVariants.{BadLength, BadDigit}

-- a text without one leading `0x` or `0X`
abbrev pub without_prefix : List ℕ → List ℕ
without_prefix text = if slice_index text 0 == 48 && (slice_index text 1 == 120 || slice_index text 1 == 88) then drop 2 text else text

-- why so many bytes are no digits of an identifier
abbrev pub fault_of : ℕ → FromHexError → IdFault
fault_of got (InvalidHexCharacter c place) = BadDigit place
fault_of got _ = BadLength got

-- the n bytes that a text writes by two digits each
unfoldable pub id_bytes : ℕ → List ℕ → Result (List ℕ) IdFault
id_bytes n text = let digits = without_prefix text in result_map_both (λ bytes. bytes) (fault_of (length digits)) (decode_sized digits n)

abbrev pub read_as : {T : Type 0} → (List ℕ → T) → Result (List ℕ) IdFault → Result T IdFault
read_as value bytes = result_map_both value (λ e. e) bytes

abbrev pub read_eui : List ℕ → Result Eui IdFault
read_eui text = read_as (λ bytes. record { 0 = from_be_bytes w64 bytes }) (id_bytes 8 text)

abbrev pub read_net : List ℕ → Result ℕ IdFault
read_net text = read_as net_number (id_bytes 3 text)

abbrev pub read_addr : List ℕ → Result DevAddr IdFault
read_addr text = read_as (λ bytes. record { 0 = from_be_bytes w32 bytes }) (id_bytes 4 text)

abbrev pub eui_digits : Eui → List ℕ
eui_digits eui = encode_lower (to_be_bytes w64 eui.0)

abbrev pub addr_digits : DevAddr → List ℕ
addr_digits addr = encode_lower (to_be_bytes w32 addr.0)

-- the six digits of a number of 24 bits
abbrev pub three_digits : ℕ → List ℕ
three_digits n = encode_lower (three_bytes n)

abbrev pub net_digits : ℕ → List ℕ
net_digits = three_digits

-- the byte at the place is no digit, and all before it are
abbrev pub IsFirstBad : List ℕ → ℕ → Type 0
IsFirstBad digits place = (place < length digits) × (is_hex_digit (slice_index digits place) ≡ false) × AllPass is_hex_digit (take place digits)
