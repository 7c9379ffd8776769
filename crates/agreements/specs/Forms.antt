-- The forms of values.
use Rattle.std.specs.Prelude.{ℕ, ℤ, pos, negsuc, ◌/◌, ◌%◌, ◌==◌, ◌&&◌, nat_le, Bool, List, [], ◌∷◌, length, slice_index, if◌then◌else◌, codes, Option, Some, None, option_and_then, option_map}
use Rattle.std.specs.List.{list_all}
use Rattle.std.specs.Result.{result_ok}
use Rattle.std.specs.Str.{bytes_eq}
use Rattle.hex.specs.Hex.{decode_sized}
use Rattle.toml.specs.Data.{Data, as_str, as_integer, as_array, Items, no_items, item}
use Rattle.wire_ids.specs.Digits.{read_eui, read_net, without_prefix}
use Rattle.wire_ids.specs.declared.eui.Eui.{Eui}
use Rattle.agreements.specs.declared.rows.Passive.{Passive}
use Rattle.agreements.specs.declared.rows.Passive.TheVariants as passive

-- n bytes, written as 2 n hexadecimal digits
unfoldable pub bytes_of : ℕ → Data → Option (List ℕ)
bytes_of n d = option_and_then (λ text. result_ok (decode_sized (without_prefix text) n)) (as_str d)

unfoldable pub eui_of : Data → Option Eui
eui_of d = option_and_then (λ text. result_ok (read_eui text)) (as_str d)

unfoldable pub net_of : Data → Option ℕ
net_of d = option_and_then (λ text. result_ok (read_net text)) (as_str d)

abbrev pub if_holds : {A : Type 0} → Bool → A → Option A
if_holds b a = if b then Some a else None

-- OptNeg is set, and RX1DROffset is at most 5
unfoldable pub dl_settings_of : Data → Option ℕ
dl_settings_of d = option_and_then (λ bytes. let b = slice_index bytes 0 in if_holds (nat_le 128 b && nat_le ((b / 16) % 8) 5) b) (bytes_of 1 d)

-- sixteen bytes, the last 0; an empty text is none
abbrev pub cf_list_text : Data → List ℕ → Option (Option (List ℕ))
cf_list_text d text = if length (without_prefix text) == 0 then Some None else option_and_then (λ bytes. if_holds (slice_index bytes 15 == 0) (Some bytes)) (bytes_of 16 d)

unfoldable pub cf_list_of : Data → Option (Option (List ℕ))
cf_list_of d = option_and_then (cf_list_text d) (as_str d)

-- a whole number, from the first bound to the second
abbrev pub within : ℕ → ℕ → ℤ → Option ℕ
within low high (pos n) = if_holds (nat_le low n && nat_le n high) n
within low high (negsuc n) = None

unfoldable pub number_of : ℕ → ℕ → Data → Option ℕ
number_of low high d = option_and_then (within low high) (as_integer d)

-- printable ASCII without spaces
abbrev pub is_printable : List ℕ → Bool
is_printable text = list_all (λ b. nat_le 33 b && nat_le b 126) text

-- a text of printable ASCII without spaces, whose length is from the first bound to the second
unfoldable pub printable_of : ℕ → ℕ → Data → Option (List ℕ)
printable_of low high d = option_and_then (λ text. if_holds ((nat_le low (length text) && nat_le (length text) high) && is_printable text) text) (as_str d)

abbrev pub passive_text : List ℕ → Option Passive
passive_text text = if bytes_eq text (codes "none") then Some passive.Nothing else (if bytes_eq text (codes "stateless") then Some passive.Stateless else (if bytes_eq text (codes "stateful") then Some passive.Stateful else None))

unfoldable pub passive_of : Data → Option Passive
passive_of d = option_and_then passive_text (as_str d)

-- the data of some items
abbrev pub listed : Items → List Data
listed no_items = []
listed (item d ds) = d ∷ listed ds

-- the data in an array
abbrev pub array_of : Data → Option (List Data)
array_of d = option_map listed (as_array d)
