-- Digits that are read again, and texts that aren't.
use Rattle.std.proofs.Common.{◌≡◌, ◌≢◌, ℕ, zero, suc, ◌+◌, ◌*◌, ◌/◌, ◌%◌, ◌^◌, ◌<◌, ◌⊎◌, inl, inr, true, List, ◌∷◌, length, take, slice_index, None, Result, Ok, Err, lit<, refl, sym, ap, subst, ◌∙◌, arith, get_or-take, length-take-le}
use Rattle.std.specs.List.{AllPass}
use Rattle.std.specs.Result.{result_map_both}
use Rattle.std.proofs.lemmas.List.Elements.{All-get_or}
use Rattle.std.proofs.lemmas.Bool.{cases_eq, cases_lt}
use Rattle.std.proofs.lemmas.Nat.{from_be_bytes-to_be_bytes_4, from_be_bytes-to_be_bytes_8}
use Rattle.std.specs.Int.{byte_at, bytes_high_first}
use Rattle.std.proofs.lemmas.Bool.Decides.{nat_tests}
use Rattle.hex.specs.Hex.{IsBytes, decode_of, decode_sized, encode_lower, encode_with, hex_digit_value, is_hex_digit, lower_digits}
use Rattle.hex.specs.declared.error.FromHexError.{FromHexError}
use Rattle.hex.specs.declared.error.FromHexError.TheVariants.{InvalidStringLength, OddLength}
use Rattle.hex.proofs.HexLemmas.{IsDigits-lower_digits, decode_of-err, decode_of-ok, decode_sized-encode_lower, decode_sized-odd, decode_sized-other, decode_sized-twice}
use Rattle.wire_ids.specs.Digits.{IsFirstBad, addr_digits, eui_digits, fault_of, id_bytes, net_digits, read_addr, read_eui, read_net, without_prefix}
use Rattle.wire_ids.specs.Numbers.{net_bytes, net_number, wire_bytes, wire_number}
use Rattle.wire_ids.specs.declared.address.DevAddr.{DevAddr}
use Rattle.wire_ids.specs.declared.eui.Eui.{Eui}
use Rattle.wire_ids.specs.declared.faults.IdFault.{IdFault}
use Rattle.wire_ids.specs.declared.faults.IdFault.TheVariants.{BadDigit, BadLength}

pub three_back : (n : ℕ) → n < 2 ^ 24 → wire_number (wire_bytes n) ≡ n
three_back n h = omega arith

pub net_back : (n : ℕ) → n < 2 ^ 24 → net_number (net_bytes n) ≡ n
net_back n h = omega arith

-- a digit is no `x`
abbrev digit : ℕ → ℕ
digit d = slice_index lower_digits d

no_x : (d c : ℕ) → d < 16 → hex_digit_value c ≡ None → digit d ≢ c
no_x d c h none e = let read = IsDigits-lower_digits d h in let same = ap hex_digit_value e in cc

no_prefix : (a b : ℕ) (rest : List ℕ) → b ≢ 120 → b ≢ 88 → without_prefix (a ∷ b ∷ rest) ≡ a ∷ b ∷ rest
no_prefix a b rest lower upper = grind (arith, nat_tests)

digits_back : (b n : ℕ) (rest : List ℕ) → length (b ∷ rest) ≡ n → IsBytes (b ∷ rest)
    → id_bytes n (encode_lower (b ∷ rest)) ≡ Ok (b ∷ rest)
unfolding id_bytes encode_with
digits_back b n rest len bytes =
    let low : b % 16 < 16 = omega arith in
    let same = no_prefix (digit (b / 16)) (digit (b % 16)) (encode_lower rest) (no_x (b % 16) 120 low refl) (no_x (b % 16) 88 low refl) in
    rw (same, decode_sized-encode_lower (b ∷ rest) n len bytes) refl

byte_at-small : (k n : ℕ) → byte_at k n < 256
byte_at-small zero n = omega arith
byte_at-small (suc k) n = omega arith

high_first-bytes : (k n : ℕ) → IsBytes (bytes_high_first k n)
high_first-bytes zero n i = lit< tt
high_first-bytes (suc k) n zero = byte_at-small k n
high_first-bytes (suc k) n (suc i) = high_first-bytes k n i

net_bytes-bytes : (n : ℕ) → IsBytes (net_bytes n)
net_bytes-bytes n zero = omega arith
net_bytes-bytes n (suc zero) = omega arith
net_bytes-bytes n (suc (suc zero)) = omega arith
net_bytes-bytes n (suc (suc (suc i))) = lit< tt

pub eui_back : (eui : Eui) → eui.0 < 2 ^ 64 → read_eui (eui_digits eui) ≡ Ok eui
eui_back eui h =
    rw (digits_back _ 8 _ refl (high_first-bytes 8 eui.0), from_be_bytes-to_be_bytes_8 eui.0 h) refl

pub addr_back : (addr : DevAddr) → addr.0 < 2 ^ 32 → read_addr (addr_digits addr) ≡ Ok addr
addr_back addr h =
    rw (digits_back _ 4 _ refl (high_first-bytes 4 addr.0), from_be_bytes-to_be_bytes_4 addr.0 h) refl

pub net_digits_back : (net : ℕ) → net < 2 ^ 24 → read_net (net_digits net) ≡ Ok net
net_digits_back net h = rw (digits_back _ 3 _ refl (net_bytes-bytes net), net_back net h) refl

-- why a text of digits isn't read: its length, or its digits
sized_err : (s : List ℕ) (n : ℕ) (d : FromHexError) → decode_sized s n ≡ Err d
    → ((length s ≡ 2 * n) × (decode_of s ≡ Err d)) ⊎ ((length s ≢ 2 * n) × ((d ≡ OddLength) ⊎ (d ≡ InvalidStringLength)))
sized_err s n d h =
    elim (cases_eq (length s % 2) 1) [
      | inl odd ↦
          let apart : length s ≢ 2 * n = λ e. omega arith in
          let e = decode_sized-odd s n odd in
          inr (apart, inl (cc))
      | inr even ↦
          let z : length s % 2 ≡ 0 = omega arith in
          elim (cases_eq (length s / 2) n) [
            | inl half ↦
                let twice : length s ≡ 2 * n = omega arith in
                inl (twice, sym (decode_sized-twice s n twice) ∙ h)
            | inr other ↦
                let apart : length s ≢ 2 * n = λ e. other (omega arith) in
                let e = decode_sized-other s n z other in
                inr (apart, inr (cc))
          ]
    ]

-- what an `Err` after `result_map_both` shows
mapped_err : (r : Result (List ℕ) FromHexError) (got : ℕ) (e : IdFault)
    → result_map_both (λ (bytes : List ℕ). bytes) (fault_of got) r ≡ Err e
    → (d : FromHexError) × (r ≡ Err d) × (fault_of got d ≡ e)
mapped_err (Ok bytes) got e h = cc h
mapped_err (Err d) got e h = (d, refl, cc h)

-- the place that an error of digits reports
digit_place : (s : List ℕ) (d : FromHexError) (got place : ℕ) → decode_of s ≡ Err d → fault_of got d ≡ BadDigit place → IsFirstBad s place
digit_place s d got place h fault =
    elim (decode_of-err s d h) [
      | inl odd ↦ let f = ap (fault_of got) odd.1 in cc
      | inr bad ↦
          let f = ap (fault_of got) bad.1 in
          let same : bad.0 ≡ place = let e : 0 + bad.0 ≡ place = cc in omega arith in
          let P : ℕ → Type 0 = IsFirstBad s in
          subst P same (bad.2, bad.3, bad.4)
    ]

pub first_bad : (n place : ℕ) (text : List ℕ) → id_bytes n text ≡ Err (BadDigit place)
    → (length (without_prefix text) ≡ 2 * n) × IsFirstBad (without_prefix text) place
unfolding id_bytes
first_bad n place text h =
    let s : List ℕ = without_prefix text in
    let m = mapped_err (decode_sized s n) (length s) (BadDigit place) h in
    elim (sized_err s n m.0 m.1) [
      | inl read ↦ (read.0, digit_place s m.0 (length s) place read.1 m.2)
      | inr other ↦
          elim other.1 [
            | inl e ↦ let f = ap (fault_of (length s)) e in let g = m.2 in cc
            | inr e ↦ let f = ap (fault_of (length s)) e in let g = m.2 in cc
          ]
    ]

good_before : (s : List ℕ) (j k : ℕ) → j < k → k < length s → AllPass is_hex_digit (take k s) → is_hex_digit (slice_index s j) ≡ true
good_before s j k less within all =
    let len = length-take-le k s (omega arith) in
    let inside : j < length (take k s) = omega (arith, len) in
    ap is_hex_digit (sym (get_or-take k s j 0 less)) ∙ All-get_or (λ c. is_hex_digit c ≡ true) (take k s) j 0 inside all

-- a text has one first bad place
same_place : (s : List ℕ) (j k : ℕ) → IsFirstBad s j → IsFirstBad s k → j ≡ k
same_place s j k one other =
    elim (cases_lt j k) [
      | inl less ↦ let good = good_before s j k less other.0 other.2 in let bad = one.1 in cc
      | inr most ↦
          elim (cases_lt k j) [
            | inl less ↦ let good = good_before s k j less one.0 one.2 in let bad = other.1 in cc
            | inr least ↦ omega arith
          ]
    ]

-- what an even number of bytes with a bad one is read as
refused_digit : (s : List ℕ) (n place : ℕ) (r : Result (List ℕ) FromHexError) → decode_of s ≡ r → length s ≡ 2 * n → IsFirstBad s place
    → result_map_both (λ (bytes : List ℕ). bytes) (fault_of (length s)) r ≡ Err (BadDigit place)
refused_digit s n place (Ok bytes) h len bad =
    let good = All-get_or (λ c. is_hex_digit c ≡ true) s place 0 bad.0 (decode_of-ok s bytes h).1 in
    let no = bad.1 in
    cc
refused_digit s n place (Err d) h len bad =
    elim (decode_of-err s d h) [
      | inl odd ↦ let o = odd.0 in absurd (omega arith)
      | inr found ↦
          let same = same_place s found.0 place (found.2, found.3, found.4) bad in
          let back : 0 + found.0 ≡ place = omega (arith, same) in
          ap (λ (e : IdFault). Err e) (ap (fault_of (length s)) found.1 ∙ ap (λ (k : ℕ). BadDigit k) back)
    ]

pub bad_first : (n place : ℕ) (text : List ℕ) → (length (without_prefix text) ≡ 2 * n) × IsFirstBad (without_prefix text) place
    → id_bytes n text ≡ Err (BadDigit place)
unfolding id_bytes
bad_first n place text h =
    let s : List ℕ = without_prefix text in
    rw (decode_sized-twice s n h.0) (refused_digit s n place (decode_of s) refl h.0 h.1)

length_fault : (s : List ℕ) (d : FromHexError) (n got : ℕ) → length s ≡ 2 * n → decode_of s ≡ Err d → fault_of (length s) d ≡ BadLength got → ⊥
length_fault s d n got len h fault =
    elim (decode_of-err s d h) [
      | inl odd ↦ let o = odd.0 in omega arith
      | inr bad ↦ let f = ap (fault_of (length s)) bad.1 in cc
    ]

pub bad_length : (n got : ℕ) (text : List ℕ) → id_bytes n text ≡ Err (BadLength got) → (length (without_prefix text) ≡ got) × (got ≢ 2 * n)
unfolding id_bytes
bad_length n got text h =
    let s : List ℕ = without_prefix text in
    let m = mapped_err (decode_sized s n) (length s) (BadLength got) h in
    elim (sized_err s n m.0 m.1) [
      | inl read ↦ absurd (length_fault s m.0 n got read.0 read.1 m.2)
      | inr other ↦
          let same : length s ≡ got =
          elim other.1 [
            | inl e ↦ let f = ap (fault_of (length s)) e in let g = m.2 in cc
            | inr e ↦ let f = ap (fault_of (length s)) e in let g = m.2 in cc
          ] in
          (same, λ e. other.0 (same ∙ e))
    ]

refused_length : (s : List ℕ) (n : ℕ) → length s ≢ 2 * n
    → result_map_both (λ (bytes : List ℕ). bytes) (fault_of (length s)) (decode_sized s n) ≡ Err (BadLength (length s))
refused_length s n apart =
    elim (cases_eq (length s % 2) 1) [
      | inl odd ↦ rw (decode_sized-odd s n odd) refl
      | inr even ↦
          let z : length s % 2 ≡ 0 = omega arith in
          let other : (length s / 2 ≡ n) → ⊥ = λ e. apart (omega arith) in
          rw (decode_sized-other s n z other) refl
    ]

pub length_bad : (n got : ℕ) (text : List ℕ) → (length (without_prefix text) ≡ got) × (got ≢ 2 * n) → id_bytes n text ≡ Err (BadLength got)
unfolding id_bytes
length_bad n got text h =
    refused_length (without_prefix text) n (λ e. h.1 (sym h.0 ∙ e)) ∙ ap (λ (g : ℕ). Err (BadLength g)) h.0
