-- That elements are bytes.
use Rattle.std.proofs.Common.{◌≡◌, ℕ, zero, suc, ◌+◌, ◌-◌, ◌*◌, ◌/◌, ◌%◌, ◌<◌, List, [], ◌∷◌, ◌++◌, length, take, drop, get_or, refl, arith, inl, inr, length-take, Bool, true, false}
use Rattle.std.proofs.lemmas.Bool.{cases_lt}
use Rattle.std.proofs.lemmas.List.{get_or-take, get_or-drop, get_or_past, get_or_append_left, get_or-append_right}
use Rattle.aes_cmac.specs.Aes.{IsBlock, encrypted, decrypted, xor16, rounds, round_key, sub_bytes, shift_rows, at}
use Rattle.aes_cmac.specs.Field.{sub_byte}
use Rattle.aes_cmac.specs.Mac.{mac}
use Rattle.aes_cmac.proofs.SBoxFacts.{sub_byte_below}
use Rattle.aes_cmac.proofs.Undo.{bytes16-below, IsState-xor16, round_key-below}
use Rattle.key_vault.specs.Keys.{js_int_key, js_enc_key}
use Rattle.key_vault.specs.Table.{accept_key}
use Rattle.join_frames.specs.Mics.{mic}
use Rattle.join_frames.specs.Accepts.{fixed_fields, accept_mic, HasRanges}
use Rattle.join_frames.specs.declared.accept.Accept.{Accept}

abbrev pub AreBytes : List ℕ → Type 0
AreBytes s = (k : ℕ) → get_or s k 0 < 256

cons_bytes : (x : ℕ) (s : List ℕ) → x < 256 → AreBytes s → AreBytes (x ∷ s)
cons_bytes x s h hs zero = h
cons_bytes x s h hs (suc k) = hs k

-- the same as a record, which shows its list
record Written (s : List ℕ) : Type 0 where
  bytes : AreBytes s

none : Written []
none = record { bytes = λ k. omega arith }

one_more : {x : ℕ} {s : List ℕ} → x < 256 → Written s → Written (x ∷ s)
one_more {x = x} {s = s} h w = record { bytes = cons_bytes x s h w.bytes }

one_mod : (n : ℕ) {s : List ℕ} → Written s → Written (n % 256 ∷ s)
one_mod n {s = s} w = record { bytes = cons_bytes (n % 256) s (omega arith) w.bytes }

pub four_bytes : (a b c d : ℕ) → a < 256 → b < 256 → c < 256 → d < 256 → AreBytes (a ∷ b ∷ c ∷ d ∷ [])
four_bytes a b c d ha hb hc hd = (one_more ha (one_more hb (one_more hc (one_more hd none)))).bytes

pub append_bytes : (s t : List ℕ) → AreBytes s → AreBytes t → AreBytes (s ++ t)
append_bytes s t h g k = elim (cases_lt k (length s)) [
  | inl l ↦ let e : get_or (s ++ t) k 0 ≡ get_or s k 0 = get_or_append_left s t 0 k l in omega (arith, h k)
  | inr l ↦ let e : get_or (s ++ t) k 0 ≡ get_or t (k - length s) 0 = get_or-append_right s t (length s) k 0 refl l in omega (arith, g (k - length s))
]

pub take_bytes : (n : ℕ) (s : List ℕ) → AreBytes s → AreBytes (take n s)
take_bytes n s h k = elim (cases_lt k n) [
  | inl l ↦ let e : get_or (take n s) k 0 ≡ get_or s k 0 = get_or-take n s k 0 l in omega (arith, h k)
  | inr g ↦ let e : get_or (take n s) k 0 ≡ 0 = get_or_past (take n s) k 0 (omega (arith, length-take n s)) in omega arith
]

pub drop_bytes : (n : ℕ) (s : List ℕ) → AreBytes s → AreBytes (drop n s)
drop_bytes n s h k = let e : get_or (drop n s) k 0 ≡ get_or s (n + k) 0 = get_or-drop n s k 0 in omega (arith, h (n + k))

-- an encryption is a block
pub encrypted_block : (key b : List ℕ) → AreBytes key → IsBlock (encrypted key b)
unfolding encrypted shift_rows sub_bytes
encrypted_block key b h =
    let s = rounds key b 9 in
    let substituted : AreBytes (sub_bytes s) = bytes16-below (λ k. sub_byte (get_or s k 0)) (λ k. sub_byte_below (get_or s k 0)) in
    let shifted : AreBytes (shift_rows (sub_bytes s)) =
    bytes16-below (λ k. at (sub_bytes s) k (k / 4 + k % 4)) (λ k. substituted (k % 4 + 4 * ((k / 4 + k % 4) % 4))) in
    IsState-xor16 (shift_rows (sub_bytes s)) (round_key key 10) shifted (round_key-below key h 10)

pub length-encrypted : (key b : List ℕ) → length (encrypted key b) ≡ 16
unfolding encrypted xor16
length-encrypted key b = refl

pub length-decrypted : (key b : List ℕ) → length (decrypted key b) ≡ 16
unfolding decrypted xor16
length-decrypted key b = refl

pub accept_key_bytes : (nwk : List ℕ) (dev : ℕ) (rejoin : Bool) → AreBytes nwk → AreBytes (accept_key nwk dev rejoin)
unfolding accept_key js_enc_key
accept_key_bytes nwk dev true h = (encrypted_block nwk _ h).1
accept_key_bytes nwk dev false h = h

length-mic : (key text : List ℕ) → length (mic key text) ≡ 4
unfolding mic mac encrypted xor16
length-mic key text = refl

mic_bytes : (key text : List ℕ) → AreBytes key → AreBytes (mic key text)
unfolding mic mac
mic_bytes key text h = take_bytes 4 _ (encrypted_block key _ h).1

pub accept_mic_bytes : (nwk : List ℕ) (a : Accept) → AreBytes nwk → (length (accept_mic nwk a) ≡ 4) × AreBytes (accept_mic nwk a)
unfolding js_int_key
accept_mic_bytes nwk a h = (length-mic _ _, mic_bytes _ _ (encrypted_block nwk _ h).1)

written : (a : Accept) → HasRanges a → Written (fixed_fields a)
unfolding fixed_fields
written a h = one_mod _ (one_mod _ (one_mod _ (one_mod _ (one_mod _ (one_mod _ (one_mod _ (one_mod _ (one_mod _ (one_mod _ (one_more h.dl (one_more h.rx_delay none)))))))))))

length-fixed : (a : Accept) → length (fixed_fields a) ≡ 12
unfolding fixed_fields
length-fixed a = refl

pub fixed_bytes : (a : Accept) → HasRanges a → (length (fixed_fields a) ≡ 12) × AreBytes (fixed_fields a)
fixed_bytes a h = (length-fixed a, (written a h).bytes)
