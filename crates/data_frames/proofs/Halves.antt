-- The two halves of an uplink's MIC.
use Rattle.std.proofs.Common.{inl, inr, ◌<◌, ◌/◌, ◌%◌, ◌^◌, ◌≡◌, ◌≤◌, ℕ, List, ◌++◌, length, take, drop, refl, sym, ◌∙◌, ap, arith, length-take-le}
use Rattle.std.proofs.lemmas.List.{take-append-drop, take_at, drop_at}
use Rattle.std.proofs.lemmas.Bool.{cases_lt}
use Rattle.std.proofs.Math.Nat.{div-eq_of_lt}
use Rattle.std.proofs.Math.Pow.{pow_mono}
use Rattle.aes_cmac.specs.Aes.{xor16, encrypted}
use Rattle.aes_cmac.specs.Mac.{mac}
use Rattle.wire_ids.specs.declared.address.DevAddr.{DevAddr}
use Rattle.wire_ids.specs.declared.keys.SessionKeys.{SessionKeys}
use Rattle.data_frames.specs.declared.uplink.DataUp.{DataUp}
use Rattle.data_frames.specs.Mics.{HasFHalf, HasSHalf, HasUpMic, IsEnabled, down_mic, s_half, f_half, without_mic}

length-mac : (key text : List ℕ) → length (mac key text) ≡ 16
unfolding mac encrypted xor16
length-mac key text = refl

length-first : (n : ℕ) (key text : List ℕ) → n ≤ 16 → length (take n (mac key text)) ≡ n
length-first n key text h = length-take-le n (mac key text) (omega (arith, length-mac key text))

pub length-s_half : (s : List ℕ) (addr : DevAddr) (count conf rate channel : ℕ) (message : List ℕ) → length (s_half s addr count conf rate channel message) ≡ 2
unfolding s_half
length-s_half s addr count conf rate channel message = length-first 2 s _ (omega arith)

pub length-f_half : (f : List ℕ) (addr : DevAddr) (count : ℕ) (message : List ℕ) → length (f_half f addr count message) ≡ 2
unfolding f_half
length-f_half f addr count message = length-first 2 f _ (omega arith)

pub length-down_mic : (s : List ℕ) (addr : DevAddr) (count conf : ℕ) (message : List ℕ) → length (down_mic s addr count conf message) ≡ 4
unfolding down_mic
length-down_mic s addr count conf message = length-first 4 s _ (omega arith)

-- a bit that is set among eight stands below the eighth
pub enabled_low : (channels k : ℕ) → channels < 256 → IsEnabled channels k → k < 8
enabled_low channels k small on =
    elim (cases_lt k 8) [
      | inl low ↦ low
      | inr high ↦
          let wide : 2 ^ 8 ≤ 2 ^ k = pow_mono high in
          let none : channels / 2 ^ k ≡ 0 = div-eq_of_lt (omega arith) in
          let bit : channels / 2 ^ k % 2 ≡ 0 = rw none refl in
          let clash : ◌≡◌ {A = ℕ} 0 1 = sym bit ∙ on in
          absurd cc
    ]

-- a MIC is valid where both halves are
pub mic_of_halves : (keys : SessionKeys) (u : DataUp) (count conf rate channel : ℕ) → HasSHalf keys.s u count conf rate channel → HasFHalf keys.f u count → HasUpMic keys u count conf rate channel
mic_of_halves keys u count conf rate channel s f = sym (take-append-drop 2 u.mic) ∙ ap (λ (t : List ℕ). t ++ drop 2 u.mic) s ∙ ap (λ (t : List ℕ). s_half keys.s u.addr count conf rate channel (without_mic u.whole.now) ++ t) f

pub s_half_of : (keys : SessionKeys) (u : DataUp) (count conf rate channel : ℕ) → HasUpMic keys u count conf rate channel → HasSHalf keys.s u count conf rate channel
s_half_of keys u count conf rate channel h = ap (take 2) h ∙ take_at _ _ 2 (length-s_half keys.s u.addr count conf rate channel _)

pub f_half_of : (keys : SessionKeys) (u : DataUp) (count conf rate channel : ℕ) → HasUpMic keys u count conf rate channel → HasFHalf keys.f u count
f_half_of keys u count conf rate channel h = ap (drop 2) h ∙ drop_at _ _ 2 (length-s_half keys.s u.addr count conf rate channel _)
