-- What decides of a data uplink's bytes is what its data form tells.
use Rattle.std.proofs.Common.{◌≡◌, ℕ, ◌+◌, ◌-◌, ◌*◌, ◌/◌, ◌%◌, ◌<◌, ◌≤◌, ◌^◌, Bool, true, false, eqb, List, ◌++◌, length, Option, Some, None, is_none, refl, ap, ◌∙◌, arith, length-append}
use Rattle.std.proofs.lemmas.List.{drop_at}
use Rattle.std.proofs.lemmas.Nat.{from_le_bytes-to_le_bytes_2, from_le_bytes-to_le_bytes_4}
use Rattle.wire_ids.specs.declared.address.DevAddr.{DevAddr}
use Rattle.wire_ids.specs.declared.faults.FrameFault.{FrameFault}
use Rattle.data_frames.specs.DataForms.{Uplink, bit, data_fault, up_message, up_mhdr}
use Rattle.data_frames.proofs.Spelling.{form_has_no_fault}
use Rattle.exchanges.specs.Frames.{DataFramesRead, acks, addr_of, asks_for_downlink, is_confirmed, is_data, mic_of, wire_of}

abbrev dev_addr : ℕ → DevAddr
dev_addr n = record { 0 = n }

addr_in : (u : Uplink) (mic : List ℕ) → u.addr.0 < 2 ^ 32 → addr_of (up_message u ++ mic) ≡ u.addr
unfolding addr_of up_message
addr_in u mic h = ap dev_addr (from_le_bytes-to_le_bytes_4 u.addr.0 h)

wire_in : (u : Uplink) (mic : List ℕ) → u.wire < 2 ^ 16 → wire_of (up_message u ++ mic) ≡ u.wire
unfolding wire_of up_message
wire_in u mic h = from_le_bytes-to_le_bytes_2 u.wire h

bit_low : (b : Bool) → bit b 1 ≤ 1
bit_low true = omega arith
bit_low false = omega arith

bit_weight : (b : Bool) (w : ℕ) → bit b w ≡ bit b 1 * w
bit_weight true w = omega arith
bit_weight false w = omega arith

bit_is : (b : Bool) → eqb (bit b 1) 1 ≡ b
bit_is true = refl
bit_is false = refl

ack_shown : (a r k b : Bool) (n : ℕ) → n ≤ 15 → eqb ((bit a 128 + bit r 64 + bit k 32 + bit b 16 + n) / 32 % 2) 1 ≡ k
ack_shown a r k b n h =
    let al = bit_low a in
    let rl = bit_low r in
    let kl = bit_low k in
    let bl = bit_low b in
    let is : (bit a 1 * 128 + bit r 1 * 64 + bit k 1 * 32 + bit b 1 * 16 + n) / 32 % 2 ≡ bit k 1 = omega arith in
    rw (bit_weight a 128, bit_weight r 64, bit_weight k 32, bit_weight b 16) (ap (λ (x : ℕ). eqb x 1) is ∙ bit_is k)

ack_in : (u : Uplink) (mic : List ℕ) → length u.fopts ≤ 15 → acks (up_message u ++ mic) ≡ u.ack
unfolding acks up_message
ack_in u mic h = ack_shown u.adr u.adr_ack_req u.ack u.class_b (length u.fopts) h

confirmed_shown : (b : Bool) → eqb (up_mhdr b) (up_mhdr true) ≡ b
confirmed_shown true = refl
confirmed_shown false = refl

confirmed_in : (u : Uplink) (mic : List ℕ) → is_confirmed (up_message u ++ mic) ≡ u.confirmed
unfolding is_confirmed up_message
confirmed_in u mic = confirmed_shown u.confirmed

asks_shown : (a r k b : Bool) (n : ℕ) → n ≤ 15 → eqb ((bit a 128 + bit r 64 + bit k 32 + bit b 16 + n) / 64 % 2) 1 ≡ r
asks_shown a r k b n h =
    let al = bit_low a in
    let rl = bit_low r in
    let kl = bit_low k in
    let bl = bit_low b in
    let is : (bit a 1 * 128 + bit r 1 * 64 + bit k 1 * 32 + bit b 1 * 16 + n) / 64 % 2 ≡ bit r 1 = omega arith in
    rw (bit_weight a 128, bit_weight r 64, bit_weight k 32, bit_weight b 16) (ap (λ (x : ℕ). eqb x 1) is ∙ bit_is r)

asks_in : (u : Uplink) (mic : List ℕ) → length u.fopts ≤ 15 → asks_for_downlink (up_message u ++ mic) ≡ u.adr_ack_req
unfolding asks_for_downlink up_message
asks_in u mic h = asks_shown u.adr u.adr_ack_req u.ack u.class_b (length u.fopts) h

mic_in : (message mic : List ℕ) → length mic ≡ 4 → mic_of (message ++ mic) ≡ mic
unfolding mic_of
mic_in message mic h = drop_at message mic (length (message ++ mic) - 4) (omega (arith, h, length-append message mic))

data_in : (frame : List ℕ) → data_fault frame ≡ None → is_data frame ≡ true
unfolding is_data
data_in frame none = ap (λ (o : Option FrameFault). is_none o) none

pub data_read : DataFramesRead
data_read frame u f = record {
  form = data_in frame (form_has_no_fault frame u f);
  addr = ap addr_of f.spelled ∙ addr_in u u.mic f.addr;
  confirmed = ap is_confirmed f.spelled ∙ confirmed_in u u.mic;
  adr_ack_req = ap asks_for_downlink f.spelled ∙ asks_in u u.mic f.fopts;
  ack = ap acks f.spelled ∙ ack_in u u.mic f.fopts;
  wire = ap wire_of f.spelled ∙ wire_in u u.mic f.wire;
  mic = ap mic_of f.spelled ∙ mic_in (up_message u) u.mic f.mic;
}

pub no_data : (frame : List ℕ) (fault : FrameFault) → data_fault frame ≡ Some fault → is_data frame ≡ false
unfolding is_data
no_data frame fault e = ap (λ (o : Option FrameFault). is_none o) e
