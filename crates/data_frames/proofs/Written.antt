-- Frames that are written, and what is read of them.
use Rattle.std.proofs.Common.{inl, inr, ◌≡◌, ℕ, ◌+◌, ◌-◌, ◌%◌, ◌<◌, ◌≤◌, ◌^◌, List, [], ◌∷◌, ◌++◌, length, slice_index_or, Option, Some, None, refl, sym, ◌∙◌, ap, arith, length-append}
use Rattle.std.proofs.lemmas.Bool.{cases_lt}
use Rattle.std.proofs.lemmas.List.{take_at, drop_at}
use Rattle.wire_ids.specs.declared.keys.SessionKeys.{SessionKeys}
use Rattle.data_frames.specs.declared.sending.UpParts.{UpParts}
use Rattle.data_frames.specs.declared.uplink.DataUp.{DataUp}
use Rattle.data_frames.specs.Counts.{IsFullCount}
use Rattle.data_frames.specs.DataForms.{DataForm, Uplink, fields_of, port_and_payload, up_message}
use Rattle.data_frames.specs.Downlinks.{Downlink, HasDownMic, down_conf, down_message, down_text, parts_of, sent}
use Rattle.data_frames.specs.Mics.{HasUpMic, down_mic, f_half, s_half, up_mic, without_mic}
use Rattle.data_frames.proofs.Halves.{length-down_mic, length-f_half, length-s_half}

-- the four bytes of two halves
pub four_of : (s f : List ℕ) → length s ≡ 2 → length f ≡ 2 → slice_index_or s 0 0 ∷ slice_index_or s 1 0 ∷ slice_index_or f 0 0 ∷ slice_index_or f 1 0 ∷ [] ≡ s ++ f
four_of (a ∷ b ∷ []) (x ∷ y ∷ []) hs hf = refl
four_of [] f hs hf = absurd cc
four_of (a ∷ []) f hs hf = absurd cc
four_of (a ∷ b ∷ c ∷ s) f hs hf = absurd (omega (arith, hs))
four_of (a ∷ b ∷ []) [] hs hf = absurd cc
four_of (a ∷ b ∷ []) (x ∷ []) hs hf = absurd cc
four_of (a ∷ b ∷ []) (x ∷ y ∷ z ∷ f) hs hf = absurd (omega (arith, hf))

-- ---- uplinks

pub sent_message : (keys : SessionKeys) (p : UpParts) → up_message (sent keys p) ≡ up_message (parts_of p [])
unfolding up_message sent
sent_message keys p = refl

pub sent_mic : (keys : SessionKeys) (p : UpParts) → (sent keys p).mic ≡ up_mic keys p.addr p.count p.conf p.rate p.channel (up_message (parts_of p []))
unfolding sent
sent_mic keys p = refl

sent_addr : (keys : SessionKeys) (p : UpParts) → (sent keys p).addr ≡ p.addr
unfolding sent
sent_addr keys p = refl

port-length : (port : Option ℕ) (payload : List ℕ) → length (port_and_payload port payload) ≤ 1 + length payload
port-length None payload = omega arith
port-length (Some port) payload = omega arith

message-length : (u : Uplink) → length (up_message u) ≤ 9 + length u.fopts + length u.payload
unfolding up_message
message-length u = omega (arith, length-append u.fopts (port_and_payload u.port u.payload), port-length u.port u.payload)

four-mic : (keys : SessionKeys) (p : UpParts) → length (sent keys p).mic ≡ 4
four-mic keys p =
    let m : List ℕ = up_message (parts_of p []) in
    rw (sent_mic keys p) (omega (arith, length-append (s_half keys.s p.addr p.count p.conf p.rate p.channel m) (f_half keys.f p.addr p.count m), length-s_half keys.s p.addr p.count p.conf p.rate p.channel m, length-f_half keys.f p.addr p.count m))

sent_fits : (keys : SessionKeys) (p : UpParts) → 13 + length p.fopts.now + length p.payload.now ≤ 255 → length (up_message (sent keys p) ++ (sent keys p).mic) ≤ 255
unfolding sent
sent_fits keys p h = omega (arith, h, length-append (up_message (sent keys p)) (sent keys p).mic, message-length (sent keys p), four-mic keys p)

pub sent_form : (keys : SessionKeys) (p : UpParts) → p.addr.0 < 2 ^ 32 → length p.fopts.now ≤ 15 → (p.port ≡ None → p.payload.now ≡ [])
    → 13 + length p.fopts.now + length p.payload.now ≤ 255 → DataForm (up_message (sent keys p) ++ (sent keys p).mic) (sent keys p)
unfolding sent
sent_form keys p addr fopts bare size = record {
  spelled = refl;
  most = sent_fits keys p size;
  mic = four-mic keys p;
  addr = addr;
  wire = omega arith;
  fopts = fopts;
  bare = bare;
}

-- a frame without the four bytes behind it
message_of : (m mic : List ℕ) → length mic ≡ 4 → without_mic (m ++ mic) ≡ m
message_of m mic h = take_at m mic (length (m ++ mic) - 4) (omega (arith, length-append m mic))

pub sent_is_valid : (keys : SessionKeys) (p : UpParts) (up : DataUp) → fields_of up ≡ sent keys p → DataForm up.whole.now (fields_of up)
    → HasUpMic keys up p.count p.conf p.rate p.channel
sent_is_valid keys p up same form =
    let message : without_mic up.whole.now ≡ up_message (parts_of p []) =
    ap without_mic form.spelled ∙ message_of (up_message (fields_of up)) up.mic form.mic ∙ ap up_message same ∙ sent_message keys p in
    let addr : up.addr ≡ p.addr = ap (λ (u : Uplink). u.addr) same ∙ sent_addr keys p in
    let mic : up.mic ≡ up_mic keys p.addr p.count p.conf p.rate p.channel (up_message (parts_of p [])) = ap (λ (u : Uplink). u.mic) same ∙ sent_mic keys p in
    rw (message, addr) mic

-- ---- downlinks

pub down_has_mic : (keys : SessionKeys) (d : Downlink) → HasDownMic keys d (down_text keys d)
down_has_mic keys d =
    let m : List ℕ = down_message d in
    let mic : List ℕ = down_mic keys.s d.addr d.count (down_conf d.ack) m in
    let n : ℕ = length (m ++ mic) - 4 in
    let len : length m ≡ n = omega (arith, length-append m mic, length-down_mic keys.s d.addr d.count (down_conf d.ack) m) in
    drop_at m mic n len ∙ ap (down_mic keys.s d.addr d.count (down_conf d.ack)) (sym (take_at m mic n len))

-- ---- counters

pub one_count : (last : Option ℕ) (wire n m : ℕ) → IsFullCount last wire n → IsFullCount last wire m → n ≡ m
one_count last wire n m one other = omega (arith, one.least m other.may, other.least n one.may)

-- no smaller number has the same low bits, above one that is at most 2^16 below
next_turn : (n m : ℕ) → m % 2 ^ 16 ≡ n % 2 ^ 16 → m < n → m + 2 ^ 16 ≤ n
next_turn n m e h = omega arith

pub first_count : (n : ℕ) → n < 2 ^ 16 → IsFullCount None n n
first_count n h = record { may = (omega arith, tt); least = λ m k. omega (arith, k.0) }

least_at : (last n m : ℕ) → n ≤ last + 2 ^ 16 → m % 2 ^ 16 ≡ n % 2 ^ 16 → last < m → n ≤ m
least_at last n m near e above =
    elim (cases_lt m n) [
      | inl less ↦ omega (arith, next_turn n m e less)
      | inr most ↦ most
    ]

pub next_count : (last n : ℕ) → last < n → n ≤ last + 2 ^ 16 → IsFullCount (Some last) (n % 2 ^ 16) n
next_count last n above near = record { may = (refl, above); least = λ m k. least_at last n m near k.0 k.1 }
