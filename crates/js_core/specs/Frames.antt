-- The sizes of frames, the fields of join- and rejoin-requests, and the members that go with them (LoRaWAN 1.1).
use Rattle.std.specs.Prelude.{◌≡◌, ℕ, ◌<◌, ◌/◌, ◌%◌, ◌==◌, ◌&&◌, ◌||◌, nat_le, nat_lt, not, List, All, length, take, drop, slice_index, Option, Some, None, Bool, true, false, codes, if◌then◌else◌}
use Rattle.std.specs.Char.{is_ascii_digit}
use Rattle.std.specs.List.{list_all}
use Rattle.std.specs.Str.{bytes_eq}
use Rattle.std.specs.Int.{w16, w64, from_le_bytes}
use Rattle.wire_ids.specs.Numbers.{wire_number}
use Rattle.wire_ids.specs.declared.eui.Eui.{Eui}
use Rattle.join_frames.specs.JoinForms.{JoinForm}
use Rattle.join_frames.specs.declared.join_up.JoinUp.{JoinUp}
use Rattle.join_frames.specs.declared.join_up.JoinUp.TheVariants.{Join, Rejoin02, Rejoin1}
use Rattle.data_frames.specs.DataForms.{is_data_sized}
use Rattle.backend_json.specs.declared.request.JoinRequest.{JoinRequest}
use Rattle.js_core.specs.declared.activation.Activation.{Activation}
use Rattle.js_core.specs.declared.activation.Activation.TheVariants as by

-- ---- sizes

-- whether a frame that begins with this byte has a size of its message type (4.2.1): a join-request has 23 bytes, a
-- rejoin-request 19 or 24; other types than these and data have any
abbrev pub is_sized_as : ℕ → List ℕ → Bool
is_sized_as kind frame = if kind == 0 then length frame == 23 else (if kind == 6 then (length frame == 19 || length frame == 24) else (if kind == 2 || kind == 4 then is_data_sized frame else true))

unfoldable pub wrong_size : List ℕ → Bool
wrong_size frame = if length frame == 0 then true else not (is_sized_as (slice_index frame 0 / 32) frame)

-- ---- fields

abbrev pub eui_at : ℕ → List ℕ → Eui
eui_at place frame = record { 0 = from_le_bytes w64 (take 8 (drop place frame)) }

abbrev pub count_at : ℕ → List ℕ → ℕ
count_at place frame = from_le_bytes w16 (take 2 (drop place frame))

-- MHDR 0 (6.2.2)
abbrev pub is_join : List ℕ → Bool
is_join frame = length frame == 23 && slice_index frame 0 == 0

-- MHDR C0 and the type 0 or 2 (6.2.4.1)
abbrev pub is_rejoin02 : List ℕ → Bool
is_rejoin02 frame = length frame == 19 && slice_index frame 0 == 0xc0 && (slice_index frame 1 == 0 || slice_index frame 1 == 2)

-- MHDR C0 and the type 1 (6.2.4.2)
abbrev pub is_rejoin1 : List ℕ → Bool
is_rejoin1 frame = length frame == 24 && slice_index frame 0 == 0xc0 && slice_index frame 1 == 1

abbrev pub join_of : List ℕ → JoinUp
join_of frame = Join (eui_at 1 frame) (eui_at 9 frame) (count_at 17 frame) (take 4 (drop 19 frame))

abbrev pub rejoin02_of : List ℕ → JoinUp
rejoin02_of frame = Rejoin02 (slice_index frame 1) (wire_number (take 3 (drop 2 frame))) (eui_at 5 frame) (count_at 13 frame) (take 4 (drop 15 frame))

abbrev pub rejoin1_of : List ℕ → JoinUp
rejoin1_of frame = Rejoin1 (eui_at 2 frame) (eui_at 10 frame) (count_at 18 frame) (take 4 (drop 20 frame))

-- the fields of a join-request or a rejoin-request
unfoldable pub join_up_of : List ℕ → Option JoinUp
join_up_of frame =
    if is_join frame then Some (join_of frame) else (
    if is_rejoin02 frame then Some (rejoin02_of frame) else (
    if is_rejoin1 frame then Some (rejoin1_of frame) else None))

-- how many bytes such a frame has
abbrev pub frame_size : JoinUp → ℕ
frame_size (Join join_eui dev_eui nonce mic) = 23
frame_size (Rejoin02 kind net dev_eui count mic) = 19
frame_size (Rejoin1 join_eui dev_eui count mic) = 24

-- DevNonce, RJcount0 or RJcount1
abbrev pub counter_of : JoinUp → ℕ
counter_of (Join join_eui dev_eui nonce mic) = nonce
counter_of (Rejoin02 kind net dev_eui count mic) = count
counter_of (Rejoin1 join_eui dev_eui count mic) = count

abbrev pub dev_eui_of : JoinUp → Eui
dev_eui_of (Join join_eui dev_eui nonce mic) = dev_eui
dev_eui_of (Rejoin02 kind net dev_eui count mic) = dev_eui
dev_eui_of (Rejoin1 join_eui dev_eui count mic) = dev_eui

-- these are the fields of each frame with a join form, and there are none of other bytes
pub record JoinFramesRead : Type 0 where
  pub form : (frame : List ℕ) (up : JoinUp) → JoinForm frame up → join_up_of frame ≡ Some up
  pub none : (frame : List ℕ) → All (λ b. b < 256) frame → ((up : JoinUp) → ¬ JoinForm frame up) → join_up_of frame ≡ None

-- ---- members

-- MACVersion 1.1, or 1.1 with a dot and digits
unfoldable pub is_mac_version : List ℕ → Bool
is_mac_version text = bytes_eq text (codes "1.1") || (nat_lt 4 (length text) && bytes_eq (take 4 text) (codes "1.1.") && list_all is_ascii_digit (drop 4 text))

-- DLSettings with OptNeg and an RX1DROffset of at most 5 (6.2.3)
abbrev pub is_dl_settings : ℕ → Bool
is_dl_settings dl = nat_le 128 dl && nat_le (dl / 16 % 8) 5

-- a CFList of frequencies, whose type byte is 0, or none
abbrev pub is_cf_list : Option (List ℕ) → Bool
is_cf_list None = true
is_cf_list (Some cf) = slice_index cf 15 == 0

-- a JoinReq has a join-request, and a RejoinReq a rejoin-request
abbrev pub is_asked_by : Activation → JoinUp → Bool
is_asked_by by.Join (Join join_eui dev_eui nonce mic) = true
is_asked_by by.Join (Rejoin02 kind net dev_eui count mic) = false
is_asked_by by.Join (Rejoin1 join_eui dev_eui count mic) = false
is_asked_by by.Rejoin (Join join_eui dev_eui nonce mic) = false
is_asked_by by.Rejoin (Rejoin02 kind net dev_eui count mic) = true
is_asked_by by.Rejoin (Rejoin1 join_eui dev_eui count mic) = true

-- a member doesn't go with the frame
abbrev pub wrong_member : JoinRequest → JoinUp → Bool
wrong_member request up =
    not (is_mac_version request.mac_version) || not (is_dl_settings request.radio.dl) || not (is_cf_list request.radio.cf) || not (request.dev_eui.0 == (dev_eui_of up).0)

-- the frame isn't one of the message's type, or a member doesn't go with it
unfoldable pub wrong_frame : Activation → JoinRequest → Option JoinUp → Bool
wrong_frame activation request None = true
wrong_frame activation request (Some up) = not (is_asked_by activation up) || wrong_member request up
