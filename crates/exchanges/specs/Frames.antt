-- What decides of a data uplink's bytes (LoRaWAN 1.1, 4.3). Numbers are little-endian.
use Rattle.std.specs.Prelude.{◌≡◌, ℕ, ◌-◌, ◌/◌, ◌%◌, ◌==◌, List, length, take, drop, slice_index, Bool, true, is_none}
use Rattle.std.specs.Int.{w16, w32, from_le_bytes}
use Rattle.wire_ids.specs.declared.address.DevAddr.{DevAddr}
use Rattle.data_frames.specs.DataForms.{DataForm, Uplink, data_fault, up_mhdr}

-- the frame is a data uplink
unfoldable pub is_data : List ℕ → Bool
is_data frame = is_none (data_fault frame)

unfoldable pub addr_of : List ℕ → DevAddr
addr_of frame = record { 0 = from_le_bytes w32 (take 4 (drop 1 frame)) }

-- MHDR: the uplink is confirmed
unfoldable pub is_confirmed : List ℕ → Bool
is_confirmed frame = slice_index frame 0 == up_mhdr true

-- the bit ADRACKReq of FCtrl
unfoldable pub asks_for_downlink : List ℕ → Bool
asks_for_downlink frame = slice_index frame 5 / 64 % 2 == 1

-- the bit ACK of FCtrl
unfoldable pub acks : List ℕ → Bool
acks frame = slice_index frame 5 / 32 % 2 == 1

-- FCnt: the low 16 bits of the frame counter
unfoldable pub wire_of : List ℕ → ℕ
wire_of frame = from_le_bytes w16 (take 2 (drop 6 frame))

-- the last four bytes
unfoldable pub mic_of : List ℕ → List ℕ
mic_of frame = drop (length frame - 4) frame

-- these are the fields of a data uplink
pub record HasFields (frame : List ℕ) (u : Uplink) : Type 0 where
  pub form : is_data frame ≡ true
  pub addr : addr_of frame ≡ u.addr
  pub confirmed : is_confirmed frame ≡ u.confirmed
  pub adr_ack_req : asks_for_downlink frame ≡ u.adr_ack_req
  pub ack : acks frame ≡ u.ack
  pub wire : wire_of frame ≡ u.wire
  pub mic : mic_of frame ≡ u.mic

-- of each frame with a data form
abbrev pub DataFramesRead : Type 0
DataFramesRead = (frame : List ℕ) (u : Uplink) → DataForm frame u → HasFields frame u
