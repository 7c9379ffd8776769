-- Data frames (LoRaWAN 1.1, 4.2 and 4.3). Numbers are little-endian.
use Rattle.std.specs.Prelude.{◌≡◌, ℕ, ◌+◌, ◌%◌, ◌<◌, ◌≤◌, ◌^◌, ◌==◌, ◌&&◌, ◌||◌, nat_le, Bool, true, false, not, if◌then◌else◌, List, [], ◌∷◌, ◌++◌, length, slice_index, Option, Some, None}
use Rattle.std.specs.Int.{w16, w32, to_le_bytes}
use Rattle.wire_ids.specs.declared.address.DevAddr.{DevAddr}
use Rattle.wire_ids.specs.declared.faults.FrameFault.{FrameFault}
use Rattle.wire_ids.specs.declared.faults.FrameFault.TheVariants.{Size, Form}
use Rattle.data_frames.specs.declared.uplink.DataUp.{DataUp}

-- a bit of a byte, by its weight
abbrev pub bit : Bool → ℕ → ℕ
bit b weight = if b then weight else 0

-- the fields of a data uplink: FHDR has DevAddr, FCtrl, FCnt and FOpts (4.3.1), and then come FPort and FRMPayload (4.3.2, 4.3.3)
pub record Uplink : Type 0 where
  pub confirmed : Bool
  pub addr : DevAddr
  pub adr : Bool
  pub adr_ack_req : Bool
  pub ack : Bool
  pub class_b : Bool
  pub wire : ℕ
  pub fopts : List ℕ
  pub port : Option ℕ
  pub payload : List ℕ
  pub mic : List ℕ

-- MHDR of an uplink: message type 010, or 100 where it is confirmed, and Major 00 (4.2)
abbrev pub up_mhdr : Bool → ℕ
up_mhdr confirmed = if confirmed then 0x80 else 0x40

-- FCtrl of an uplink: ADR, ADRACKReq, ACK, ClassB and FOptsLen (4.3.1)
abbrev pub up_fctrl : Uplink → ℕ
up_fctrl u = bit u.adr 128 + bit u.adr_ack_req 64 + bit u.ack 32 + bit u.class_b 16 + length u.fopts

-- FPort, where there is one, and FRMPayload
abbrev pub port_and_payload : Option ℕ → List ℕ → List ℕ
port_and_payload None payload = payload
port_and_payload (Some port) payload = port ∷ payload

-- MHDR, FHDR, FPort and FRMPayload: a frame without its MIC
abbrev pub message : ℕ → DevAddr → ℕ → ℕ → List ℕ → Option ℕ → List ℕ → List ℕ
message mhdr addr fctrl wire fopts port payload =
    mhdr ∷ to_le_bytes w32 addr.0 ++ (fctrl ∷ to_le_bytes w16 wire ++ (fopts ++ port_and_payload port payload))

unfoldable pub up_message : Uplink → List ℕ
up_message u = message (up_mhdr u.confirmed) u.addr (up_fctrl u) u.wire u.fopts u.port u.payload

-- the bytes are an uplink with these fields
pub record DataForm (bytes : List ℕ) (u : Uplink) : Type 0 where
  pub spelled : bytes ≡ up_message u ++ u.mic
  pub most : length bytes ≤ 255
  pub mic : length u.mic ≡ 4
  pub addr : u.addr.0 < 2 ^ 32
  pub wire : u.wire < 2 ^ 16
  pub fopts : length u.fopts ≤ 15
  pub bare : u.port ≡ None → u.payload ≡ []

-- FOptsLen, where the frame reaches FCtrl
abbrev pub fopts_len : List ℕ → ℕ
fopts_len frame = slice_index frame 5 % 16

-- the frame has a size of data frames: 12 to 255 bytes, with room for its FOpts before the MIC
abbrev pub is_data_sized : List ℕ → Bool
is_data_sized frame = nat_le 12 (length frame) && nat_le (length frame) 255 && nat_le (12 + fopts_len frame) (length frame)

-- the frame begins as an uplink
abbrev pub is_data_up : List ℕ → Bool
is_data_up frame = slice_index frame 0 == up_mhdr false || slice_index frame 0 == up_mhdr true

-- why a frame is no data uplink: its size, and then its first byte
unfoldable pub data_fault : List ℕ → Option FrameFault
data_fault frame = if not (is_data_sized frame) then Some (Size (length frame)) else (if not (is_data_up frame) then Some Form else None)

-- the fields that were read
abbrev pub fields_of : DataUp → Uplink
fields_of u = record {
  confirmed = u.confirmed;
  addr = u.addr;
  adr = u.adr;
  adr_ack_req = u.adr_ack_req;
  ack = u.ack;
  class_b = u.class_b;
  wire = u.wire;
  fopts = u.fopts.now;
  port = u.port;
  payload = u.payload.now;
  mic = u.mic;
}
