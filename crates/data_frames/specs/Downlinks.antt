-- Downlinks that the network writes, and uplinks that a device writes (LoRaWAN 1.1, 4.3 and 4.4).
use Rattle.std.specs.Prelude.{◌≡◌, ℕ, ◌+◌, ◌-◌, ◌%◌, ◌^◌, Bool, true, false, if◌then◌else◌, List, [], ◌++◌, length, take, drop, Option, Some, None}
use Rattle.wire_ids.specs.declared.address.DevAddr.{DevAddr}
use Rattle.wire_ids.specs.declared.keys.SessionKeys.{SessionKeys}
use Rattle.data_frames.specs.declared.downlink.Down.{Down}
use Rattle.data_frames.specs.declared.sending.UpParts.{UpParts}
use Rattle.data_frames.specs.DataForms.{Uplink, bit, message, up_message}
use Rattle.data_frames.specs.Mics.{up_mic, down_mic}

-- the low 16 bits of a counter, which are sent
abbrev pub low_16 : ℕ → ℕ
low_16 count = count % 2 ^ 16

-- MHDR of a downlink: message type 011, or 101 where it is confirmed, and Major 00 (4.2)
abbrev pub down_mhdr : Bool → ℕ
down_mhdr confirmed = if confirmed then 0xa0 else 0x60

-- the fields of a downlink that the network sends, which has neither ADR nor FOpts (4.3.1)
pub record Downlink : Type 0 where
  pub addr : DevAddr
  pub confirmed : Bool
  pub ack : Option ℕ  -- the counter of the uplink that it acknowledges
  pub pending : Bool
  pub count : ℕ
  pub port : Option ℕ
  pub payload : List ℕ

-- the fields that are written
abbrev pub downlink_of : Down → Downlink
downlink_of d = record {
  addr = d.addr;
  confirmed = d.confirmed;
  ack = d.ack;
  pending = d.pending;
  count = d.count;
  port = d.port;
  payload = d.payload.now;
}

abbrev pub acks : Option ℕ → Bool
acks None = false
acks (Some count) = true

-- FCtrl of a downlink: ACK and FPending (4.3.1)
abbrev pub down_fctrl : Downlink → ℕ
down_fctrl d = bit (acks d.ack) 32 + bit d.pending 16

-- ConfFCnt: the low 16 bits of the counter of the uplink that is acknowledged, else 0 (4.4)
abbrev pub down_conf : Option ℕ → ℕ
down_conf None = 0
down_conf (Some count) = low_16 count

unfoldable pub down_message : Downlink → List ℕ
down_message d = message (down_mhdr d.confirmed) d.addr (down_fctrl d) (low_16 d.count) [] d.port d.payload

-- the downlink with its MIC
abbrev pub down_text : SessionKeys → Downlink → List ℕ
down_text keys d = down_message d ++ down_mic keys.s d.addr d.count (down_conf d.ack) (down_message d)

-- the last four bytes are the MIC of all before them
abbrev pub HasDownMic : SessionKeys → Downlink → List ℕ → Type 0
HasDownMic keys d bytes = let n = length bytes - 4 in drop n bytes ≡ down_mic keys.s d.addr d.count (down_conf d.ack) (take n bytes)

-- the fields of an uplink that a device sends, but for its MIC
abbrev pub parts_of : UpParts → List ℕ → Uplink
parts_of p mic = record {
  confirmed = p.confirmed;
  addr = p.addr;
  adr = p.adr;
  adr_ack_req = p.adr_ack_req;
  ack = p.ack;
  class_b = false;
  wire = low_16 p.count;
  fopts = p.fopts.now;
  port = p.port;
  payload = p.payload.now;
  mic = mic;
}

-- the uplink with its MIC
unfoldable pub sent : SessionKeys → UpParts → Uplink
sent keys p = parts_of p (up_mic keys p.addr p.count p.conf p.rate p.channel (up_message (parts_of p [])))
