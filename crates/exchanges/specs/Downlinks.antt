-- Which downlink answers an uplink, and its frame (LoRaWAN 1.1, 4.3.1 and 4.4; RP001, EU868).
use Rattle.std.specs.Prelude.{ℕ, ◌-◌, ◌/◌, ◌%◌, ◌^◌, ◌==◌, ◌&&◌, ◌||◌, nat_le, nat_lt, List, [], length, Bool, false, Option, Some, None, option_map, if◌then◌else◌}
use Rattle.wire_ids.specs.Lists.{holds_of}
use Rattle.wire_ids.specs.declared.keys.SessionKeys.{SessionKeys}
use Rattle.wire_ids.specs.declared.radio.Radio.{Radio}
use Rattle.contexts.specs.Queue.{first_of, next_of}
use Rattle.contexts.specs.declared.context.Context.{Context}
use Rattle.contexts.specs.declared.context.Item.{Item}
use Rattle.data_frames.specs.Downlinks as written
use Rattle.data_frames.specs.Downlinks.{down_text}
use Rattle.entries.specs.declared.change.Downlink.{Downlink}
use Rattle.entries.specs.declared.change.Downlink.TheVariants.{Nothing, Empty, FirstItem}
use Rattle.entry_codec.specs.Devices.{answered}
use Rattle.exchanges.specs.Frames.{asks_for_downlink, is_confirmed}

-- ---- the first receive window

-- RX1DROffset: bits 6 to 4 of DLSettings
abbrev pub rx1_dr_offset : Radio → ℕ
rx1_dr_offset radio = radio.dl / 16 % 8

-- the window's data rate behind an uplink at this one, at least 0
abbrev pub rx1_rate : Radio → ℕ → ℕ
rx1_rate radio rate = rate - rx1_dr_offset radio

-- the most bytes of FRMPayload at a data rate, without FOpts
abbrev pub payload_limit : ℕ → ℕ
payload_limit rate = if nat_le rate 2 then 51 else (if rate == 3 then 115 else 242)

-- ---- which downlink

abbrev pub fits_at : ℕ → Item → Bool
fits_at rate item = nat_le (length item.payload.items) (payload_limit rate)

-- an item waits, and the one that waits longest fits the first window behind an uplink at this rate; it is never overtaken
abbrev pub has_fitting_item : Context → ℕ → Bool
has_fitting_item c rate = holds_of (fits_at (rx1_rate c.radio rate)) (first_of c)

-- the device waits for a downlink: its uplink is confirmed, or has ADRACKReq
abbrev pub wants_downlink : List ℕ → Bool
wants_downlink frame = is_confirmed frame || asks_for_downlink frame

-- NFCntDown isn't spent
abbrev pub has_number : Context → Bool
has_number c = nat_lt c.next_n (2 ^ 32)

abbrev pub empty_or_none : Context → List ℕ → Downlink
empty_or_none c frame = if wants_downlink frame && has_number c then Empty else Nothing

-- the first item where it fits; else an empty downlink where the device waits for one; else none
unfoldable pub down_of : Context → List ℕ → ℕ → Downlink
down_of c frame rate = if has_fitting_item c rate then FirstItem else empty_or_none c frame

-- ---- its frame

-- ACK: a confirmed uplink is acknowledged, by its full counter
abbrev pub ack_of : List ℕ → ℕ → Option ℕ
ack_of frame count = if is_confirmed frame then Some count else None

-- FPending: once the downlink is sent, an item waits yet
abbrev pub is_pending : Downlink → Context → Bool
is_pending down c = nat_lt 0 (length (answered down c).queue.items)

-- under the network's own number, and without port
abbrev pub empty_fields : Context → Option ℕ → ℕ → written.Downlink
empty_fields c ack number = record {
  addr = c.addr;
  confirmed = false;
  ack = ack;
  pending = is_pending Empty c;
  count = number;
  port = None;
  payload = [];
}

-- under the application's number
abbrev pub item_fields : Context → Option ℕ → Item → written.Downlink
item_fields c ack item = record {
  addr = c.addr;
  confirmed = item.confirmed;
  ack = ack;
  pending = is_pending FirstItem c;
  count = item.number;
  port = Some item.port;
  payload = item.payload.items;
}

abbrev pub fields_of : Context → Option ℕ → Downlink → Option written.Downlink
fields_of c ack Nothing = None
fields_of c ack Empty = option_map (empty_fields c ack) (next_of c)
fields_of c ack FirstItem = option_map (item_fields c ack) (first_of c)

-- the downlink that answers an uplink of this counter at this rate
abbrev pub down_fields : Context → List ℕ → ℕ → ℕ → Option written.Downlink
down_fields c frame rate count = fields_of c (ack_of frame count) (down_of c frame rate)

abbrev pub text_under : Option SessionKeys → Option written.Downlink → Option (List ℕ)
text_under None down = None
text_under (Some keys) down = option_map (down_text keys) down
