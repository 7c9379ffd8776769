-- A valid uplink over a context: its full counter, and the channel on which it was sent (LoRaWAN 1.1, 4.3.1.5 and 4.4).
use Rattle.std.specs.Prelude.{◌≡◌, ℕ, ◌+◌, ◌-◌, ◌/◌, ◌%◌, ◌<◌, ◌^◌, ◌==◌, ◌&&◌, List, Option, Some, None, option_map, Bool, true, false}
use Rattle.std.specs.Str.{bytes_eq}
use Rattle.wire_ids.specs.declared.keys.SessionKeys.{SessionKeys}
use Rattle.contexts.specs.declared.context.Context.{Context}
use Rattle.data_frames.specs.Counts.{IsFullCount}
use Rattle.data_frames.specs.DataForms.{DataForm, fields_of}
use Rattle.data_frames.specs.Mics.{IsChannel, up_mic, without_mic}
use Rattle.data_frames.specs.declared.uplink.DataUp.{DataUp}
use Rattle.exchanges.specs.Frames.{acks, addr_of, mic_of, wire_of}
use Rattle.exchanges.specs.Least.{least_from}
use Rattle.exchanges.specs.declared.valid.Count.{Count}

-- ---- the counter

abbrev pub first_count : Option ℕ → ℕ
first_count None = 0
first_count (Some last) = last + 1

abbrev pub sends : ℕ → ℕ → Bool
sends wire n = n % 2 ^ 16 == wire

-- the least number of 32 bits above the last one whose low 16 bits were sent
unfoldable pub full_count : Option ℕ → ℕ → Option ℕ
full_count last wire = least_from (sends wire) (2 ^ 32 - first_count last) (first_count last)

-- ---- the channel

-- ConfFCnt: where the frame acknowledges, the number of the last confirmed downlink
abbrev pub conf_of : Bool → Option ℕ → ℕ
conf_of false conf = 0
conf_of true None = 0
conf_of true (Some number) = number

abbrev pub is_enabled : ℕ → ℕ → Bool
is_enabled channels channel = channels / 2 ^ channel % 2 == 1

-- the frame's MIC is that of this counter on this channel
abbrev pub has_mic : SessionKeys → List ℕ → ℕ → ℕ → ℕ → ℕ → Bool
has_mic keys frame count conf rate channel = bytes_eq (mic_of frame) (up_mic keys (addr_of frame) count conf rate channel (without_mic frame))

abbrev pub fits_on : SessionKeys → List ℕ → ℕ → ℕ → ℕ → ℕ → ℕ → Bool
fits_on keys frame count conf rate channels channel = is_enabled channels channel && has_mic keys frame count conf rate channel

-- the least enabled channel on which the MIC is valid
unfoldable pub channel_of : SessionKeys → List ℕ → ℕ → ℕ → ℕ → ℕ → Option ℕ
channel_of keys frame count conf rate channels = least_from (fits_on keys frame count conf rate channels) 8 0

-- ---- both

abbrev pub counted : ℕ → ℕ → Count
counted count channel = record { count = count; channel = channel }

abbrev pub valid_at : SessionKeys → Context → List ℕ → ℕ → Option ℕ → Option Count
valid_at keys c frame rate None = None
valid_at keys c frame rate (Some count) = option_map (counted count) (channel_of keys frame count (conf_of (acks frame) c.conf) rate c.channels)

-- the full counter and the channel of an uplink that was heard at this rate, where there are both
unfoldable pub up_valid : SessionKeys → Context → List ℕ → ℕ → Option Count
up_valid keys c frame rate = valid_at keys c frame rate (full_count c.last (wire_of frame))

-- ---- the same as a relation

pub record IsValid (keys : SessionKeys) (c : Context) (u : DataUp) (rate : ℕ) (v : Count) : Type 0 where
  pub count : IsFullCount c.last u.wire v.count
  pub few : v.count < 2 ^ 32
  pub channel : IsChannel keys u v.count (conf_of u.ack c.conf) rate c.channels v.channel

-- an uplink is valid over a context with exactly the counter and the channel of this relation
pub record UplinksAreValid (keys : SessionKeys) (c : Context) (u : DataUp) (rate : ℕ) : Type 0 where
  pub is : (v : Count) → up_valid keys c u.whole.now rate ≡ Some v → IsValid keys c u rate v
  pub all : (v : Count) → IsValid keys c u rate v → up_valid keys c u.whole.now rate ≡ Some v

abbrev pub ValidUplinks : Type 0
ValidUplinks = (keys : SessionKeys) (c : Context) (u : DataUp) (rate : ℕ) → c.channels < 2 ^ 8 → DataForm u.whole.now (fields_of u) → UplinksAreValid keys c u rate
