-- A new context, and the channels that its device may use (EU868, RP001).
use Rattle.std.specs.Prelude.{ℕ, ◌+◌, ◌*◌, ◌==◌, ◌&&◌, List, [], slice_index, Option, Some, None, if◌then◌else◌}
use Rattle.wire_ids.specs.declared.address.DevAddr.{DevAddr}
use Rattle.wire_ids.specs.declared.radio.Radio.{Radio}
use Rattle.contexts.specs.declared.context.Origin.{Origin}
use Rattle.contexts.specs.declared.context.Context.{Context}

-- the bit of a channel, 0 where all three bytes of its frequency are 0
abbrev pub channel_bit : List ℕ → ℕ → ℕ → ℕ
channel_bit list place bit =
    if slice_index list (3 * place) == 0 && slice_index list (3 * place + 1) == 0 && slice_index list (3 * place + 2) == 0 then 0 else bit

-- the bits of channels 3 to 7, by a CFList whose last byte tells that it lists frequencies
abbrev pub list_bits : List ℕ → ℕ
list_bits list =
    if slice_index list 15 == 0
    then channel_bit list 0 8 + channel_bit list 1 16 + channel_bit list 2 32 + channel_bit list 3 64 + channel_bit list 4 128
    else 0

abbrev pub more_bits : Option (List ℕ) → ℕ
more_bits None = 0
more_bits (Some list) = list_bits list

-- channels 0, 1 and 2 are always enabled
abbrev pub channels_of : Radio → ℕ
channels_of radio = 7 + more_bits radio.cf

-- nothing was heard or sent under it yet
abbrev pub fresh_of : DevAddr → Origin → Radio → Context
fresh_of addr origin radio = record {
  addr = addr;
  origin = origin;
  radio = radio;
  channels = channels_of radio;
  last = None;
  frame = record { items = [] };
  rj0 = None;
  conf = None;
  next_n = 0;
  next_a = 0;
  queue = record { items = [] };
}
