-- What a gateway heard.
use Rattle.std.specs.Prelude.{ℕ, List, Option, Some, None, if◌then◌else◌}
use Rattle.agreements.specs.Walk.{Config}
use Rattle.entry_codec.specs.Machine.{Machine}
use Rattle.join_frames.specs.declared.join_up.JoinUp.{JoinUp}
use Rattle.js_core.specs.Found.{Found}
use Rattle.js_core.specs.Frames.{join_up_of}
use Rattle.js_core.specs.Home.{sender_found}
use Rattle.exchanges.specs.Frames.{addr_of, is_data}
use Rattle.ns_core.specs.Speakers.{Speaker, speaker_of}

-- a join- or rejoin-request and its device, a data uplink and who sent it, or neither
pub data Heard : Type 0 where
  Join : JoinUp → Option Found → Heard
  Data : Option Speaker → Heard
  Neither : Heard

abbrev pub heard_by : Config → Machine → List ℕ → Option JoinUp → Heard
heard_by c m frame (Some up) = Join up (sender_found c m up)
heard_by c m frame None = if is_data frame then Data (speaker_of c m (addr_of frame)) else Neither

unfoldable pub heard_of : Config → Machine → List ℕ → Heard
heard_of c m frame = heard_by c m frame (join_up_of frame)
