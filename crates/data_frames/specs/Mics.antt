-- Message integrity codes of data frames (LoRaWAN 1.1, 4.4). Numbers are little-endian.
use Rattle.std.specs.Prelude.{◌≡◌, ℕ, ◌-◌, ◌/◌, ◌%◌, ◌≤◌, ◌^◌, List, [], ◌∷◌, ◌++◌, length, take, drop}
use Rattle.std.specs.Int.{w16, w32, to_le_bytes}
use Rattle.aes_cmac.specs.Mac.{mac}
use Rattle.wire_ids.specs.declared.address.DevAddr.{DevAddr}
use Rattle.wire_ids.specs.declared.keys.SessionKeys.{SessionKeys}
use Rattle.data_frames.specs.declared.uplink.DataUp.{DataUp}

-- the block before a message of n bytes: 0x49, ConfFCnt, TxDr, TxCh, Dir, DevAddr, the frame counter, 0, and n in one byte
abbrev pub mic_block : ℕ → ℕ → ℕ → ℕ → DevAddr → ℕ → ℕ → List ℕ
mic_block conf rate channel dir addr count n =
    0x49 ∷ to_le_bytes w16 conf ++ (rate ∷ channel ∷ dir ∷ to_le_bytes w32 addr.0 ++ (to_le_bytes w32 count ++ 0 ∷ n % 2 ^ 8 ∷ []))

-- B0 of an uplink, which tells neither ConfFCnt nor TxDr nor TxCh
abbrev pub b0 : DevAddr → ℕ → ℕ → List ℕ
b0 addr count n = mic_block 0 0 0 0 addr count n

-- B1 of an uplink
abbrev pub b1 : ℕ → ℕ → ℕ → DevAddr → ℕ → ℕ → List ℕ
b1 conf rate channel addr count n = mic_block conf rate channel 0 addr count n

-- B0 of a downlink
abbrev pub b0_down : ℕ → DevAddr → ℕ → ℕ → List ℕ
b0_down conf addr count n = mic_block conf 0 0 1 addr count n

-- the F half of an uplink's MIC: two bytes of cmacF, under FNwkSIntKey
unfoldable pub f_half : List ℕ → DevAddr → ℕ → List ℕ → List ℕ
f_half f addr count message = take 2 (mac f (b0 addr count (length message) ++ message))

-- the S half: two bytes of cmacS, under SNwkSIntKey
unfoldable pub s_half : List ℕ → DevAddr → ℕ → ℕ → ℕ → ℕ → List ℕ → List ℕ
s_half s addr count conf rate channel message = take 2 (mac s (b1 conf rate channel addr count (length message) ++ message))

-- the MIC of an uplink: the S half, and then the F half
abbrev pub up_mic : SessionKeys → DevAddr → ℕ → ℕ → ℕ → ℕ → List ℕ → List ℕ
up_mic keys addr count conf rate channel message = s_half keys.s addr count conf rate channel message ++ f_half keys.f addr count message

-- the MIC of a downlink: four bytes, under SNwkSIntKey
unfoldable pub down_mic : List ℕ → DevAddr → ℕ → ℕ → List ℕ → List ℕ
down_mic s addr count conf message = take 4 (mac s (b0_down conf addr count (length message) ++ message))

-- a frame without its MIC, the last four bytes
abbrev pub without_mic : List ℕ → List ℕ
without_mic frame = take (length frame - 4) frame

-- the first two bytes of the frame's MIC are the S half of its counter on this channel
abbrev pub HasSHalf : List ℕ → DataUp → ℕ → ℕ → ℕ → ℕ → Type 0
HasSHalf s u count conf rate channel = take 2 u.mic ≡ s_half s u.addr count conf rate channel (without_mic u.whole.now)

-- its last two bytes are the F half of its counter
abbrev pub HasFHalf : List ℕ → DataUp → ℕ → Type 0
HasFHalf f u count = drop 2 u.mic ≡ f_half f u.addr count (without_mic u.whole.now)

-- the channel has its bit among the enabled ones
abbrev pub IsEnabled : ℕ → ℕ → Type 0
IsEnabled channels channel = channels / 2 ^ channel % 2 ≡ 1

-- the frame's MIC is that of its counter on this channel
abbrev pub HasUpMic : SessionKeys → DataUp → ℕ → ℕ → ℕ → ℕ → Type 0
HasUpMic keys u count conf rate channel = u.mic ≡ up_mic keys u.addr count conf rate channel (without_mic u.whole.now)

-- the channel is enabled, and the MIC is that of the frame on it
abbrev pub Fits : SessionKeys → DataUp → ℕ → ℕ → ℕ → ℕ → ℕ → Type 0
Fits keys u count conf rate channels channel = IsEnabled channels channel × HasUpMic keys u count conf rate channel

-- the least such channel
pub record IsChannel (keys : SessionKeys) (u : DataUp) (count conf rate channels channel : ℕ) : Type 0 where
  pub fits : Fits keys u count conf rate channels channel
  pub least : (k : ℕ) → Fits keys u count conf rate channels k → channel ≤ k
