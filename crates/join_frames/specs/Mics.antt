-- Message integrity codes of frames (LoRaWAN 1.1, 4.4 and 6.2).
use Rattle.std.specs.Prelude.{◌≡◌, ℕ, ◌-◌, List, ◌++◌, length, take, drop}
use Rattle.aes_cmac.specs.Mac.{mac}

-- the first four bytes of the text's CMAC
unfoldable pub mic : List ℕ → List ℕ → List ℕ
mic key text = take 4 (mac key text)

-- the text, followed by its MIC
abbrev pub with_mic : List ℕ → List ℕ → List ℕ
with_mic key text = text ++ mic key text

-- the frame's last four bytes are the MIC of all before them
abbrev pub HasMic : List ℕ → List ℕ → Type 0
HasMic key frame = let n = length frame - 4 in drop n frame ≡ mic key (take n frame)
