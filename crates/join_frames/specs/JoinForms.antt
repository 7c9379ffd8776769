-- The join-request and the rejoin-requests (LoRaWAN 1.1, 6.2.2 and 6.2.4). Numbers are little-endian.
use Rattle.std.specs.Prelude.{◌≡◌, ℕ, ◌<◌, ◌^◌, List, ◌∷◌, ◌++◌, length, ◌⊎◌}
use Rattle.std.specs.Int.{w16, w64, to_le_bytes}
use Rattle.wire_ids.specs.Numbers.{wire_bytes}
use Rattle.wire_ids.specs.declared.eui.Eui.{Eui}
use Rattle.wire_ids.specs.declared.faults.FrameFault.{FrameFault}
use Rattle.wire_ids.specs.declared.faults.FrameFault.TheVariants.{Size, Form}
use Rattle.join_frames.specs.declared.join_up.JoinUp.{JoinUp}
use Rattle.join_frames.specs.declared.join_up.JoinUp.TheVariants.{Join, Rejoin02, Rejoin1}

-- a join-request without its MIC: MHDR, JoinEUI, DevEUI and DevNonce (6.2.2)
abbrev pub join_fields : Eui → Eui → ℕ → List ℕ
join_fields join_eui dev_eui nonce = 0x00 ∷ to_le_bytes w64 join_eui.0 ++ (to_le_bytes w64 dev_eui.0 ++ to_le_bytes w16 nonce)

-- a rejoin-request of type 0 or 2 without its MIC: MHDR, type, NetID, DevEUI and RJcount0 (6.2.4.1)
abbrev pub rejoin02_fields : ℕ → ℕ → Eui → ℕ → List ℕ
rejoin02_fields kind net dev_eui count = 0xc0 ∷ kind ∷ wire_bytes net ++ (to_le_bytes w64 dev_eui.0 ++ to_le_bytes w16 count)

-- a rejoin-request of type 1 without its MIC: MHDR, type, JoinEUI, DevEUI and RJcount1 (6.2.4.2)
abbrev pub rejoin1_fields : Eui → Eui → ℕ → List ℕ
rejoin1_fields join_eui dev_eui count = 0xc0 ∷ 1 ∷ to_le_bytes w64 join_eui.0 ++ (to_le_bytes w64 dev_eui.0 ++ to_le_bytes w16 count)

-- the bytes are a frame with these fields
abbrev pub JoinForm : List ℕ → JoinUp → Type 0
JoinForm bytes (Join join_eui dev_eui nonce mic) =
    (bytes ≡ join_fields join_eui dev_eui nonce ++ mic) × (length mic ≡ 4) × (join_eui.0 < 2 ^ 64) × (dev_eui.0 < 2 ^ 64) × (nonce < 2 ^ 16)
JoinForm bytes (Rejoin02 kind net dev_eui count mic) =
    (bytes ≡ rejoin02_fields kind net dev_eui count ++ mic) × (length mic ≡ 4) × ((kind ≡ 0) ⊎ (kind ≡ 2)) × (net < 2 ^ 24) × (dev_eui.0 < 2 ^ 64)
    × (count < 2 ^ 16)
JoinForm bytes (Rejoin1 join_eui dev_eui count mic) =
    (bytes ≡ rejoin1_fields join_eui dev_eui count ++ mic) × (length mic ≡ 4) × (join_eui.0 < 2 ^ 64) × (dev_eui.0 < 2 ^ 64) × (count < 2 ^ 16)

-- a frame of these has as many bytes
abbrev pub HasJoinSize : List ℕ → Type 0
HasJoinSize bytes = (length bytes ≡ 19) ⊎ ((length bytes ≡ 23) ⊎ (length bytes ≡ 24))

-- why bytes are no frame of these
abbrev pub JoinFault : List ℕ → FrameFault → Type 0
JoinFault bytes (Size got) = (got ≡ length bytes) × ¬ HasJoinSize bytes
JoinFault bytes Form = HasJoinSize bytes × ((v : JoinUp) → ¬ JoinForm bytes v)
