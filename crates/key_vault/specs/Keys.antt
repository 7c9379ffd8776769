-- The keys that are derived from a device's root keys (LoRaWAN 1.1). Numbers are little-endian, as in frames.
use Rattle.std.specs.Prelude.{ℕ, List, ◌∷◌, ◌++◌, replicate}
use Rattle.std.specs.Int.{w16, w64, to_le_bytes}
use Rattle.aes_cmac.specs.Aes.{encrypted}
use Rattle.wire_ids.specs.Numbers.{wire_bytes}
use Rattle.wire_ids.specs.declared.keys.Seed.{Seed}
use Rattle.wire_ids.specs.declared.keys.SessionKeys.{SessionKeys}

-- the block of a key that the DevEUI names: its letter, the DevEUI and zeros (6.1.1.4)
unfoldable pub device_block : ℕ → ℕ → List ℕ
device_block letter dev_eui = letter ∷ to_le_bytes w64 dev_eui ++ replicate 7 0

-- the block of a session key: its letter, the JoinNonce, the JoinEUI, the counter and zeros (6.2.3)
unfoldable pub session_block : ℕ → Seed → List ℕ
session_block letter seed = letter ∷ wire_bytes seed.nonce ++ (to_le_bytes w64 seed.join_eui.0 ++ (to_le_bytes w16 seed.counter ++ replicate 2 0))

-- JSIntKey (6.1.1.4)
unfoldable pub js_int_key : List ℕ → ℕ → List ℕ
js_int_key nwk dev_eui = encrypted nwk (device_block 6 dev_eui)

-- JSEncKey (6.1.1.4)
unfoldable pub js_enc_key : List ℕ → ℕ → List ℕ
js_enc_key nwk dev_eui = encrypted nwk (device_block 5 dev_eui)

-- FNwkSIntKey, SNwkSIntKey and NwkSEncKey (6.2.3)
unfoldable pub network_keys : List ℕ → Seed → SessionKeys
network_keys nwk seed = record { f = encrypted nwk (session_block 1 seed); s = encrypted nwk (session_block 3 seed); e = encrypted nwk (session_block 4 seed) }

-- AppSKey (6.2.3)
unfoldable pub app_session_key : List ℕ → Seed → List ℕ
app_session_key app seed = encrypted app (session_block 2 seed)
