-- The join step: what stands against a join- or rejoin-request of a device, and what it gives (LoRaWAN 1.1, 6.2.2 to 6.2.4).
use Rattle.std.specs.Prelude.{ℕ, ◌+◌, ◌-◌, ◌==◌, nat_le, not, List, length, take, drop, position, Option, Some, None, option_map, Bool, false, is_none, if◌then◌else◌}
use Rattle.std.specs.Str.{bytes_eq}
use Rattle.wire_ids.specs.Lists.{at_place, holds_of}
use Rattle.wire_ids.specs.declared.keys.Seed.{Seed}
use Rattle.key_vault.specs.Keys.{js_int_key, network_keys}
use Rattle.join_frames.specs.Mics.{mic}
use Rattle.join_frames.specs.declared.join_up.JoinUp.{JoinUp}
use Rattle.join_frames.specs.declared.join_up.JoinUp.TheVariants.{Join, Rejoin02, Rejoin1}
use Rattle.agreements.specs.declared.rows.DeviceRow.{DeviceRow}
use Rattle.entries.specs.declared.change.Change.{Change}
use Rattle.entries.specs.declared.change.Change.TheVariants as change
use Rattle.entries.specs.declared.change.OwnContext.{OwnContext}
use Rattle.entries.specs.declared.used_seed.UsedSeed.{UsedSeed}
use Rattle.entries.specs.declared.used_seed.UsedSeed.TheVariants as used
use Rattle.entry_codec.specs.Devices.{seed_of}
use Rattle.entry_codec.specs.declared.device.Device.{Device}
use Rattle.entry_codec.specs.declared.device.KeptSeed.{KeptSeed}
use Rattle.js_core.specs.declared.step.JoinStep.{JoinStep}
use Rattle.js_core.specs.Frames.{counter_of}

-- the frame's last four bytes are the MIC of all before them
abbrev pub has_mic : List ℕ → List ℕ → Bool
has_mic key frame = let n = length frame - 4 in bytes_eq (drop n frame) (mic key (take n frame))

-- the same, under SNwkSIntKey of a kept seed
abbrev pub is_valid_under : List ℕ → List ℕ → KeptSeed → Bool
is_valid_under nwk frame kept = has_mic (network_keys nwk kept.seed).s frame

-- the place of the newest kept seed under which the MIC is valid
unfoldable pub seed_place : List ℕ → List ℕ → Device → Option ℕ
seed_place nwk frame kept = position (is_valid_under nwk frame) kept.seeds.items

-- ---- what stands against it

-- its JoinEUI isn't that of the row, or its NetID not that of the row's home
abbrev pub wrong_eui : JoinUp → DeviceRow → Bool
wrong_eui (Join join_eui dev_eui nonce mic) row = not (join_eui.0 == row.join_eui.0)
wrong_eui (Rejoin02 kind net dev_eui count mic) row = not (net == row.home)
wrong_eui (Rejoin1 join_eui dev_eui count mic) row = not (join_eui.0 == row.join_eui.0)

-- its MIC isn't valid: that of a join-request under NwkKey, of type 0 or 2 under SNwkSIntKey of no kept seed, of type 1 under JSIntKey
abbrev pub wrong_mic : List ℕ → List ℕ → JoinUp → DeviceRow → Device → Bool
wrong_mic nwk frame (Join join_eui dev_eui nonce mic) row kept = not (has_mic nwk frame)
wrong_mic nwk frame (Rejoin02 kind net dev_eui count mic) row kept = is_none (seed_place nwk frame kept)
wrong_mic nwk frame (Rejoin1 join_eui dev_eui count mic) row kept = not (has_mic (js_int_key nwk row.dev_eui.0) frame)

abbrev pub is_not_above : ℕ → Option ℕ → Bool
is_not_above n None = false
is_not_above n (Some last) = nat_le n last

-- the counter of a frame that uses the kept seed in this place isn't above the last one
abbrev pub low_counter_at : Option ℕ → JoinUp → Device → Bool
low_counter_at place (Join join_eui dev_eui nonce mic) kept = is_not_above nonce kept.dev_nonce
low_counter_at place (Rejoin02 kind net dev_eui count mic) kept = holds_of (λ (s : KeptSeed). is_not_above count s.rj_count0) (at_place kept.seeds.items place)
low_counter_at place (Rejoin1 join_eui dev_eui count mic) kept = is_not_above count kept.rj_count1

-- its counter isn't above the last one: DevNonce, RJcount0 of the used seed, or RJcount1
abbrev pub low_counter : List ℕ → List ℕ → JoinUp → Device → Bool
low_counter nwk frame up kept = low_counter_at (seed_place nwk frame kept) up kept

-- the last JoinNonce was given out
abbrev pub is_spent : Device → Bool
is_spent kept = kept.join_nonce == 16777215

-- ---- what it gives

-- a rejoin-request of type 0 or 2 uses the seed in this place
abbrev pub rejoin_seed : ℕ → ℕ → UsedSeed
rejoin_seed kind place = if kind == 0 then used.Rejoin0 place else used.Rejoin2 place

-- the kept seed in this place, with the type of the rejoin-request; a join-request uses none
abbrev pub used_seed_at : Option ℕ → JoinUp → Option UsedSeed
used_seed_at place (Join join_eui dev_eui nonce mic) = None
used_seed_at place (Rejoin02 kind net dev_eui count mic) = option_map (rejoin_seed kind) place
used_seed_at place (Rejoin1 join_eui dev_eui count mic) = Some used.Rejoin1

-- the seed that is used
abbrev pub used_seed : List ℕ → List ℕ → JoinUp → Device → Option UsedSeed
used_seed nwk frame up kept = used_seed_at (seed_place nwk frame kept) up

-- the seed of the new session: the JoinNonce after the last one, the device's JoinEUI and the request's counter
abbrev pub next_seed : JoinUp → Device → Seed
next_seed up kept = seed_of (counter_of up) (kept.join_nonce + 1) kept

abbrev pub step_of : List ℕ → List ℕ → JoinUp → Device → JoinStep
step_of nwk frame up kept = record { used = used_seed nwk frame up kept; seed = next_seed up kept }

abbrev pub change_by : Option UsedSeed → ℕ → Seed → Option OwnContext → Change
change_by None device seed own = change.Join (record { device = device; counter = seed.counter; join_nonce = seed.nonce; own = own })
change_by (Some u) device seed own = change.Rejoin (record { device = device; used = u; counter = seed.counter; join_nonce = seed.nonce; own = own })

-- what it changes of the device with this number, which gets this context of the desk, or none
abbrev pub change_of : ℕ → JoinStep → Option OwnContext → Change
change_of device step own = change_by step.used device step.seed own
