-- The device that a request names.
use Rattle.std.specs.Prelude.{ℕ, slice_get, Option, Some, None}
use Rattle.wire_ids.specs.declared.eui.Eui.{Eui}
use Rattle.agreements.specs.Walk.{Config}
use Rattle.agreements.specs.LookUps.{device_place}
use Rattle.agreements.specs.declared.rows.DeviceRow.{DeviceRow}
use Rattle.entry_codec.specs.Machine.{Machine}
use Rattle.entry_codec.specs.declared.device.Device.{Device}
use Rattle.js_core.specs.declared.found.FoundDevice.{FoundDevice}

-- its number in the tables, its row there, and what is kept of it
pub record Found : Type 0 where
  pub device : ℕ
  pub row : DeviceRow
  pub kept : Device

abbrev pub found_with : ℕ → Option DeviceRow → Option Device → Option Found
found_with device None kept = None
found_with device (Some row) None = None
found_with device (Some row) (Some kept) = Some (record { device = device; row = row; kept = kept })

abbrev pub found_at : Config → Machine → Option ℕ → Option Found
found_at c m None = None
found_at c m (Some device) = found_with device (slice_get c.devices device) (slice_get m.devices device)

-- the device with this DevEUI, which has a row; the state has a device for each row
unfoldable pub found_of : Config → Machine → Eui → Option Found
found_of c m dev = found_at c m (device_place dev c.devices)

-- the same of the device that the code found
abbrev pub found_now : FoundDevice → Found
found_now f = record { device = f.number; row = f.row.now; kept = f.kept.now }
