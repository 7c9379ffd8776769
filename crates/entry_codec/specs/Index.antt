-- Where devices stand.
use Rattle.std.specs.Prelude.{◌≡◌, ℕ, ◌==◌, Bool, List, map, position}
use Rattle.std.specs.BTreeMap.{get}
use Rattle.std.specs.Ordering.{nat_cmp}
use Rattle.agreements.specs.declared.rows.DeviceRow.{DeviceRow}
use Rattle.entry_codec.specs.declared.device.Device.{Device}
use Rattle.entry_codec.specs.declared.index.Index.{Index}

abbrev pub is_number : ℕ → ℕ → Bool
is_number key n = n == key

-- the index has the place of each of these names
abbrev pub IsIndex : Index → List ℕ → Type 0
IsIndex index names = (key : ℕ) → get nat_cmp index.places key ≡ position (is_number key) names

abbrev pub row_number : DeviceRow → ℕ
row_number r = r.dev_eui.0

abbrev pub device_number : Device → ℕ
device_number d = d.dev_eui.0

-- the DevEUIs of the devices, in their order
abbrev pub names : List Device → List ℕ
names devices = map device_number devices
