-- What the look-ups give.
use Rattle.std.specs.Prelude.{ℕ, ◌==◌, ◌||◌, IsTrue, List, Option}
use Rattle.std.specs.List.{find}
use Rattle.wire_ids.specs.declared.eui.Eui.{Eui}
use Rattle.wire_ids.specs.declared.keys.RootKeys.{RootKeys}
use Rattle.agreements.specs.declared.rows.NetworkRow.{NetworkRow}
use Rattle.agreements.specs.declared.rows.AgreementRow.{AgreementRow}
use Rattle.agreements.specs.declared.rows.JoinServerRow.{JoinServerRow}
use Rattle.agreements.specs.declared.rows.ApplicationRow.{ApplicationRow}
use Rattle.agreements.specs.declared.rows.DeviceRow.{DeviceRow}
use Rattle.agreements.specs.Index.{HasPlaces, place_of}
use Rattle.agreements.specs.Rows.{has_application, has_network}

-- the row of this network
abbrev pub network_row : ℕ → List NetworkRow → Option NetworkRow
network_row net rows = find (λ (r : NetworkRow). r.net_id == net) rows

-- the agreement with this network
abbrev pub agreement_row : ℕ → List AgreementRow → Option AgreementRow
agreement_row net rows = find (λ (r : AgreementRow). r.net_id == net) rows

-- the row of this join server
abbrev pub join_server_row : Eui → List JoinServerRow → Option JoinServerRow
join_server_row id rows = find (λ (r : JoinServerRow). r.join_eui.0 == id.0) rows

-- the row of this application
abbrev pub application_row : Eui → List ApplicationRow → Option ApplicationRow
application_row id rows = find (λ (r : ApplicationRow). r.app_id.0 == id.0) rows

-- the number of this device's row
abbrev pub device_place : Eui → List DeviceRow → Option ℕ
device_place dev rows = place_of (λ (r : DeviceRow). r.dev_eui.0) dev.0 rows

-- each device's row is found by its DevEUI, so that none stands twice
abbrev pub AreFound : List DeviceRow → Type 0
AreFound rows = HasPlaces (λ (r : DeviceRow). r.dev_eui.0) rows

-- a device's home is the desk or has a network's row, and its application has a row
abbrev pub Belongs : ℕ → List NetworkRow → List ApplicationRow → DeviceRow → Type 0
Belongs desk networks applications r = IsTrue (desk == r.home || has_network r.home networks) × IsTrue (has_application r.app applications)

-- a device's root keys
abbrev pub keys_of : DeviceRow → RootKeys
keys_of r = record { nwk = r.nwk_key; app = r.app_key }
