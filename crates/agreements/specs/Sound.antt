-- What each valid text's tables have.
use Rattle.std.specs.Prelude.{◌≤◌, ℕ, ◌==◌, ◌∷◌, ◌++◌, List, map, length, IsTrue, All}
use Rattle.std.specs.List.{IsDistinct}
use Rattle.std.specs.Str.{bytes_eq}
use Rattle.wire_ids.specs.declared.eui.Eui.{Eui}
use Rattle.agreements.specs.declared.rows.NetworkRow.{NetworkRow}
use Rattle.agreements.specs.declared.rows.AgreementRow.{AgreementRow}
use Rattle.agreements.specs.declared.rows.ApplicationRow.{ApplicationRow}
use Rattle.agreements.specs.declared.rows.JoinServerRow.{JoinServerRow}
use Rattle.agreements.specs.declared.rows.GatewayRow.{GatewayRow}
use Rattle.agreements.specs.declared.rows.DeviceRow.{DeviceRow}
use Rattle.agreements.specs.Forms.{is_printable}
use Rattle.agreements.specs.LookUps.{Belongs}
use Rattle.agreements.specs.Rows.{has_eui, has_network}
use Rattle.agreements.specs.Walk.{Config}

-- how many rows a section may have
pub record KeepsLimits (c : Config) : Type 0 where
  pub some_euis : 1 ≤ length c.desk.join_euis
  pub few_euis : length c.desk.join_euis ≤ 16
  pub networks : length c.networks ≤ 32
  pub agreements : length c.agreements ≤ 32
  pub join_servers : length c.join_servers ≤ 32
  pub applications : length c.applications ≤ 32
  pub gateways : length c.gateways ≤ 64
  pub devices : length c.devices ≤ 4096

-- the labels of networks and applications
abbrev pub labels_of : Config → List (List ℕ)
labels_of c = map (λ (r : NetworkRow). r.kek_label) c.networks ++ map (λ (r : ApplicationRow). r.kek_label) c.applications

-- 1 to 32 bytes from 0x21 to 0x7e
pub record IsLabel (label : List ℕ) : Type 0 where
  pub some : 1 ≤ length label
  pub few : length label ≤ 32
  pub printable : IsTrue (is_printable label)

-- the names of the desk, of join servers, applications and gateways
abbrev pub parties_of : Config → List ℕ
parties_of c =
    ((map (λ (e : Eui). e.0) c.desk.join_euis
    ++ map (λ (r : JoinServerRow). r.join_eui.0) c.join_servers)
    ++ map (λ (r : ApplicationRow). r.app_id.0) c.applications)
    ++ map (λ (r : GatewayRow). r.gateway_id.0) c.gateways

-- the NetIDs of the desk and of networks
abbrev pub networks_of : Config → List ℕ
networks_of c = c.desk.net_id ∷ map (λ (r : NetworkRow). r.net_id) c.networks

pub record IsSound (c : Config) : Type 0 where
  pub limits : KeepsLimits c
  pub labels : All IsLabel (labels_of c)
  pub labels_differ : IsDistinct bytes_eq (labels_of c)
  pub parties_differ : IsDistinct (λ (x y : ℕ). x == y) (parties_of c)
  pub networks_differ : IsDistinct (λ (x y : ℕ). x == y) (networks_of c)
  pub agreements_differ : IsDistinct (λ (x y : ℕ). x == y) (map (λ (r : AgreementRow). r.net_id) c.agreements)
  pub agreements_known : All (λ (r : AgreementRow). IsTrue (has_network r.net_id c.networks)) c.agreements
  pub devices_differ : IsDistinct (λ (x y : ℕ). x == y) (map (λ (r : DeviceRow). r.dev_eui.0) c.devices)
  pub join_euis_known : All (λ (r : DeviceRow). IsTrue (has_eui r.join_eui c.desk.join_euis)) c.devices
  pub belong : All (Belongs c.desk.net_id c.networks c.applications) c.devices
