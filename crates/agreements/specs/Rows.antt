-- The rows: which keys each has, in order, and what each key must be.
use Rattle.std.specs.Prelude.{◌^◌, ◌-◌, ℕ, Bool, true, false, ◌==◌, ◌||◌, ◌&&◌, nat_le, if◌then◌else◌, List, [], length, Option, Some, None, option_and_then, Result, Ok, Err}
use Rattle.std.specs.List.{list_any}
use Rattle.std.specs.Str.{bytes_eq}
use Rattle.toml.specs.Data.{Data, as_bool}
use Rattle.wire_ids.specs.declared.eui.Eui.{Eui}
use Rattle.agreements.specs.declared.rows.DeskRow.{DeskRow}
use Rattle.agreements.specs.declared.rows.NetworkRow.{NetworkRow}
use Rattle.agreements.specs.declared.rows.AgreementRow.{AgreementRow}
use Rattle.agreements.specs.declared.rows.ApplicationRow.{ApplicationRow}
use Rattle.agreements.specs.declared.rows.JoinServerRow.{JoinServerRow}
use Rattle.agreements.specs.declared.rows.GatewayRow.{GatewayRow}
use Rattle.agreements.specs.declared.rows.DeviceRow.{DeviceRow}
use Rattle.agreements.specs.declared.device.Identity.{Identity}
use Rattle.agreements.specs.declared.device.Standing.{Standing}
use Rattle.agreements.specs.Forms.{array_of, bytes_of, cf_list_of, dl_settings_of, eui_of, net_of, number_of, passive_of, printable_of}
use Rattle.agreements.specs.Steps.{◌>>=◌, need, or_else, once, known, read_as, all_after, numbered}
use Rattle.agreements.specs.declared.flaw.Flaw.{Flaw}
use Rattle.agreements.specs.declared.key.Key.TheVariants as key

-- whether the rows have one of this name
abbrev pub has_eui : Eui → List Eui → Bool
has_eui eui euis = list_any (λ e. e.0 == eui.0) euis

abbrev pub has_network : ℕ → List NetworkRow → Bool
has_network net rows = list_any (λ (r : NetworkRow). r.net_id == net) rows

abbrev pub has_agreement : ℕ → List AgreementRow → Bool
has_agreement net rows = list_any (λ (r : AgreementRow). r.net_id == net) rows

abbrev pub has_application : Eui → List ApplicationRow → Bool
has_application app rows = list_any (λ (r : ApplicationRow). r.app_id.0 == app.0) rows

abbrev pub has_join_server : Eui → List JoinServerRow → Bool
has_join_server eui rows = list_any (λ (r : JoinServerRow). r.join_eui.0 == eui.0) rows

abbrev pub has_gateway : Eui → List GatewayRow → Bool
has_gateway id rows = list_any (λ (r : GatewayRow). r.gateway_id.0 == id.0) rows

abbrev pub has_device : Eui → List DeviceRow → Bool
has_device dev rows = list_any (λ (r : DeviceRow). r.dev_eui.0 == dev.0) rows

abbrev pub labels_a_network : List ℕ → List NetworkRow → Bool
labels_a_network label rows = list_any (λ (r : NetworkRow). bytes_eq r.kek_label label) rows

abbrev pub labels_an_application : List ℕ → List ApplicationRow → Bool
labels_an_application label rows = list_any (λ (r : ApplicationRow). bytes_eq r.kek_label label) rows

-- one more of the desk's names, which stands there once
unfoldable pub next_eui : List Eui → Data → Result Eui Flaw
next_eui before d = do
  eui ← read_as key.JoinEuis (eui_of d)
  new ← once key.JoinEuis (has_eui eui before)
  Ok eui

-- one to sixteen names
abbrev pub some_euis : List Data → Option (List Data)
some_euis ds = if nat_le 1 (length ds) && nat_le (length ds) 16 then Some ds else None

unfoldable pub eui_array : Data → Option (List Data)
eui_array d = option_and_then some_euis (array_of d)

-- a flaw of an array's element, at its place
abbrev pub in_element : {A : Type 0} → Result A (ℕ × Flaw) → Result A Flaw
in_element (Ok a) = Ok a
in_element (Err at) = Err (record { why = at.1.why; key = at.1.key; place = Some at.0 })

unfoldable pub join_euis_in : Data → Result (List Eui) Flaw
join_euis_in d = do
  ds ← need key.JoinEuis eui_array d
  in_element (all_after (numbered next_eui) [] ds)

unfoldable pub desk_in : Data → Result DeskRow Flaw
desk_in d = do
  net_id ← need key.NetId net_of d
  join_euis ← join_euis_in d
  dl_settings ← need key.DlSettings dl_settings_of d
  rx_delay ← need key.RxDelay (number_of 0 15) d
  cf_list ← or_else None key.CfList cf_list_of d
  lifetime_s ← or_else 31536000 key.LifetimeS (number_of 1 (2 ^ 32 - 1)) d
  ask_s ← or_else 30 key.AskS (number_of 1 600) d
  Ok (record { net_id = net_id; join_euis = join_euis; dl_settings = dl_settings; rx_delay = rx_delay; cf_list = cf_list; lifetime_s = lifetime_s; ask_s = ask_s })

unfoldable pub network_in : ℕ → List NetworkRow → Data → Result NetworkRow Flaw
network_in desk before d = do
  net_id ← need key.NetId net_of d
  new_net ← once key.NetId (desk == net_id || has_network net_id before)
  kek_label ← need key.KekLabel (printable_of 1 32) d
  new_label ← once key.KekLabel (labels_a_network kek_label before)
  kek ← need key.Kek (bytes_of 16) d
  address ← need key.Address (printable_of 1 64) d
  Ok (record { net_id = net_id; kek_label = kek_label; kek = kek; address = address })

unfoldable pub agreement_in : List NetworkRow → List AgreementRow → Data → Result AgreementRow Flaw
agreement_in networks before d = do
  net_id ← need key.NetId net_of d
  new_net ← once key.NetId (has_agreement net_id before)
  with_row ← known key.NetId (has_network net_id networks)
  passive ← need key.Passive passive_of d
  passive_s ← or_else 600 key.PassiveS (number_of 1 (2 ^ 31)) d
  handover ← need key.Handover as_bool d
  handover_s ← or_else 3600 key.HandoverS (number_of 1 (2 ^ 31)) d
  activation ← need key.Activation as_bool d
  Ok (record { net_id = net_id; passive = passive; passive_s = passive_s; handover = handover; handover_s = handover_s; activation = activation })

unfoldable pub join_server_in : List Eui → List JoinServerRow → Data → Result JoinServerRow Flaw
join_server_in join_euis before d = do
  join_eui ← need key.JoinEui eui_of d
  new_eui ← once key.JoinEui (has_eui join_eui join_euis || has_join_server join_eui before)
  address ← need key.Address (printable_of 1 64) d
  Ok (record { join_eui = join_eui; address = address })

unfoldable pub application_in : List Eui → List JoinServerRow → List NetworkRow → List ApplicationRow → Data → Result ApplicationRow Flaw
application_in join_euis join_servers networks before d = do
  app_id ← need key.AppId eui_of d
  new_id ← once key.AppId ((has_eui app_id join_euis || has_join_server app_id join_servers) || has_application app_id before)
  kek_label ← need key.KekLabel (printable_of 1 32) d
  new_label ← once key.KekLabel (labels_a_network kek_label networks || labels_an_application kek_label before)
  kek ← need key.Kek (bytes_of 16) d
  Ok (record { app_id = app_id; kek_label = kek_label; kek = kek })

unfoldable pub gateway_in : List Eui → List JoinServerRow → List ApplicationRow → List GatewayRow → Data → Result GatewayRow Flaw
gateway_in join_euis join_servers applications before d = do
  gateway_id ← need key.GatewayId eui_of d
  new_id ← once key.GatewayId ((has_eui gateway_id join_euis || has_join_server gateway_id join_servers) || (has_application gateway_id applications || has_gateway gateway_id before))
  Ok (record { gateway_id = gateway_id })

-- a device's names and keys
unfoldable pub identity_in : List Eui → List DeviceRow → Data → Result Identity Flaw
identity_in join_euis before d = do
  dev_eui ← need key.DevEui eui_of d
  new_dev ← once key.DevEui (has_device dev_eui before)
  join_eui ← need key.JoinEui eui_of d
  own ← known key.JoinEui (has_eui join_eui join_euis)
  nwk_key ← need key.NwkKey (bytes_of 16) d
  app_key ← need key.AppKey (bytes_of 16) d
  Ok (record { dev_eui = dev_eui; join_eui = join_eui; nwk_key = nwk_key; app_key = app_key })

-- where it belongs and what it may do
unfoldable pub standing_in : ℕ → List NetworkRow → List ApplicationRow → Data → Result Standing Flaw
standing_in desk networks applications d = do
  home ← need key.Home net_of d
  with_home ← known key.Home (desk == home || has_network home networks)
  app ← need key.App eui_of d
  with_app ← known key.App (has_application app applications)
  roaming ← or_else true key.Roaming as_bool d
  carry_app ← or_else false key.CarryApp as_bool d
  profile_time ← or_else [] key.ProfileTime (printable_of 0 32) d
  Ok (record { home = home; app = app; roaming = roaming; carry_app = carry_app; profile_time = profile_time })

unfoldable pub device_in : DeskRow → List NetworkRow → List ApplicationRow → List DeviceRow → Data → Result DeviceRow Flaw
device_in desk networks applications before d = do
  id ← identity_in desk.join_euis before d
  st ← standing_in desk.net_id networks applications d
  Ok (record { dev_eui = id.dev_eui; join_eui = id.join_eui; nwk_key = id.nwk_key; app_key = id.app_key; home = st.home; app = st.app; roaming = st.roaming; carry_app = st.carry_app; profile_time = st.profile_time })
