-- The state of tables before the first entry.
use Rattle.std.specs.Prelude.{ℕ, ◌+◌, ◌^◌, ◌==◌, List, [], ◌∷◌, ◌++◌, map, None, false}
use Rattle.wire_ids.specs.declared.party.Sender.{Sender}
use Rattle.wire_ids.specs.declared.party.Sender.TheVariants.{Network, Party}
use Rattle.agreements.specs.Walk.{Config}
use Rattle.agreements.specs.declared.rows.ApplicationRow.{ApplicationRow}
use Rattle.agreements.specs.declared.rows.DeviceRow.{DeviceRow}
use Rattle.agreements.specs.declared.rows.GatewayRow.{GatewayRow}
use Rattle.agreements.specs.declared.rows.NetworkRow.{NetworkRow}
use Rattle.entry_codec.specs.Machine.{Machine}
use Rattle.entry_codec.specs.Ordered.{put_in}
use Rattle.entry_codec.specs.declared.device.Device.{Device}
use Rattle.entry_codec.specs.declared.kept.KeptAnswers.{KeptAnswers}

-- a device of which nothing is known yet
abbrev pub new_device : ℕ → DeviceRow → Device
new_device own r = record {
  dev_eui = r.dev_eui;
  join_eui = r.join_eui;
  is_home = r.home == own;
  dev_nonce = None;
  rj_count1 = None;
  join_nonce = 0;
  seeds = record { items = [] };
  suspended = false;
  lent = None;
  granted = record { items = [] };
  slots = record { active = None; pending = None };
}

-- ---- senders

-- a sender's place in the order of their bytes: networks before parties, the highest byte first
abbrev pub sender_number : Sender → ℕ
sender_number (Network net) = net
sender_number (Party id) = 2 ^ 24 + id.0

abbrev pub put_sender : Sender → List Sender → List Sender
put_sender s ss = put_in sender_number s (λ (old : Sender). old) ss

-- senders, put in one by one
abbrev pub put_senders : List Sender → List Sender → List Sender
put_senders [] ss = ss
put_senders (new ∷ more) ss = put_senders more (put_sender new ss)

abbrev pub network_sender : NetworkRow → Sender
network_sender r = Network r.net_id

abbrev pub application_sender : ApplicationRow → Sender
application_sender r = Party r.app_id

abbrev pub gateway_sender : GatewayRow → Sender
gateway_sender r = Party r.gateway_id

abbrev pub in_order : List Sender → List Sender
in_order names = put_senders names []

-- the networks, applications and gateways that have a row
abbrev pub names_of : Config → List Sender
names_of c = map network_sender c.networks ++ (map application_sender c.applications ++ map gateway_sender c.gateways)

-- these in the order of their bytes
unfoldable pub senders_of : Config → List Sender
senders_of c = in_order (names_of c)

-- ---- all

unfoldable pub empty : Config → Machine
empty c = record {
  devices = map (new_device c.desk.net_id) c.devices;
  visitors = [];
  held = [];
  asks = [];
  senders = senders_of c;
  moment = 0;
  entries = 0;
}

abbrev pub no_answers : Sender → KeptAnswers
no_answers s = record { sender = s; pairs = [] }

unfoldable pub empty_kept : Config → List KeptAnswers
empty_kept c = map no_answers (senders_of c)
