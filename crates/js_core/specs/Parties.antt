-- Who may send a request, and to whom.
use Rattle.std.specs.Prelude.{ℕ, ◌==◌, ◌||◌, Option, Bool, true, false, is_some}
use Rattle.wire_ids.specs.declared.eui.Eui.{Eui}
use Rattle.wire_ids.specs.declared.party.Sender.{Sender}
use Rattle.wire_ids.specs.declared.party.Sender.TheVariants as sender
use Rattle.wire_ids.specs.declared.party.PeerId.{PeerId}
use Rattle.wire_ids.specs.declared.party.PeerId.TheVariants as receiver
use Rattle.agreements.specs.Walk.{Config}
use Rattle.backend_json.specs.declared.message_type.ReceiverKind.{ReceiverKind}
use Rattle.backend_json.specs.declared.message_type.ReceiverKind.TheVariants as to
use Rattle.backend_json.specs.declared.message_type.SenderKind.{SenderKind}
use Rattle.backend_json.specs.declared.message_type.SenderKind.TheVariants as from
use Rattle.agreements.specs.LookUps.{application_row, network_row}
use Rattle.agreements.specs.Rows.{has_eui, has_gateway}
use Rattle.agreements.specs.declared.rows.NetworkRow.{NetworkRow}
use Rattle.agreements.specs.declared.rows.ApplicationRow.{ApplicationRow}

abbrev pub network_of : Config → ℕ → Option NetworkRow
network_of c net = network_row net c.networks

abbrev pub application_named : Config → Eui → Option ApplicationRow
application_named c id = application_row id c.applications

-- a sender that has a row: a network, or an application or a gateway
unfoldable pub is_known : Config → Sender → Bool
is_known c (sender.Network net) = is_some (network_of c net)
is_known c (sender.Party id) = is_some (application_named c id) || has_gateway id c.gateways

-- the receiver is the desk, by a name of this kind
unfoldable pub reaches : Config → ReceiverKind → PeerId → Bool
reaches c to.JoinServer (receiver.Network net) = false
reaches c to.JoinServer (receiver.JoinServer join_eui) = has_eui join_eui c.desk.join_euis
reaches c to.NetworkServer (receiver.Network net) = net == c.desk.net_id
reaches c to.NetworkServer (receiver.JoinServer join_eui) = false
reaches c to.Any (receiver.Network net) = net == c.desk.net_id
reaches c to.Any (receiver.JoinServer join_eui) = has_eui join_eui c.desk.join_euis

-- the sender is of this kind
unfoldable pub may_send : Config → SenderKind → Sender → Bool
may_send c from.Network (sender.Network net) = true
may_send c from.Network (sender.Party id) = false
may_send c from.Application (sender.Network net) = false
may_send c from.Application (sender.Party id) = is_some (application_named c id)
may_send c from.Gateway (sender.Network net) = false
may_send c from.Gateway (sender.Party id) = has_gateway id c.gateways
may_send c from.Nobody sender = false

-- the network of this NetID
abbrev pub is_net : ℕ → Sender → Bool
is_net net (sender.Network own) = own == net
is_net net (sender.Party id) = false

-- the application of this name
abbrev pub is_app : Eui → Sender → Bool
is_app app (sender.Network net) = false
is_app app (sender.Party id) = id.0 == app.0
