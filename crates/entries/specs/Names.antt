-- The spelling of names, moments, radio parameters and keys.
use Rattle.std.specs.Prelude.{ℕ, ◌==◌, if◌then◌else◌, List, None}
use Rattle.wire_ids.specs.declared.eui.Eui.{Eui}
use Rattle.wire_ids.specs.declared.address.DevAddr.{DevAddr}
use Rattle.wire_ids.specs.declared.moment.Moment.{Moment}
use Rattle.wire_ids.specs.declared.radio.Radio.{Radio}
use Rattle.wire_ids.specs.declared.keys.SessionKeys.{SessionKeys}
use Rattle.wire_ids.specs.declared.party.Sender.{Sender}
use Rattle.wire_ids.specs.declared.party.Sender.TheVariants as senders
use Rattle.wire_ids.specs.declared.party.PeerId.{PeerId}
use Rattle.wire_ids.specs.declared.party.PeerId.TheVariants as peers
use Rattle.wire_ids.specs.Forms.{Read, Form, u8, u24, u32, u64, arm, sum, optional, exactly, both, named}

abbrev pub eui : Form Eui
eui = named u64 (λ n. record { 0 = n }) (λ x. x.0)

abbrev pub dev_addr : Form DevAddr
dev_addr = named u32 (λ n. record { 0 = n }) (λ x. x.0)

-- seconds
abbrev pub moment : Form Moment
moment = named u64 (λ n. record { 0 = n }) (λ x. x.0)

abbrev pub radio : Form Radio
radio = named (both u8 (both u8 (optional (exactly 16))))
    (λ p. record { dl = p.0; rx_delay = p.1.0; cf = p.1.1 })
    (λ x. (x.dl, (x.rx_delay, x.cf)))

-- FNwkSIntKey, SNwkSIntKey, NwkSEncKey
abbrev pub session_keys : Form SessionKeys
session_keys = named (both (exactly 16) (both (exactly 16) (exactly 16)))
    (λ p. record { f = p.0; s = p.1.0; e = p.1.1 })
    (λ x. (x.f, (x.s, x.e)))

abbrev pub sender_tag : Sender → ℕ
sender_tag (senders.Network net) = 0
sender_tag (senders.Party party) = 1

abbrev pub sender_fields : Sender → List ℕ
sender_fields (senders.Network net) = u24.spell net
sender_fields (senders.Party party) = eui.spell party

abbrev pub sender_at : ℕ → List ℕ → Read Sender
sender_at tag bytes =
    if tag == 0 then arm u24 senders.Network bytes else (
    if tag == 1 then arm eui senders.Party bytes else None)

abbrev pub FitsSender : Sender → Type 0
FitsSender (senders.Network net) = u24.Fits net
FitsSender (senders.Party party) = eui.Fits party

unfoldable pub sender : Form Sender
sender = sum sender_tag sender_fields sender_at FitsSender

abbrev pub peer_tag : PeerId → ℕ
peer_tag (peers.Network net) = 0
peer_tag (peers.JoinServer server) = 1

abbrev pub peer_fields : PeerId → List ℕ
peer_fields (peers.Network net) = u24.spell net
peer_fields (peers.JoinServer server) = eui.spell server

abbrev pub peer_at : ℕ → List ℕ → Read PeerId
peer_at tag bytes =
    if tag == 0 then arm u24 peers.Network bytes else (
    if tag == 1 then arm eui peers.JoinServer bytes else None)

abbrev pub FitsPeerId : PeerId → Type 0
FitsPeerId (peers.Network net) = u24.Fits net
FitsPeerId (peers.JoinServer server) = eui.Fits server

unfoldable pub peer : Form PeerId
peer = sum peer_tag peer_fields peer_at FitsPeerId
