-- What a receiver is to a device, for an answer.
use Rattle.std.specs.Prelude.{ℕ, ◌==◌, ◌&&◌, nat_lt, Bool, false, if◌then◌else◌, Option, Some, None, option_map, slice_get}
use Rattle.wire_ids.specs.declared.eui.Eui.{Eui}
use Rattle.wire_ids.specs.declared.moment.Moment.{Moment}
use Rattle.wire_ids.specs.declared.party.Sender.{Sender}
use Rattle.wire_ids.specs.declared.party.Sender.TheVariants.{Network, Party}
use Rattle.agreements.specs.Walk.{Config}
use Rattle.agreements.specs.declared.rows.DeviceRow.{DeviceRow}
use Rattle.entitlement.specs.declared.roles.AnswerKind.{AnswerKind}
use Rattle.entitlement.specs.declared.roles.AnswerKind.TheVariants.{JoinAns, RejoinAns, HRStartAns, PRStartAns, AppSKeyAns}
use Rattle.entitlement.specs.declared.roles.Facts.{Facts}
use Rattle.entitlement.specs.declared.roles.Role.{Role}
use Rattle.entitlement.specs.declared.roles.Role.TheVariants.{Home, Serving, Forwarding, Application, Stranger}

-- the device is lent to the network, until later than now
abbrev pub is_lent : ℕ → Option (ℕ × Moment) → Moment → Bool
is_lent net (Some lent) now = lent.0 == net && nat_lt now.0 lent.1.0
is_lent net None now = false

-- a passive session was granted, until later than now
abbrev pub is_granted : Option Moment → Moment → Bool
is_granted (Some until) now = nat_lt now.0 until.0
is_granted None now = false

-- Home: the device row's home. Serving: the device is lent to it. Forwarding: a granted session lasts.
abbrev pub network_role : DeviceRow → Facts → ℕ → AnswerKind → Role
network_role row facts net JoinAns = if row.home == net then Home else Stranger
network_role row facts net RejoinAns = if row.home == net then Home else Stranger
network_role row facts net HRStartAns = if is_lent net facts.lent facts.now then Serving else Stranger
network_role row facts net PRStartAns = if is_granted facts.granted facts.now then Forwarding else Stranger
network_role row facts net asked = Stranger

-- Application: the device row's application
abbrev pub party_role : DeviceRow → Eui → AnswerKind → Role
party_role row id AppSKeyAns = if row.app.0 == id.0 then Application else Stranger
party_role row id asked = Stranger

abbrev pub role : DeviceRow → Facts → Sender → AnswerKind → Role
role row facts (Network net) asked = network_role row facts net asked
role row facts (Party id) asked = party_role row id asked

-- for the device of this number
abbrev pub role_of : Config → Facts → ℕ → Sender → AnswerKind → Option Role
role_of c facts device sender asked = option_map (λ (row : DeviceRow). role row facts sender asked) (slice_get c.devices device)
