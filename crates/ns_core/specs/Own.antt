-- The context that the desk gives a device at home here: its address and its radio parameters.
use Rattle.std.specs.Prelude.{ℕ, slice_get, Option, Some, None, option_map, if◌then◌else◌}
use Rattle.wire_ids.specs.declared.radio.Radio.{Radio}
use Rattle.contexts.specs.declared.context.Context.{Context}
use Rattle.contexts.specs.declared.slots.Slots.{Slots}
use Rattle.agreements.specs.Walk.{Config}
use Rattle.agreements.specs.declared.rows.DeskRow.{DeskRow}
use Rattle.entries.specs.declared.change.OwnContext.{OwnContext}
use Rattle.entries.specs.declared.used_seed.UsedSeed.{UsedSeed}
use Rattle.entries.specs.declared.used_seed.UsedSeed.TheVariants.{Rejoin0, Rejoin1, Rejoin2}
use Rattle.entry_codec.specs.Devices.{is_from, uses_pending}
use Rattle.entry_codec.specs.Free.{free_address}
use Rattle.entry_codec.specs.Machine.{Machine, wake}
use Rattle.entry_codec.specs.declared.device.Device.{Device}
use Rattle.entry_codec.specs.declared.device.KeptSeed.{KeptSeed}
use Rattle.entry_codec.specs.declared.parties.Holder.{Holder}
use Rattle.entry_codec.specs.declared.parties.Holder.TheVariants as holder
use Rattle.js_core.specs.Found.{Found}

-- ---- radio parameters

abbrev pub desk_radio : DeskRow → Radio
desk_radio desk = record { dl = desk.dl_settings; rx_delay = desk.rx_delay; cf = desk.cf_list }

-- those of this context, where it began with the seed, else these
abbrev pub radio_in : KeptSeed → Option Context → Radio → Radio
radio_in kept None radio = radio
radio_in kept (Some c) radio = if is_from kept c then c.radio else radio

abbrev pub radio_under : Slots → Radio → Option KeptSeed → Radio
radio_under s radio None = radio
radio_under s radio (Some kept) = radio_in kept s.pending (radio_in kept s.active radio)

-- after a rejoin of type 2 those of the live context whose seed was used, where there is one, and else these
unfoldable pub radio_by : Option UsedSeed → Device → Radio → Radio
radio_by None d radio = radio
radio_by (Some (Rejoin0 place)) d radio = radio
radio_by (Some Rejoin1) d radio = radio
radio_by (Some (Rejoin2 place)) d radio = radio_under d.slots radio (slice_get d.seeds.items place)

-- ---- the address

abbrev pub waking : Option UsedSeed → Found → Option Holder
waking None f = None
waking (Some used) f = if uses_pending used f.kept then Some (holder.Device f.device) else None

-- the least address of the desk's network that no live context and no open ask has, once the context whose seed was used is active
unfoldable pub own_address : Config → Machine → Option UsedSeed → Found → Option ℕ
own_address c m used f = free_address c.desk.net_id (wake (waking used f) m)

abbrev pub own_with : Config → Option UsedSeed → Found → ℕ → OwnContext
own_with c used f addr = record { dev_addr = record { 0 = addr }; radio = radio_by used f.kept (desk_radio c.desk) }

-- none where no address is left
unfoldable pub own_context : Config → Machine → Option UsedSeed → Found → Option OwnContext
own_context c m used f = option_map (own_with c used f) (own_address c m used f)
