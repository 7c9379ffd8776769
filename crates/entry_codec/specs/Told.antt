-- What open asks need so that whatever their peers answer fits.
use Rattle.std.specs.Prelude.{◌≡◌, ℕ, ◌==◌, ◌≤◌, List, ◌++◌, map, length, filter_map, Option, Some, None, option_map, Bool, true, false, IsTrue, if◌then◌else◌}
use Rattle.std.specs.List.{AllByRecursion, IsDistinct}
use Rattle.std.specs.Set.{is_member}
use Rattle.wire_ids.specs.declared.eui.Eui.{Eui}
use Rattle.wire_ids.specs.declared.party.Sender.{Sender}
use Rattle.agreements.specs.Walk.{Config}
use Rattle.entries.specs.declared.ask.AskKind.{AskKind}
use Rattle.entries.specs.declared.ask.AskKind.TheVariants as kind
use Rattle.entries.specs.declared.entry.Entry.{Entry}
use Rattle.entries.specs.declared.entry.Event.TheVariants as event
use Rattle.entry_codec.specs.Empty.{empty}
use Rattle.entry_codec.specs.LookUps.{home_among, is_among, peer_among}
use Rattle.entry_codec.specs.Machine.{Machine, after, visitor_number}
use Rattle.entry_codec.specs.Sound.{IsSound}
use Rattle.entry_codec.specs.declared.device.Device.{Device}
use Rattle.entry_codec.specs.declared.parties.OpenAsk.{OpenAsk}

-- an ask by which its device may come to visit: for its home, or to hand it over
abbrev pub is_for_visitor : AskKind → Bool
is_for_visitor kind.HomeNS = true
is_for_visitor kind.HRStart = true
is_for_visitor kind.PRStart = false
is_for_visitor kind.XmitData = false

abbrev pub hands_over : AskKind → Bool
hands_over kind.HomeNS = false
hands_over kind.HRStart = true
hands_over kind.PRStart = false
hands_over kind.XmitData = false

abbrev pub eui_number : Eui → ℕ
eui_number dev = dev.0

-- the DevEUI that a handover is asked for
abbrev pub handed_over : OpenAsk → Option ℕ
handed_over a = if hands_over a.target.kind then option_map eui_number a.target.dev_eui else None

-- the DevEUIs of visitors, and those of open asks for a handover
abbrev pub guests : Machine → List ℕ
guests m = map visitor_number m.visitors ++ filter_map handed_over m.asks

abbrev pub is_same : ℕ → ℕ → Bool
is_same a b = a == b

abbrev pub AllIn : List ℕ → List ℕ → Type 0
AllIn few many = (n : ℕ) → is_member is_same few n ≡ true → is_member is_same many n ≡ true

-- no list of different ones among them is longer
abbrev pub AtMostDifferent : ℕ → List ℕ → Type 0
AtMostDifferent most ns = (few : List ℕ) → IsDistinct is_same few → AllIn few ns → length few ≤ most

abbrev pub NamesNoHome : List Device → Option Eui → Type 0
NamesNoHome devices None = Unit {0}
NamesNoHome devices (Some dev) = home_among dev devices ≡ false

-- what one open ask needs of those that have a row and of the devices, which no entry changes
pub record CanBeTold (senders : List Sender) (devices : List Device) (a : OpenAsk) : Type 0 where
  pub sender : IsTrue (is_among senders a.sender)  -- its sender has a row
  pub peer : IsTrue (peer_among senders a.target.peer)  -- so has the network that it asks
  pub stranger : IsTrue (is_for_visitor a.target.kind) → NamesNoHome devices a.target.dev_eui  -- for a visitor, it names no home device

pub record AsksCanBeTold (m : Machine) : Type 0 where
  pub few_guests : AtMostDifferent 1024 (guests m)  -- each device that is handed over finds a place
  pub asks : AllByRecursion (CanBeTold m.senders m.devices) m.asks

-- it holds before the first entry, and after each opening of the desk
pub record OpenedCanBeTold : Type 0 where
  pub first : (c : Config) → AsksCanBeTold (empty c)
  pub opened : (m : Machine) (e : Entry) → IsSound m → e.event ≡ event.Opened → AsksCanBeTold (after m e)
