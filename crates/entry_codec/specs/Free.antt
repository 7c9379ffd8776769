-- The least free address of a network.
use Rattle.std.specs.Prelude.{◌≡◌, ℕ, ◌+◌, ◌<◌, ◌==◌, ◌&&◌, ◌||◌, zero, suc, List, length, slice_index_or, Option, Some, None, option_and_then, option_map, is_some, Bool, true, false, if◌then◌else◌}
use Rattle.wire_ids.specs.Addresses.{base_of, room_of}
use Rattle.wire_ids.specs.declared.address.DevAddr.{DevAddr}
use Rattle.contexts.specs.declared.context.Context.{Context}
use Rattle.contexts.specs.declared.slots.Slots.{Slots}
use Rattle.entry_codec.specs.LookUps.{asks_for, is_taken, slots_of, visitor_has}
use Rattle.entry_codec.specs.Machine.{Machine, is_open, visits}
use Rattle.entry_codec.specs.declared.parties.Holder.{Holder}
use Rattle.entry_codec.specs.declared.parties.OpenAsk.{OpenAsk}
use Rattle.entry_codec.specs.declared.parties.Visitor.{Visitor}

-- the least number from n on, among so many, that isn't taken
unfoldable pub free_from : (ℕ → Bool) → ℕ → ℕ → Option ℕ
free_from taken zero n = None
free_from taken (suc more) n = if taken n then free_from taken more (suc n) else Some n

-- the n-th address of a network is that of a context or of an open ask
abbrev pub is_number_taken : ℕ → Machine → ℕ → Bool
is_number_taken net m n = is_taken (record { 0 = base_of net + n }) m

-- the address of the least number that is free, where the network has one
unfoldable pub free_address : ℕ → Machine → Option ℕ
free_address net m = option_map (λ (n : ℕ). base_of net + n) (free_from (is_number_taken net m) (room_of net) 0)

-- ---- marks of a window of addresses

abbrev pub addr_of : ℕ → DevAddr
addr_of n = record { 0 = n }

-- a mark more for each address of the window that passes
abbrev pub Marks : ℕ → (DevAddr → Bool) → List Bool → List Bool → Type 0
Marks first has old new = (length new ≡ length old) × ((i : ℕ) → i < length old → slice_index_or new i false ≡ (slice_index_or old i false || has (addr_of (first + i))))

-- the marks are those of the addresses of the window that pass
abbrev pub AreMarks : ℕ → (DevAddr → Bool) → List Bool → Type 0
AreMarks first has marks = (i : ℕ) → i < length marks → slice_index_or marks i false ≡ has (addr_of (first + i))

abbrev pub is_the : DevAddr → DevAddr → Bool
is_the own addr = own.0 == addr.0

abbrev pub visitor_stays : ℕ → DevAddr → Visitor → Bool
visitor_stays at addr v = visits at v && visitor_has addr v

abbrev pub ask_stays : ℕ → DevAddr → OpenAsk → Bool
ask_stays at addr a = is_open at a && asks_for addr a

-- the address of the active context in whose place the pending one comes
abbrev pub slots_leave : Slots → Option DevAddr
slots_leave s = if is_some s.pending then option_map (λ (c : Context). c.addr) s.active else None

abbrev pub leaving : Option Holder → Machine → Option DevAddr
leaving who m = option_and_then slots_leave (slots_of who m)

-- how many addresses are looked at at once
abbrev pub window : ℕ
window = 10368

-- the first place of a window whose address doesn't pass
abbrev pub IsFirstFree : ℕ → (DevAddr → Bool) → Option ℕ → Type 0
IsFirstFree first has None = (i : ℕ) → i < window → has (addr_of (first + i)) ≡ true
IsFirstFree first has (Some n) = (n < window) × ((i : ℕ) → i < n → has (addr_of (first + i)) ≡ true) × (has (addr_of (first + n)) ≡ false)
