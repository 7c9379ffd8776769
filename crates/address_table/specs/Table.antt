-- A table of the owners of addresses.
use Rattle.std.specs.Prelude.{◌≡◌, ℕ, ◌+◌, ◌-◌, ◌<◌, ◌==◌, ◌||◌, ◌&&◌, nat_le, nat_lt, not, List, length, slice_index_or, Option, Some, None, is_some, option_and_then, Bool, true, false, if◌then◌else◌}
use Rattle.wire_ids.specs.declared.address.DevAddr.{DevAddr}
use Rattle.address_table.specs.declared.owner.Owner.{Owner}

abbrev pub window : ℕ
window = 10368

pub record Table : Type 0 where
  pub first : ℕ  -- the first address of the window
  pub cells : List (Option Owner)  -- of the addresses of the window, in their order
  pub strays : Bool  -- an address outside the window was put in

-- the address has a cell
abbrev pub is_within : DevAddr → Table → Bool
is_within addr t = nat_le t.first addr.0 && nat_lt (addr.0 - t.first) (length t.cells)

-- the place of its cell
abbrev pub place_of : DevAddr → Table → Option ℕ
place_of addr t = if is_within addr t then Some (addr.0 - t.first) else None

-- it is known who has the address, if anyone
unfoldable pub knows : DevAddr → Table → Bool
knows addr t = is_some (place_of addr t) || not t.strays

-- what stands in a cell
abbrev pub cell_at : List (Option Owner) → Option ℕ → Option Owner
cell_at cells None = None
cell_at cells (Some place) = slice_index_or cells place None

-- who has the address, where that is known
unfoldable pub owner_of : DevAddr → Table → Option Owner
owner_of addr t = cell_at t.cells (place_of addr t)

-- ---- free addresses

-- the address of a place
abbrev pub addr_at : ℕ → Table → DevAddr
addr_at place t = record { 0 = t.first + place }

-- the place of the address that leaves
abbrev pub place_left : Option DevAddr → Table → Option ℕ
place_left leaving t = option_and_then (λ (addr : DevAddr). place_of addr t) leaving

abbrev pub is_addr : DevAddr → Option DevAddr → Bool
is_addr addr None = false
is_addr addr (Some own) = own.0 == addr.0

-- the first free place, or the one that is left where it comes before
abbrev pub sooner : ℕ → Option ℕ → ℕ
sooner first None = first
sooner first (Some left) = if nat_lt left first then left else first

-- the address of a place has an owner, and isn't the one that leaves
abbrev pub is_held : Option DevAddr → Table → ℕ → Bool
is_held leaving t place = not (is_addr (addr_at place t) leaving) && is_some (owner_of (addr_at place t) t)

-- the first place of the window whose address isn't held
abbrev pub IsFirstFree : Option DevAddr → Table → Option ℕ → Type 0
IsFirstFree leaving t None = (i : ℕ) → i < window → is_held leaving t i ≡ true
IsFirstFree leaving t (Some n) = (n < window) × ((i : ℕ) → i < n → is_held leaving t i ≡ true) × (is_held leaving t n ≡ false)
