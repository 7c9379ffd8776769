-- The walk: what a text's tables are, or the first fault on the way through it.
use Rattle.std.specs.Prelude.{◌≡◌, ℕ, nat_lt, if◌then◌else◌, List, [], ◌++◌, length, codes, Option, Some, None, is_some, Result, Ok, Err}
use Rattle.std.specs.Fmt.{decimal}
use Rattle.std.specs.List.{list_all}
use Rattle.std.specs.Str.{is_utf8}
use Rattle.toml.specs.Data.{Data, Members, get_member, as_table}
use Rattle.toml.specs.Parse.{parse_document}
use Rattle.agreements.specs.declared.fault.TablesFault.{TablesFault}
use Rattle.agreements.specs.declared.fault.TablesFault.TheVariants as fault
use Rattle.agreements.specs.declared.flaw.Why.{Why}
use Rattle.agreements.specs.declared.flaw.Why.TheVariants as why
use Rattle.agreements.specs.declared.flaw.Flaw.{Flaw}
use Rattle.agreements.specs.declared.key.Key.{Key}
use Rattle.agreements.specs.declared.unread.Unread.{Unread}
use Rattle.agreements.specs.declared.unread.Unread.TheVariants.{Refused, Memory}
use Rattle.agreements.specs.declared.rows.DeskRow.{DeskRow}
use Rattle.agreements.specs.declared.rows.NetworkRow.{NetworkRow}
use Rattle.agreements.specs.declared.rows.AgreementRow.{AgreementRow}
use Rattle.agreements.specs.declared.rows.JoinServerRow.{JoinServerRow}
use Rattle.agreements.specs.declared.sections.Sections.{Sections}
use Rattle.agreements.specs.Rows.{desk_in, network_in, agreement_in, join_server_in, application_in, gateway_in, device_in}
use Rattle.agreements.specs.Forms.{array_of}
use Rattle.agreements.specs.Keys.{key_name}
use Rattle.agreements.specs.Steps.{◌>>=◌, all_after, numbered}

-- what a text says: the desk's row, and the list of the rows of each other section
abbrev pub Config : Type 0
Config = Sections

abbrev pub key_path : Key → Option ℕ → List ℕ
key_path key None = key_name key
key_path key (Some place) = key_name key ++ (codes "[" ++ (decimal place ++ codes "]"))

-- `desk.key`, or `section[3].key`; an element of an array is `key[1]`
abbrev pub path_of : List ℕ → Option ℕ → List ℕ → List ℕ
path_of section None key = section ++ (codes "." ++ key)
path_of section (Some row) key = section ++ (codes "[" ++ (decimal row ++ (codes "]." ++ key)))

abbrev pub fault_of : Why → List ℕ → TablesFault
fault_of why.Missing path = fault.Missing path
fault_of why.BadValue path = fault.BadValue path
fault_of why.Twice path = fault.Twice path
fault_of why.NoSuch path = fault.NoSuch path

-- the fault of a row
abbrev pub fault_in : List ℕ → Option ℕ → Flaw → TablesFault
fault_in section row flaw = fault_of flaw.why (path_of section row (key_path flaw.key flaw.place))

-- a fault's number
abbrev pub fault_number : TablesFault → ℕ
fault_number fault.NotToml = 1
fault_number (fault.Missing path) = 2
fault_number (fault.BadValue path) = 3
fault_number (fault.Twice path) = 4
fault_number (fault.NoSuch path) = 5
fault_number (fault.TooMany path limit) = 6

-- where a fault is, empty where it has no place
abbrev pub fault_path : TablesFault → List ℕ
fault_path fault.NotToml = []
fault_path (fault.Missing path) = path
fault_path (fault.BadValue path) = path
fault_path (fault.Twice path) = path
fault_path (fault.NoSuch path) = path
fault_path (fault.TooMany path limit) = path

-- tables, of at most the limit
abbrev pub tables_within : List ℕ → ℕ → List Data → Result (List Data) TablesFault
tables_within section limit ds =
    if list_all (λ d. is_some (as_table d)) ds then (if nat_lt limit (length ds) then Err (fault.TooMany section limit) else Ok ds) else Err (fault.BadValue section)

abbrev pub array_within : List ℕ → ℕ → Option (List Data) → Result (List Data) TablesFault
array_within section limit None = Err (fault.BadValue section)
array_within section limit (Some ds) = tables_within section limit ds

-- the tables of a section, none where it isn't there
abbrev pub section_in : List ℕ → ℕ → Option Data → Result (List Data) TablesFault
section_in section limit None = Ok []
section_in section limit (Some d) = array_within section limit (array_of d)

-- the rows of a section, with the fault of a row at its number
abbrev pub in_section : {A : Type 0} → List ℕ → Result A (ℕ × Flaw) → Result A TablesFault
in_section section (Ok rows) = Ok rows
in_section section (Err at) = Err (fault_in section (Some at.0) at.1)

abbrev pub rows_in : {R : Type 0} → List ℕ → ℕ → (List R → Data → Result R Flaw) → Members → Result (List R) TablesFault
rows_in section limit row_in doc = do
  ds ← section_in section limit (get_member section doc)
  in_section section (all_after (numbered row_in) [] ds)

abbrev pub in_desk : {A : Type 0} → Result A Flaw → Result A TablesFault
in_desk (Ok row) = Ok row
in_desk (Err flaw) = Err (fault_in (codes "desk") None flaw)

abbrev pub desk_at : Option Data → Result DeskRow TablesFault
desk_at None = Err (fault.Missing (codes "desk"))
desk_at (Some d) = if is_some (as_table d) then in_desk (desk_in d) else Err (fault.BadValue (codes "desk"))

-- the applications, gateways and devices, after the sections before them
unfoldable pub parties_in : DeskRow → List NetworkRow → List AgreementRow → List JoinServerRow → Members → Result Config TablesFault
parties_in desk networks agreements join_servers doc = do
  applications ← rows_in (codes "application") 32 (application_in desk.join_euis join_servers networks) doc
  gateways ← rows_in (codes "gateway") 64 (gateway_in desk.join_euis join_servers applications) doc
  devices ← rows_in (codes "device") 4096 (device_in desk networks applications) doc
  Ok (record { desk = desk; networks = networks; agreements = agreements; join_servers = join_servers; applications = applications; gateways = gateways; devices = devices })

unfoldable pub tables_in : Members → Result Config TablesFault
tables_in doc = do
  desk ← desk_at (get_member (codes "desk") doc)
  networks ← rows_in (codes "network") 32 (network_in desk.net_id) doc
  agreements ← rows_in (codes "agreement") 32 (agreement_in networks) doc
  join_servers ← rows_in (codes "join_server") 32 (join_server_in desk.join_euis) doc
  parties_in desk networks agreements join_servers doc

-- the table that the bytes are
abbrev pub document_of : List ℕ → Option Members
document_of text = if is_utf8 text then parse_document text else None

abbrev pub tables_at : Option Members → Result Config TablesFault
tables_at None = Err fault.NotToml
tables_at (Some doc) = tables_in doc

-- the tables of a text, or the first fault
unfoldable pub tables_of : List ℕ → Result Config TablesFault
tables_of text = if nat_lt 4194304 (length text) then Err (fault.TooMany (codes "text") 4194304) else tables_at (document_of text)

-- the code's stop is this fault, or want of memory
abbrev pub IsFault : TablesFault → Unread TablesFault → Type 0
IsFault fault (Refused e) = e ≡ fault
IsFault fault Memory = Unit {0}
