-- The lines that the program itself prints, with their ends.
use Rattle.std.specs.Prelude.{ℕ, List, [], ◌∷◌, ◌++◌, length, codes, Option, ◌⊎◌, Bool, true, false}
use Rattle.std.specs.Fmt.{decimal}
use Rattle.std.specs.Io.KnownBytes.{Appends}
use Rattle.wire_ids.specs.Causes.{Rose}
use Rattle.disk_model.specs.Written.{AppendsFront}
use Rattle.wire_ids.specs.Digits.{eui_digits}
use Rattle.wire_ids.specs.declared.eui.Eui.{Eui}
use Rattle.agreements.specs.Walk.{Config, fault_number, fault_path}
use Rattle.agreements.specs.declared.fault.TablesFault.{TablesFault}

-- the line was written, or a front of it where the sink failed
abbrev pub Prints : ℕ → ℕ → Option (List ℕ) → Option (List ℕ) → List ℕ → Type 0
Prints before now old new line = Appends old new line ⊎ (AppendsFront old new line × Rose before now)

-- this path, and `-` where there is none
abbrev pub path_or_dash : List ℕ → List ℕ
path_or_dash [] = codes "-"
path_or_dash (b ∷ bs) = b ∷ bs

-- what is printed of tables that are refused
abbrev pub refused_line : TablesFault → List ℕ
refused_line fault = ((codes "lwdesk: tables " ++ (decimal (fault_number fault) ++ codes " ")) ++ path_or_dash (fault_path fault)) ++ 10 ∷ []

-- what is printed of tables that are valid
abbrev pub counts_line : Config → List ℕ
counts_line c =
    codes "tables ok: devices " ++ (decimal (length c.devices)
    ++ (codes " networks " ++ (decimal (length c.networks)
    ++ (codes " applications " ++ (decimal (length c.applications)
    ++ (codes " gateways " ++ (decimal (length c.gateways)
    ++ (codes " agreements " ++ (decimal (length c.agreements) ++ codes "\n")))))))))

-- what is printed where a device that is to be marked has no row
abbrev pub no_device_line : Eui → List ℕ
no_device_line eui = (codes "lwdesk: no device " ++ eui_digits eui) ++ 10 ∷ []

-- what is printed of a disk that differs from a journal at this place
abbrev pub foreign_line : ℕ → List ℕ
foreign_line place = codes "lwdesk: not a journal at " ++ (decimal place ++ codes "\n")

-- what is printed of a journal whose entry of this number is none, or doesn't fit
abbrev pub bad_entry_line : ℕ → List ℕ
bad_entry_line number = codes "lwdesk: bad entry " ++ (decimal number ++ codes "\n")

-- what is printed of a device that was to be suspended, or resumed, and maybe was so before
abbrev pub marked_word : Bool → Bool → List ℕ
marked_word true false = codes "suspended "
marked_word true true = codes "already suspended "
marked_word false false = codes "resumed "
marked_word false true = codes "already open "

abbrev pub marked_line : Bool → Bool → Eui → List ℕ
marked_line suspended already eui = (marked_word suspended already ++ eui_digits eui) ++ 10 ∷ []
