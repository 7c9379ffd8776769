-- What comes of opening a book.
use Rattle.std.proofs.Common.{◌≡◌, ◌≢◌, ◌↔◌, ◌<◌, ◌≤◌, ◌+◌, ℕ, List, [], length, Option, Some, None, Result, Err, refl, ap, subst, arith}
use Rattle.std.specs.Io.KnownBytes.{Consumes}
use Rattle.wire_ids.specs.Causes.{Rose}
use Rattle.line_reader.proofs.Hearings.{Consumes_none}
use Rattle.agreements.specs.Walk.{Config}
use Rattle.entries.specs.declared.entry.Entry.{Entry}
use Rattle.roam_core.specs.Desk.{Desk}
use Rattle.book.specs.Opening.{Opens, UnlessFailed}
use Rattle.book.specs.Pages.{IsTried, Page}
use Rattle.book.specs.declared.faults.BookFault.{BookFault}
use Rattle.book.specs.declared.faults.BookFault.TheVariants as book
use Rattle.desk_top.specs.Journals.{NotTaken, OpensTo, TellsBook, TellsBookStop}
use Rattle.desk_top.specs.Tasks.{Leaves}
use Rattle.desk_top.specs.declared.fault.Fault.{Fault}
use Rattle.desk_top.specs.declared.fault.Fault.TheVariants.{Usage, Refused, NoDevice, TablesRead, InputRead, Write, TooMuch, Journal, Memory}
use Rattle.desk_top.specs.declared.fault.Stop.{Stop}
use Rattle.desk_top.specs.declared.fault.Stop.TheVariants as stop

-- a keeper rests, or is in doubt about the entry that was tried
pub left_so : (rests : Type 0) (doubts : List ℕ → Type 0) (s : Desk) (spare : ℕ) (tried : Option Entry) → (tried ≡ None → rests) → ((e : Entry) → tried ≡ Some e → IsTried doubts s spare e) → Leaves rests doubts tried
left_so rests doubts s spare None whole broken = whole refl
left_so rests doubts s spare (Some e) whole broken = (broken e refl).doubt

pub opens_to : {K : Type 0} (fills : List (List ℕ) → ℕ → ℕ → Type 0) (c : Config) (text : List ℕ) (reading : ℕ) (rs : List (List ℕ)) (page : Page K) → Opens (fills rs) c text reading rs page → OpensTo fills c text reading rs page.desk page.records
opens_to fills c text reading rs page o = record { start = o.desk; read = o.read; leads = o.leads; records = o.records; room = o.room }

-- what holds unless the keeper failed
pub unless : (claim : Type 0) (fault : BookFault) → (fault ≡ book.KeeperFault → ⊥) → UnlessFailed claim fault → claim
unless claim book.KeeperFault not is = absurd (not refl)
unless claim (book.BadEntry n) not is = is
unless claim book.OtherTables not is = is
unless claim book.Full not is = is
unless claim book.Memory not is = is

-- what no fault of an opening tells
stop_tells : (fault : BookFault) (why : Stop) → TellsBookStop fault why → why ≡ stop.Failed → fault ≡ book.KeeperFault
stop_tells fault stop.Failed told is = told
stop_tells fault stop.Full told is = cc
stop_tells fault stop.OtherTables told is = cc
stop_tells fault (stop.NotAJournal line) told is = absurd told
stop_tells fault (stop.BadEntry line) told is = cc

pub tells_failed : (fault : BookFault) (e : Fault) → TellsBook fault e → e ≡ Journal stop.Failed → fault ≡ book.KeeperFault
tells_failed fault Usage told is = absurd told
tells_failed fault (Refused line) told is = absurd told
tells_failed fault (NoDevice line) told is = absurd told
tells_failed fault TablesRead told is = absurd told
tells_failed fault InputRead told is = absurd told
tells_failed fault Write told is = absurd told
tells_failed fault TooMuch told is = absurd told
tells_failed fault (Journal why) told is = stop_tells fault why told cc
tells_failed fault Memory told is = cc

stop_kept : (fault : BookFault) (why : Stop) → TellsBookStop fault why → why ≢ stop.Failed → fault ≡ book.KeeperFault → ⊥
stop_kept fault stop.Failed told not is = not refl
stop_kept fault stop.Full told not is = cc
stop_kept fault stop.OtherTables told not is = cc
stop_kept fault (stop.NotAJournal line) told not is = told
stop_kept fault (stop.BadEntry line) told not is = let bad = told.1 in cc

-- a fault that isn't told as the disk's isn't the keeper's
pub tells_kept : (fault : BookFault) (e : Fault) → TellsBook fault e → e ≢ Journal stop.Failed → fault ≡ book.KeeperFault → ⊥
tells_kept fault Usage told not is = told
tells_kept fault (Refused line) told not is = told
tells_kept fault (NoDevice line) told not is = told
tells_kept fault TablesRead told not is = told
tells_kept fault InputRead told not is = told
tells_kept fault Write told not is = told
tells_kept fault TooMuch told not is = told
tells_kept fault (Journal why) told not is = stop_kept fault why told (λ same. not (ap Journal same)) is
tells_kept fault Memory told not is = told is

-- none of these
abbrev pub IsOfBook : Fault → Type 0
IsOfBook Usage = ⊥
IsOfBook (Refused line) = ⊥
IsOfBook (NoDevice line) = ⊥
IsOfBook TablesRead = ⊥
IsOfBook InputRead = ⊥
IsOfBook Write = ⊥
IsOfBook TooMuch = ⊥
IsOfBook (Journal why) = Unit {0}
IsOfBook Memory = Unit {0}

pub tells_kind : (fault : BookFault) (e : Fault) → TellsBook fault e → IsOfBook e
tells_kind fault Usage told = absurd told
tells_kind fault (Refused line) told = absurd told
tells_kind fault (NoDevice line) told = absurd told
tells_kind fault TablesRead told = absurd told
tells_kind fault InputRead told = absurd told
tells_kind fault Write told = absurd told
tells_kind fault TooMuch told = absurd told
tells_kind fault (Journal why) told = tt
tells_kind fault Memory told = tt

pub no_read : (e : Fault) → IsOfBook e → e ≡ InputRead → ⊥
no_read e kind is = subst IsOfBook is kind

pub no_write : (e : Fault) → IsOfBook e → e ≡ Write → ⊥
no_write e kind is = subst IsOfBook is kind

pub no_much : (e : Fault) → IsOfBook e → e ≡ TooMuch → ⊥
no_much e kind is = subst IsOfBook is kind

pub took_none : (left : Option (List ℕ)) (limit : ℕ) (r : Result (Unit {0}) Fault) (e : Fault) → r ≡ Err e → IsOfBook e
    → (bytes : List ℕ) × Consumes left left bytes × ((r ≡ Err TooMuch) ↔ (limit < length bytes)) × (length bytes ≤ limit + 1)
took_none left limit r e is kind = ([], Consumes_none left, (λ much. absurd (no_much e kind (cc (is, much))), λ l. absurd (omega (arith, l))), omega arith)

-- ---- why a disk isn't taken

pub taken_kind : (content : Option (List ℕ)) (before now : ℕ) (e : Fault) → NotTaken content before now e → IsOfBook e
taken_kind content before now Usage why = absurd why
taken_kind content before now (Refused line) why = absurd why
taken_kind content before now (NoDevice line) why = absurd why
taken_kind content before now TablesRead why = absurd why
taken_kind content before now InputRead why = absurd why
taken_kind content before now Write why = absurd why
taken_kind content before now TooMuch why = absurd why
taken_kind content before now (Journal stop) why = tt
taken_kind content before now Memory why = tt

pub taken_failed : (content : Option (List ℕ)) (before now : ℕ) (e : Fault) → NotTaken content before now e → e ≡ Journal stop.Failed → Rose before now
taken_failed content before now e why is = subst (λ (x : Fault). NotTaken content before now x) is why
