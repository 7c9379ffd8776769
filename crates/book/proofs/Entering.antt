-- The entries that a book writes fit, and each is a step.
use Rattle.std.proofs.Common.{◌≡◌, ℕ, zero, suc, ◌<◌, ◌≤◌, ◌^◌, List, [], ◌∷◌, length, map, Bool, true, false, Option, Some, None, refl, sym, ap, subst, ◌∙◌, arith, le-leb, lt-ltb, eqb-true}
use Rattle.std.proofs.lemmas.Bool.{eqb-false}
use Rattle.std.specs.Prelude.{IsTrue, ◌&&◌, ◌==◌, nat_le, nat_lt, not, slice_get}
use Rattle.wire_ids.specs.Decisions.{entry_of}
use Rattle.wire_ids.specs.Lists.{holds_of}
use Rattle.wire_ids.specs.declared.keys.RootKeys.{RootKeys}
use Rattle.agreements.specs.Walk.{Config}
use Rattle.entries.specs.declared.entry.Entry.{Entry}
use Rattle.entries.specs.declared.entry.Event.TheVariants as event
use Rattle.entry_codec.specs.Fits.{fits, fits_event, is_marked, is_time, names_there}
use Rattle.entry_codec.specs.Empty.{empty, new_device}
use Rattle.std.proofs.lemmas.List.{length-map}
use Rattle.entry_codec.specs.Machine.{Machine, after, lapse, ready, wakes}
use Rattle.entry_codec.specs.declared.device.Device.{Device}
use Rattle.entry_codec.proofs.Ready.{mark_lapse}
use Rattle.entry_codec.proofs.Stays.{stays-lapse, stays-ready}
use Rattle.roam_core.specs.Decided.{entry_in}
use Rattle.roam_core.specs.Desk.{Desk, IsStateOf, named}
use Rattle.roam_core.specs.Legal.{IsStep}
use Rattle.roam_core.specs.Lines.{line_decided, reaction}
use Rattle.roam_core.proofs.Outcomes.{accepted}
use Rattle.entry_codec.specs.Replay.{AllFit}
use Rattle.book.specs.Opening.{opening_at, tables_entry}
use Rattle.book.specs.Pages.{OneNeeds}
use Rattle.book.specs.Results.{mark_of, suspended_in}
use Rattle.book.proofs.Paging.{entries_after}

-- the entry of a body is the step of it
pub step_of : (c : Config) (keys : List RootKeys) (s : Desk) (body : List ℕ) (now : ℕ) (e : Entry) → (reaction c keys s body now).entry ≡ Some e → IsStep c keys s e e.event
unfolding reaction
step_of c keys s body now e made =
    let a = accepted c keys s body now e made in
    let x = entry_in a.head body now a.answer a.change in
    let here : entry_of (line_decided c keys s body now) ≡ Some x = made ∙ ap (λ (y : Entry). Some y) a.is_entry in
    subst (λ (y : Entry). IsStep c keys s y y.event) (sym a.is_entry) here

both : (a b : Bool) → IsTrue a → IsTrue b → IsTrue (a && b)
both true b h k = k
both false b h k = absurd cc

-- an event that names no pending context fits where it fits a state in which what has ended is gone
fits_quietly : (m : Machine) (e : Entry) → names_there e.event (lapse e.moment.0 m) ≡ true → IsTrue (is_time e.moment.0 m) → IsTrue (fits_event e.event (ready m e)) → IsTrue (fits m e)
unfolding fits
fits_quietly m e there time fit = both (is_time e.moment.0 m && names_there e.event (lapse e.moment.0 m)) (fits_event e.event (ready m e)) (both (is_time e.moment.0 m) (names_there e.event (lapse e.moment.0 m)) time there) fit

-- ---- openings

some_before : (n : ℕ) → 0 < n → IsTrue (nat_lt 0 n)
some_before n some = lt-ltb 0 n some

pub opened_fits : (m : Machine) (at : ℕ) → IsTrue (is_time at m) → 0 < m.entries → IsTrue (fits m (record { moment = record { 0 = at }; event = event.Opened }))
unfolding fits_event names_there
opened_fits m at time some =
    let e : Entry = record { moment = record { 0 = at }; event = event.Opened } in
    let same = (stays-ready m e).entries in
    fits_quietly m e refl time (some_before (ready m e).entries (omega (arith, some, same)))

pub tables_fit : (m : Machine) (text : List ℕ) (at : ℕ) → IsTrue (is_time at m) → m.entries ≡ 0 → IsTrue (fits m (record { moment = record { 0 = at }; event = event.Tables text }))
unfolding fits_event names_there
tables_fit m text at time none =
    let e : Entry = record { moment = record { 0 = at }; event = event.Tables text } in
    fits_quietly m e refl time (subst (λ (n : ℕ). IsTrue (n == 0)) (sym ((stays-ready m e).entries ∙ none)) refl)

-- ---- marks

not_true : (b : Bool) → (b ≡ true → ⊥) → IsTrue (not b)
not_true true h = absurd (h refl)
not_true false h = refl

not_false : (b : Bool) → (b ≡ false → ⊥) → IsTrue b
not_false true h = refl
not_false false h = absurd (h refl)

can_suspend : (o : Option Device) (d : Device) → o ≡ Some d → (suspended_in o ≡ true → ⊥) → IsTrue (holds_of (is_marked false) o)
can_suspend None d is no_mark = absurd cc
can_suspend (Some x) d is no_mark = not_true x.suspended no_mark

can_resume : (o : Option Device) (d : Device) → o ≡ Some d → (suspended_in o ≡ false → ⊥) → IsTrue (holds_of (is_marked true) o)
can_resume None d is no_mark = absurd cc
can_resume (Some x) d is no_mark = not_false x.suspended no_mark

pub mark_fits : (suspended : Bool) (m : Machine) (device at : ℕ) (d : Device) → IsTrue (is_time at m) → 0 < m.entries → slice_get m.devices device ≡ Some d → (suspended_in (slice_get m.devices device) ≡ suspended → ⊥) → IsTrue (fits m (mark_of suspended device at))
unfolding fits_event names_there ready wakes
mark_fits true m device at d time some there no_mark =
    let l = lapse at m in
    let same = (stays-lapse at m).entries in
    fits_quietly m (mark_of true device at) refl time (both (nat_lt 0 l.entries) (holds_of (is_marked false) (slice_get l.devices device)) (some_before l.entries (omega (arith, some, same)))
    (mark_lapse false at m device ∙ can_suspend (slice_get m.devices device) d there no_mark))
mark_fits false m device at d time some there no_mark =
    let l = lapse at m in
    let same = (stays-lapse at m).entries in
    fits_quietly m (mark_of false device at) refl time (both (nat_lt 0 l.entries) (holds_of (is_marked true) (slice_get l.devices device)) (some_before l.entries (omega (arith, some, same)))
    (mark_lapse true at m device ∙ can_resume (slice_get m.devices device) d there no_mark))

pub mark_step : (c : Config) (keys : List RootKeys) (s : Desk) (suspended : Bool) (device at : ℕ) → IsStep c keys s (mark_of suspended device at) (mark_of suspended device at).event
mark_step c keys s true device at = tt
mark_step c keys s false device at = tt

-- ---- time

pub time_at : (at : ℕ) (m : Machine) → m.moment ≤ at → at ≤ 2 ^ 53 → m.entries < 2 ^ 63 → IsTrue (is_time at m)
time_at at m from to few = both (nat_le m.moment at && nat_le at (2 ^ 53)) (nat_lt m.entries (2 ^ 63)) (both (nat_le m.moment at) (nat_le at (2 ^ 53)) (le-leb m.moment at from) (le-leb at (2 ^ 53) to)) (lt-ltb m.entries (2 ^ 63) few)

pub opening_fits : (m : Machine) (is_new : Bool) (text : List ℕ) (at : ℕ) → is_new ≡ (m.entries == 0) → m.moment ≤ at → at ≤ 2 ^ 53 → m.entries < 2 ^ 62 → AllFit m (opening_at is_new text at)
opening_fits m true text at new from to few =
    let none : m.entries ≡ 0 = eqb-true m.entries 0 (sym new) in
    let e = tables_entry text at in
    let one = entries_after m e in
    (tables_fit m text at (time_at at m from to (omega (arith, few))) none, (opened_fits (after m e) at (time_at at (after m e) (omega arith) to (omega (arith, one, none))) (omega (arith, one)), tt))
opening_fits m false text at new from to few =
    (opened_fits m at (time_at at m from to (omega (arith, few))) (not_zero m.entries (sym new)), tt)
  where
    not_zero : (n : ℕ) → (n == 0) ≡ false → 0 < n
    not_zero n other = let differs = eqb-false n 0 other in omega (arith, differs)

pub one_needs : (is_new : Bool) (text : List ℕ) (at : ℕ) → OneNeeds (opening_at is_new text at)
one_needs true text at = (refl, tt)
one_needs false text at = tt

some_there : (ds : List Device) (i : ℕ) → i < length ds → slice_get ds i ≡ None → ⊥
some_there [] i below none = absurd (omega (arith, below))
some_there (d ∷ ds) zero below none = absurd cc
some_there (d ∷ ds) (suc i) below none = some_there ds i (omega (arith, below)) none

-- a device of the tables is one of the state
pub device_at : (c : Config) (m : Machine) (device : ℕ) → IsStateOf c m → device < length c.devices → (d : Device) × (slice_get m.devices device ≡ Some d)
unfolding empty
device_at c m device state within =
    let first = map (new_device c.desk.net_id) c.devices in
    let rows : length (map named m.devices) ≡ length m.devices = length-map m.devices named in
    let same : length (map named m.devices) ≡ length (map named first) = ap length state.devices in
    let firsts : length (map named first) ≡ length first = length-map first named in
    let all : length first ≡ length c.devices = length-map c.devices (new_device c.desk.net_id) in
    found (slice_get m.devices device) refl (omega (arith, rows, same, firsts, all, within))
  where
    found : (o : Option Device) → slice_get m.devices device ≡ o → device < length m.devices → (d : Device) × (slice_get m.devices device ≡ Some d)
    found None none below = absurd (some_there m.devices device below none)
    found (Some d) is below = (d, is)
