-- The first entry of a history keeps a tables text.
use Rattle.std.proofs.Common.{◌≡◌, ℕ, List, Some, true, false, refl, ◌∙◌, arith, ltb-true}
use Rattle.std.specs.Prelude.{IsTrue, nat_lt, ◌&&◌, slice_get}
use Rattle.entries.specs.declared.entry.Entry.{Entry}
use Rattle.entries.specs.declared.entry.Event.{Event}
use Rattle.entries.specs.declared.entry.Event.TheVariants as event
use Rattle.entry_codec.specs.Fits.{fits, fits_asked, fits_change, fits_event, fits_told, is_marked}
use Rattle.entry_codec.specs.LookUps.{is_sender}
use Rattle.entry_codec.specs.Machine.{Machine, ready}
use Rattle.wire_ids.specs.Lists.{holds_of}
use Rattle.entry_codec.proofs.Bools.{and_left}
use Rattle.entry_codec.proofs.Stays.{fits_its_event, stays-ready}
use Rattle.book.specs.Histories.{tables_text}

none_before : (n : ℕ) → n ≡ 0 → IsTrue (nat_lt 0 n) → ⊥
none_before n none some = let few = ltb-true 0 n some in absurd (omega arith)

first_at : (e : Event) (m : Machine) → m.entries ≡ 0 → IsTrue (fits_event e m) → (text : List ℕ) × (tables_text e ≡ Some text)
unfolding fits_event
first_at event.Opened m none fit = absurd (none_before m.entries none fit)
first_at (event.Tables text) m none fit = (text, refl)
first_at (event.Kept r c) m none fit = absurd (none_before m.entries none (and_left (nat_lt 0 m.entries) (is_sender r.sender m) (and_left (nat_lt 0 m.entries && is_sender r.sender m) (fits_change r.sender c m) fit)))
first_at (event.Asked a) m none fit = absurd (none_before m.entries none (and_left (nat_lt 0 m.entries) (fits_asked a m) fit))
first_at (event.Told t) m none fit = absurd (none_before m.entries none (and_left (nat_lt 0 m.entries) (fits_told t m) fit))
first_at (event.Suspend device) m none fit = absurd (none_before m.entries none (and_left (nat_lt 0 m.entries) (holds_of (is_marked false) (slice_get m.devices device)) fit))
first_at (event.Resume device) m none fit = absurd (none_before m.entries none (and_left (nat_lt 0 m.entries) (holds_of (is_marked true) (slice_get m.devices device)) fit))

pub first_keeps : (m : Machine) (e : Entry) → m.entries ≡ 0 → IsTrue (fits m e) → (text : List ℕ) × (tables_text e.event ≡ Some text)
first_keeps m e none fit = first_at e.event (ready m e) ((stays-ready m e).entries ∙ none) (fits_its_event m e fit)
