-- Pages with one entry more.
use Rattle.std.proofs.Common.{◌≡◌, ℕ, ◌+◌, ◌≤◌, ◌^◌, List, [], ◌∷◌, ◌++◌, Option, Some, None, refl, sym, ap, subst, ◌∙◌, leb-true}
use Rattle.std.specs.Prelude.{IsTrue, option_map, nat_le, nat_lt, ◌&&◌}
use Rattle.std.proofs.lemmas.Option.{none-some}
use Rattle.agreements.specs.Walk.{Config}
use Rattle.entries.specs.Entries.{decode_of}
use Rattle.entries.specs.declared.entry.Entry.{Entry}
use Rattle.entry_codec.specs.Empty.{empty}
use Rattle.entry_codec.specs.Fits.{fits, fits_event, is_time, names_there}
use Rattle.entry_codec.proofs.Bools.{and_left, and_right}
use Rattle.entry_codec.specs.Machine.{Machine, after, lapse, ready}
use Rattle.entry_codec.specs.State.{Stored, kept_after}
use Rattle.entry_codec.proofs.Stays.{stays-event, stays-ready}
use Rattle.keepers.specs.Keeper.{Image}
use Rattle.roam_core.specs.Desk.{Desk, IsStateOf, desk_after, desk_of}
use Rattle.roam_core.specs.Entering.{StatesStay}
use Rattle.book.specs.Pages.{IsPage, entry_in, page}
use Rattle.book.specs.Histories.{IsHistory}
use Rattle.book.specs.declared.draft.Draft.{Draft}
use Rattle.disk_model.specs.Disk.{WhereTold}
use Rattle.book.proofs.Growing.{told_more}

-- one more is counted
pub entries_after : (m : Machine) (e : Entry) → (after m e).entries ≡ m.entries + 1
entries_after m e = ap (λ n. n + 1) ((stays-event e.event (ready m e)).entries ∙ (stays-ready m e).entries)

pub first_entries : (c : Config) → (empty c).entries ≡ 0
unfolding empty
first_entries c = refl

pub first_moment : (c : Config) → (empty c).moment ≡ 0
unfolding empty
first_moment c = refl

-- an entry that fits is of a moment up to 2^53
pub in_time : (m : Machine) (e : Entry) → IsTrue (fits m e) → e.moment.0 ≤ 2 ^ 53
unfolding fits
in_time m e h = leb-true e.moment.0 (2 ^ 53) (and_right (nat_le m.moment e.moment.0) (nat_le e.moment.0 (2 ^ 53)) (and_left (nat_le m.moment e.moment.0 && nat_le e.moment.0 (2 ^ 53)) (nat_lt m.entries (2 ^ 63)) (and_left (is_time e.moment.0 m) (names_there e.event (lapse e.moment.0 m)) (and_left (is_time e.moment.0 m && names_there e.event (lapse e.moment.0 m)) (fits_event e.event (ready m e)) h))))

module _ {K : Type 0} (counted : K → ℕ) (rests : K → Type 0) (doubts : K → List ℕ → Type 0) (records_in : K → Image) (faults_in : K → ℕ) where
  pub page_more : (k new : K) (c : Config) (state next : Stored) (before tried : Option Draft) (r : List ℕ) (e : Entry)
      → IsPage records_in counted rests doubts (page records_in faults_in k c state before) → StatesStay
      → next.now ≡ after state.now e → next.kept ≡ kept_after state.now state.kept e
      → records_in new ≡ option_map (λ (rs : List (List ℕ)). rs ++ r ∷ []) (records_in k) → counted new ≡ counted k + 1 → rests new
      → decode_of r ≡ Some e → IsTrue (fits state.now e) → option_map entry_in tried ≡ None
      → IsPage records_in counted rests doubts (page records_in faults_in new c next tried)
  page_more k new c state next before tried r e p stay now kept added more rest one fit none =
      let is : desk_of next ≡ desk_after (desk_of state) e = λ i. record { now = now i; kept = kept i } in
      record {
        told = refl;
        history = subst (λ (d : Desk). WhereTold (records_in new) (λ rs. IsHistory c rs d)) (sym is) (told_more c (records_in k) (records_in new) (desk_of state) r e added one fit p.history);
        count = ap (λ (m : Machine). m.entries) now ∙ entries_after state.now e ∙ ap (λ n. n + 1) p.count ∙ sym more;
        time = subst (λ (m : Machine). m.moment ≤ 2 ^ 53) (sym now) (in_time state.now e fit);
        state = subst (λ (m : Machine). IsStateOf c m) (sym now) (stay.later c state.now e p.state);
        whole = λ h. rest;
        broken = λ d is. absurd (none-some d (sym none ∙ is));
      }
