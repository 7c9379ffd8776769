-- A history that is read record by record.
use Rattle.std.proofs.Common.{◌≡◌, ◌⊎◌, inl, inr, ℕ, ◌+◌, ◌<◌, ◌≤◌, List, [], ◌∷◌, ◌++◌, length, take, get_or, Some, refl, sym, ap, subst, ◌∙◌, arith}
use Rattle.std.specs.Prelude.{IsTrue, option_and_then}
use Rattle.std.proofs.lemmas.List.{take_all, take_more}
use Rattle.agreements.specs.Walk.{Config}
use Rattle.entries.specs.Entries.{decode_of}
use Rattle.entries.specs.declared.entry.Entry.{Entry}
use Rattle.entry_codec.specs.Fits.{fits}
use Rattle.roam_core.specs.Desk.{Desk, desk_after}
use Rattle.book.specs.Histories.{IsBad, IsHistory, kept_text, tables_text}
use Rattle.book.specs.Replays.{Fails, FailsAt, IsRead, IsReadTo, KeepsOther, KeepsText, OtherText, TakesIn}
use Rattle.book.specs.declared.faults.BookFault.{BookFault}
use Rattle.book.specs.declared.faults.BookFault.TheVariants as fault
use Rattle.book.proofs.Growing.{history_more}

first_kept : (rs : List (List ℕ)) (e : Entry) → 0 < length rs → decode_of (get_or rs 0 []) ≡ Some e → kept_text rs ≡ tables_text e.event
first_kept [] e some is = absurd (omega (arith, some))
first_kept (r ∷ rs) e some is = ap (option_and_then (λ (x : Entry). tables_text x.event)) is

history_next : (c : Config) (rs : List (List ℕ)) (k : ℕ) (s new : Desk) (e : Entry) → k < length rs → IsHistory c (take k rs) s → decode_of (get_or rs k []) ≡ Some e → IsTrue (fits s.now e) → new ≡ desk_after s e → IsHistory c (take (k + 1) rs) new
history_next c rs k s new e within h is fit leads =
    subst (λ (l : List (List ℕ)). IsHistory c l new) (sym (take_more rs k [] within))
    (subst (λ (d : Desk). IsHistory c (take k rs ++ get_or rs k [] ∷ []) d) (sym leads) (history_more c (take k rs) s (get_or rs k []) e h is fit))

begun_more : (text : List ℕ) (rs : List (List ℕ)) (k : ℕ) (e : Entry) → k < length rs → decode_of (get_or rs k []) ≡ Some e → (k ≡ 0 → tables_text e.event ≡ Some text) → (k ≡ 0) ⊎ (kept_text rs ≡ Some text) → kept_text rs ≡ Some text
begun_more text rs k e within is first (inl none) = first_kept rs e (omega (arith, within)) (subst (λ (n : ℕ). decode_of (get_or rs n []) ≡ Some e) none is) ∙ first none
begun_more text rs k e within is first (inr kept) = kept

pub read_more : (c : Config) (text : List ℕ) (rs : List (List ℕ)) (k : ℕ) (s new : Desk) → k < length rs → IsReadTo c text k rs s → TakesIn text k (get_or rs k []) s new → IsReadTo c text (k + 1) rs new
read_more c text rs k s new within h takes = (
  history_next c rs k s new takes.spells.entry within h.0 takes.spells.spelled takes.spells.fit takes.leads,
  inr (begun_more text rs k takes.spells.entry within takes.spells.spelled takes.first h.1),
)

pub fails_at : (c : Config) (text : List ℕ) (rs : List (List ℕ)) (k : ℕ) (s : Desk) (f : BookFault) → k < length rs → IsReadTo c text k rs s → FailsAt text k (get_or rs k []) s f → Fails c text rs f
fails_at c text rs k s fault.KeeperFault within h at = tt
fails_at c text rs k s (fault.BadEntry n) within h at =
    subst (λ (m : ℕ). IsBad c rs m × ((m ≡ 0) ⊎ (kept_text rs ≡ Some text))) (sym at.0) (record { within = within; desk = s; before = h.0; bad = at.1 }, h.1)
fails_at c text rs k s fault.OtherTables within h at = other at
  where
    other : OtherText text k (get_or rs k []) s → KeepsOther c text rs
    other o =
        let e = o.spells.entry in
        let spelled : decode_of (get_or rs 0 []) ≡ Some e = subst (λ (n : ℕ). decode_of (get_or rs n []) ≡ Some e) o.first o.spells.spelled in
        record {
          desk = desk_after s e;
          first = subst (λ (n : ℕ). IsHistory c (take (n + 1) rs) (desk_after s e)) o.first (history_next c rs k s (desk_after s e) e within h.0 o.spells.spelled o.spells.fit refl);
          other = o.other;
          keeps = first_kept rs e (omega (arith, within)) spelled ∙ o.keeps;
          differs = o.differs;
        }
fails_at c text rs k s fault.Full within h at = at
fails_at c text rs k s fault.Memory within h at = tt

nothing_left : (rs : List (List ℕ)) → length rs ≤ 0 → rs ≡ []
nothing_left [] few = refl
nothing_left (r ∷ rs) few = absurd (omega (arith, few))

pub all_read : (c : Config) (text : List ℕ) (rs : List (List ℕ)) (k : ℕ) (s : Desk) → length rs ≤ k → IsReadTo c text k rs s → IsRead c text rs s
all_read c text rs k s all h = (subst (λ (l : List (List ℕ)). IsHistory c l s) (take_all k rs all) h.0, begun h.1)
  where
    begun : (k ≡ 0) ⊎ (kept_text rs ≡ Some text) → KeepsText text rs
    begun (inl none) = inl (nothing_left rs (omega (arith, all, none)))
    begun (inr kept) = inr kept
