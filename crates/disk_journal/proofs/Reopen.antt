-- A journal that is read again behind its kept end.
use Rattle.std.proofs.Common.{◌≡◌, inl, inr, ℕ, ◌+◌, ◌^◌, ◌%◌, ◌<◌, List, [], ◌∷◌, ◌++◌, length, set, take, drop, Option, Some, sym, ◌∙◌, ap, subst, arith, append_assoc, length-take}
use Rattle.std.specs.Option.{option_map}
use Rattle.disk_model.specs.Disk.{WhereTold, Only, LeavesOnly}
use Rattle.disk_journal.specs.Format.{size_field, kept, records_from, IsShut, IsOpened}
use Rattle.disk_journal.specs.Journal.{AtRest, InDoubt, WithOrWithout, history}
use Rattle.disk_journal.specs.Keeps.{Quiet}
use Rattle.disk_journal.specs.Behinds.{IsBehind}
use Rattle.disk_journal.specs.declared.behind.Behind.TheVariants.{Nothing, Tried, Other}
use Rattle.disk_journal.proofs.Results.{mapped}
use Rattle.disk_journal.proofs.Runs.{quiet_leaves}
use Rattle.disk_journal.proofs.Reading.{shut_reads, opened_reads}
use Rattle.disk_journal.proofs.Put.{may_have_journal, at_rest_more, kept_more}

module _ {D : Type 0} (seen : D → Option (List ℕ)) (images : D → List ℕ → Type 0) (moment : D → ℕ) (since : D → ℕ → List ℕ → Type 0) (end count : ℕ) (places tried : List ℕ) (fits : length tried < 2 ^ 32) (old new : D) (quiet : Quiet seen images moment since old new) (all : WhereTold (seen old) (InDoubt end count places (images old) tried)) where
  pub doubt_stays : WhereTold (seen new) (InDoubt end count places (images new) tried)
  doubt_stays = λ x now. let d = all x (sym quiet.same ∙ now) in record { has = d.has; shown = d.shown; each = λ y left. d.each y (quiet.none_new y left) }

  pub moments : ((x : List ℕ) → since old (moment old) x → images old x) → WhereTold (history seen old end) (λ records. LeavesOnly moment since old new (WithOrWithout records tried))
  moments only_now = λ records is.
      let from = mapped (kept end) (seen old) records is in
      let d = all from.0 from.1 in
      subst (λ (r : List (List ℕ)). LeavesOnly moment since old new (WithOrWithout r tried)) from.2
      (quiet_leaves seen images moment since (WithOrWithout (kept end from.0) tried) old new quiet only_now (λ x left. may_have_journal (take end from.0) (kept end from.0) tried x d.has.front fits (d.each x left)))

  pub same_history : history seen new end ≡ history seen old end
  same_history = ap (option_map (kept end)) quiet.same

  module _ (c : List ℕ) (told : seen old ≡ Some c) where
    abbrev doubt : InDoubt end count places (images old) tried c
    doubt = all c told

    end_is : length (take end c) ≡ end
    end_is = omega (arith, length-take end c, doubt.has.within)

    -- as the definition of the journal reads them
    shut_is : IsShut (take end c) c → records_from 0 (drop end c) ≡ []
    shut_is shut = shut_reads (take end c) c end end_is shut

    opened_is : IsOpened (take end c) tried c → records_from 0 (drop end c) ≡ tried ∷ []
    opened_is opened = opened_reads (take end c) tried c end end_is fits opened

    pub nothing : IsBehind Nothing end tried c → Only (images new) c → AtRest end count places (images new) c
    nothing behind only = elim doubt.shown [
      | inl shut ↦ record { has = doubt.has; shut = shut; durable = only }
      | inr opened ↦ absurd (cc (behind doubt.has.within, opened_is opened))
    ]

    pub the_record : IsBehind Tried end tried c → IsOpened (take end c) tried c
    the_record behind = elim doubt.shown [
      | inl shut ↦ absurd (cc (behind doubt.has.within, shut_is shut))
      | inr opened ↦ opened
    ]

    pub never_other : IsBehind Other end tried c → ⊥
    never_other behind = elim doubt.shown [
      | inl shut ↦ (behind doubt.has.within).0 (shut_is shut)
      | inr opened ↦ (behind doubt.has.within).1 (opened_is opened)
    ]

    module _ (behind : IsBehind Tried end tried c) where
      grouped : (opened : IsOpened (take end c) tried c) → c ≡ take end c ++ 1 ∷ (size_field (length tried) ++ tried ++ 0 ∷ opened.0)
      grouped opened = opened.1 ∙ simp append_assoc

      pub record_kept : kept (end + length tried + 5) c ≡ kept end c ++ tried ∷ []
      record_kept =
          let opened = the_record behind in
          ap (kept (end + length tried + 5)) (grouped opened) ∙ kept_more end count places tried c doubt.has fits opened.0 (images new)

      pub record_rests : (set_places : List ℕ) → set_places ≡ set places (count % 2048) end → length places ≡ 2048 → Only (images new) c → AtRest (end + length tried + 5) (count + 1) set_places (images new) c
      record_rests set_places is size only =
          let opened = the_record behind in
          let at = grouped opened in
          subst (AtRest (end + length tried + 5) (count + 1) set_places (images new)) (sym at)
          (at_rest_more end count places tried c doubt.has fits opened.0 (images new) set_places is size (λ x left. only x left ∙ at))

-- a record in doubt where the journal was only read
pub doubt_still : {D : Type 0} (seen : D → Option (List ℕ)) (images : D → List ℕ → Type 0) (end count : ℕ) (places tried : List ℕ) (old new : D) → seen new ≡ seen old → ((x : List ℕ) → images new x → images old x)
    → WhereTold (seen old) (InDoubt end count places (images old) tried) → WhereTold (seen new) (InDoubt end count places (images new) tried)
doubt_still seen images end count places tried old new same none_new all x now =
    let at = all x (sym same ∙ now) in
    record { has = at.has; shown = at.shown; each = λ y left. at.each y (none_new y left) }

-- a journal at rest that was only read
pub rest_stays : {D : Type 0} (seen : D → Option (List ℕ)) (images : D → List ℕ → Type 0) (end count : ℕ) (places : List ℕ) (old new : D) → seen new ≡ seen old → ((x : List ℕ) → images new x → images old x)
    → WhereTold (seen old) (AtRest end count places (images old)) → WhereTold (seen new) (AtRest end count places (images new))
rest_stays seen images end count places old new same none_new all x now =
    let at = all x (sym same ∙ now) in
    record { has = at.has; shut = at.shut; durable = λ y left. at.durable y (none_new y left) }
