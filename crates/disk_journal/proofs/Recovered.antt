-- What an opening leaves, step by step.
use Rattle.std.proofs.Common.{◌≡◌, inl, inr, ℕ, ◌+◌, ◌≤◌, List, [], ◌∷◌, ◌++◌, length, get_or, take, drop, Option, Some, None, refl, sym, ◌∙◌, ap, subst, arith, length-take}
use Rattle.std.proofs.lemmas.Option.{none-some, same_Some}
use Rattle.disk_model.specs.Disk.{LeavesOnly, Only, WhereTold}
use Rattle.disk_model.proofs.Moments.{weaker, then}
use Rattle.disk_journal.specs.Format.{journal_of, kept, mark, records_from}
use Rattle.disk_journal.specs.Walked.{IsForeign}
use Rattle.disk_journal.proofs.Records.{journal_shut}
use Rattle.std.proofs.lemmas.List.{get_or-take}
use Rattle.disk_journal.specs.Journal.{AtRest, HasGate, HasRecords, IsOneOf}
use Rattle.disk_journal.specs.Keeps.{Keeps, Quiet}
use Rattle.disk_journal.proofs.Results.{told_or}
use Rattle.disk_journal.proofs.Runs.{quiet_leaves}
use Rattle.disk_journal.proofs.Walking.{cut_journal, has_gate, closed_rests, short_journal}

module _ {D : Type 0} (seen : D → Option (List ℕ)) (images : D → List ℕ → Type 0) (moment : D → ℕ) (since : D → ℕ → List ℕ → Type 0) where
  -- calls that only look, before any others
  pub looked : (old new : D) → Quiet seen images moment since old new → ((x : List ℕ) → since old (moment old) x → images old x) → LeavesOnly moment since old new (IsOneOf (images old))
  looked old new quiet only_now = quiet_leaves seen images moment since (IsOneOf (images old)) old new quiet only_now (λ x now. (x, now, refl))

  -- and others behind them, which leave the same journal
  pub looked_then : (old mid new : D) (c : List ℕ) → Quiet seen images moment since old mid → ((x : List ℕ) → since old (moment old) x → images old x) → images old c → LeavesOnly moment since mid new (λ x. journal_of x ≡ journal_of c) → LeavesOnly moment since old new (IsOneOf (images old))
  looked_then old mid new c quiet only_now here second =
      then moment since old mid new (IsOneOf (images old)) (looked old mid quiet only_now) (weaker moment since mid new (λ x. journal_of x ≡ journal_of c) (IsOneOf (images old)) (λ x is. (c, here, is)) second)

  -- a disk of at most 17 bytes holds an empty journal at each moment
  pub fresh_moments : (old new : D) (c : List ℕ) → length c ≤ 17 → Keeps seen images moment since (λ x. length x ≤ 17) old new → LeavesOnly moment since old new (λ x. journal_of x ≡ journal_of c)
  fresh_moments old new c short keeps = weaker moment since old new (λ x. length x ≤ 17) (λ x. journal_of x ≡ journal_of c) (λ x le. short_journal x le ∙ sym (short_journal c short)) keeps.leaves

  -- the gate behind the records is closed
  module _ (old mid new : D) (quiet : Quiet seen images moment since old mid) (only_now : (x : List ℕ) → since old (moment old) x → images old x) (end count : ℕ) (places c : List ℕ) (told : seen old ≡ Some c) (only : Only (images old) c) (has : HasRecords end count places c) (is_open : get_or c end 0 ≡ 1) (none : records_from 0 (drop end c) ≡ []) where
    end_is : length (take end c) ≡ end
    end_is = omega (arith, length-take end c, has.within)

    gate : HasGate (take end c) (drop (end + 1) c) c
    gate = has_gate end count places c has

    still_only : Only (images mid) c
    still_only = λ x left. only x (quiet.none_new x left)

    pub closing : WhereTold (seen mid) (λ c. (front rest : List ℕ) → length front ≡ end → HasGate front rest c → Only (images mid) c → Keeps seen images moment since (HasGate front rest) mid new)
        → LeavesOnly moment since old new (λ x. journal_of x ≡ journal_of c)
    closing keeps =
        let journal = cut_journal end count places c has is_open none in
        let kept_gate = keeps c (quiet.same ∙ told) (take end c) (drop (end + 1) c) end_is gate still_only in
        let first = quiet_leaves seen images moment since (λ x. journal_of x ≡ journal_of c) old mid quiet only_now (λ x now. ap journal_of (only x now)) in
        let second = weaker moment since mid new (HasGate (take end c) (drop (end + 1) c)) (λ x. journal_of x ≡ journal_of c) (λ x is. journal x is ∙ sym (journal c gate)) kept_gate.leaves in
        then moment since old mid new (λ x. journal_of x ≡ journal_of c) first second

    module _ (set : WhereTold (seen mid) (λ c. (front rest : List ℕ) → length front ≡ end → HasGate front rest c → (seen new ≡ Some (front ++ 0 ∷ rest)) × Only (images new) (front ++ 0 ∷ rest))) where
      abbrev is_set : (seen new ≡ Some (take end c ++ 0 ∷ drop (end + 1) c)) × Only (images new) (take end c ++ 0 ∷ drop (end + 1) c)
      is_set = set c (quiet.same ∙ told) (take end c) (drop (end + 1) c) end_is gate

      pub closed_reads : (d : List ℕ) × (seen new ≡ Some d) × (journal_of c ≡ Some (kept end d))
      closed_reads = (take end c ++ 0 ∷ drop (end + 1) c, is_set.0, cut_journal end count places c has is_open none c gate ∙ ap Some (sym (closed_rests end count places c (images new) has is_set.1).1))

      pub closed_rest : (d : List ℕ) → seen new ≡ Some d → AtRest end count places (images new) d
      closed_rest d now = subst (AtRest end count places (images new)) (same_Some _ d (sym is_set.0 ∙ now)) (closed_rests end count places c (images new) has is_set.1).0

-- what holds where a disk told before, holds where it tells now
pub told_before : {A B : Type 0} (old : Option A) (new : Option B) (P : B → Type 0) → (old ≡ None → new ≡ None) → ((x : A) → old ≡ Some x → WhereTold new P) → WhereTold new P
told_before old new P untold all y now = elim (told_or old) [
  | inl none ↦ absurd (none-some y (sym (untold none) ∙ now))
  | inr some ↦ all some.0 some.1 y now
]

-- what begins as a journal does is not foreign
pub not_foreign : (c : List ℕ) → take 16 c ≡ mark → (place : ℕ) → IsForeign place c → ⊥
not_foreign c marked place foreign = foreign.other (sym (get_or-take 16 c place 0 foreign.within) ∙ ap (λ (l : List ℕ). get_or l place 0) marked)

-- a journal at rest has its records in each image
pub rest_journal : (end count : ℕ) (places c : List ℕ) (images : List ℕ → Type 0) → AtRest end count places images c → (x : List ℕ) → images x → journal_of x ≡ Some (kept end c)
rest_journal end count places c images rests x now = ap journal_of (rests.durable x now) ∙ journal_shut rests.has.front c rests.shut
