-- What an append leaves at each of its ends, from what its two steps ensure.
use Rattle.std.proofs.Common.{◌≡◌, inl, inr, ℕ, ◌+◌, ◌^◌, ◌%◌, ◌<◌, List, [], ◌∷◌, ◌++◌, length, set, take, Option, Some, None, sym, ◌∙◌, ap, subst, append_assoc, arith, length-append, length-take}
use Rattle.std.specs.Option.{option_map}
use Rattle.std.proofs.lemmas.Option.{same_Some, none-some}
use Rattle.disk_model.specs.Disk.{WhereTold, Only, LeavesOnly}
use Rattle.disk_model.proofs.Moments.{started, then}
use Rattle.disk_journal.specs.Format.{size_field, kept, journal_of, Begins}
use Rattle.disk_journal.specs.Journal.{MayHave, HasGate, IsStaged, AtRest, InDoubt, WithOrWithout, history}
use Rattle.disk_journal.specs.Keeps.{Keeps}
use Rattle.disk_journal.proofs.Results.{mapped, told_or}
use Rattle.disk_journal.proofs.Records.{journal_shut}
use Rattle.disk_journal.proofs.Put.{doubt, leaves, opened_journal, keeps_records, shut_may, gate_may, staged_gate, at_rest_more, kept_more}

-- a run of calls behind which a record is in doubt
pub record Doubtful {D : Type 0} (seen : D → Option (List ℕ)) (images : D → List ℕ → Type 0) (moment : D → ℕ) (since : D → ℕ → List ℕ → Type 0) (end count : ℕ) (places body c : List ℕ) (old new : D) : Type 0 where
  pub in_doubt : (d : List ℕ) → seen new ≡ Some d → InDoubt end count places (images new) body d
  pub same : (d : List ℕ) → seen new ≡ Some d → kept end d ≡ kept end c
  pub told : (d : List ℕ) × (seen new ≡ Some d)
  pub only : LeavesOnly moment since old new (WithOrWithout (kept end c) body)

-- before any call of an append
pub at_start : {D : Type 0} (images : D → List ℕ → Type 0) (moment : D → ℕ) (since : D → ℕ → List ℕ → Type 0) (end count : ℕ) (places body c : List ℕ) (old : D) → AtRest end count places (images old) c
    → ((x : List ℕ) → since old (moment old) x → images old x) → LeavesOnly moment since old old (WithOrWithout (kept end c) body)
at_start images moment since end count places body c old rests only_now =
    started moment since old (WithOrWithout (kept end c) body) (λ x left. inl (ap journal_of (rests.durable x (only_now x left)) ∙ journal_shut rests.has.front c rests.shut))

module _ {D : Type 0} (seen : D → Option (List ℕ)) (images : D → List ℕ → Type 0) (moment : D → ℕ) (since : D → ℕ → List ℕ → Type 0) (end count : ℕ) (places body : List ℕ) (fits : length body < 2 ^ 32) (old : D) where
  module _ (c : List ℕ) (told : seen old ≡ Some c) (rests : AtRest end count places (images old) c) where
    abbrev gate : ℕ
    gate = rests.shut.0

    abbrev front : List ℕ
    front = take end c ++ gate ∷ []

    end_is : length (take end c) ≡ end
    end_is = omega (arith, length-take end c, rests.has.within)

    pub front_is : length front ≡ end + 1
    front_is = omega (arith, length-append (take end c) (gate ∷ []), end_is)

    from_keeps : (Q : List ℕ → Type 0) → ((x : List ℕ) → Q x → MayHave (take end c) body x) → (mid new : D) → LeavesOnly moment since old mid (WithOrWithout (kept end c) body) → Keeps seen images moment since Q mid new → Doubtful seen images moment since end count places body c old new
    from_keeps Q may mid new before keeps = record {
      in_doubt = doubt seen images moment since end count places body c rests.has fits Q may mid new keeps;
      same = keeps_records seen images moment since end count places body c rests.has fits Q may mid new keeps;
      told = keeps.told;
      only = then moment since old mid new (WithOrWithout (kept end c) body) before (leaves seen images moment since end count places body c rests.has fits Q may mid new keeps);
    }

    module _ (mid : D) (stage_keeps : WhereTold (seen old) (λ c. (front : List ℕ) → length front ≡ end + 1 → Begins front c → Only (images old) c → Keeps seen images moment since (Begins front) old mid)) where
      staging : Keeps seen images moment since (Begins front) old mid
      staging = stage_keeps c told front front_is rests.shut.2 rests.durable

      before : LeavesOnly moment since old mid (WithOrWithout (kept end c) body)
      before = leaves seen images moment since end count places body c rests.has fits (Begins front) (shut_may (take end c) body gate rests.shut.1) old mid staging

      pub after_stage : Doubtful seen images moment since end count places body c old mid
      after_stage = record {
        in_doubt = doubt seen images moment since end count places body c rests.has fits (Begins front) (shut_may (take end c) body gate rests.shut.1) old mid staging;
        same = keeps_records seen images moment since end count places body c rests.has fits (Begins front) (shut_may (take end c) body gate rests.shut.1) old mid staging;
        told = staging.told;
        only = before;
      }

      module _ (new : D)
          (staged : WhereTold (seen old) (λ c. (front : List ℕ) → length front ≡ end + 1 → Begins front c → (d : List ℕ) × (seen mid ≡ Some d) × Begins (front ++ size_field (length body) ++ body ++ 0 ∷ []) d × Only (images mid) d))
          (gate_keeps : WhereTold (seen mid) (λ c. (front rest : List ℕ) → length front ≡ end → HasGate front rest c → Only (images mid) c → Keeps seen images moment since (HasGate front rest) mid new)) where
        abbrev at_mid : (d : List ℕ) × (seen mid ≡ Some d) × Begins (front ++ size_field (length body) ++ body ++ 0 ∷ []) d × Only (images mid) d
        at_mid = staged c told front front_is rests.shut.2

        pub rest : List ℕ
        rest = at_mid.2.0

        abbrev behind : List ℕ
        behind = size_field (length body) ++ body ++ 0 ∷ at_mid.2.0

        gated : HasGate (take end c) behind at_mid.0
        gated = (gate, staged_gate (take end c) body gate at_mid.0 at_mid.2)

        opening : Keeps seen images moment since (HasGate (take end c) behind) mid new
        opening = gate_keeps at_mid.0 at_mid.1 (take end c) behind end_is gated at_mid.3

        pub after_gate : Doubtful seen images moment since end count places body c old new
        after_gate = from_keeps (HasGate (take end c) behind) (gate_may (take end c) body at_mid.2.0) mid new before opening

        -- from the fourth call on the record stands whole behind its gate
        pub staged_of : moment mid ≡ moment old + 4 → (x : List ℕ) → since new (moment old + 4) x → IsStaged (take end c) body x
        staged_of four x left =
            let has = opening.leaves.each x (subst (λ (t : ℕ). since new t x) (sym four) left) in
            (has.0, (at_mid.2.0, has.1 ∙ simp append_assoc))

        module _ (gate_set : WhereTold (seen mid) (λ c. (front rest : List ℕ) → length front ≡ end → HasGate front rest c → (seen new ≡ Some (front ++ 1 ∷ rest)) × Only (images new) (front ++ 1 ∷ rest))) where
          abbrev done : (seen new ≡ Some (take end c ++ 1 ∷ behind)) × Only (images new) (take end c ++ 1 ∷ behind)
          done = gate_set at_mid.0 at_mid.1 (take end c) behind end_is gated

          pub added : history seen new (end + length body + 5) ≡ Some (kept end c ++ body ∷ [])
          added = ap (option_map (kept (end + length body + 5))) done.0 ∙ ap Some (kept_more end count places body c rests.has fits at_mid.2.0 (images new))

          pub after_of : (x : List ℕ) → images new x → journal_of x ≡ Some (kept end c ++ body ∷ [])
          after_of x now = ap journal_of (done.1 x now) ∙ opened_journal (take end c) (kept end c) body (take end c ++ 1 ∷ behind) rests.has.front fits (at_mid.2.0, simp append_assoc)

          pub rests_again : (set_places : List ℕ) → set_places ≡ set places (count % 2048) end → length places ≡ 2048 → (d : List ℕ) → seen new ≡ Some d → AtRest (end + length body + 5) (count + 1) set_places (images new) d
          rests_again set_places is size d now =
              subst (AtRest (end + length body + 5) (count + 1) set_places (images new)) (same_Some (take end c ++ 1 ∷ behind) d (sym done.0 ∙ now))
              (at_rest_more end count places body c rests.has fits at_mid.2.0 (images new) set_places is size done.1)

  -- the clauses of a call whose record is in doubt
  module _ (new : D) (untold : seen old ≡ None → seen new ≡ None) (all : (c : List ℕ) → seen old ≡ Some c → Doubtful seen images moment since end count places body c old new) where
    pub doubt_of : WhereTold (seen new) (InDoubt end count places (images new) body)
    doubt_of = λ d now. elim (told_or (seen old)) [ inl none ↦ absurd (none-some d (sym (untold none) ∙ now)) | inr some ↦ (all some.0 some.1).in_doubt d now ]

    pub kept_of : history seen new end ≡ history seen old end
    kept_of = elim (told_or (seen old)) [
      | inl none ↦ ap (option_map (kept end)) (untold none ∙ sym none)
      | inr some ↦
          let is = all some.0 some.1 in
          ap (option_map (kept end)) is.told.1 ∙ ap Some (is.same is.told.0 is.told.1) ∙ sym (ap (option_map (kept end)) some.1)
    ]

    pub moments_of : WhereTold (history seen old end) (λ records. LeavesOnly moment since old new (WithOrWithout records body))
    moments_of = λ records is.
        let from = mapped (kept end) (seen old) records is in
        subst (λ (r : List (List ℕ)). LeavesOnly moment since old new (WithOrWithout r body)) from.2 (all from.0 from.1).only
