-- What a record that is added leaves, step by step.
use Rattle.std.proofs.Common.{◌≡◌, inl, inr, ℕ, zero, suc, ◌+◌, ◌^◌, ◌%◌, ◌<◌, ◌≤◌, List, [], ◌∷◌, ◌++◌, length, get_or, set, take, Option, Some, refl, sym, ◌∙◌, ap, subst, arith, append_assoc, length-append, length-take, get_or-set_same, get_or-set_other}
use Rattle.std.proofs.lemmas.List.{take_at, length_push}
use Rattle.std.proofs.lemmas.Bool.{cases_eq}
use Rattle.disk_model.specs.Disk.{Only, LeavesOnly}
use Rattle.disk_model.proofs.Moments.{weaker}
use Rattle.disk_journal.specs.Format.{size_field, kept, journal_of, IsFront, Begins, IsOpened}
use Rattle.disk_journal.specs.Journal.{MayHave, HasGate, HasRecords, AtRest, InDoubt, WithOrWithout, place}
use Rattle.disk_journal.specs.Keeps.{Keeps}
use Rattle.disk_journal.proofs.Records.{front_kept, front_record, journal_shut, length-size_field}
use Rattle.disk_journal.proofs.Writes.{begins_less, begins_long, front_of}

-- a place among records does not move when more are added
pub place_more : (k : ℕ) (records more : List (List ℕ)) → k ≤ length records → place k (records ++ more) ≡ place k records
place_more zero records more le = refl
place_more (suc k) [] more le = absurd (omega arith)
place_more (suc k) (body ∷ records) more le = ap (λ (n : ℕ). 5 + length body + n) (place_more k records more (omega arith))

pub place_last : (records : List (List ℕ)) (body : List ℕ) → place (suc (length records)) (records ++ body ∷ []) ≡ 5 + length body + place (length records) records
place_last [] body = refl
place_last (first ∷ records) body = omega (arith, place_last records body)

-- contents with one front
module _ (end count : ℕ) (places c d : List ℕ) (has : HasRecords end count places c) (begins : Begins (take end c) d) (long : end < length d) where
  end_is : length (take end c) ≡ end
  end_is = omega (arith, length-take end c, has.within)

  pub same_front : take end d ≡ take end c
  same_front = ap (λ (n : ℕ). take n d) (sym end_is) ∙ front_of (take end c) d begins

  pub same_kept : kept end d ≡ kept end c
  unfolding kept
  same_kept = let same = same_front in grind (arith)

  pub still_has : HasRecords end count places d
  still_has = record {
    front = subst (λ (l : List ℕ). IsFront l (kept end d)) (sym same_front) (subst (λ (r : List (List ℕ)). IsFront (take end c) r) (sym same_kept) has.front);
    within = long;
    counts = has.counts ∙ ap (λ (r : List (List ℕ)). length r) (sym same_kept);
    ends = has.ends ∙ ap (λ (r : List (List ℕ)). place count r) (sym same_kept);
    placed = λ k lt near. has.placed k lt near ∙ ap (λ (r : List (List ℕ)). place k r) (sym same_kept);
  }

-- a record opened behind the front
pub opened_journal : (front : List ℕ) (records : List (List ℕ)) (body bytes : List ℕ) → IsFront front records → length body < 2 ^ 32 → IsOpened front body bytes → journal_of bytes ≡ Some (records ++ body ∷ [])
opened_journal front records body bytes is fits opened =
    let field = size_field (length body) in
    let more = 1 ∷ (field ++ body) in
    let grouped : bytes ≡ ((front ++ more) ++ 0 ∷ []) ++ opened.0 = opened.1 ∙ ap (λ (l : List ℕ). l ++ opened.0) (sym (append_assoc front more (0 ∷ []))) in
    journal_shut (front_record is body fits) bytes (0, (λ no. absurd (omega arith)), (opened.0, grouped))

pub may_have_journal : (front : List ℕ) (records : List (List ℕ)) (body bytes : List ℕ) → IsFront front records → length body < 2 ^ 32 → MayHave front body bytes → WithOrWithout records body bytes
may_have_journal front records body bytes is fits (inl shut) = inl (journal_shut is bytes shut)
may_have_journal front records body bytes is fits (inr opened) = inr (opened_journal front records body bytes is fits opened)

pub may_long : (front body bytes : List ℕ) → MayHave front body bytes → length front < length bytes
may_long front body bytes (inl shut) = omega (arith, begins_long (front ++ shut.0 ∷ []) bytes shut.2, length-append front (shut.0 ∷ []))
may_long front body bytes (inr opened) = omega (arith, begins_long (front ++ 1 ∷ (size_field (length body) ++ body ++ 0 ∷ [])) bytes opened, length-append front (1 ∷ (size_field (length body) ++ body ++ 0 ∷ [])))

pub may_begins : (front body bytes : List ℕ) → MayHave front body bytes → Begins front bytes
may_begins front body bytes (inl shut) = begins_less front (shut.0 ∷ []) bytes shut.2
may_begins front body bytes (inr opened) = begins_less front (1 ∷ (size_field (length body) ++ body ++ 0 ∷ [])) bytes opened

-- a run of calls on a journal, where each content keeps Q
module _ {D : Type 0} (seen : D → Option (List ℕ)) (images : D → List ℕ → Type 0) (moment : D → ℕ) (since : D → ℕ → List ℕ → Type 0) (end count : ℕ) (places body c : List ℕ) (has : HasRecords end count places c) (fits : length body < 2 ^ 32) where
  pub doubt : (Q : List ℕ → Type 0) → ((x : List ℕ) → Q x → MayHave (take end c) body x) → (old new : D) → Keeps seen images moment since Q old new → (d : List ℕ) → seen new ≡ Some d → InDoubt end count places (images new) body d
  doubt Q may old new keeps d told =
      let here : MayHave (take end c) body d = may d (keeps.shown d told) in
      let front_is = end_is end count places c d has (may_begins (take end c) body d here) (omega (arith, may_long (take end c) body d here, length-take end c, has.within)) in
      let long : end < length d = omega (arith, may_long (take end c) body d here, front_is) in
      let begins = may_begins (take end c) body d here in
      let same = sym (same_front end count places c d has begins long) in
      record {
        has = still_has end count places c d has begins long;
        shown = subst (λ (l : List ℕ). MayHave l body d) same here;
        each = λ x now. subst (λ (l : List ℕ). MayHave l body x) same (may x (keeps.each x now));
      }

  pub leaves : (Q : List ℕ → Type 0) → ((x : List ℕ) → Q x → MayHave (take end c) body x) → (old new : D) → Keeps seen images moment since Q old new → LeavesOnly moment since old new (WithOrWithout (kept end c) body)
  leaves Q may old new keeps = weaker moment since old new Q (WithOrWithout (kept end c) body) (λ x q. may_have_journal (take end c) (kept end c) body x has.front fits (may x q)) keeps.leaves

  -- the same records are kept
  pub keeps_records : (Q : List ℕ → Type 0) → ((x : List ℕ) → Q x → MayHave (take end c) body x) → (old new : D) → Keeps seen images moment since Q old new → (d : List ℕ) → seen new ≡ Some d → kept end d ≡ kept end c
  keeps_records Q may old new keeps d told =
      let here : MayHave (take end c) body d = may d (keeps.shown d told) in
      let long : end < length d = omega (arith, may_long (take end c) body d here, length-take end c, has.within) in
      same_kept end count places c d has (may_begins (take end c) body d here) long

-- what stands at first, behind a closed gate
pub shut_may : (front body : List ℕ) (gate : ℕ) → (gate ≡ 1 → ⊥) → (x : List ℕ) → Begins (front ++ gate ∷ []) x → MayHave front body x
shut_may front body gate shut x begins = inl (gate, shut, begins)

-- what stands there once the record is staged, whatever the gate is
pub gate_may : (front body rest : List ℕ) → (x : List ℕ) → HasGate front (size_field (length body) ++ body ++ 0 ∷ rest) x → MayHave front body x
gate_may front body rest x has = elim (cases_eq has.0 1) [
  | inl is_open ↦
      let field = size_field (length body) in
      let grouped : field ++ body ++ 0 ∷ rest ≡ (field ++ body ++ 0 ∷ []) ++ rest = sym (append_assoc (field ++ body) (0 ∷ []) rest) in
      inr (rest, has.1 ∙ ap (λ (n : ℕ). front ++ n ∷ (field ++ body ++ 0 ∷ rest)) is_open ∙ ap (λ (l : List ℕ). front ++ 1 ∷ l) grouped ∙ sym (append_assoc front (1 ∷ (field ++ body ++ 0 ∷ [])) rest))
  | inr shut ↦ inl (has.0, shut, ((size_field (length body) ++ body ++ 0 ∷ rest), has.1 ∙ sym (append_assoc front (has.0 ∷ []) (size_field (length body) ++ body ++ 0 ∷ rest))))
]

-- the staged bytes as a gate and what stands behind it
pub staged_gate : (front body : List ℕ) (gate : ℕ) (d : List ℕ) → (begins : Begins ((front ++ gate ∷ []) ++ size_field (length body) ++ body ++ 0 ∷ []) d) → d ≡ front ++ gate ∷ (size_field (length body) ++ body ++ 0 ∷ begins.0)
staged_gate front body gate d begins = begins.1 ∙ simp append_assoc

-- the record is on the disk
module _ (end count : ℕ) (places body c : List ℕ) (has : HasRecords end count places c) (fits : length body < 2 ^ 32) (rest : List ℕ) (images : List ℕ → Type 0) where
  abbrev field : List ℕ
  field = size_field (length body)

  abbrev after : List ℕ
  after = take end c ++ 1 ∷ (field ++ body ++ 0 ∷ rest)

  abbrev longer : List ℕ
  longer = take end c ++ 1 ∷ (field ++ body)

  split : after ≡ longer ++ 0 ∷ rest
  split = simp append_assoc

  length-longer : length longer ≡ end + length body + 5
  length-longer = omega (arith, length-append (take end c) (1 ∷ (field ++ body)), length-append field body, length-size_field (length body), length-take end c, has.within)

  front_is : take (end + length body + 5) after ≡ longer
  front_is = ap (λ (l : List ℕ). take (end + length body + 5) l) split ∙ take_at longer (0 ∷ rest) (end + length body + 5) length-longer

  is_front : IsFront longer (kept end c ++ body ∷ [])
  is_front = front_record has.front body fits

  pub kept_more : kept (end + length body + 5) after ≡ kept end c ++ body ∷ []
  unfolding kept
  kept_more = let same = front_is in let is = front_kept is_front in grind arith

  places_are : (new : List ℕ) → new ≡ set places (count % 2048) end → length places ≡ 2048 → (k : ℕ) → k < count + 1 → count + 1 ≤ k + 2048 → get_or new (k % 2048) 0 ≡ place k (kept end c ++ body ∷ [])
  places_are new is size k lt near = elim (cases_eq k count) [
    | inl last ↦
        let mods : k % 2048 ≡ count % 2048 = ap (λ (n : ℕ). n % 2048) last in
        let inside : count % 2048 < length places = omega (arith, size) in
        let at : get_or new (k % 2048) 0 ≡ end = ap (λ (n : ℕ). get_or new n 0) mods ∙ ap (λ (l : List ℕ). get_or l (count % 2048) 0) is ∙ get_or-set_same places (count % 2048) end 0 inside in
        at ∙ has.ends ∙ ap (λ (n : ℕ). place n (kept end c)) (sym last) ∙ sym (place_more k (kept end c) (body ∷ []) (omega (arith, last, has.counts)))
    | inr before ↦
        let apart : k % 2048 ≡ count % 2048 → ⊥ = λ same. absurd (omega (arith, same, before, lt, near)) in
        let small : k < count = omega (arith, before, lt) in
        ap (λ (l : List ℕ). get_or l (k % 2048) 0) is ∙ get_or-set_other places (count % 2048) (k % 2048) end 0 apart ∙ has.placed k small (omega (arith, near)) ∙ sym (place_more k (kept end c) (body ∷ []) (omega (arith, small, has.counts)))
  ]

  pub at_rest_more : (new : List ℕ) → new ≡ set places (count % 2048) end → length places ≡ 2048 → Only images after → AtRest (end + length body + 5) (count + 1) new images after
  at_rest_more new is size only = record {
    has = record {
      front = subst (λ (l : List ℕ). IsFront l (kept (end + length body + 5) after)) (sym front_is) (subst (λ (r : List (List ℕ)). IsFront longer r) (sym kept_more) is_front);
      within = omega (arith, ap length split, length-append longer (0 ∷ rest), length-longer);
      counts = omega (arith, ap (λ (r : List (List ℕ)). length r) kept_more, length_push (kept end c) body, has.counts);
      ends =
          let last : count + 1 ≡ suc (length (kept end c)) = omega (arith, has.counts) in
          let before : end ≡ place (length (kept end c)) (kept end c) = has.ends ∙ ap (λ (n : ℕ). place n (kept end c)) has.counts in
          omega (arith, place_last (kept end c) body, before, ap (λ (n : ℕ). place n (kept (end + length body + 5) after)) last, ap (λ (r : List (List ℕ)). place (suc (length (kept end c))) r) kept_more);
      placed = λ k lt near. places_are new is size k lt near ∙ ap (λ (r : List (List ℕ)). place k r) (sym kept_more);
    };
    shut = (0, (λ no. absurd (omega arith)), (rest, ap (λ (l : List ℕ). l) split ∙ sym (append_assoc longer (0 ∷ []) rest) ∙ ap (λ (l : List ℕ). (l ++ 0 ∷ []) ++ rest) (sym front_is)));
    durable = only;
  }
