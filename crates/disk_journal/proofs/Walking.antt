-- Going through the records of a content.
use Rattle.std.proofs.Common.{◌≡◌, inl, inr, ℕ, suc, ◌+◌, ◌%◌, ◌<◌, ◌≤◌, List, [], ◌∷◌, ◌++◌, length, get_or, set, take, drop, Some, refl, sym, ◌∙◌, ap, subst, arith, append_assoc, length-append, length-drop, length-take, take-append-drop, get_or-set_same, get_or-set_other}
use Rattle.std.proofs.Math.Seq.{take-add}
use Rattle.std.proofs.lemmas.List.{append-nil, nil_from_length, drop_all, drop_more, drop-take, drop_at, drop-append-le, take_at, take-append-le, take-take, length_push}
use Rattle.std.specs.Int.{w32, from_be_bytes}
use Rattle.std.proofs.lemmas.Bool.{cases_eq, le-leb}
use Rattle.disk_journal.specs.Format.{mark, size, records_from, kept, journal_of, IsFront, IsShut}
use Rattle.std.specs.Str.{bytes_eq}
use Rattle.std.proofs.Common.{Bool, cond, None}
use Rattle.disk_model.specs.Disk.{Only}
use Rattle.disk_journal.specs.Format.{Begins}
use Rattle.disk_journal.specs.Walked.{IsFresh}
use Rattle.disk_journal.specs.Journal.{HasRecords, HasGate, AtRest, place}
use Rattle.disk_journal.specs.Behinds.{HasWhole}
use Rattle.disk_journal.proofs.Records.{skip, closed, whole, front_more, front_kept, journal_front}
use Rattle.disk_journal.proofs.Put.{place_more, place_last, same_front, same_kept, still_has}

-- at first there are no records
pub at_first : (places c : List ℕ) → 16 < length c → take 16 c ≡ mark → HasRecords 16 0 places c
unfolding kept
at_first places c long marked =
    let front_long : length (take 16 c) ≡ 16 = omega (arith, length-take 16 c, long) in
    let reads : (tail : List ℕ) → records_from 16 (take 16 c ++ tail) ≡ [] ++ records_from 0 tail = λ tail. skip 16 (take 16 c ++ tail) ∙ ap (records_from 0) (drop_at (take 16 c) tail 16 front_long) in
    let none : records_from 16 (take 16 c ++ 0 ∷ []) ≡ [] = reads (0 ∷ []) ∙ closed 0 [] (omega arith) in
    let front : IsFront (take 16 c) [] = record { mark = take-take 16 16 c (omega arith) ∙ marked; goes_on = λ tail some. reads tail } in
    record {
      front = subst (λ (r : List (List ℕ)). IsFront (take 16 c) r) (sym none) front;
      within = omega (arith, long);
      counts = ap (λ (r : List (List ℕ)). length r) (sym none);
      ends = refl;
      placed = λ k lt near. absurd (omega arith);
    }

-- a whole record behind them is one more
module _ (end count : ℕ) (places c : List ℕ) (has : HasRecords end count places c) (n : ℕ) (is : HasWhole n (drop end c)) where
  abbrev body : List ℕ
  body = take n (drop 4 is.0)

  abbrev more : List ℕ
  more = 1 ∷ take (4 + n) is.0

  cut_long : length (take (4 + n) is.0) ≡ 4 + n
  cut_long = omega (arith, length-take (4 + n) is.0, is.3)

  body_long : length body ≡ n
  body_long = omega (arith, length-take n (drop 4 is.0), length-drop 4 is.0, is.3)

  same_size : (tail : List ℕ) → size (take (4 + n) is.0 ++ tail) ≡ n
  unfolding size
  same_size tail =
      ap (λ (l : List ℕ). from_be_bytes w32 l) (take-append-le 4 (take (4 + n) is.0) tail (omega (arith, cut_long)) ∙ take-take 4 (4 + n) is.0 (omega arith)) ∙ sym is.2

  behind : (tail : List ℕ) → drop 4 (take (4 + n) is.0 ++ tail) ≡ body ++ tail
  behind tail = drop-append-le 4 (take (4 + n) is.0) tail (omega (arith, cut_long)) ∙ ap (λ (l : List ℕ). l ++ tail) (drop-take 4 n is.0)

  reads : (tail : List ℕ) → 0 < length tail → records_from 0 (more ++ tail) ≡ (body ∷ []) ++ records_from 0 tail
  reads tail some =
      let bytes = take (4 + n) is.0 ++ tail in
      let size_is = same_size tail in
      whole 1 bytes refl (omega (arith, size_is, length-append (take (4 + n) is.0) tail, cut_long, some))
      ∙ (λ i. (ap (λ (k : ℕ). take k (drop 4 bytes)) size_is ∙ ap (λ (l : List ℕ). take n l) (behind tail) ∙ take_at body tail n body_long) i ∷ records_from 0 ((ap (λ (k : ℕ). drop (4 + k) bytes) size_is ∙ drop_at (take (4 + n) is.0) tail (4 + n) cut_long) i))

  longer : take (end + 5 + n) c ≡ take end c ++ more
  longer =
      let sum : end + 5 + n ≡ end + suc (4 + n) = omega arith in
      ap (λ (k : ℕ). take k c) sum ∙ take-add end (suc (4 + n)) c ∙ ap (λ (l : List ℕ). take end c ++ take (suc (4 + n)) l) is.1

  front : IsFront (take end c ++ more) (kept end c ++ body ∷ [])
  front = front_more has.front more (body ∷ []) reads

  kept_is : kept (end + 5 + n) c ≡ kept end c ++ body ∷ []
  unfolding kept
  kept_is = ap (λ (l : List ℕ). records_from 16 (l ++ 0 ∷ [])) longer ∙ front_kept front

  placed_more : (new : List ℕ) → new ≡ set places (count % 2048) end → length places ≡ 2048 → (k : ℕ) → k < count + 1 → count + 1 ≤ k + 2048 → get_or new (k % 2048) 0 ≡ place k (kept end c ++ body ∷ [])
  placed_more new is_set size k lt near = elim (cases_eq k count) [
    | inl last ↦
        let mods : k % 2048 ≡ count % 2048 = ap (λ (m : ℕ). m % 2048) last in
        let inside : count % 2048 < length places = omega (arith, size) in
        ap (λ (m : ℕ). get_or new m 0) mods ∙ ap (λ (l : List ℕ). get_or l (count % 2048) 0) is_set ∙ get_or-set_same places (count % 2048) end 0 inside
        ∙ has.ends ∙ ap (λ (m : ℕ). place m (kept end c)) (sym last) ∙ sym (place_more k (kept end c) (body ∷ []) (omega (arith, last, has.counts)))
    | inr before ↦
        let apart : k % 2048 ≡ count % 2048 → ⊥ = λ same. absurd (omega (arith, same, before, lt, near)) in
        let small : k < count = omega (arith, before, lt) in
        ap (λ (l : List ℕ). get_or l (k % 2048) 0) is_set ∙ get_or-set_other places (count % 2048) (k % 2048) end 0 apart ∙ has.placed k small (omega (arith, near)) ∙ sym (place_more k (kept end c) (body ∷ []) (omega (arith, small, has.counts)))
  ]

  pub has_more : (new : List ℕ) → new ≡ set places (count % 2048) end → length places ≡ 2048 → HasRecords (end + 5 + n) (count + 1) new c
  has_more new is_set size = record {
    front = subst (λ (l : List ℕ). IsFront l (kept (end + 5 + n) c)) (sym longer) (subst (λ (r : List (List ℕ)). IsFront (take end c ++ more) r) (sym kept_is) front);
    within = omega (arith, is.3, ap (λ (l : List ℕ). length l) is.1, length-drop end c);
    counts = omega (arith, ap (λ (r : List (List ℕ)). length r) kept_is, length_push (kept end c) body, has.counts);
    ends =
        let last : count + 1 ≡ suc (length (kept end c)) = omega (arith, has.counts) in
        let before : end ≡ place (length (kept end c)) (kept end c) = has.ends ∙ ap (λ (m : ℕ). place m (kept end c)) has.counts in
        omega (arith, place_last (kept end c) body, before, body_long, ap (λ (m : ℕ). place m (kept (end + 5 + n) c)) last, ap (λ (r : List (List ℕ)). place (suc (length (kept end c))) r) kept_is);
    placed = λ k lt near. placed_more new is_set size k lt near ∙ ap (λ (r : List (List ℕ)). place k r) (sym kept_is);
  }

-- the gate behind them
pub gate_is : (end count : ℕ) (places c : List ℕ) → HasRecords end count places c → drop end c ≡ get_or c end 0 ∷ drop (end + 1) c
gate_is end count places c has = drop_more c end 0 has.within

pub shut_at : (end count : ℕ) (places c : List ℕ) → HasRecords end count places c → (get_or c end 0 ≡ 1 → ⊥) → IsShut (take end c) c
shut_at end count places c has shut =
    (get_or c end 0, shut, (drop (end + 1) c, sym (take-append-drop end c) ∙ ap (λ (l : List ℕ). take end c ++ l) (gate_is end count places c has) ∙ sym (append_assoc (take end c) (get_or c end 0 ∷ []) (drop (end + 1) c))))

-- a gate may be anything behind records that a cut one follows
pub cut_journal : (end count : ℕ) (places c : List ℕ) → HasRecords end count places c → get_or c end 0 ≡ 1 → records_from 0 (drop end c) ≡ [] → (x : List ℕ) → HasGate (take end c) (drop (end + 1) c) x → journal_of x ≡ Some (kept end c)
cut_journal end count places c has is_open none x gate =
    let tail = gate.0 ∷ drop (end + 1) c in
    let nothing : records_from 0 tail ≡ [] = elim (cases_eq gate.0 1) [
      | inl same ↦ ap (λ (n : ℕ). records_from 0 (n ∷ drop (end + 1) c)) (same ∙ sym is_open) ∙ ap (records_from 0) (sym (gate_is end count places c has)) ∙ none
      | inr shut ↦ closed gate.0 (drop (end + 1) c) shut
    ] in
    ap journal_of gate.1 ∙ journal_front has.front tail (omega arith) ∙ ap (λ (r : List (List ℕ)). Some (kept end c ++ r)) nothing ∙ ap Some (append-nil (kept end c))

pub has_gate : (end count : ℕ) (places c : List ℕ) → HasRecords end count places c → HasGate (take end c) (drop (end + 1) c) c
has_gate end count places c has = (get_or c end 0, sym (take-append-drop end c) ∙ ap (λ (l : List ℕ). take end c ++ l) (gate_is end count places c has))

-- the gate was closed
pub closed_rests : (end count : ℕ) (places c : List ℕ) (images : List ℕ → Type 0) → HasRecords end count places c → Only images (take end c ++ 0 ∷ drop (end + 1) c) → AtRest end count places images (take end c ++ 0 ∷ drop (end + 1) c) × (kept end (take end c ++ 0 ∷ drop (end + 1) c) ≡ kept end c)
closed_rests end count places c images has only =
    let d = take end c ++ 0 ∷ drop (end + 1) c in
    let end_is : length (take end c) ≡ end = omega (arith, length-take end c, has.within) in
    let long : end < length d = omega (arith, length-append (take end c) (0 ∷ drop (end + 1) c), end_is) in
    let begins : Begins (take end c) d = (0 ∷ drop (end + 1) c, refl) in
    let same = same_front end count places c d has begins long in (
      record {
        has = still_has end count places c d has begins long;
        shut = (0, (λ no. absurd (omega arith)), (drop (end + 1) c, sym (append_assoc (take end c) (0 ∷ []) (drop (end + 1) c)) ∙ ap (λ (l : List ℕ). (l ++ 0 ∷ []) ++ drop (end + 1) c) (sym same)));
        durable = only;
      },
      same_kept end count places c d has begins long,
    )

length_mark : length mark ≡ 16
unfolding mark
length_mark = refl

pub fresh_long : (d : List ℕ) → IsFresh d → length d ≡ 17
fresh_long d fresh = omega (arith, ap (λ (l : List ℕ). length l) fresh.2, length-append mark (fresh.0 ∷ []), length_mark)

-- the mark stands in front, and no open gate behind it
pub fresh_parts : (d : List ℕ) → IsFresh d → (take 16 d ≡ mark) × (get_or d 16 0 ≡ 1 → ⊥)
fresh_parts d fresh =
    let marked : take 16 d ≡ mark = ap (λ (l : List ℕ). take 16 l) fresh.2 ∙ take_at mark (fresh.0 ∷ []) 16 length_mark in
    let tail : drop 16 d ≡ fresh.0 ∷ [] = ap (λ (l : List ℕ). drop 16 l) fresh.2 ∙ drop_at mark (fresh.0 ∷ []) 16 length_mark in
    let more : drop 16 d ≡ get_or d 16 0 ∷ drop 17 d = drop_more d 16 0 (omega (arith, fresh_long d fresh)) in
    let gate : get_or d 16 0 ≡ fresh.0 = cc (more, tail) in
    (marked, λ is. fresh.1 (sym gate ∙ is))

pub fresh_of : (d : List ℕ) → length d ≡ 17 → take 16 d ≡ mark → (get_or d 16 0 ≡ 1 → ⊥) → IsFresh d
fresh_of d long marked shut =
    let tail : drop 16 d ≡ get_or d 16 0 ∷ [] = drop_more d 16 0 (omega (arith, long)) ∙ ap (λ (l : List ℕ). get_or d 16 0 ∷ l) (drop_all 17 d (omega (arith, long))) in
    (get_or d 16 0, shut, sym (take-append-drop 16 d) ∙ ap (λ (l : List ℕ). l ++ drop 16 d) marked ∙ ap (λ (l : List ℕ). mark ++ l) tail)

pub fresh_rests : (places d : List ℕ) (images : List ℕ → Type 0) → IsFresh d → Only images d → AtRest 16 0 places images d × (kept 16 d ≡ [])
fresh_rests places d images fresh only =
    let long : 16 < length d = omega (arith, ap (λ (l : List ℕ). length l) fresh.2, length-append mark (fresh.0 ∷ []), length_mark) in
    let marked : take 16 d ≡ mark = ap (λ (l : List ℕ). take 16 l) fresh.2 ∙ take_at mark (fresh.0 ∷ []) 16 length_mark in
    let has = at_first places d long marked in (
      record { has = has; shut = (fresh.0, fresh.1, ([], fresh.2 ∙ ap (λ (l : List ℕ). l ++ fresh.0 ∷ []) (sym marked) ∙ sym (append-nil (take 16 d ++ fresh.0 ∷ [])))); durable = only },
      nil_from_length (kept 16 d) (sym has.counts),
    )

pub short_journal : (x : List ℕ) → length x ≤ 17 → journal_of x ≡ Some []
unfolding journal_of
short_journal x le = ap (λ (b : Bool). cond b (Some []) (cond (bytes_eq (take 16 x) mark) (Some (records_from 16 x)) None)) (le-leb (length x) 17 le)
