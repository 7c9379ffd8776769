-- Where the records stand.
use Rattle.std.proofs.Common.{◌≡◌, inl, inr, ℕ, zero, suc, ◌+◌, ◌<◌, ◌≤◌, List, [], ◌∷◌, ◌++◌, length, take, drop, refl, sym, ◌∙◌, ap, subst, arith, length-drop, length-take, take-append-drop}
use Rattle.std.specs.Prelude.{slice_get, Some}
use Rattle.std.proofs.lemmas.List.{drop-drop}
use Rattle.std.proofs.lemmas.Bool.{cases_eq, cases_lt}
use Rattle.disk_journal.specs.Format.{records_from, size, kept}
use Rattle.disk_journal.specs.Journal.{HasRecords, place}
use Rattle.disk_journal.specs.Behinds.{HasWhole}
use Rattle.disk_journal.proofs.Records.{skip, closed, cut, short}
use Rattle.disk_journal.proofs.Reading.{first, next_at}

-- a record that is read stands there
pub record First (bytes body : List ℕ) (records : List (List ℕ)) : Type 0 where
  pub whole : HasWhole (length body) bytes
  pub body_is : take (length body) (drop 5 bytes) ≡ body
  pub rest : records_from 0 (drop (5 + length body) bytes) ≡ records

pub first_of : (bytes body : List ℕ) (records : List (List ℕ)) → records_from 0 bytes ≡ body ∷ records → First bytes body records
first_of [] body records reads = absurd (cc (short [] (omega arith), reads))
first_of (gate ∷ rest) body records reads = elim (cases_eq gate 1) [
  | inr shut ↦ absurd (cc (closed gate rest shut, reads))
  | inl is_open ↦ elim (cases_lt (4 + size rest) (length rest)) [
    | inr le ↦ absurd (cc (cut gate rest le, reads))
    | inl lt ↦
        let n = size rest in
        let has : HasWhole n (gate ∷ rest) = (rest, ap (λ (g : ℕ). g ∷ rest) is_open, refl, lt) in
        let is = first n (gate ∷ rest) body has in
        let head : take n (drop 4 rest) ≡ body = cc (is, reads) in
        let tail : records_from 0 (drop (4 + n) rest) ≡ records = cc (is, reads) in
        let long : n ≡ length body = (let e : n ≡ length (take n (drop 4 rest)) = omega (arith, length-take n (drop 4 rest), length-drop 4 rest, lt) in e) ∙ ap (λ (l : List ℕ). length l) head in
        record {
          whole = subst (λ (m : ℕ). HasWhole m (gate ∷ rest)) long has;
          body_is = ap (λ (m : ℕ). take m (drop 4 rest)) (sym long) ∙ head;
          rest = ap (λ (m : ℕ). records_from 0 (drop (5 + m) (gate ∷ rest))) (sym long) ∙ ap (records_from 0) (next_at n (gate ∷ rest) body has) ∙ tail;
        }
  ]
]

-- each record is read at its place
at_base : (k : ℕ) (records others : List (List ℕ)) (base : ℕ) (c : List ℕ) → records_from 0 (drop (16 + base) c) ≡ records ++ others → k ≤ length records → records_from 0 (drop (place k records + base) c) ≡ drop k records ++ others
at_base zero records others base c reads le = reads
at_base (suc k) [] others base c reads le = absurd (omega arith)
at_base (suc k) (body ∷ records) others base c reads le =
    let is = first_of (drop (16 + base) c) body (records ++ others) reads in
    let next : records_from 0 (drop (16 + (base + (5 + length body))) c) ≡ records ++ others =
    ap (λ (n : ℕ). records_from 0 (drop n c)) (let e : 16 + (base + (5 + length body)) ≡ 16 + base + (5 + length body) = omega arith in e) ∙ ap (records_from 0) (sym (drop-drop (5 + length body) (16 + base) c)) ∙ is.rest in
    let there = at_base k records others (base + (5 + length body)) c next (omega arith) in
    ap (λ (n : ℕ). records_from 0 (drop n c)) (let e : 5 + length body + place k records + base ≡ place k records + (base + (5 + length body)) = omega arith in e) ∙ there

place_next : (k : ℕ) (records : List (List ℕ)) (body : List ℕ) (more : List (List ℕ)) → drop k records ≡ body ∷ more → place (suc k) records ≡ place k records + 5 + length body
place_next zero [] body more is = absurd (cc is)
place_next zero (r ∷ records) body more is = let same : r ≡ body = cc is in let e = ap (λ (l : List ℕ). length l) same in omega (arith, e)
place_next (suc k) [] body more is = absurd (cc is)
place_next (suc k) (r ∷ records) body more is = omega (arith, place_next k records body more is)

pub split_at : (k : ℕ) (records : List (List ℕ)) → k < length records → (body : List ℕ) × (more : List (List ℕ)) × (drop k records ≡ body ∷ more) × (slice_get records k ≡ Some body)
split_at k [] lt = absurd (omega arith)
split_at zero (r ∷ records) lt = (r, records, refl, refl)
split_at (suc k) (r ∷ records) lt = split_at k records (omega arith)

-- the k-th record of a journal stands whole at its place
pub record At (k : ℕ) (records : List (List ℕ)) (c : List ℕ) : Type 0 where
  pub body : List ℕ
  pub kth : slice_get records k ≡ Some body
  pub whole : HasWhole (length body) (drop (place k records) c)
  pub body_is : take (length body) (drop (place k records + 5) c) ≡ body
  pub next : place (k + 1) records ≡ place k records + 5 + length body

pub record_at : (end count : ℕ) (places c : List ℕ) (k : ℕ) → HasRecords end count places c → k < count → At k (kept end c) c
record_at end count places c k has lt =
    let records = kept end c in
    let tail = drop end c in
    let some : 0 < length tail = omega (arith, length-drop end c, has.within) in
    let reads : records_from 0 (drop (16 + 0) c) ≡ records ++ records_from 0 tail =
    sym (skip 16 c) ∙ ap (records_from 16) (sym (take-append-drop end c)) ∙ has.front.goes_on tail some in
    let inside : k < length records = omega (arith, lt, has.counts) in
    let there = at_base k records (records_from 0 tail) 0 c reads (omega (arith, inside)) in
    let parts = split_at k records inside in
    let here : records_from 0 (drop (place k records) c) ≡ parts.0 ∷ (parts.1 ++ records_from 0 tail) =
    ap (λ (n : ℕ). records_from 0 (drop n c)) (let e : place k records ≡ place k records + 0 = omega arith in e) ∙ there ∙ ap (λ (l : List (List ℕ)). l ++ records_from 0 tail) parts.2 in
    let is = first_of (drop (place k records) c) parts.0 (parts.1 ++ records_from 0 tail) here in
    record {
      body = parts.0;
      kth = parts.3;
      whole = is.whole;
      body_is = ap (λ (l : List ℕ). take (length parts.0) l) (sym (drop-drop 5 (place k records) c)) ∙ is.body_is;
      next = let n = place_next k records parts.0 parts.1 parts.2 in grind arith;
    }
