-- What is read behind the kept end.
use Rattle.std.proofs.Common.{◌≡◌, ℕ, ◌+◌, ◌^◌, ◌<◌, List, [], ◌∷◌, ◌++◌, length, get_or, take, drop, refl, sym, ◌∙◌, ap, arith, append_assoc, length-take, length-drop}
use Rattle.std.proofs.lemmas.List.{drop-drop, drop_more, drop_at}
use Rattle.disk_journal.specs.Format.{records_from, size_field, IsShut, IsOpened}
use Rattle.disk_journal.specs.Gates.{GateIs}
use Rattle.disk_journal.specs.Behinds.{ReadsBehind, HasWhole}
use Rattle.disk_journal.specs.declared.gate.Gate.{Gate}
use Rattle.disk_journal.specs.declared.gate.Gate.TheVariants.{Shut, Cut, Whole}
use Rattle.disk_journal.specs.declared.behind.Behind.TheVariants.{Tried, Other}
use Rattle.disk_journal.proofs.Records.{closed, cut, whole, spelled}

-- the gate at a place, and what stands behind it
pub at_gate : (c : List ℕ) (at : ℕ) → at < length c → drop at c ≡ get_or c at 0 ∷ drop (at + 1) c
at_gate c at within = drop_more c at 0 within

-- a gate before no record
pub none_behind : (r : Gate) (gate : ℕ) (rest : List ℕ) → GateIs r gate rest → ((n : ℕ) → r ≡ Whole n → ⊥) → records_from 0 (gate ∷ rest) ≡ []
none_behind Shut gate rest is other = closed gate rest is
none_behind Cut gate rest is other = cut gate rest is.1
none_behind (Whole n) gate rest is other = absurd (other n refl)

-- a gate before a whole one
pub whole_behind : (n : ℕ) (gate : ℕ) (rest : List ℕ) → GateIs (Whole n) gate rest → HasWhole n (gate ∷ rest)
whole_behind n gate rest is = (rest, ap (λ (k : ℕ). k ∷ rest) is.0, is.1, is.2)

module _ (n : ℕ) (bytes tried : List ℕ) (has : HasWhole n bytes) where
  abbrev rest : List ℕ
  rest = has.0

  pub first : records_from 0 bytes ≡ take n (drop 4 rest) ∷ records_from 0 (drop (4 + n) rest)
  first =
      ap (records_from 0) has.1 ∙ whole 1 rest refl (omega (arith, has.2, has.3))
      ∙ ap (λ (k : ℕ). take k (drop 4 rest) ∷ records_from 0 (drop (4 + k) rest)) (sym has.2)

  pub body_at : drop 5 bytes ≡ drop 4 rest
  body_at = ap (λ (l : List ℕ). drop 5 l) has.1

  pub next_at : drop (5 + n) bytes ≡ drop (4 + n) rest
  next_at = sym (drop-drop n 5 bytes) ∙ ap (λ (l : List ℕ). drop n l) body_at ∙ drop-drop n 4 rest

  long_body : length (take n (drop 4 rest)) ≡ n
  long_body = omega (arith, length-take n (drop 4 rest), length-drop 4 rest, has.3)

  pub other_length : (n ≡ length tried → ⊥) → ReadsBehind Other tried (records_from 0 bytes)
  other_length ne = ((λ no. absurd (cc (first, no))), λ is. ne (let heads : take n (drop 4 rest) ≡ tried = cc (first, is) in sym long_body ∙ ap (λ (l : List ℕ). length l) heads))

  pub other_bytes : n ≡ length tried → (take (length tried) (drop 5 bytes) ≡ tried → ⊥) → ReadsBehind Other tried (records_from 0 bytes)
  other_bytes same ne = ((λ no. absurd (cc (first, no))), λ is. ne (let heads : take n (drop 4 rest) ≡ tried = cc (first, is) in ap (λ (l : List ℕ). take (length tried) l) body_at ∙ ap (λ (k : ℕ). take k (drop 4 rest)) (sym same) ∙ heads))

  pub other_more : (m : ℕ) → HasWhole m (drop (5 + n) bytes) → ReadsBehind Other tried (records_from 0 bytes)
  other_more m more =
      let tail : records_from 0 (drop (4 + n) rest) ≡ take m (drop 4 more.0) ∷ records_from 0 (drop (4 + m) more.0) =
      ap (records_from 0) (sym next_at) ∙ ap (records_from 0) more.1 ∙ whole 1 more.0 refl (omega (arith, more.2, more.3)) ∙ ap (λ (k : ℕ). take k (drop 4 more.0) ∷ records_from 0 (drop (4 + k) more.0)) (sym more.2) in
      ((λ no. absurd (cc (first, no))), λ is. let tails : records_from 0 (drop (4 + n) rest) ≡ [] = cc (first, is) in absurd (cc (tail, tails)))

  pub tried_one : n ≡ length tried → take (length tried) (drop 5 bytes) ≡ tried → records_from 0 (drop (5 + n) bytes) ≡ [] → ReadsBehind Tried tried (records_from 0 bytes)
  tried_one same stands none =
      let body : take n (drop 4 rest) ≡ tried = ap (λ (k : ℕ). take k (drop 4 rest)) same ∙ ap (λ (l : List ℕ). take (length tried) l) (sym body_at) ∙ stands in
      let tail : records_from 0 (drop (4 + n) rest) ≡ [] = ap (records_from 0) (sym next_at) ∙ none in
      first ∙ (λ i. body i ∷ tail i)

-- what may stand behind a front is read so
pub shut_reads : (front c : List ℕ) (end : ℕ) → length front ≡ end → IsShut front c → records_from 0 (drop end c) ≡ []
shut_reads front c end is shut =
    let at : drop end c ≡ shut.0 ∷ shut.2.0 = ap (λ (l : List ℕ). drop end l) (shut.2.1 ∙ append_assoc front (shut.0 ∷ []) shut.2.0) ∙ drop_at front (shut.0 ∷ shut.2.0) end is in
    ap (records_from 0) at ∙ closed shut.0 shut.2.0 shut.1

pub opened_reads : (front body c : List ℕ) (end : ℕ) → length front ≡ end → length body < 2 ^ 32 → IsOpened front body c → records_from 0 (drop end c) ≡ body ∷ []
opened_reads front body c end is fits opened =
    let field = size_field (length body) in
    let grouped : c ≡ front ++ 1 ∷ (field ++ body ++ 0 ∷ opened.0) = opened.1 ∙ simp append_assoc in
    let at : drop end c ≡ 1 ∷ (field ++ body ++ 0 ∷ opened.0) = ap (λ (l : List ℕ). drop end l) grouped ∙ drop_at front (1 ∷ (field ++ body ++ 0 ∷ opened.0)) end is in
    ap (records_from 0) at ∙ spelled body (0 ∷ opened.0) fits (omega arith) ∙ ap (λ (r : List (List ℕ)). body ∷ r) (closed 0 opened.0 (omega arith))

-- the gate behind a whole record lies there
pub next_gate : (x : List ℕ) (end n : ℕ) → HasWhole n (drop end x) → (gate : ℕ) × (rest : List ℕ) × (drop (end + 5 + n) x ≡ gate ∷ rest) × (drop (5 + n) (drop end x) ≡ gate ∷ rest)
next_gate x end n has =
    let long : end + 5 + n < length x = omega (arith, has.3, ap (λ (l : List ℕ). length l) has.1, length-drop end x) in
    let at = at_gate x (end + 5 + n) long in
    let sum : end + (5 + n) ≡ end + 5 + n = omega arith in
    (get_or x (end + 5 + n) 0, drop (end + 5 + n + 1) x, at, drop-drop (5 + n) end x ∙ ap (λ (k : ℕ). drop k x) sum ∙ at)
