-- Parts of a list.
use Rattle.std.proofs.Common.{◌≡◌, ℕ, ◌+◌, ◌-◌, ◌≤◌, List, ◌++◌, length, take, drop, sym, ◌∙◌, ap, arith, refl, inl, inr}
use Rattle.std.proofs.lemmas.Bool.{cases_lt}
use Rattle.std.proofs.lemmas.List.{append-nil, drop-drop, drop-take, length-take, take-append-le, take_all}
use Rattle.std.proofs.Math.Seq.{take-append-add}

-- the part without its first n
pub part_after : (room : List ℕ) (from to n : ℕ) → from + n ≤ to → take (to - (from + n)) (drop (from + n) room) ≡ drop n (take (to - from) (drop from room))
part_after room from to n h =
    let rest = to - (from + n) in
    let e : to - from ≡ n + rest = omega arith in
    rw (e, drop-take n rest (drop from room), drop-drop n from room) refl

-- the first k of front, and what of piece still counts
pub take_held : (k : ℕ) (text front piece held : List ℕ) → text ≡ take k front → held ≡ text ++ take (k - length text) piece → held ≡ take k (front ++ piece)
take_held k text front piece held is adds = elim (cases_lt (length front) k) [
  | inl short ↦
      let all : text ≡ front = is ∙ take_all k front (omega (arith, short)) in
      let sum : length front + (k - length front) ≡ k = omega (arith, short) in
      adds ∙ rw (all) (sym (take-append-add front piece (k - length front)) ∙ ap (λ (n : ℕ). take n (front ++ piece)) sum)
  | inr long ↦
      let full : k - length text ≡ 0 = rw (is) (simp length-take (omega (arith, long))) in
      adds ∙ ap (λ (n : ℕ). text ++ take n piece) full ∙ append-nil text ∙ is ∙ sym (take-append-le k front piece long)
]
