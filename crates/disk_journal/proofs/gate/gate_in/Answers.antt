use Rattle.std.proofs.Common.{◌≡◌, ℕ, ◌≤◌, List, [], ◌∷◌, length, get_or, take, refl, sym, ◌∙◌, ap, arith}
use Rattle.std.specs.Int.{w32, from_be_bytes}
use Rattle.std.proofs.lemmas.List.{take-take}
use Rattle.disk_journal.specs.Format.{size}
use Rattle.disk_journal.proofs.gate.gate_in.Goals as goal

five : (head : List ℕ) → 5 ≤ length head → take 5 head ≡ get_or head 0 0 ∷ get_or head 1 0 ∷ get_or head 2 0 ∷ get_or head 3 0 ∷ get_or head 4 0 ∷ []
five [] le = absurd (omega arith)
five (a ∷ []) le = absurd (omega arith)
five (a ∷ b ∷ []) le = absurd (omega arith)
five (a ∷ b ∷ c ∷ []) le = absurd (omega arith)
five (a ∷ b ∷ c ∷ d ∷ []) le = absurd (omega arith)
five (a ∷ b ∷ c ∷ d ∷ e ∷ rest) le = refl

-- the gate, and the length behind it
header : (head bytes rest : List ℕ) (gate : ℕ) → bytes ≡ gate ∷ rest → 5 ≤ length head → head ≡ take (length head) bytes
    → (get_or head 0 0 ≡ gate) × (from_be_bytes w32 (get_or head 1 0 ∷ get_or head 2 0 ∷ get_or head 3 0 ∷ get_or head 4 0 ∷ []) ≡ size rest)
unfolding size
header head bytes rest gate is long same =
    let front : take 5 head ≡ gate ∷ take 4 rest = ap (λ (l : List ℕ). take 5 l) same ∙ take-take 5 (length head) bytes long ∙ ap (λ (l : List ℕ). take 5 l) is in
    let both : get_or head 0 0 ∷ get_or head 1 0 ∷ get_or head 2 0 ∷ get_or head 3 0 ∷ get_or head 4 0 ∷ [] ≡ gate ∷ take 4 rest = sym (five head long) ∙ front in
    let tails : get_or head 1 0 ∷ get_or head 2 0 ∷ get_or head 3 0 ∷ get_or head 4 0 ∷ [] ≡ take 4 rest = cc both in
    let gates : get_or head 0 0 ≡ gate = cc both in
    (gates, ap (λ (l : List ℕ). from_be_bytes w32 l) tails)

pub returns-then-length-left-clause-found : goal.returns-then-length-left-clause-found
returns-then-length-left-clause-found c = λ bytes rest gate is left some same.
    let long : 5 ≤ length c.args.head.now = omega (arith, c.if-head-lt-HEAD.false) in
    let h = header c.args.head.now bytes rest gate is long same in
    let size_is : c.from_be_bytes-length.result ≡ size rest = c.from_be_bytes-length.ensures ∙ h.1 in
    (sym h.0 ∙ c.if-head-ne-OPEN.false, size_is, omega (arith, left, ap (λ (l : List ℕ). length l) is, c.if-length-left.true))

pub returns-else-length-left-clause-found : goal.returns-else-length-left-clause-found
returns-else-length-left-clause-found c = λ bytes rest gate is left some same.
    let long : 5 ≤ length c.args.head.now = omega (arith, c.if-head-lt-HEAD.false) in
    let h = header c.args.head.now bytes rest gate is long same in
    let size_is : c.from_be_bytes-length.result ≡ size rest = c.from_be_bytes-length.ensures ∙ h.1 in
    (sym h.0 ∙ c.if-head-ne-OPEN.false, omega (arith, size_is, left, ap (λ (l : List ℕ). length l) is, c.if-length-left.false))
