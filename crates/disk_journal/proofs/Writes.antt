-- What writes behind a front, and of a gate, leave.
use Rattle.std.proofs.Common.{◌≡◌, ℕ, ◌+◌, ◌<◌, ◌≤◌, List, [], ◌∷◌, ◌++◌, length, get_or, take, drop, refl, sym, ◌∙◌, ap, arith, append_assoc, length-append, take-append-drop}
use Rattle.std.proofs.lemmas.List.{take_at, drop_at, take-take, drop_more}
use Rattle.disk_model.specs.Disk.{Overwrites, Torn}
use Rattle.disk_journal.specs.Format.{Begins}
use Rattle.disk_journal.specs.Journal.{HasGate}

pub front_of : (front bytes : List ℕ) → Begins front bytes → take (length front) bytes ≡ front
front_of front bytes begins = ap (λ (l : List ℕ). take (length front) l) begins.1 ∙ take_at front begins.0 (length front) refl

pub begins_long : (front bytes : List ℕ) → Begins front bytes → length front ≤ length bytes
begins_long front bytes begins = omega (arith, ap length begins.1, length-append front begins.0)

-- a torn write behind a front leaves it
pub behind : (front : List ℕ) (at count : ℕ) → length front ≤ at → (d c : List ℕ) → Begins front d → Torn at count d c → Begins front c
behind front at count le d c begins torn =
    let n = length front in
    let same : take n c ≡ front = sym (take-take n at c le) ∙ ap (λ (l : List ℕ). take n l) torn.before ∙ take-take n at d le ∙ front_of front d begins in
    (drop n c, sym (take-append-drop n c) ∙ ap (λ (l : List ℕ). l ++ drop n c) same)

-- bytes written at the end of a front
pub extends : (front bytes : List ℕ) (at : ℕ) → length front ≡ at → (d c : List ℕ) → Begins front d → Overwrites at bytes d c → Begins (front ++ bytes) c
extends front bytes at is d c begins holds =
    let same : take at d ≡ front = ap (λ (n : ℕ). take n d) (sym is) ∙ front_of front d begins in
    (drop (at + length bytes) d, holds ∙ ap (λ (l : List ℕ). l ++ bytes ++ drop (at + length bytes) d) same)

pub begins_less : (front more bytes : List ℕ) → Begins (front ++ more) bytes → Begins front bytes
begins_less front more bytes begins = (more ++ begins.0, begins.1 ∙ append_assoc front more begins.0)

module _ (front rest : List ℕ) (at : ℕ) (is : length front ≡ at) where
  gate_grouped : (gate : ℕ) → front ++ gate ∷ rest ≡ (front ++ gate ∷ []) ++ rest
  gate_grouped gate = sym (append_assoc front (gate ∷ []) rest)

  gate_past : (gate : ℕ) → drop (at + 1) (front ++ gate ∷ rest) ≡ rest
  gate_past gate = ap (λ (l : List ℕ). drop (at + 1) l) (gate_grouped gate) ∙ drop_at (front ++ gate ∷ []) rest (at + 1) (omega (arith, length-append front (gate ∷ []), is))

  pub torn_gate : (d c : List ℕ) → HasGate front rest d → Torn at 1 d c → HasGate front rest c
  torn_gate d c has torn =
      let long : at < length c = omega (arith, torn.no_shorter, ap length has.1, length-append front (has.0 ∷ rest), is) in
      let before : take at c ≡ front = torn.before ∙ ap (λ (l : List ℕ). take at l) has.1 ∙ take_at front (has.0 ∷ rest) at is in
      let after : drop (at + 1) c ≡ rest = torn.after ∙ ap (λ (l : List ℕ). drop (at + 1) l) has.1 ∙ gate_past has.0 in
      let gate = get_or c at 0 in
      let tail : drop at c ≡ gate ∷ rest = drop_more c at 0 long ∙ ap (λ (l : List ℕ). gate ∷ l) after in
      (gate, sym (take-append-drop at c) ∙ ap (λ (l : List ℕ). l ++ drop at c) before ∙ ap (λ (l : List ℕ). front ++ l) tail)

  pub holds_gate : (gate : ℕ) (d c : List ℕ) → HasGate front rest d → Overwrites at (gate ∷ []) d c → c ≡ front ++ gate ∷ rest
  holds_gate gate d c has holds =
      let before : take at d ≡ front = ap (λ (l : List ℕ). take at l) has.1 ∙ take_at front (has.0 ∷ rest) at is in
      let after : drop (at + 1) d ≡ rest = ap (λ (l : List ℕ). drop (at + 1) l) has.1 ∙ gate_past has.0 in
      holds ∙ ap (λ (l : List ℕ). l ++ (gate ∷ []) ++ drop (at + 1) d) before ∙ ap (λ (l : List ℕ). (front ++ gate ∷ []) ++ l) after ∙ append_assoc front (gate ∷ []) rest
