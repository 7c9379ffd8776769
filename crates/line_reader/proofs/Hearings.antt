-- What is heard, and what is taken, step by step.
use Rattle.std.proofs.Common.{◌≡◌, ℕ, ◌+◌, ◌≤◌, List, [], ◌∷◌, ◌++◌, length, take, drop, Option, Some, None, Err, IsErrOf, sym, ◌∙◌, ap, refl, subst, append_assoc, arith, true, inl, inr}
use Rattle.std.specs.Prelude.{◌==◌}
use Rattle.std.proofs.lemmas.Bool.{eqb-true}
use Rattle.std.proofs.lemmas.List.{append-nil, take-append-drop, length-append, take_all}
use Rattle.std.specs.Io.KnownBytes.{Consumes, Keeps, IsAtEnd, prepend_known}
use Rattle.line_reader.specs.Ahead.{TakesCount}
use Rattle.line_reader.specs.Lines.{lines_of, HasNoBreak}
use Rattle.line_reader.specs.Held.{IsLineEnd, SaysRest}
use Rattle.line_reader.specs.Hearing.{HearsFirst, HearsLine, Spends, StopsBehind, StopsInLine, UsesUp}
use Rattle.line_reader.specs.declared.reader.Heard.{Heard}
use Rattle.line_reader.specs.declared.reader.Heard.TheVariants.{Line, End}
use Rattle.line_reader.proofs.Breaks.{HasNoBreak-append, lines_of-append, lines_of-last}

pub Consumes_then : (a b c : Option (List ℕ)) (xs ys : List ℕ) → Consumes a b xs → Consumes b c ys → Consumes a c (xs ++ ys)
Consumes_then None b c xs ys p q = tt
Consumes_then (Some a) None c xs ys p q = absurd p
Consumes_then (Some a) (Some b) None xs ys p q = absurd q
Consumes_then (Some a) (Some b) (Some c) xs ys p q = p ∙ ap (λ (s : List ℕ). xs ++ s) q ∙ sym (append_assoc xs ys c)

pub TakesCount_then : (a b c : Option (List ℕ)) (m n k : ℕ) → TakesCount a b m n → TakesCount b c n k → TakesCount a c m k
TakesCount_then a b c m n k p q = (p.0 ++ q.0, Consumes_then a b c p.0 q.0 p.1 q.1, omega (arith, p.2, q.2, length-append p.0 q.0))

pub Consumes_kept : (a b c : Option (List ℕ)) (xs : List ℕ) → Consumes a b xs → Keeps b c → Consumes a c xs
Consumes_kept None b c xs p q = tt
Consumes_kept (Some a) None c xs p q = absurd p
Consumes_kept (Some a) (Some b) None xs p q = absurd q
Consumes_kept (Some a) (Some b) (Some c) xs p q = p ∙ ap (λ (s : List ℕ). xs ++ s) (sym q)

-- n of the pending bytes go to the front
pub Consumes_passed : (a l : Option (List ℕ)) (front pending : List ℕ) (n : ℕ) → Consumes a (prepend_known pending l) front → Consumes a (prepend_known (drop n pending) l) (front ++ take n pending)
Consumes_passed None l front pending n p = tt
Consumes_passed (Some a) None front pending n p = absurd p
Consumes_passed (Some a) (Some l) front pending n p = p ∙ ap (λ (s : List ℕ). front ++ (s ++ l)) (sym (take-append-drop n pending)) ∙ simp append_assoc

-- all of the pending bytes go to the front
pub Consumes_all : (a l : Option (List ℕ)) (front pending piece next : List ℕ) → piece ≡ pending → next ≡ drop (length piece) pending → Consumes a (prepend_known pending l) front → Consumes a (prepend_known next l) (front ++ piece)
Consumes_all a l front pending piece next e f p =
    let some = Consumes_passed a l front pending (length pending) p in
    rw (f, e) (rw (take_all (length pending) pending (omega arith)) at some)

-- where nothing is pending, the source's bytes are all that comes
pub Consumes_source : (a l : Option (List ℕ)) (front pending : List ℕ) → pending ≡ [] → Consumes a (prepend_known pending l) front → Consumes a l front
Consumes_source None l front pending e p = tt
Consumes_source (Some a) None front pending e p = absurd p
Consumes_source (Some a) (Some l) front pending e p = p ∙ ap (λ (s : List ℕ). front ++ (s ++ l)) e

pub Consumes_none : (a : Option (List ℕ)) → Consumes a a []
Consumes_none None = tt
Consumes_none (Some a) = refl

pub TakesCount_none : (a : Option (List ℕ)) (n : ℕ) → TakesCount a a n n
TakesCount_none a n = ([], Consumes_none a, omega arith)

-- what comes, where nothing is pending and the source has ended
IsAtEnd_coming : (pending : List ℕ) (l : Option (List ℕ)) → pending ≡ [] → IsAtEnd l → IsAtEnd (prepend_known pending l)
IsAtEnd_coming pending None e p = tt
IsAtEnd_coming pending (Some l) e p = ap (λ (s : List ℕ). s ++ l) e ∙ p

pub is_none : (xs : List ℕ) → (length xs == 0) ≡ true → xs ≡ []
is_none [] e = refl
is_none (x ∷ xs) e = absurd (omega (arith, eqb-true (length (x ∷ xs)) 0 e))

-- a last line, whose end is missing
pub uses_rest : (a l : Option (List ℕ)) (pending line : List ℕ) (h : Heard) → pending ≡ [] → Consumes a (prepend_known pending l) line → (pending ≡ [] → IsAtEnd l) → HasNoBreak line → SaysRest h line → UsesUp a h (prepend_known pending l)
uses_rest a l pending line (Line text) none p end clear says = (line, clear, says.1, inr (p, says.0, IsAtEnd_coming pending l none (end none)))
uses_rest a l pending line End none p end clear says = (subst (λ (s : List ℕ). Consumes a (prepend_known pending l) s) says p, IsAtEnd_coming pending l none (end none))

-- the same error, beside another value
pub same_err : {T U E : Type 0} (e f : E) → IsErrOf {T = T} (Err e) f → IsErrOf {T = U} (Err e) f
same_err {T} {U} {E} e f h = let same : e ≡ f = cc in ap Err same

-- a last line takes a byte at least
pub spends_rest : (h : Heard) (line : List ℕ) (before now : ℕ) → SaysRest h line → now + length line ≤ before → Spends h before now
spends_rest (Line text) [] before now p le = absurd (p.0 refl)
spends_rest (Line text) (b ∷ bs) before now p le = omega (arith, le)
spends_rest End line before now p le = omega (arith, le)

-- the line's bytes and its end, of what stands before and pending bytes
Consumes_end : (a l : Option (List ℕ)) (line rest : List ℕ) → Consumes a (prepend_known (10 ∷ rest) l) line → Consumes a (prepend_known rest l) (line ++ 10 ∷ [])
Consumes_end None l line rest p = tt
Consumes_end (Some a) None line rest p = absurd p
Consumes_end (Some a) (Some l) line rest p = p ∙ sym (append_assoc line (10 ∷ []) (rest ++ l))

-- a line whose end stands among the pending bytes
pub uses_line : (a l : Option (List ℕ)) (pending front text : List ℕ) (at : ℕ) → Consumes a (prepend_known pending l) front → HasNoBreak front → IsLineEnd pending at → text ≡ take 8193 (front ++ take at pending) → UsesUp a (Line text) (prepend_known (drop (at + 1) pending) l)
uses_line a l pending front text at p clear ends says =
    let line = front ++ take at pending in
    let passed = subst (λ (s : List ℕ). Consumes a (prepend_known s l) line) ends.2 (Consumes_passed a l front pending at p) in
    (line, HasNoBreak-append front (take at pending) clear ends.1, says, inl (Consumes_end a l line (drop (at + 1) pending) passed))

hears_first : (bytes rest : List ℕ) (h : Heard) → UsesUp (Some bytes) h (Some rest) → HearsFirst (lines_of bytes) h (lines_of rest)
hears_first bytes rest (Line text) p =
    let line = p.0 in
    let clear = p.1 in
    elim p.3 [
      | inl whole ↦ (line, ap lines_of (whole ∙ append_assoc line (10 ∷ []) rest) ∙ lines_of-append line rest clear, p.2)
      | inr last ↦ (line, ap lines_of (last.0 ∙ ap (λ (s : List ℕ). line ++ s) last.2 ∙ append-nil line) ∙ lines_of-last line last.1 clear ∙ ap (λ (s : List ℕ). line ∷ lines_of s) (sym last.2), p.2)
    ]
hears_first bytes rest End p = (ap lines_of (p.0 ∙ p.1), ap lines_of p.1)

-- the bytes of one line were used up, so the first line was heard
pub hears_line : (a b : Option (List ℕ)) (h : Heard) → UsesUp a h b → HearsLine a h b
hears_line None b h p = tt
hears_line (Some a) None (Line text) p = elim p.3 [ inl whole ↦ absurd whole | inr last ↦ absurd last.0 ]
hears_line (Some a) None End p = absurd p.0
hears_line (Some a) (Some b) h p = hears_first a b h p

-- the source gave no more
pub stops_in_line : (a l m : Option (List ℕ)) (front pending : List ℕ) → pending ≡ [] → Consumes a (prepend_known pending l) front → HasNoBreak front → Keeps l m → StopsInLine a m
stops_in_line a l m front pending none p clear k = (front, Consumes_kept a l m front (Consumes_source a l front pending none p) k, clear)

-- the source gave the byte that shows that there is too much
pub stops_behind : (a l m : Option (List ℕ)) (front pending : List ℕ) (byte : ℕ) → pending ≡ [] → Consumes a (prepend_known pending l) front → HasNoBreak front → Consumes l m (byte ∷ []) → StopsBehind a m
stops_behind a l m front pending byte none p clear k = (front, byte, Consumes_then a l m front (byte ∷ []) (Consumes_source a l front pending none p) k, clear)
