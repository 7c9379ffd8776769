-- Where a line ends.
use Rattle.std.proofs.Common.{◌≡◌, ◌≢◌, ℕ, zero, suc, ◌+◌, ◌<◌, ◌≤◌, List, [], ◌∷◌, ◌++◌, length, take, drop, get_or, Bool, true, false, cond, Option, Some, None, ◌∙◌, ap, refl, subst, arith}
use Rattle.std.specs.Prelude.{◌==◌, IfNone, IfSome}
use Rattle.std.proofs.lemmas.Bool.{eqb-true}
use Rattle.std.proofs.lemmas.List.{drop_more, take_all}
use Rattle.memchr.specs.Find.{IsFirstByte, NoneBefore, Passes, is_byte}
use Rattle.line_reader.specs.Lines.{HasNoBreak, lines_of, onto_first, whole_lines, onto_whole}
use Rattle.line_reader.specs.Held.{IsLineEnd}

pub HasNoBreak-append : (xs ys : List ℕ) → HasNoBreak xs → HasNoBreak ys → HasNoBreak (xs ++ ys)
HasNoBreak-append [] ys p q = q
HasNoBreak-append (x ∷ xs) ys p q = (p.0, HasNoBreak-append xs ys p.1 q)

-- where each byte below i is no break
pub HasNoBreak-take : (xs : List ℕ) (i : ℕ) → i ≤ length xs → ((k : ℕ) → k < i → (get_or xs k 0 == 10) ≡ false) → HasNoBreak (take i xs)
HasNoBreak-take xs zero h p = tt
HasNoBreak-take [] (suc i) h p = tt
HasNoBreak-take (x ∷ xs) (suc i) h p = (p 0 (omega arith), HasNoBreak-take xs i (omega arith) (λ k l. p (suc k) (omega arith)))

not_true : (t : Bool) → (t ≡ true → ⊥) → t ≡ false
not_true true h = absurd (h refl)
not_true false h = refl

-- the first place of a byte that ends a line
line_end_at : (xs : List ℕ) (i : ℕ) → NoneBefore (Passes (is_byte 10) xs) 0 (length xs) i × Passes (is_byte 10) xs i → IsLineEnd xs i
line_end_at xs i found =
    let here : get_or xs i 0 ≡ 10 = eqb-true _ _ found.1 in
    (found.0.high, HasNoBreak-take xs i (omega (arith, found.0.high)) (λ k l. not_true _ (found.0.before k (omega arith) l)), drop_more xs i 0 found.0.high ∙ ap (λ (b : ℕ). b ∷ drop (i + 1) xs) here)

pub line_end_found : (xs : List ℕ) (r : Option ℕ) → IsFirstByte (is_byte 10) xs r → IfSome r (IsLineEnd xs)
line_end_found xs None found = tt
line_end_found xs (Some i) found = line_end_at xs i found

pub no_line_end : (xs : List ℕ) (r : Option ℕ) → IsFirstByte (is_byte 10) xs r → IfNone r (HasNoBreak xs)
no_line_end xs None nowhere = subst HasNoBreak (take_all (length xs) xs (omega arith)) (HasNoBreak-take xs (length xs) (omega arith) (λ k l. not_true _ (nowhere k (omega arith) l)))
no_line_end xs (Some i) found = tt

-- a line, its end and more
pub lines_of-append : (line more : List ℕ) → HasNoBreak line → lines_of (line ++ 10 ∷ more) ≡ line ∷ lines_of more
lines_of-append [] more p = refl
lines_of-append (b ∷ bs) more p = ap (λ (t : Bool). cond t ([] ∷ lines_of (bs ++ 10 ∷ more)) (onto_first b (lines_of (bs ++ 10 ∷ more)))) p.0 ∙ ap (onto_first b) (lines_of-append bs more p.1)

-- a last line without its end
pub lines_of-last : (line : List ℕ) → line ≢ [] → HasNoBreak line → lines_of line ≡ line ∷ []
lines_of-last [] some p = absurd (some refl)
lines_of-last (b ∷ []) some p = ap (λ (t : Bool). cond t ([] ∷ []) ((b ∷ []) ∷ [])) p.0
lines_of-last (b ∷ c ∷ bs) some p = ap (λ (t : Bool). cond t ([] ∷ lines_of (c ∷ bs)) (onto_first b (lines_of (c ∷ bs)))) p.0 ∙ ap (onto_first b) (lines_of-last (c ∷ bs) (λ e. cc) p.1)

-- a line, its end and more
pub whole_lines-append : (line more : List ℕ) → HasNoBreak line → whole_lines (line ++ 10 ∷ more) ≡ line ∷ whole_lines more
whole_lines-append [] more p = refl
whole_lines-append (b ∷ bs) more p = ap (λ (t : Bool). cond t ([] ∷ whole_lines (bs ++ 10 ∷ more)) (onto_whole b (whole_lines (bs ++ 10 ∷ more)))) p.0 ∙ ap (onto_whole b) (whole_lines-append bs more p.1)

-- no line's end is there
pub whole_lines-none : (front : List ℕ) → HasNoBreak front → whole_lines front ≡ []
whole_lines-none [] p = refl
whole_lines-none (b ∷ bs) p = ap (λ (t : Bool). cond t ([] ∷ whole_lines bs) (onto_whole b (whole_lines bs))) p.0 ∙ ap (onto_whole b) (whole_lines-none bs p.1)
