-- Where each event issues a number that is not below its key's mark, and puts the mark above it, no number is issued twice under one key.
use Rattle.std.proofs.Common.{◌≡◌, ◌≢◌, ℕ, ◌<◌, ◌≤◌, List, [], ◌∷◌, Option, Some, None, All, AllPairs, refl, ap, subst, get_or, arith, lt_of_lt_of_le}
use Rattle.std.proofs.lemmas.List.Elements.{All-nil, All-cons}
use Rattle.std.proofs.lemmas.List.Kept.{AllPairs-cons}
use Rattle.entry_codec.specs.Issues.{IsAbove, issues, one_more}

-- each event fits the state that those before it leave
abbrev pub AllFitting : {S E : Type 0} → (S → E → Type 0) → (S → E → S) → S → List E → Type 0
AllFitting Fits step s [] = Unit {0}
AllFitting Fits step s (e ∷ es) = Fits s e × AllFitting Fits step (step s e) es

AllPairs-nil : {X : Type 0} (R : X → X → Type 0) → AllPairs R []
AllPairs-nil R i j d lt past = absurd (omega (arith, past))

-- what an event issues is not below its key's mark, and below it afterwards; no mark ever falls
pub record IsMark {S E K : Type 0} (Fits : S → E → Type 0) (step : S → E → S) (issued : S → E → Option (K × ℕ)) (mark : K → S → ℕ) : Type 0 where
  pub from : (s : S) (e : E) (key : K) (n : ℕ) → Fits s e → issued s e ≡ Some (key, n) → mark key s ≤ n
  pub to : (s : S) (e : E) (key : K) (n : ℕ) → Fits s e → issued s e ≡ Some (key, n) → n < mark key (step s e)
  pub stays : (s : S) (e : E) (key : K) → Fits s e → mark key s ≤ mark key (step s e)

module _ {S E K : Type 0} (Fits : S → E → Type 0) (step : S → E → S) (issued : S → E → Option (K × ℕ)) (mark : K → S → ℕ) (is : IsMark Fits step issued mark) where
  -- what comes later is above each number that is below its key's mark
  later_above : (es : List E) (s : S) (key : K) (n : ℕ) → n < mark key s → AllFitting Fits step s es → All (IsAbove (key, n)) (issues step issued s es)
  later_above [] s key n below fit = All-nil (IsAbove (key, n))
  later_above (e ∷ es) s key n below fit = by (issued s e) refl (later_above es (step s e) key n (lt_of_lt_of_le below (is.stays s e key fit.0)) fit.1)
    where
      by : (o : Option (K × ℕ)) → issued s e ≡ o → All (IsAbove (key, n)) (issues step issued (step s e) es) → All (IsAbove (key, n)) (one_more o (issues step issued (step s e) es))
      by None none rest = rest
      by (Some x) some rest =
          All-cons (IsAbove (key, n)) x (issues step issued (step s e) es) (λ same. lt_of_lt_of_le (subst (λ (k : K). n < mark k s) same below) (is.from s e x.0 x.1 fit.0 some)) rest

  pub all_above : (es : List E) (s : S) → AllFitting Fits step s es → AllPairs IsAbove (issues step issued s es)
  all_above [] s fit = AllPairs-nil IsAbove
  all_above (e ∷ es) s fit = by (issued s e) refl (all_above es (step s e) fit.1)
    where
      by : (o : Option (K × ℕ)) → issued s e ≡ o → AllPairs IsAbove (issues step issued (step s e) es) → AllPairs IsAbove (one_more o (issues step issued (step s e) es))
      by None none rest = rest
      by (Some x) some rest = AllPairs-cons IsAbove x (issues step issued (step s e) es) (later_above es (step s e) x.0 x.1 (is.to s e x.0 x.1 fit.0 some) fit.1) rest

apart : (a b : ℕ) → a ≡ b → a < b → ⊥
apart a b same below = omega arith

-- numbers that rise differ
pub differ : {K : Type 0} (xs : List (K × ℕ)) → AllPairs IsAbove xs → AllPairs (λ x y. x ≢ y) xs
differ {K} xs above i j d lt within same =
    apart (get_or xs i d).1 (get_or xs j d).1 (ap (λ (x : K × ℕ). x.1) same) (above i j d lt within (ap (λ (x : K × ℕ). x.0) same))
