-- Where what is issued is past from then on, what comes later under the same key is above it.
use Rattle.std.proofs.Common.{◌≡◌, ℕ, ◌<◌, List, [], ◌∷◌, Option, Some, None, All, AllPairs, refl, subst, arith}
use Rattle.std.proofs.lemmas.List.Elements.{All-nil, All-cons}
use Rattle.std.proofs.lemmas.List.Kept.{AllPairs-cons}
use Rattle.entry_codec.specs.Issues.{IsAbove, issues, one_more}
use Rattle.entry_codec.proofs.Marks.{AllFitting}

-- what an event issues is past afterwards; what is past stays so, and is below what comes under its key
pub record GoesPast {S E K : Type 0} (Fits : S → E → Type 0) (step : S → E → S) (issued : S → E → Option (K × ℕ)) (Past : K → ℕ → S → Type 0) : Type 0 where
  pub above : (s : S) (e : E) (key : K) (n next : ℕ) → Fits s e → Past key n s → issued s e ≡ Some (key, next) → n < next
  pub to : (s : S) (e : E) (key : K) (n : ℕ) → Fits s e → issued s e ≡ Some (key, n) → Past key n (step s e)
  pub stays : (s : S) (e : E) (key : K) (n : ℕ) → Fits s e → Past key n s → Past key n (step s e)

AllPairs-nil : {X : Type 0} (R : X → X → Type 0) → AllPairs R []
AllPairs-nil R i j d lt past = absurd (omega (arith, past))

module _ {S E K : Type 0} (Fits : S → E → Type 0) (step : S → E → S) (issued : S → E → Option (K × ℕ)) (Past : K → ℕ → S → Type 0) (goes : GoesPast Fits step issued Past) where
  -- what comes later is above each number that is past
  later_above : (es : List E) (s : S) (key : K) (n : ℕ) → Past key n s → AllFitting Fits step s es → All (IsAbove (key, n)) (issues step issued s es)
  later_above [] s key n past fit = All-nil (IsAbove (key, n))
  later_above (e ∷ es) s key n past fit = by (issued s e) refl (later_above es (step s e) key n (goes.stays s e key n fit.0 past) fit.1)
    where
      by : (o : Option (K × ℕ)) → issued s e ≡ o → All (IsAbove (key, n)) (issues step issued (step s e) es) → All (IsAbove (key, n)) (one_more o (issues step issued (step s e) es))
      by None none rest = rest
      by (Some x) some rest =
          All-cons (IsAbove (key, n)) x (issues step issued (step s e) es) (λ same. goes.above s e x.0 n x.1 fit.0 (subst (λ (k : K). Past k n s) same past) some) rest

  pub rising : (es : List E) (s : S) → AllFitting Fits step s es → AllPairs IsAbove (issues step issued s es)
  rising [] s fit = AllPairs-nil IsAbove
  rising (e ∷ es) s fit = by (issued s e) refl (rising es (step s e) fit.1)
    where
      by : (o : Option (K × ℕ)) → issued s e ≡ o → AllPairs IsAbove (issues step issued (step s e) es) → AllPairs IsAbove (one_more o (issues step issued (step s e) es))
      by None none rest = rest
      by (Some x) some rest = AllPairs-cons IsAbove x (issues step issued (step s e) es) (later_above es (step s e) x.0 x.1 (goes.to s e x.0 x.1 fit.0 some) fit.1) rest
