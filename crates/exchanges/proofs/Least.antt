-- The least number that passes a test.
use Rattle.std.proofs.Common.{◌≡◌, ℕ, zero, suc, ◌+◌, ◌<◌, ◌≤◌, Bool, true, false, cond, Some, None, refl, sym, ap, ◌∙◌, arith, inl, inr}
use Rattle.std.proofs.lemmas.Bool.{cases_lt, false≢true}
use Rattle.exchanges.specs.Least.{least_from}

-- a number passes, and none before it from n on
pub record IsLeast (test : ℕ → Bool) (n k : ℕ) : Type 0 where
  pub passes : test k ≡ true
  pub low : n ≤ k
  pub least : (j : ℕ) → n ≤ j → test j ≡ true → k ≤ j

pub least_is : (test : ℕ → Bool) (more n k : ℕ) → IsLeast test n k → k < n + more → least_from test more n ≡ Some k
unfolding least_from
least_is test zero n k is high = let low = is.low in absurd (omega (arith, low, high))
least_is test (suc more) n k is high = by (test n) refl (least_is test more (suc n) k)
  where
    by : (b : Bool) → test n ≡ b → (IsLeast test (suc n) k → k < suc n + more → least_from test more (suc n) ≡ Some k) → cond b (Some n) (least_from test more (suc n)) ≡ Some k
    by true e rest =
        let same : n ≡ k = omega (arith, is.low, is.least n (omega arith) e) in
        ap (λ (i : ℕ). Some i) same
    by false e rest =
        let other : suc n ≤ k =
        elim (cases_lt n k) [
          | inl less ↦ omega (arith, less)
          | inr most ↦
              let same : k ≡ n = omega (arith, is.low, most) in
              absurd (false≢true (sym e ∙ (ap test (sym same) ∙ is.passes)))
        ] in
        rest (record {
          passes = is.passes;
          low = other;
          least = λ j low is_j. is.least j (omega (arith, low)) is_j;
        }) (omega (arith, high))

pub none_is : (test : ℕ → Bool) (more n : ℕ) → ((j : ℕ) → n ≤ j → j < n + more → test j ≡ true → ⊥) → least_from test more n ≡ None
unfolding least_from
none_is test zero n none = refl
none_is test (suc more) n none = by (test n) refl (none_is test more (suc n))
  where
    by : (b : Bool) → test n ≡ b → (((j : ℕ) → suc n ≤ j → j < suc n + more → test j ≡ true → ⊥) → least_from test more (suc n) ≡ None) → cond b (Some n) (least_from test more (suc n)) ≡ None
    by true e rest = absurd (none n (omega arith) (omega arith) e)
    by false e rest = rest (λ j low high is. none j (omega (arith, low)) (omega (arith, high)) is)

-- what is found passes, and nothing before it does
pub record IsFound (test : ℕ → Bool) (more n k : ℕ) : Type 0 where
  pub is : IsLeast test n k
  pub high : k < n + more

pub found : (test : ℕ → Bool) (more n k : ℕ) → least_from test more n ≡ Some k → IsFound test more n k
unfolding least_from
found test zero n k e = absurd cc
found test (suc more) n k e = by (test n) refl (found test more (suc n) k) e
  where
    by : (b : Bool) → test n ≡ b → (least_from test more (suc n) ≡ Some k → IsFound test more (suc n) k) → cond b (Some n) (least_from test more (suc n)) ≡ Some k → IsFound test (suc more) n k
    by true here then e =
        let same : n ≡ k = cc in
        record {
          is = record { passes = ap test (sym same) ∙ here; low = omega (arith, same); least = λ j low is_j. omega (arith, same, low) };
          high = omega (arith, same);
        }
    by false here then e =
        let rest = then e in
        record {
          is = record {
            passes = rest.is.passes;
            low = omega (arith, rest.is.low);
            least = λ j low is_j.
                elim (cases_lt n j) [
                  | inl less ↦ rest.is.least j (omega (arith, less)) is_j
                  | inr most ↦
                      let same : j ≡ n = omega (arith, low, most) in
                      absurd (false≢true (sym here ∙ (ap test (sym same) ∙ is_j)))
                ];
          };
          high = omega (arith, rest.high);
        }
