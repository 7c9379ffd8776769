-- The first free place, once another is taken.
use Rattle.std.proofs.Common.{inl, inr, ◌≡◌, ◌≢◌, ℕ, ◌<◌, Bool, true, false, List, length, get_or, set, eqb, Option, Some, sym, subst, ◌∙◌, arith}
use Rattle.std.specs.Prelude.{IfSome}
use Rattle.std.proofs.lemmas.Bool.{cases_Bool, eqb-true}
use Rattle.std.proofs.lemmas.List.{get_or-set_same, get_or-set_other, length-set, set_comm}
use Rattle.address_table.specs.Places.{IsFirst}

-- what was taken is
still_taken : (l : List Bool) (place i : ℕ) → place < length l → get_or l i false ≡ true → get_or (set l place true) i false ≡ true
still_taken l place i lt is = elim (cases_Bool (eqb place i)) [
  | inl same ↦ subst (λ (j : ℕ). get_or (set l place true) j false ≡ true) (eqb-true place i same) (get_or-set_same l place true false lt)
  | inr other ↦ get_or-set_other l place i true false (λ e. grind (arith, e, other)) ∙ is
]

other_taken : (l : List Bool) (place n : ℕ) → place < length l → n ≢ place → IsFirst l n → IsFirst (set l place true) n
other_taken l place n lt apart f = (
  omega (arith, f.0, length-set l place true),
  λ i le. still_taken l place i lt (f.1 i le),
  get_or-set_other l place n true false apart ∙ f.2,
)

-- neither the first free place nor the next is it
pub both_stay : (l : List Bool) (place free next : ℕ) (o : Option ℕ) → place < length l → free ≢ place → next ≢ place → o ≡ Some next → IsFirst l free × IfSome o (λ (n : ℕ). IsFirst (set l free true) n)
    → IsFirst (set l place true) free × IfSome o (λ (n : ℕ). IsFirst (set (set l place true) free true) n)
both_stay l place free next o lt apart off is f = (
  other_taken l place free lt apart f.0,
  subst (λ (p : Option ℕ). IfSome p (λ (n : ℕ). IsFirst (set (set l place true) free true) n)) (sym is) (subst (λ (k : List Bool). IsFirst k next) (set_comm l free place true true apart) (other_taken (set l free true) place next (omega (arith, lt, length-set l free true)) off then)),
)
  where
    then : IsFirst (set l free true) next
    then = subst (λ (p : Option ℕ). IfSome p (λ (n : ℕ). IsFirst (set l free true) n)) is f.1
