-- The index of a list that grows by an element of a new name.
use Rattle.std.proofs.Common.{◌≡◌, ℕ, true, false, cond, ◌==◌, List, [], ◌∷◌, ◌++◌, length, Some, ap, sym, ◌∙◌, arith, inl, inr, eqb-true, nat_cmp, is_eq, ◌<◌, get_or, ltb, ltb-true, ltb-false, eq-eqb, refl}
use Rattle.std.proofs.lemmas.Bool.{cases_Bool, cond-true, cond-false, false≢true}
use Rattle.std.proofs.lemmas.List.{get_or_append_left}
use Rattle.std.proofs.lemmas.List.Folds.{list_any_at}
use Rattle.std.proofs.Math.Seq.{get_or-append_seam}
use Rattle.std.proofs.lemmas.Bool.Decides.{nat_tests}
use Rattle.std.specs.BTreeMap.{BTreeMap, get}
use Rattle.std.specs.List.{list_any}
use Rattle.agreements.specs.Index.{IsIndex, HasPlaces, has_name}
use Rattle.agreements.proofs.Places.{push_length, position-push_first, position-push_other}

is_eq-true : (a b : ℕ) → (a == b) ≡ true → is_eq (nat_cmp a b) ≡ true
is_eq-true a b h = grind (arith, nat_tests)

is_eq-false : (a b : ℕ) → (a == b) ≡ false → is_eq (nat_cmp a b) ≡ false
is_eq-false a b h = grind (arith, nat_tests)

pub IsIndex-push : {R : Type 0} (name : R → ℕ) (old new : BTreeMap ℕ ℕ) (rows : List R) (row : R) → IsIndex name old rows → has_name name (name row) rows ≡ false
    → ((q : ℕ) → get nat_cmp new q ≡ cond (is_eq (nat_cmp (name row) q)) (Some (length rows)) (get nat_cmp old q)) → IsIndex name new (rows ++ row ∷ [])
IsIndex-push {R} name old new rows row index fresh up key =
    let p = λ (r : R). name r == key in
    elim (cases_Bool (name row == key)) [
      | inl e ↦ up key ∙ cond-true _ _ _ (is_eq-true _ _ e)
          ∙ sym (position-push_first p rows row (ap (λ k. list_any (λ (r : R). name r == k) rows) (sym (eqb-true _ _ e)) ∙ fresh) e)
      | inr e ↦ up key ∙ cond-false _ _ _ (is_eq-false _ _ e) ∙ index key ∙ sym (position-push_other p rows row e)
    ]

-- the name of a row that was there isn't the new one's
apart : {R : Type 0} (name : R → ℕ) (rows : List R) (row : R) (i : ℕ) (d : R) → i < length rows → has_name name (name row) rows ≡ false → (name row == name (get_or rows i d)) ≡ false
apart {R} name rows row i d h fresh =
    elim (cases_Bool (name row == name (get_or rows i d))) [
      | inl e ↦
          let seen : has_name name (name row) rows ≡ true = list_any_at (λ (r : R). name r == name row) rows i d h (eq-eqb _ _ (sym (eqb-true _ _ e))) in
          absurd (false≢true (sym fresh ∙ seen))
      | inr e ↦ e
    ]

pub HasPlaces-push : {R : Type 0} (name : R → ℕ) (rows : List R) (row : R) → HasPlaces name rows → has_name name (name row) rows ≡ false → HasPlaces name (rows ++ row ∷ [])
HasPlaces-push {R} name rows row places fresh i d h =
    elim (cases_Bool (ltb i (length rows))) [
      | inl e ↦
          let before = ltb-true i (length rows) e in
          rw (get_or_append_left rows (row ∷ []) d i before)
          (position-push_other (λ (r : R). name r == name (get_or rows i d)) rows row (apart name rows row i d before fresh) ∙ places i d before)
      | inr e ↦
          let at_end : i ≡ length rows = omega (arith, ltb-false i (length rows) e, push_length rows row, h) in
          rw (at_end, get_or-append_seam rows row [] d) (position-push_first (λ (r : R). name r == name row) rows row fresh (eq-eqb _ _ refl))
    ]

-- an update at a name and a count that are these
pub counted_key : (new old : BTreeMap ℕ ℕ) (said name at count : ℕ) → said ≡ name → at ≡ count
    → ((q : ℕ) → get nat_cmp new q ≡ cond (is_eq (nat_cmp said q)) (Some at) (get nat_cmp old q))
    → (q : ℕ) → get nat_cmp new q ≡ cond (is_eq (nat_cmp name q)) (Some count) (get nat_cmp old q)
counted_key new old said name at count e f up q = rw (← e, ← f) (up q)
