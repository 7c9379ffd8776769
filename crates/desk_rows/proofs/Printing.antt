-- What was printed of some cases, and then of one more.
use Rattle.std.proofs.Common.{◌≡◌, ℕ, List, [], ◌∷◌, ◌++◌, length, Bool, true, false, ◌&&◌, Option, string_bytes, ap, sym, ◌∙◌, subst, refl, append_assoc, append-nil, arith}
use Rattle.std.specs.Io.KnownBytes.{Appends}
use Rattle.std.specs.Prelude.{◌↔◌, IsTrue}
use Rattle.disk_model.proofs.WrittenLemmas.{Appends_then}
use Rattle.desk_rows.specs.declared.case.Case.{Case}
use Rattle.desk_rows.specs.declared.case.Ended.{Ended}
use Rattle.desk_rows.specs.Verdicts.{PassAll, PrintsAll, Says, ok_line, ok_lines}

ok_lines_more : (cases : List Case) (case : Case) → ok_lines (cases ++ case ∷ []) ≡ ok_lines cases ++ ok_line (string_bytes case.name)
ok_lines_more [] case = append-nil (ok_line (string_bytes case.name))
ok_lines_more (first ∷ cases) case =
    ap (λ (lines : List ℕ). ok_line (string_bytes first.name) ++ lines) (ok_lines_more cases case)
    ∙ sym (append_assoc (ok_line (string_bytes first.name)) (ok_lines cases) (ok_line (string_bytes case.name)))

pub prints_then : (all passed : Bool) (cases : List Case) (case : Case) (a b c : Option (List ℕ)) (lines : List ℕ) → PrintsAll all cases a b
    → Says passed (string_bytes case.name) lines → Appends b c lines → PrintsAll (all && passed) (cases ++ case ∷ []) a c
prints_then true true cases case a b c lines p is q =
    subst (λ (s : List ℕ). Appends a c s) (sym (ok_lines_more cases case)) (Appends_then a b c (ok_lines cases) (ok_line (string_bytes case.name)) p (subst (λ (s : List ℕ). Appends b c s) is q))
prints_then true false cases case a b c lines p is q = tt
prints_then false true cases case a b c lines p is q = tt
prints_then false false cases case a b c lines p is q = tt

-- one more case was taken
pub one_more : (all done rest left : List Case) (case : Case) → all ≡ done ++ rest → rest ≡ case ∷ left → all ≡ (done ++ case ∷ []) ++ left
one_more all done rest left case is more = is ∙ ap (λ (cases : List Case). done ++ cases) more ∙ sym (append_assoc done (case ∷ []) left)

-- none are left
pub printed_all : (passed : Bool) (all done rest : List Case) (a b : Option (List ℕ)) → PrintsAll passed done a b → all ≡ done ++ rest → length rest ≡ 0 → PrintsAll passed all a b
printed_all passed all done [] a b p is empty = subst (λ (cases : List Case). PrintsAll passed cases a b) (sym (is ∙ append-nil done)) p
printed_all passed all done (case ∷ rest) a b p is empty = absurd (omega (arith, empty))

-- what is said of a case is whether each of its runs passed
pub said_so : (passed : Bool) (ended : List Ended) (name lines : List ℕ) → (IsTrue passed ↔ PassAll ended)
    → (PassAll ended → Says true name lines) → ((PassAll ended → ⊥) → Says false name lines) → Says passed name lines
said_so true ended name lines is passes differs = passes (is.0 refl)
said_so false ended name lines is passes differs = differs (λ all. cc (is.1 all))
