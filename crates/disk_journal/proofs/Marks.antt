-- Where so many records end.
use Rattle.std.proofs.Common.{◌≡◌, ℕ, List, ◌++◌, Option, Some, None, refl, sym, ◌∙◌, subst, arith, length-append}
use Rattle.std.specs.Option.{option_map}
use Rattle.disk_model.specs.Disk.{WhereTold}
use Rattle.disk_journal.specs.Journal.{IsMarked}
use Rattle.disk_journal.proofs.Put.{place_more}

pub marked_same : {A : Type 0} (old new : Option A) (P : A → Type 0) → new ≡ old → WhereTold old P → WhereTold new P
marked_same old new P same all x is = all x (sym same ∙ is)

-- a bookmark stays where records come behind
pub marked_more : (old new : Option (List (List ℕ))) (number at : ℕ) (more : List (List ℕ)) → new ≡ option_map (λ r. r ++ more) old → WhereTold old (IsMarked number at) → WhereTold new (IsMarked number at)
marked_more None new number at more same all x is = absurd (cc (same, is))
marked_more (Some r) new number at more same all x is =
    let was = all r refl in
    let now : r ++ more ≡ x = cc (same, is) in
    subst (IsMarked number at) now (omega (arith, was.0, length-append r more), was.1 ∙ sym (place_more number r more was.0))
