-- What a decision shows of its rules.
use Rattle.std.proofs.Common.{◌≡◌, ℕ, Bool, true, false, cond, List, [], ◌∷◌, Option, Some, None, refl}
use Rattle.std.specs.List.{AllByRecursion}
use Rattle.wire_ids.specs.Rules.{Rule, first_rule}
use Rattle.wire_ids.specs.Decisions.{entry_of, reply_by}
use Rattle.wire_ids.specs.declared.decision.Decision.{Decision}

first_none : {C : Type 0} (b : Bool) (c : C) (rest : Option C) → cond b (Some c) rest ≡ None → (b ≡ false) × (rest ≡ None)
first_none true c rest h = absurd cc
first_none false c rest h = (refl, h)

-- no rule holds where there is no first one
pub none_holds : {C : Type 0} (rs : List (Rule C)) → first_rule rs ≡ None → AllByRecursion (λ (r : Rule C). r.holds ≡ false) rs
none_holds [] h = tt
none_holds (r ∷ rs) h = let both = first_none r.holds r.cause (first_rule rs) h in (both.0, none_holds rs both.1)

-- a decision makes an entry only where nothing was kept, no ask is open and no cause stands against it
pub reply_enters : {A Q E C : Type 0} (refused : C → A) (waits : C) (kept : Option (List ℕ)) (asked : Bool) (cause : Option C) (success : Decision A Q E) (e : E)
    → entry_of (reply_by refused waits kept asked cause success) ≡ Some e → (kept ≡ None) × (asked ≡ false) × (cause ≡ None) × (entry_of success ≡ Some e)
reply_enters refused waits (Some text) asked cause success e h = absurd cc
reply_enters refused waits None true cause success e h = absurd cc
reply_enters refused waits None false (Some c) success e h = absurd cc
reply_enters refused waits None false None success e h = (refl, refl, refl, h)
