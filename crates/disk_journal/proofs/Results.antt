-- Clauses on a `Result` or an `Option`.
use Rattle.std.proofs.Common.{◌≡◌, ◌⊎◌, inl, inr, Option, Some, None, refl, sym, ◌∙◌, ap}
use Rattle.std.specs.Prelude.{Result, Ok, Err, OnOk, OnErr}
use Rattle.std.specs.Result.{IsErrAnd, IsErrOf}
use Rattle.std.specs.Option.{option_map}

pub on_err : {T E P : Type 0} (r : Result T E) → P → OnErr r P
on_err (Ok x) p = tt
on_err (Err e) p = p

pub on_ok : {T E P : Type 0} (r : Result T E) → P → OnOk r P
on_ok (Ok x) p = p
on_ok (Err e) p = tt

-- what is told after a function is told before it
pub mapped : {A B : Type 0} (f : A → B) (o : Option A) (y : B) → option_map f o ≡ Some y → (x : A) × (o ≡ Some x) × (f x ≡ y)
mapped f None y is = absurd (cc is)
mapped f (Some x) y is = (x, refl, let e : Some (f x) ≡ Some y = is in cc e)

pub told_or : {A : Type 0} (o : Option A) → (o ≡ None) ⊎ ((x : A) × (o ≡ Some x))
told_or None = inl refl
told_or (Some x) = inr (x, refl)

-- told or not, after and before
pub map_of : {A B : Type 0} (f : A → B) (g : B → B) (h : A → B) (old new : Option A) → (old ≡ None → new ≡ None) → ((y : B) → option_map f old ≡ Some y → option_map h new ≡ Some (g y)) → option_map h new ≡ option_map g (option_map f old)
map_of f g h None new untold told = ap (option_map h) (untold refl)
map_of f g h (Some x) new untold told = told (f x) refl

-- an error that is handed on
pub passed : {T E : Type 0} (r : Result T E) (fault e : E) → IsErrAnd r (λ x. x ≡ fault) → IsErrOf r e → fault ≡ e
passed (Ok x) fault e given is = absurd (cc is)
passed (Err x) fault e given is = let same : x ≡ e = cc is in sym given ∙ same
