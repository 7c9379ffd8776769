-- What a walk that reached its end went through.
use Rattle.std.proofs.Common.{◌≡◌, ℕ, ◌+◌, ◌≤◌, Bool, true, false, if◌then◌else◌, List, [], ◌∷◌, ◌++◌, length, Option, Some, None, Result, Ok, Err, is_some, refl, ap, arith, ltb, ltb-false}
use Rattle.std.proofs.Math.Path.{subst}
use Rattle.std.proofs.lemmas.Bool.{false≢true}
use Rattle.std.specs.List.{list_all}
use Rattle.std.specs.Result.{is_ok}
use Rattle.toml.specs.Data.{Data, Members, as_table, get_member}
use Rattle.agreements.specs.declared.flaw.Flaw.{Flaw}
use Rattle.agreements.specs.declared.key.Key.{Key}
use Rattle.agreements.specs.Forms.{array_of}
use Rattle.agreements.specs.Steps.{◌>>=◌, all_after, at_key, at_number, known, need, numbered, once, read_as, read_found}
use Rattle.agreements.specs.Walk.{array_within, in_section, rows_in, section_in}
use Rattle.agreements.proofs.Places.{push_length}

abbrev value_or : {A E : Type 0} → A → Result A E → A
value_or d (Ok a) = a
value_or d (Err e) = d

pub ok_same : {A E : Type 0} (a b : A) → ◌≡◌ {A = Result A E} (Ok a) (Ok b) → a ≡ b
ok_same a b h = ap (value_or a) h

pub never : {A E : Type 0} {P : Type 0} (e : E) (a : A) → ◌≡◌ {A = Result A E} (Err e) (Ok a) → P
never e a h = absurd (false≢true (ap is_ok h))

-- a step before others reached its end
pub reached : {A B E : Type 0} (m : Result A E) (f : A → Result B E) (b : B) → (m >>= f) ≡ Ok b → (a : A) × (m ≡ Ok a) × (f a ≡ Ok b)
reached (Ok a) f b h = (a, refl, h)
reached (Err e) f b h = never e b h

pub was_new : (key : Key) (seen : Bool) (u : Unit {0}) → once key seen ≡ Ok u → seen ≡ false
was_new key true u h = never _ u h
was_new key false u h = refl

pub was_known : (key : Key) (found : Bool) (u : Unit {0}) → known key found ≡ Ok u → found ≡ true
was_known key true u h = refl
was_known key false u h = never _ u h

pub was_read : {A : Type 0} (key : Key) (found : Option A) (a : A) → read_as key found ≡ Ok a → found ≡ Some a
was_read key None a h = never _ a h
was_read key (Some x) a h = ap Some (ok_same x a h)

found_form : {A : Type 0} (key : Key) (form : Data → Option A) (found : Option Data) (a : A) → read_found key form found ≡ Ok a → (d : Data) × (form d ≡ Some a)
found_form key form None a h = never _ a h
found_form key form (Some d) a h = (d, was_read key (form d) a h)

pub was_needed : {A : Type 0} (key : Key) (form : Data → Option A) (row : Data) (a : A) → need key form row ≡ Ok a → (d : Data) × (form d ≡ Some a)
was_needed key form row a h = found_form key form (at_key key row) a h

un_numbered : {A E : Type 0} (n : ℕ) (m : Result A E) (a : A) → at_number n m ≡ Ok a → m ≡ Ok a
un_numbered n (Ok x) a h = ap Ok (ok_same x a h)
un_numbered n (Err e) a h = never _ a h

-- what holds of no rows, and of each row more, holds of all
pub walk_keeps : {R E : Type 0} (Q : List R → Type 0) (next : List R → Data → Result R E) → ((before : List R) (d : Data) (r : R) → Q before → next before d ≡ Ok r → Q (before ++ r ∷ []))
    → (before : List R) (ds : List Data) (rows : List R) → Q before → all_after (numbered next) before ds ≡ Ok rows → Q rows
walk_keeps Q next step before [] rows h e = subst Q (ok_same before rows e) h
walk_keeps Q next step before (d ∷ ds) rows h e =
    let one = reached (numbered next before d) (λ r. all_after (numbered next) (before ++ r ∷ []) ds) rows e in
    walk_keeps Q next step (before ++ one.0 ∷ []) ds rows (step before d one.0 h (un_numbered (length before) (next before d) one.0 one.1)) one.2

pub walk_length : {R E : Type 0} (next : List R → Data → Result R E) (before : List R) (ds : List Data) (rows : List R) → all_after (numbered next) before ds ≡ Ok rows → length rows ≡ length before + length ds
walk_length next before [] rows e = rw (← ok_same before rows e) (omega arith)
walk_length next before (d ∷ ds) rows e =
    let one = reached (numbered next before d) (λ r. all_after (numbered next) (before ++ r ∷ []) ds) rows e in
    omega (arith, walk_length next (before ++ one.0 ∷ []) ds rows one.2, push_length before one.0)

pub tested : {A E : Type 0} (test : Bool) (e : E) (m : Result A E) (a : A) → (if test then m else Err e) ≡ Ok a → m ≡ Ok a
tested true e m a h = h
tested false e m a h = never e a h

passed : {A E : Type 0} (test : Bool) (e : E) (x a : A) → (if test then Err e else Ok x) ≡ Ok a → (test ≡ false) × (x ≡ a)
passed true e x a h = never e a h
passed false e x a h = (refl, ok_same x a h)

within_limit : (section : List ℕ) (limit : ℕ) (found : Option (List Data)) (ds : List Data) → array_within section limit found ≡ Ok ds → length ds ≤ limit
within_limit section limit None ds h = never _ ds h
within_limit section limit (Some all) ds h =
    let few = passed (ltb limit (length all)) _ all ds (tested (list_all (λ d. is_some (as_table d)) all) _ _ ds h) in
    rw (← few.1) (ltb-false limit (length all) few.0)

section_limit : (section : List ℕ) (limit : ℕ) (found : Option Data) (ds : List Data) → section_in section limit found ≡ Ok ds → length ds ≤ limit
section_limit section limit None ds h = rw (← ok_same [] ds h) (omega arith)
section_limit section limit (Some d) ds h = within_limit section limit (array_of d) ds h

un_section : {A : Type 0} (section : List ℕ) (m : Result A (ℕ × Flaw)) (a : A) → in_section section m ≡ Ok a → m ≡ Ok a
un_section section (Ok x) a h = ap Ok (ok_same x a h)
un_section section (Err e) a h = never _ a h

-- the rows of a section keep its limit, and what each row more keeps
pub section_keeps : {R : Type 0} (Q : List R → Type 0) (section : List ℕ) (limit : ℕ) (next : List R → Data → Result R Flaw) (doc : Members) (rows : List R)
    → Q [] → ((before : List R) (d : Data) (r : R) → Q before → next before d ≡ Ok r → Q (before ++ r ∷ []))
    → rows_in section limit next doc ≡ Ok rows → (length rows ≤ limit) × Q rows
section_keeps Q section limit next doc rows none step h =
    let tables = reached (section_in section limit (get_member section doc)) (λ ds. in_section section (all_after (numbered next) [] ds)) rows h in
    let walked = un_section section (all_after (numbered next) [] tables.0) rows tables.2 in
    let few : length tables.0 ≤ limit = section_limit section limit (get_member section doc) tables.0 tables.1 in
    (rw (walk_length next [] tables.0 rows walked) (omega (arith, few)), walk_keeps Q next step [] tables.0 rows none walked)
