-- A sink that is handed one piece after another.
use Rattle.std.proofs.Common.{◌≡◌, ℕ, ◌+◌, List, [], ◌++◌, length, take, Option, Some, None, sym, ◌∙◌, ap, subst, append_assoc, arith}
use Rattle.std.proofs.Math.Seq.{take-add, take-append-add}
use Rattle.std.specs.List.{between}
use Rattle.std.proofs.lemmas.List.{append-nil, take_rest, take_min, take_all, take-append-le}
use Rattle.std.specs.Prelude.{min}
use Rattle.disk_model.specs.Written.{AppendsFront}
use Rattle.std.specs.Io.KnownBytes.{Appends, Keeps}

pub Appends_then : (a b c : Option (List ℕ)) (xs ys : List ℕ) → Appends a b xs → Appends b c ys → Appends a c (xs ++ ys)
Appends_then None b c xs ys p q = tt
Appends_then (Some a) None c xs ys p q = absurd p
Appends_then (Some a) (Some b) None xs ys p q = absurd q
Appends_then (Some a) (Some b) (Some c) xs ys p q = q ∙ ap (λ (s : List ℕ). s ++ ys) p ∙ append_assoc a xs ys

-- the first d, and then n of the rest
pub Appends_take : (a b c : Option (List ℕ)) (xs : List ℕ) (d n : ℕ) → Appends a b (take d xs) → Appends b c (take n (between d (length xs) xs)) → Appends a c (take (d + n) xs)
Appends_take a b c xs d n p q = rw (take-add d n xs) (Appends_then a b c _ _ p (rw (take_rest xs d) at q))

-- a front of xs is a front of xs and more
pub AppendsFront_more : (a b : Option (List ℕ)) (xs ys : List ℕ) → AppendsFront a b xs → AppendsFront a b (xs ++ ys)
AppendsFront_more a b xs ys p =
    let n = min p.0 (length xs) in
    let e : take n (xs ++ ys) ≡ take p.0 xs = take-append-le n xs ys (omega arith) ∙ take_min p.0 xs in
    (n, subst (λ (s : List ℕ). Appends a b s) (sym e) p.1)

-- xs, and then a front of ys
pub AppendsFront_then : (a b c : Option (List ℕ)) (xs ys : List ℕ) → Appends a b xs → AppendsFront b c ys → AppendsFront a c (xs ++ ys)
AppendsFront_then a b c xs ys p q =
    (length xs + q.0, subst (λ (s : List ℕ). Appends a c s) (sym (take-append-add xs ys q.0)) (Appends_then a b c xs (take q.0 ys) p q.1))

pub AppendsFront_all : (a b : Option (List ℕ)) (xs : List ℕ) → Appends a b xs → AppendsFront a b xs
AppendsFront_all a b xs p = (length xs, subst (λ (s : List ℕ). Appends a b s) (sym (take_all (length xs) xs (omega arith))) p)

pub Appends_none : (a : Option (List ℕ)) → Appends a a []
Appends_none None = tt
Appends_none (Some a) = sym (append-nil a)

pub Appends_kept : (a b c : Option (List ℕ)) (xs : List ℕ) → Appends a b xs → Keeps b c → Appends a c xs
Appends_kept None b c xs p k = tt
Appends_kept (Some a) None c xs p k = absurd p
Appends_kept (Some a) (Some b) None xs p k = absurd k
Appends_kept (Some a) (Some b) (Some c) xs p k = k ∙ p

pub AppendsFront_none : (a b : Option (List ℕ)) (xs : List ℕ) → Keeps a b → AppendsFront a b xs
AppendsFront_none a b xs k = (0, Appends_kept a a b [] (Appends_none a) k)
