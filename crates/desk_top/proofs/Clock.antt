-- What a clock told, call by call.
use Rattle.std.proofs.Common.{◌≡◌, ℕ, ◌+◌, List, [], ◌∷◌, ◌++◌, Option, Some, None, refl, ◌∙◌}
use Rattle.disk_model.specs.Moments.{Tells, Told}

tells_same : (f g h : ℕ → ℕ) (ms : List ℕ) → ((n : ℕ) → g n ≡ f n) → Tells g h ms → Tells f h ms
tells_same f g h [] e p = λ n. p n ∙ e n
tells_same f g h (m ∷ ms) e p = (p.0 ∙ e 0, tells_same (λ n. f (n + 1)) (λ n. g (n + 1)) h ms (λ n. e (n + 1)) p.1)

tells_then : (f g h : ℕ → ℕ) (ms ns : List ℕ) → Tells f g ms → Tells g h ns → Tells f h (ms ++ ns)
tells_then f g h [] ns p q = tells_same f g h ns p q
tells_then f g h (m ∷ ms) ns p q = (p.0, tells_then (λ n. f (n + 1)) g h ms ns p.1 q)

pub told_then : (a b c : Option (ℕ → ℕ)) (ms ns : List ℕ) → Told a b ms → Told b c ns → Told a c (ms ++ ns)
told_then None b c ms ns p q = tt
told_then (Some f) None c ms ns p q = absurd p
told_then (Some f) (Some g) None ms ns p q = absurd q
told_then (Some f) (Some g) (Some h) ms ns p q = tells_then f g h ms ns p q

pub told_none : (a : Option (ℕ → ℕ)) → Told a a []
told_none None = tt
told_none (Some f) = λ n. refl
