-- Records that lie one behind another.
use Rattle.std.specs.Prelude.{◌≡◌, ℕ, ◌≤◌, List, [], ◌∷◌, length, take, drop, Some}
use Rattle.keepers.specs.Keeper.{Image}

-- bytes cut into records of these lengths
abbrev pub cut : List ℕ → List ℕ → List (List ℕ)
cut [] text = []
cut (n ∷ lengths) text = take n text ∷ cut lengths (drop n text)

-- a keeper that only adds has had each front that is at least so long
abbrev pub HadSince : List (List ℕ) → ℕ → Image → Type 0
HadSince records t image = (n : ℕ) × (t ≤ n) × (n ≤ length records) × (image ≡ Some (take n records))
