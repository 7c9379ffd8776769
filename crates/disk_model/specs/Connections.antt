-- What calls give, and what is given back to them.
use Rattle.std.specs.Prelude.{◌≡◌, ℕ, ◌+◌, ◌<◌, List, [], ◌∷◌, ◌++◌, Option, Some, None, Result, Ok, Err}

-- the first of these connections was given and the rest are left, or all where the call failed
abbrev pub GivesFirst : {C E : Type 0} → List C → List C → Result (Option C) E → Type 0
GivesFirst old new (Ok None) = (old ≡ []) × (new ≡ [])
GivesFirst old new (Ok (Some given)) = old ≡ given ∷ new
GivesFirst old new (Err fault) = new ≡ old

-- the same, where the connections are told
abbrev pub Gives : {C E : Type 0} → Option (List C) → Option (List C) → Result (Option C) E → Type 0
Gives None new result = Unit {0}
Gives (Some old) None result = ⊥
Gives (Some old) (Some new) result = GivesFirst old new result

-- a connection that was given is out
abbrev pub out_after : {C E : Type 0} → Result (Option C) E → ℕ → ℕ
out_after (Ok None) out = out
out_after (Ok (Some given)) out = out + 1
out_after (Err fault) out = out

-- a connection is out, where that is told
abbrev pub IsOut : Option ℕ → Type 0
IsOut None = Unit {0}
IsOut (Some out) = 0 < out

-- this connection was given back, behind the others, where they are told
abbrev pub TakesBack : {C : Type 0} → Option (List C) → Option (List C) → C → Type 0
TakesBack None new connection = Unit {0}
TakesBack (Some old) None connection = ⊥
TakesBack (Some old) (Some new) connection = new ≡ old ++ connection ∷ []
