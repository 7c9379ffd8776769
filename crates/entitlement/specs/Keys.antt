-- Who is entitled to which session keys, and under whose label they are wrapped. FNwkSIntKey, SNwkSIntKey,
-- NwkSEncKey and AppSKey are the session keys of LoRaWAN 1.1, 6.1.2.2 to 6.1.2.5.
use Rattle.std.specs.Prelude.{ℕ, nat_lt, Bool, if◌then◌else◌, List, [], ◌∷◌, ◌++◌}
use Rattle.entitlement.specs.declared.roles.AnswerKind.{AnswerKind}
use Rattle.entitlement.specs.declared.roles.AnswerKind.TheVariants.{JoinAns, RejoinAns, HRStartAns, PRStartAns, AppSKeyAns}
use Rattle.entitlement.specs.declared.roles.Role.{Role}
use Rattle.entitlement.specs.declared.roles.Role.TheVariants.{Home, Serving, Forwarding, Application}
use Rattle.entitlement.specs.declared.keys.KeySet.{KeySet}

pub data KeyName : Type 0 where
  FNwkSIntKey : KeyName
  SNwkSIntKey : KeyName
  NwkSEncKey : KeyName
  AppSKey : KeyName

-- whose label and KEK a key is under
pub data LabelOwner : Type 0 where
  TheNetwork : LabelOwner
  TheApplication : LabelOwner

abbrev pub Entry : Type 0
Entry = KeyName × LabelOwner

-- the three network session keys, under the network's label
abbrev pub network_keys : List Entry
network_keys = (FNwkSIntKey, TheNetwork) ∷ (SNwkSIntKey, TheNetwork) ∷ (NwkSEncKey, TheNetwork) ∷ []

abbrev pub application_key : List Entry
application_key = (AppSKey, TheApplication) ∷ []

-- The table of entitlement: the answer, the receiver's role, whether the device's row says that the
-- home network carries the application's key, and the Lifetime. What isn't in it carries no key.
abbrev pub entitled : AnswerKind → Role → Bool → ℕ → List Entry
entitled JoinAns Home carry_app lifetime = network_keys ++ (if carry_app then application_key else [])
entitled RejoinAns Home carry_app lifetime = network_keys ++ (if carry_app then application_key else [])
entitled HRStartAns Serving carry_app lifetime = network_keys
entitled PRStartAns Forwarding carry_app lifetime = if nat_lt 0 lifetime then (FNwkSIntKey, TheNetwork) ∷ [] else []
entitled AppSKeyAns Application carry_app lifetime = application_key
entitled answer receiver carry_app lifetime = []

abbrev pub entry_where : Bool → Entry → List Entry
entry_where flag entry = if flag then entry ∷ [] else []

-- the keys of a set: F, S and E under the network's label, App under the application's
abbrev pub entries_of : KeySet → List Entry
entries_of keys =
    entry_where keys.f (FNwkSIntKey, TheNetwork)
    ++ (entry_where keys.s (SNwkSIntKey, TheNetwork)
    ++ (entry_where keys.e (NwkSEncKey, TheNetwork)
    ++ entry_where keys.app (AppSKey, TheApplication)))
