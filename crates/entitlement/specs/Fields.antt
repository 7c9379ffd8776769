-- The key fields of an answer.
use Rattle.std.specs.Prelude.{ℕ, List, map}
use Rattle.key_wrap.specs.Wrap.{wrapped_key}
use Rattle.entitlement.specs.Keys.{Entry, KeyName, LabelOwner}

-- a label and its KEK
pub record Envelope : Type 0 where
  pub label : List ℕ
  pub kek : List ℕ

-- a key field: its name, KEKLabel and AESKey (TS002-1.1.0, KeyEnvelope)
pub record KeyField : Type 0 where
  pub name : KeyName
  pub label : List ℕ
  pub aes_key : List ℕ

-- an answer agrees with the table where its key fields are these: each key wrapped under its owner's KEK
abbrev pub fields_of : (KeyName → List ℕ) → (LabelOwner → Envelope) → List Entry → List KeyField
fields_of key envelope entries =
    map (λ (e : Entry). record { name = e.0; label = (envelope e.1).label; aes_key = wrapped_key (envelope e.1).kek (key e.0) }) entries
