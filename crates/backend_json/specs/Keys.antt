-- The keys of an answer, read from the members that are written.
use Rattle.std.specs.Prelude.{◌≡◌, ℕ, ◌&&◌, List, [], ◌∷◌, ◌++◌, codes, Option, Some, None, if◌then◌else◌}
use Rattle.std.specs.Str.{bytes_eq}
use Rattle.hex.specs.Hex.{encode_lower}
use Rattle.serde_json.specs.Data.{Data, no_members, member, string, object}
use Rattle.backend_json.specs.declared.head.Head.{Head}
use Rattle.backend_json.specs.declared.refusal.Refusal.{Refusal}
use Rattle.backend_json.specs.declared.answer.Answer.{Answer}
use Rattle.backend_json.specs.declared.answer.Answer.TheVariants.{Headless, Headed}
use Rattle.backend_json.specs.declared.answer.AnswerKeys.{AnswerKeys}
use Rattle.backend_json.specs.declared.answer.AppSKeyAnswer.{AppSKeyAnswer}
use Rattle.backend_json.specs.declared.answer.HomeNsAnswer.{HomeNsAnswer}
use Rattle.backend_json.specs.declared.answer.JoinAnswer.{JoinAnswer}
use Rattle.backend_json.specs.declared.answer.KeyEnvelope.{KeyEnvelope}
use Rattle.backend_json.specs.declared.answer.UplinkAnswer.{UplinkAnswer}
use Rattle.backend_json.specs.declared.answer.XmitDataAnswer.{XmitDataAnswer}
use Rattle.backend_json.specs.declared.answer.Outcome.TheVariants.{Refused, JoinAns, RejoinAns, AppSKeyAns, HomeNSAns, UplinkAns, XmitDataAns}
use Rattle.backend_json.specs.Answers.{answer_members, named}
use Rattle.backend_json.specs.Objects.{Field}

-- a key that an answer has: its member's name, the label of its KEK, and the digits of the wrapped key
pub record KeyMember : Type 0 where
  pub name : List ℕ
  pub kek_label : List ℕ
  pub aes_key : List ℕ

-- the key under this name, where the value is a KeyEnvelope: an object of AESKey and KEKLabel
abbrev pub key_in : List ℕ → Option Data → List KeyMember
key_in name (Some (object (member first (string aes_key) (member second (string kek_label) no_members)))) =
    if bytes_eq first (codes "AESKey") && bytes_eq second (codes "KEKLabel") then record { name = name; kek_label = kek_label; aes_key = aes_key } ∷ [] else []
key_in name value = []

-- of these members those that are keys
abbrev pub keys_in : List Field → List KeyMember
keys_in [] = []
keys_in (f ∷ rest) = key_in f.name f.value ++ keys_in rest

-- of the members that are written those that are keys
unfoldable pub key_members : Answer → List KeyMember
key_members answer = keys_in (named (answer_members answer))

-- ---- what these are of each answer

-- the member of this name, with the label and the bytes of its key
abbrev pub key_member : List ℕ → List ℕ → List ℕ → KeyMember
key_member name label key = record { name = name; kek_label = label; aes_key = encode_lower key }

abbrev pub key_if : List ℕ → Option KeyEnvelope → List KeyMember
key_if name None = []
key_if name (Some key) = key_member name key.kek_label key.aes_key ∷ []

abbrev pub members_of_keys : AnswerKeys → List KeyMember
members_of_keys keys =
    key_if (codes "AppSKey") keys.app_s_key
    ++ (key_if (codes "FNwkSIntKey") keys.f_nwk_s_int_key
    ++ (key_if (codes "NwkSEncKey") keys.nwk_s_enc_key
    ++ key_if (codes "SNwkSIntKey") keys.s_nwk_s_int_key))

-- the keys that are written are those of the answer, each under its own name; a refusal and the answers to a home look-up, to a gateway and to a downlink have none
pub record KeysAreWritten : Type 0 where
  pub headless : key_members Headless ≡ []
  pub refused : (head : Head) (cause : Refusal) → key_members (Headed head (Refused cause)) ≡ []
  pub join : (head : Head) (answer : JoinAnswer) → key_members (Headed head (JoinAns answer)) ≡ members_of_keys answer.keys
  pub rejoin : (head : Head) (answer : JoinAnswer) → key_members (Headed head (RejoinAns answer)) ≡ members_of_keys answer.keys
  pub app_s_key : (head : Head) (answer : AppSKeyAnswer) → key_members (Headed head (AppSKeyAns answer)) ≡ key_if (codes "AppSKey") answer.app_s_key
  pub home_ns : (head : Head) (answer : HomeNsAnswer) → key_members (Headed head (HomeNSAns answer)) ≡ []
  pub uplink : (head : Head) (answer : UplinkAnswer) → key_members (Headed head (UplinkAns answer)) ≡ []
  pub xmit_data : (head : Head) (answer : XmitDataAnswer) → key_members (Headed head (XmitDataAns answer)) ≡ []
