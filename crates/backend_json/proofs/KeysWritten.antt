-- The keys among the members that are written are those of the answer.
use Rattle.std.proofs.Common.{◌≡◌, ℕ, List, [], ◌++◌, Option, Some, None, option_map, codes, refl, append-nil}
use Rattle.backend_json.specs.declared.answer.Answer.TheVariants.{Headed, Headless}
use Rattle.backend_json.specs.declared.answer.AnswerKeys.{AnswerKeys}
use Rattle.backend_json.specs.declared.answer.AppSKeyAnswer.{AppSKeyAnswer}
use Rattle.backend_json.specs.declared.answer.HomeNsAnswer.{HomeNsAnswer}
use Rattle.backend_json.specs.declared.answer.JoinAnswer.{JoinAnswer}
use Rattle.backend_json.specs.declared.answer.KeyEnvelope.{KeyEnvelope}
use Rattle.backend_json.specs.declared.answer.Outcome.TheVariants.{AppSKeyAns, HomeNSAns, JoinAns, Refused, RejoinAns, UplinkAns, XmitDataAns}
use Rattle.backend_json.specs.declared.answer.UplinkAnswer.{UplinkAnswer}
use Rattle.backend_json.specs.declared.answer.XmitDataAnswer.{XmitDataAnswer}
use Rattle.backend_json.specs.declared.head.Head.{Head}
use Rattle.backend_json.specs.declared.refusal.Refusal.{Refusal}
use Rattle.backend_json.specs.declared.session.SessionKeyId.{SessionKeyId}
use Rattle.backend_json.specs.Answers.{answer_members, hex_data, key_data, named, number_data, result_data, session_data}
use Rattle.backend_json.specs.Keys.{KeyMember, KeysAreWritten, key_if, key_in, key_members, members_of_keys}

key_read : (name : List ℕ) (key : Option KeyEnvelope) → key_in name (option_map key_data key) ≡ key_if name key
unfolding key_data
key_read name None = refl
key_read name (Some key) = refl

abbrev read : List ℕ → Option KeyEnvelope → List KeyMember
read name key = key_in name (option_map key_data key)

all_read : (keys : AnswerKeys)
    → read (codes "AppSKey") keys.app_s_key ++ (read (codes "FNwkSIntKey") keys.f_nwk_s_int_key ++ (read (codes "NwkSEncKey") keys.nwk_s_enc_key ++ (read (codes "SNwkSIntKey") keys.s_nwk_s_int_key ++ [])))
    ≡ members_of_keys keys
all_read keys = rw (
  key_read (codes "AppSKey") keys.app_s_key,
  key_read (codes "FNwkSIntKey") keys.f_nwk_s_int_key,
  key_read (codes "NwkSEncKey") keys.nwk_s_enc_key,
  key_read (codes "SNwkSIntKey") keys.s_nwk_s_int_key,
  append-nil (key_if (codes "SNwkSIntKey") keys.s_nwk_s_int_key),
) refl

pub headless_written : key_members Headless ≡ []
unfolding key_members answer_members named result_data
headless_written = refl

pub none_written : (head : Head) (cause : Refusal) → key_members (Headed head (Refused cause)) ≡ []
unfolding key_members answer_members named result_data
none_written head cause = refl

pub join_written : (head : Head) (answer : JoinAnswer) → key_members (Headed head (JoinAns answer)) ≡ members_of_keys answer.keys
unfolding key_members answer_members named result_data
join_written head answer = all_read answer.keys

pub rejoin_written : (head : Head) (answer : JoinAnswer) → key_members (Headed head (RejoinAns answer)) ≡ members_of_keys answer.keys
unfolding key_members answer_members named result_data
rejoin_written head answer = all_read answer.keys

pub home_ns_written : (head : Head) (answer : HomeNsAnswer) → key_members (Headed head (HomeNSAns answer)) ≡ []
unfolding key_members answer_members named result_data
home_ns_written head answer = refl

-- a number and a text are no key
number_read : (name : List ℕ) (n : Option ℕ) → key_in name (option_map number_data n) ≡ []
number_read name None = refl
number_read name (Some n) = refl

bytes_read : (name : List ℕ) (bytes : Option (List ℕ)) → key_in name (option_map hex_data bytes) ≡ []
bytes_read name None = refl
bytes_read name (Some bytes) = refl

session_read : (name : List ℕ) (id : Option SessionKeyId) → key_in name (option_map session_data id) ≡ []
session_read name None = refl
session_read name (Some id) = refl

pub uplink_written : (head : Head) (answer : UplinkAnswer) → key_members (Headed head (UplinkAns answer)) ≡ []
unfolding key_members answer_members named result_data
uplink_written head answer = rw (
  number_read (codes "FCntUp") answer.f_cnt_up,
  bytes_read (codes "PHYPayload") answer.phy_payload,
  session_read (codes "SessionKeyID") answer.session_key_id,
) refl

pub xmit_data_written : (head : Head) (answer : XmitDataAnswer) → key_members (Headed head (XmitDataAns answer)) ≡ []
unfolding key_members answer_members named result_data
xmit_data_written head answer = rw (bytes_read (codes "PHYPayload") answer.phy_payload) refl

one_read : (name : List ℕ) (key : Option KeyEnvelope) → read name key ++ [] ≡ key_if name key
one_read name key = rw (key_read name key, append-nil (key_if name key)) refl

pub app_s_key_written : (head : Head) (answer : AppSKeyAnswer) → key_members (Headed head (AppSKeyAns answer)) ≡ key_if (codes "AppSKey") answer.app_s_key
unfolding key_members answer_members named result_data
app_s_key_written head answer = one_read (codes "AppSKey") answer.app_s_key

pub keys_are_written : KeysAreWritten
keys_are_written = record { headless = headless_written; refused = none_written; join = join_written; rejoin = rejoin_written; app_s_key = app_s_key_written; home_ns = home_ns_written; uplink = uplink_written; xmit_data = xmit_data_written }
