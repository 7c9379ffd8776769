-- What the code's values are, and the text of an object while it is written.
use Rattle.std.specs.Prelude.{◌≡◌, ℕ, List, ◌∷◌, ◌++◌, Bool, option_map}
use Rattle.json.specs.Print.{quoted}
use Rattle.serde_json.specs.Data.{Data, Members, string, number, unsigned}
use Rattle.serde_json.specs.Written.{compact_text, members_text}
use Rattle.wire_ids.specs.Digits.{eui_digits, net_digits}
use Rattle.backend_json.specs.declared.members.Members.{Members as Written}
use Rattle.backend_json.specs.declared.object.Member.{Member}
use Rattle.backend_json.specs.declared.value.Part.{Part}
use Rattle.backend_json.specs.declared.value.Part.TheVariants as part
use Rattle.backend_json.specs.declared.value.Value.{Value}
use Rattle.backend_json.specs.declared.value.Value.TheVariants as value
use Rattle.backend_json.specs.Answers.{AnswerMembers, hex_data, key_data, result_data, session_bytes}
use Rattle.backend_json.specs.Names.{name_text}
use Rattle.backend_json.specs.Objects.{Field, field, member_if}

abbrev pub part_data : Part → Data
part_data (part.Text text more) = string (text.now ++ more.now)
part_data (part.Hex bytes) = hex_data bytes.now

abbrev pub value_data : Value → Data
value_data (value.Text text) = string text.now
value_data (value.Hex bytes) = hex_data bytes.now
value_data (value.Number n) = number (unsigned n)
value_data (value.Eui eui) = string (eui_digits eui)
value_data (value.Net net) = string (net_digits net)
value_data (value.Session id) = hex_data (session_bytes id)
value_data (value.Key key) = key_data key.now
value_data (value.Result code words said) = result_data code (words.now ++ said.now)

abbrev pub field_now : {V : Type 0} → (V → Data) → Member V → Field
field_now json m = field (name_text m.0) (option_map json m.1.now)

abbrev pub members_now : Written → AnswerMembers
members_now m = record {
  app_s_key = option_map value_data m.app_s_key;
  dev_eui = option_map value_data m.dev_eui;
  f_cnt_up = option_map value_data m.f_cnt_up;
  f_nwk_s_int_key = option_map value_data m.f_nwk_s_int_key;
  h_net_id = option_map value_data m.h_net_id;
  lifetime = option_map value_data m.lifetime;
  message_type = option_map value_data m.message_type;
  nwk_s_enc_key = option_map value_data m.nwk_s_enc_key;
  phy_payload = option_map value_data m.phy_payload;
  protocol_version = option_map value_data m.protocol_version;
  receiver_id = option_map value_data m.receiver_id;
  result = option_map value_data m.result;
  s_nwk_s_int_key = option_map value_data m.s_nwk_s_int_key;
  sender_id = option_map value_data m.sender_id;
  session_key_id = option_map value_data m.session_key_id;
  transaction_id = option_map value_data m.transaction_id;
}

-- a name, the colon and the value
unfoldable pub entry_text : List ℕ → Data → List ℕ
entry_text name d = quoted name ++ 58 ∷ compact_text d

-- a member was written where it is there: whatever members follow, the text of the object is the same
abbrev pub GoesOn : Field → List ℕ → Bool → List ℕ → Bool → Type 0
GoesOn f old later new after = (rest : Members) → new ++ members_text after rest ≡ old ++ members_text later (member_if f.name f.value rest)
