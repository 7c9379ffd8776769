-- The AppKey of a device reaches only answers to those who are entitled to its AppSKey.
use mathlib.Core.Path.{fun_ext}
use Rattle.std.proofs.Common.{◌≡◌, ◌≢◌, ℕ, zero, suc, ◌==◌, Bool, true, false, List, [], ◌∷◌, map, Option, Some, None, option_map, slice_get, refl, sym, subst, ap, ◌∙◌, inl, inr, eqb-true, eq-eqb}
use Rattle.std.specs.List.{list_any}
use Rattle.std.proofs.lemmas.Bool.{cases_Bool, false≢true}
use Rattle.wire_ids.specs.Lists.{changed}
use Rattle.wire_ids.proofs.Lists.{changed-cons}
use Rattle.wire_ids.specs.declared.keys.RootKeys.{RootKeys}
use Rattle.wire_ids.specs.declared.keys.Seed.{Seed}
use Rattle.key_vault.specs.Keys.{app_session_key, network_keys}
use Rattle.key_vault.specs.Table.{app_at, nwk_at}
use Rattle.join_frames.specs.Accepts.{accept_text}
use Rattle.join_frames.specs.declared.join_up.JoinUp.{JoinUp}
use Rattle.agreements.specs.Walk.{Config}
use Rattle.agreements.specs.LookUps.{keys_of}
use Rattle.agreements.specs.declared.rows.ApplicationRow.{ApplicationRow}
use Rattle.agreements.specs.declared.rows.DeviceRow.{DeviceRow}
use Rattle.backend_json.specs.declared.answer.Answer.{Answer}
use Rattle.backend_json.specs.declared.answer.Answer.TheVariants.{Headed}
use Rattle.backend_json.specs.declared.answer.AnswerKeys.{AnswerKeys}
use Rattle.backend_json.specs.declared.answer.KeyEnvelope.{KeyEnvelope}
use Rattle.backend_json.specs.declared.answer.Outcome.TheVariants.{AppSKeyAns}
use Rattle.backend_json.specs.declared.head.Head.{Head}
use Rattle.backend_json.specs.declared.request.AppSKeyRequest.{AppSKeyRequest}
use Rattle.backend_json.specs.declared.request.JoinRequest.{JoinRequest}
use Rattle.backend_json.specs.declared.request.Request.{Request}
use Rattle.entitlement.specs.Keys.{Entry}
use Rattle.entitlement.specs.declared.roles.AnswerKind.TheVariants as answer
use Rattle.entry_codec.specs.Machine.{Machine}
use Rattle.js_core.specs.declared.activation.Activation.{Activation}
use Rattle.js_core.specs.declared.activation.Activation.TheVariants as by
use Rattle.js_core.specs.AppKey.{AnswersAlike, AppKeyStays, DecisionsAlike, is_entitled, keys_without, row_with_app_key, with_app_key, without_aes_key, without_key}
use Rattle.js_core.specs.Parties.{application_named}
use Rattle.js_core.specs.Replies.{JsDecision, accept_of, answer_keys, answer_kind, app_s_key_answer, entries_for, for_application, for_network, is_app_s_key, is_f_nwk_s_int_key, is_nwk_s_enc_key, is_s_nwk_s_int_key, join_members, js_decided, outcome_of, sealed_by, where_set}
use Rattle.js_core.specs.Steps.{next_seed}
use Rattle.js_core.proofs.Cases.{HoldsInCases, by_cases, found_row, stands_at}
use Rattle.js_core.proofs.Unread.{SameBare, same_bare, unread}

-- ---- the root keys of two tables that differ in one AppKey

pub record KeysAlike (d : ℕ) (keys keys' : List RootKeys) : Type 0 where
  pub nwk : nwk_at keys ≡ nwk_at keys'
  pub app : (i : ℕ) → i ≢ d → app_at keys i ≡ app_at keys' i

abbrev rows_with : ℕ → List ℕ → List DeviceRow → List RootKeys
rows_with d key rows = map keys_of (changed d (row_with_app_key key) rows)

cons_with : (d : ℕ) (key : List ℕ) (row : DeviceRow) (rows : List DeviceRow) → rows_with (suc d) key (row ∷ rows) ≡ keys_of row ∷ rows_with d key rows
cons_with d key row rows = ap (map keys_of) (changed-cons row rows d (row_with_app_key key))

nwk_with : (d : ℕ) (key : List ℕ) (rows : List DeviceRow) (i : ℕ) → nwk_at (map keys_of rows) i ≡ nwk_at (rows_with d key rows) i
nwk_with d key [] i = refl
nwk_with zero key (row ∷ rows) zero = refl
nwk_with zero key (row ∷ rows) (suc i) = refl
nwk_with (suc d) key (row ∷ rows) zero = ap (λ (ks : List RootKeys). nwk_at ks zero) (sym (cons_with d key row rows))
nwk_with (suc d) key (row ∷ rows) (suc i) = nwk_with d key rows i ∙ ap (λ (ks : List RootKeys). nwk_at ks (suc i)) (sym (cons_with d key row rows))

app_with : (d : ℕ) (key : List ℕ) (rows : List DeviceRow) (i : ℕ) → i ≢ d → app_at (map keys_of rows) i ≡ app_at (rows_with d key rows) i
app_with d key [] i other = refl
app_with zero key (row ∷ rows) zero other = absurd (other refl)
app_with zero key (row ∷ rows) (suc i) other = refl
app_with (suc d) key (row ∷ rows) zero other = ap (λ (ks : List RootKeys). app_at ks zero) (sym (cons_with d key row rows))
app_with (suc d) key (row ∷ rows) (suc i) other = app_with d key rows i (λ e. other (ap suc e)) ∙ ap (λ (ks : List RootKeys). app_at ks (suc i)) (sym (cons_with d key row rows))

pub keys_with : (d : ℕ) (key : List ℕ) (c : Config) → KeysAlike d (map keys_of c.devices) (map keys_of (with_app_key d key c).devices)
unfolding with_app_key
keys_with d key c = record { nwk = fun_ext (nwk_with d key c.devices); app = app_with d key c.devices }

-- ---- the keys of an answer, as a function of the device's two root keys

abbrev keys_by : Config → DeviceRow → Seed → List Entry → List ℕ → List ℕ → AnswerKeys
keys_by c row seed entries nwk app = record {
  f_nwk_s_int_key = where_set (list_any is_f_nwk_s_int_key entries) (for_network c row.home (network_keys nwk seed).f);
  s_nwk_s_int_key = where_set (list_any is_s_nwk_s_int_key entries) (for_network c row.home (network_keys nwk seed).s);
  nwk_s_enc_key = where_set (list_any is_nwk_s_enc_key entries) (for_network c row.home (network_keys nwk seed).e);
  app_s_key = where_set (list_any is_app_s_key entries) (for_application c row.app (app_session_key app seed));
}

-- without an AppSKey the AppKey doesn't matter
same_keys : (c : Config) (row : DeviceRow) (seed : Seed) (entries : List Entry) (nwk app app' : List ℕ) → list_any is_app_s_key entries ≡ false
    → keys_by c row seed entries nwk app ≡ keys_by c row seed entries nwk app'
same_keys c row seed entries nwk app app' none = rw none refl

-- and with one it is in the AESKey alone
same_sealed : (set : Bool) (to : Option ApplicationRow) (key key' : List ℕ)
    → option_map without_key (where_set set (option_map (λ (a : ApplicationRow). sealed_by a.kek_label a.kek key) to))
    ≡ option_map without_key (where_set set (option_map (λ (a : ApplicationRow). sealed_by a.kek_label a.kek key') to))
same_sealed true None key key' = refl
same_sealed true (Some to) key key' = refl
same_sealed false to key key' = refl

same_rest : (c : Config) (row : DeviceRow) (seed : Seed) (entries : List Entry) (nwk app app' : List ℕ)
    → keys_without (keys_by c row seed entries nwk app) ≡ keys_without (keys_by c row seed entries nwk app')
unfolding for_application
same_rest c row seed entries nwk app app' =
    ap (λ (e : Option KeyEnvelope). record (keys_by c row seed entries nwk app) { app_s_key = e })
    (same_sealed (list_any is_app_s_key entries) (application_named c row.app) (app_session_key app seed) (app_session_key app' seed))

-- an answer made of these keys and of what the NwkKey gives
abbrev Made : Type 0
Made = List ℕ → AnswerKeys → Answer

-- its kind has no other place for keys, and entitles its receiver to these entries
pub record IsMade (c : Config) (at : ℕ) (entries : List Entry) (made : Made) : Type 0 where
  pub keeps : (nwk : List ℕ) (keys keys' : AnswerKeys) → keys_without keys ≡ keys_without keys' → without_aes_key (made nwk keys) ≡ without_aes_key (made nwk keys')
  pub entitles : (nwk : List ℕ) (keys : AnswerKeys) → is_entitled c at (made nwk keys) ≡ list_any is_app_s_key entries

made_alike : (c : Config) (d at : ℕ) (row : DeviceRow) (seed : Seed) (entries : List Entry) (made : Made) (nwk nwk' app app' : List ℕ)
    → IsMade c at entries made → nwk ≡ nwk' → (at ≢ d → app ≡ app')
    → AnswersAlike c d (made nwk (keys_by c row seed entries nwk app)) (made nwk' (keys_by c row seed entries nwk' app'))
made_alike c d at row seed entries made nwk nwk' app app' is same differ =
    subst (λ (n : List ℕ). AnswersAlike c d (made nwk (keys_by c row seed entries nwk app)) (made n (keys_by c row seed entries n app'))) same (record {
      others = λ none. elim (cases_Bool (at == d)) [
        | inl own ↦ ap (made nwk) (same_keys c row seed entries nwk app app' (
            sym (is.entitles nwk (keys_by c row seed entries nwk app))
            ∙ (ap (λ (i : ℕ). is_entitled c i (made nwk (keys_by c row seed entries nwk app))) (eqb-true at d own) ∙ none)))
        | inr other ↦ ap (λ (a : List ℕ). made nwk (keys_by c row seed entries nwk a)) (differ (λ e. false≢true (sym other ∙ eq-eqb at d e)))
      ];
      rest = is.keeps nwk _ _ (same_rest c row seed entries nwk app app');
    })

-- ---- the kinds of answers with keys

abbrev join_made : Config → Activation → Head → JoinRequest → JoinUp → DeviceRow → Seed → Made
join_made c activation head request up row seed nwk keys = Headed head (outcome_of activation (record {
  phy_payload = accept_text nwk (accept_of up request row seed);
  lifetime = c.desk.lifetime_s;
  keys = keys;
  session_key_id = record { dev_eui = row.dev_eui; join_nonce = seed.nonce };
}))

join_is_made : (c : Config) (activation : Activation) (head : Head) (request : JoinRequest) (up : JoinUp) (at : ℕ) (row : DeviceRow) (seed : Seed) → slice_get c.devices at ≡ Some row
    → IsMade c at (entries_for row head.sender (answer_kind activation) c.desk.lifetime_s) (join_made c activation head request up row seed)
join_is_made c by.Join head request up at row seed is = record {
  keeps = λ nwk keys keys' same. ap (λ (k : AnswerKeys). join_made c by.Join head request up row seed nwk k) same;
  entitles = λ nwk keys. rw (is, eq-eqb row.dev_eui.0 row.dev_eui.0 refl) refl;
}
join_is_made c by.Rejoin head request up at row seed is = record {
  keeps = λ nwk keys keys' same. ap (λ (k : AnswerKeys). join_made c by.Rejoin head request up row seed nwk k) same;
  entitles = λ nwk keys. rw (is, eq-eqb row.dev_eui.0 row.dev_eui.0 refl) refl;
}

abbrev app_s_key_made : Head → AppSKeyRequest → Made
app_s_key_made head request nwk keys = Headed head (AppSKeyAns (record { dev_eui = request.dev_eui; app_s_key = keys.app_s_key; session_key_id = request.session_key_id }))

app_s_key_is_made : (c : Config) (head : Head) (request : AppSKeyRequest) (at : ℕ) (row : DeviceRow) → (row.dev_eui.0 == request.dev_eui.0) ≡ true → slice_get c.devices at ≡ Some row
    → IsMade c at (entries_for row head.sender answer.AppSKeyAns 0) (app_s_key_made head request)
app_s_key_is_made c head request at row same is = record {
  keeps = λ nwk keys keys' same. ap (λ (k : AnswerKeys). app_s_key_made head request nwk k) same;
  entitles = λ nwk keys. rw (is, same) refl;
}

-- ---- a request, under two tables of root keys

same_alike : (c : Config) (d : ℕ) (left : Answer) → AnswersAlike c d left left
same_alike c d left = record { others = λ none. refl; rest = refl }

cases_alike : (c : Config) (d : ℕ) (keys keys' : List RootKeys) (m : Machine) (head : Head) → KeysAlike d keys keys' → HoldsInCases c (nwk_at keys) (app_at keys) (app_at keys') m head (DecisionsAlike c d)
unfolding join_members app_s_key_answer answer_keys
cases_alike c d keys keys' m head same = record {
  refusal = λ why. same_alike c d _;
  join = λ activation request up f is. (
    made_alike c d f.device f.row (next_seed up f.kept) _ (join_made c activation head request up f.row (next_seed up f.kept)) _ _ _ _
        (join_is_made c activation head request up f.device f.row (next_seed up f.kept) (stands_at c m request.dev_eui f is.is_found).is_row) refl (same.app f.device),
    refl,
  );
  app_s_key = λ request f seed is.
      let at = stands_at c m request.dev_eui f is.is_found in
      made_alike c d f.device f.row seed.seed _ (app_s_key_made head request) (nwk_at keys f.device) (nwk_at keys f.device) _ _
      (app_s_key_is_made c head request f.device f.row (found_row request.dev_eui c.devices f.device f.row at.is_place at.is_row) at.is_row) refl (same.app f.device);
  home_ns = λ f. same_alike c d _;
}

-- over two tables that are the same but for AppKeys, and two tables of root keys that differ in the AppKey of row d
pub request_alike : (d : ℕ) (c c' : Config) (keys keys' : List RootKeys) → SameBare c c' → KeysAlike d keys keys' → (m : Machine) (head : Head) (request : Request)
    → DecisionsAlike c d (js_decided c (nwk_at keys) (app_at keys) m head request) (js_decided c' (nwk_at keys') (app_at keys') m head request)
request_alike d c c' keys keys' same alike m head request =
    subst (λ (x : JsDecision). DecisionsAlike c d (js_decided c (nwk_at keys) (app_at keys) m head request) x) (unread c c' same (nwk_at keys') (app_at keys') m head request)
    (subst (λ (nwk : ℕ → List ℕ). DecisionsAlike c d (js_decided c (nwk_at keys) (app_at keys) m head request) (js_decided c nwk (app_at keys') m head request)) alike.nwk
    (by_cases c (nwk_at keys) (app_at keys) (app_at keys') m head (DecisionsAlike c d) (cases_alike c d keys keys' m head alike) request))

pub app_key_stays : AppKeyStays
app_key_stays c d key m head request = request_alike d c (with_app_key d key c) _ _ (same_bare d key c) (keys_with d key c) m head request
