-- Each answer has the keys to which its receiver is entitled.
use Rattle.std.proofs.Common.{◌≡◌, ℕ, ◌+◌, ◌==◌, ◌||◌, Bool, true, false, cond, not, List, All, Option, Some, None, codes, is_some, slice_get, refl, sym, subst, ap, ◌∙◌, eqb-true, eq-eqb}
use Rattle.std.proofs.lemmas.List.Elements.{All-get_or}
use Rattle.std.proofs.lemmas.Option.{get_or_from_slice_get, slice_get_within}
use Rattle.agreements.proofs.Belonging.{is_some-find}
use Rattle.wire_ids.specs.declared.eui.Eui.{Eui}
use Rattle.wire_ids.specs.declared.keys.RootKeys.{RootKeys}
use Rattle.wire_ids.specs.declared.keys.Seed.{Seed}
use Rattle.wire_ids.specs.declared.party.Sender.{Sender}
use Rattle.wire_ids.specs.declared.party.Sender.TheVariants.{Network, Party}
use Rattle.key_vault.specs.Table.{app_at, nwk_at}
use Rattle.agreements.specs.Walk.{Config}
use Rattle.agreements.specs.LookUps.{Belongs}
use Rattle.agreements.specs.declared.rows.ApplicationRow.{ApplicationRow}
use Rattle.agreements.specs.declared.rows.DeviceRow.{DeviceRow}
use Rattle.agreements.specs.declared.rows.NetworkRow.{NetworkRow}
use Rattle.backend_json.specs.Keys.{key_if, members_of_keys}
use Rattle.backend_json.proofs.KeysWritten.{app_s_key_written, home_ns_written, join_written, none_written, rejoin_written}
use Rattle.backend_json.specs.declared.head.Head.{Head}
use Rattle.backend_json.specs.declared.request.AppSKeyRequest.{AppSKeyRequest}
use Rattle.backend_json.specs.declared.request.JoinRequest.{JoinRequest}
use Rattle.entitlement.specs.Keys.{entitled}
use Rattle.entitlement.specs.Roles.{role}
use Rattle.entitlement.specs.declared.roles.AnswerKind.TheVariants as answer
use Rattle.entitlement.specs.declared.roles.Facts.{Facts}
use Rattle.entitlement.specs.declared.roles.Role.TheVariants.{Application, Home, Stranger}
use Rattle.entries.specs.declared.used_seed.UsedSeed.{UsedSeed}
use Rattle.entries.specs.declared.used_seed.UsedSeed.TheVariants.{Rejoin0, Rejoin1, Rejoin2}
use Rattle.entry_codec.specs.Devices.{joined, rejoined, seed_of}
use Rattle.entry_codec.specs.Machine.{Machine, on_change}
use Rattle.entry_codec.specs.declared.device.Device.{Device}
use Rattle.entry_codec.specs.declared.device.KeptSeed.{KeptSeed}
use Rattle.join_frames.specs.declared.join_up.JoinUp.{JoinUp}
use Rattle.js_core.specs.declared.activation.Activation.{Activation}
use Rattle.js_core.specs.declared.activation.Activation.TheVariants as by
use Rattle.js_core.specs.Agreement.{Agrees, AnswersAgree, entitled_fields, facts_of}
use Rattle.js_core.specs.Found.{Found, found_of}
use Rattle.js_core.specs.Frames.{counter_of}
use Rattle.js_core.specs.Parties.{application_named, is_known, network_of}
use Rattle.js_core.specs.Replies.{accepted, answer_keys, answer_kind, app_s_key_answer, app_s_key_reply, application_key, entries_for, for_application, for_network, join_members, no_facts, seed_with}
use Rattle.js_core.specs.Steps.{change_by, change_of, next_seed, step_of}
use Rattle.js_core.proofs.Cases.{HoldsInCases, IsAsked, IsJoin, StandsAt, by_cases, found_name, found_there, same_eui, stands_at}
use Rattle.js_core.proofs.Changes.{slice_get-changed_same}

some_of : {A : Type 0} (o : Option A) → is_some o ≡ true → (x : A) × (o ≡ Some x)
some_of None h = absurd cc
some_of (Some x) h = (x, refl)

neither_not : (a b : Bool) → (not a || b) ≡ false → a ≡ true
neither_not true b h = refl
neither_not false b h = absurd cc

-- ---- the keys of a session

application_there : (c : Config) (at : ℕ) (row : DeviceRow) → All (Belongs c.desk.net_id c.networks c.applications) c.devices → slice_get c.devices at ≡ Some row
    → is_some (application_named c row.app) ≡ true
application_there c at row valid is =
    let at_row = All-get_or (Belongs c.desk.net_id c.networks c.applications) c.devices at row (slice_get_within c.devices at row is) valid in
    let belongs : Belongs c.desk.net_id c.networks c.applications row = subst (λ (r : DeviceRow). Belongs c.desk.net_id c.networks c.applications r) (get_or_from_slice_get c.devices at row row is) at_row in
    is_some-find _ c.applications ∙ belongs.1

home_fields : (c : Config) (keys : List RootKeys) (at : ℕ) (row : DeviceRow) (net : ℕ) (seed : Seed) (carry : Bool) (lifetime : ℕ) (network : NetworkRow) (application : ApplicationRow)
    → network_of c net ≡ Some network → network_of c row.home ≡ Some network → application_named c row.app ≡ Some application
    → members_of_keys (answer_keys c (nwk_at keys at) (app_at keys at) row seed (entitled answer.JoinAns Home carry lifetime)) ≡ entitled_fields c keys at row (Network net) seed (entitled answer.JoinAns Home carry lifetime)
unfolding answer_keys for_network for_application
home_fields c keys at row net seed true lifetime network application er en ea = rw (er, en, ea) refl
home_fields c keys at row net seed false lifetime network application er en ea = rw (er, en) refl

app_fields : (c : Config) (keys : List RootKeys) (at : ℕ) (row : DeviceRow) (receiver : Sender) (seed : Seed) (carry : Bool) (application : ApplicationRow)
    → application_named c row.app ≡ Some application
    → key_if (codes "AppSKey") (application_key c (app_at keys at) row seed (entitled answer.AppSKeyAns Application carry 0)) ≡ entitled_fields c keys at row receiver seed (entitled answer.AppSKeyAns Application carry 0)
unfolding for_application
app_fields c keys at row receiver seed carry application ea = rw ea refl

home_row : (c : Config) (row : DeviceRow) (net : ℕ) (network : NetworkRow) → (row.home == net) ≡ true → network_of c net ≡ Some network → network_of c row.home ≡ Some network
home_row c row net network e is = subst (λ (n : ℕ). network_of c n ≡ Some network) (sym (eqb-true row.home net e)) is

join_fields_by : (c : Config) (keys : List RootKeys) (at : ℕ) (row : DeviceRow) (seed : Seed) (net : ℕ) (b : Bool)
    → (row.home == net) ≡ b → is_some (network_of c net) ≡ true → is_some (application_named c row.app) ≡ true
    → members_of_keys (answer_keys c (nwk_at keys at) (app_at keys at) row seed (entitled answer.JoinAns (cond b Home Stranger) row.carry_app c.desk.lifetime_s)) ≡ entitled_fields c keys at row (Network net) seed (entitled answer.JoinAns (cond b Home Stranger) row.carry_app c.desk.lifetime_s)
unfolding answer_keys
join_fields_by c keys at row seed net true e known there =
    let network = some_of (network_of c net) known in
    let application = some_of (application_named c row.app) there in
    home_fields c keys at row net seed row.carry_app c.desk.lifetime_s network.0 application.0 network.1 (home_row c row net network.0 e network.1) application.1
join_fields_by c keys at row seed net false e known there = refl

join_fields : (c : Config) (keys : List RootKeys) (at : ℕ) (row : DeviceRow) (seed : Seed) (sender : Sender)
    → is_known c sender ≡ true → is_some (application_named c row.app) ≡ true
    → members_of_keys (answer_keys c (nwk_at keys at) (app_at keys at) row seed (entries_for row sender answer.JoinAns c.desk.lifetime_s)) ≡ entitled_fields c keys at row sender seed (entries_for row sender answer.JoinAns c.desk.lifetime_s)
unfolding answer_keys is_known
join_fields c keys at row seed (Network net) known there = join_fields_by c keys at row seed net (row.home == net) refl known there
join_fields c keys at row seed (Party id) known there = refl

app_fields_by : (c : Config) (keys : List RootKeys) (at : ℕ) (row : DeviceRow) (receiver : Sender) (seed : Seed) (b : Bool)
    → is_some (application_named c row.app) ≡ true
    → key_if (codes "AppSKey") (application_key c (app_at keys at) row seed (entitled answer.AppSKeyAns (cond b Application Stranger) row.carry_app 0)) ≡ entitled_fields c keys at row receiver seed (entitled answer.AppSKeyAns (cond b Application Stranger) row.carry_app 0)
app_fields_by c keys at row receiver seed true there =
    let application = some_of (application_named c row.app) there in
    app_fields c keys at row receiver seed row.carry_app application.0 application.1
app_fields_by c keys at row receiver seed false there = refl

app_s_key_fields : (c : Config) (keys : List RootKeys) (at : ℕ) (row : DeviceRow) (seed : Seed) (sender : Sender)
    → is_some (application_named c row.app) ≡ true
    → key_if (codes "AppSKey") (application_key c (app_at keys at) row seed (entries_for row sender answer.AppSKeyAns 0)) ≡ entitled_fields c keys at row sender seed (entries_for row sender answer.AppSKeyAns 0)
app_s_key_fields c keys at row seed (Network net) there = refl
app_s_key_fields c keys at row seed (Party id) there = app_fields_by c keys at row (Party id) seed (row.app.0 == id.0) there

-- ---- roles, whatever there is of roaming

join_entries : (row : DeviceRow) (facts : Facts) (sender : Sender) (lifetime : ℕ)
    → entitled answer.JoinAns (role row facts sender answer.JoinAns) row.carry_app lifetime ≡ entries_for row sender answer.JoinAns lifetime
join_entries row facts (Network net) lifetime = refl
join_entries row facts (Party id) lifetime = refl

app_s_key_entries : (row : DeviceRow) (facts : Facts) (sender : Sender)
    → entitled answer.AppSKeyAns (role row facts sender answer.AppSKeyAns) row.carry_app 0 ≡ entries_for row sender answer.AppSKeyAns 0
app_s_key_entries row facts (Network net) = refl
app_s_key_entries row facts (Party id) = refl

rejoin_by : (b carry : Bool) (lifetime : ℕ) → entitled answer.RejoinAns (cond b Home Stranger) carry lifetime ≡ entitled answer.JoinAns (cond b Home Stranger) carry lifetime
rejoin_by true carry lifetime = refl
rejoin_by false carry lifetime = refl

-- a RejoinAns entitles as a JoinAns does
rejoin_entries : (row : DeviceRow) (facts : Facts) (sender : Sender) (lifetime : ℕ)
    → entitled answer.RejoinAns (role row facts sender answer.RejoinAns) row.carry_app lifetime ≡ entries_for row sender answer.JoinAns lifetime
rejoin_entries row facts (Network net) lifetime = rejoin_by (row.home == net) row.carry_app lifetime
rejoin_entries row facts (Party id) lifetime = refl

kind_entries : (activation : Activation) (row : DeviceRow) (facts : Facts) (sender : Sender) (lifetime : ℕ)
    → entitled (answer_kind activation) (role row facts sender (answer_kind activation)) row.carry_app lifetime ≡ entries_for row sender answer.JoinAns lifetime
kind_entries by.Join row facts sender lifetime = join_entries row facts sender lifetime
kind_entries by.Rejoin row facts sender lifetime = rejoin_entries row facts sender lifetime

-- ---- joins and rejoins

-- the newest seed of a device after a step
abbrev first_seed : Seed → KeptSeed
first_seed seed = record { seed = seed; rj_count0 = None }

after_join : (counter nonce : ℕ) (d : Device) → seed_with nonce (joined counter nonce None d) ≡ Some (first_seed (seed_of counter nonce d))
unfolding joined
after_join counter nonce d = rw (eq-eqb nonce nonce refl) refl

after_rejoin : (used : UsedSeed) (counter nonce : ℕ) (d : Device) → seed_with nonce (rejoined used counter nonce None d) ≡ Some (first_seed (seed_of counter nonce d))
unfolding rejoined
after_rejoin (Rejoin0 place) counter nonce d = rw (eq-eqb nonce nonce refl) refl
after_rejoin Rejoin1 counter nonce d = rw (eq-eqb nonce nonce refl) refl
after_rejoin (Rejoin2 place) counter nonce d = rw (eq-eqb nonce nonce refl) refl

-- the device that a step leaves, and its new seed
record Left (c : Config) (m : Machine) (f : Found) (seed : Seed) : Type 0 where
  kept : Device
  is_found : found_of c m f.row.dev_eui ≡ Some (record f { kept = kept })
  is_seed : seed_with seed.nonce kept ≡ Some (first_seed seed)

left_by : (c : Config) (m : Machine) (f : Found) (dev : Eui) (kept : Device) (seed : Seed) (devices : List Device) → StandsAt c m dev f
    → slice_get devices f.device ≡ Some kept → seed_with seed.nonce kept ≡ Some (first_seed seed) → Left c (record m { devices = devices }) f seed
left_by c m f dev kept seed devices is is_kept new = record {
  kept = kept;
  is_found = found_there c (record m { devices = devices }) f.row.dev_eui (record f { kept = kept }) (record {
    is_place = rw (found_name c m dev f is) is.is_place;
    is_row = is.is_row;
    is_kept = is_kept;
  });
  is_seed = new;
}

change_left : (c : Config) (m : Machine) (sender : Sender) (f : Found) (dev : Eui) (used : Option UsedSeed) (counter : ℕ) → StandsAt c m dev f
    → Left c (on_change sender (change_by used f.device (seed_of counter (f.kept.join_nonce + 1) f.kept) None) m) f (seed_of counter (f.kept.join_nonce + 1) f.kept)
unfolding on_change
change_left c m sender f dev None counter is =
    let nonce = f.kept.join_nonce + 1 in
    left_by c m f dev (joined counter nonce None f.kept) (seed_of counter nonce f.kept) _ is
    (slice_get-changed_same f.device (joined counter nonce None) m.devices f.kept is.is_kept) (after_join counter nonce f.kept)
change_left c m sender f dev (Some used) counter is =
    let nonce = f.kept.join_nonce + 1 in
    left_by c m f dev (rejoined used counter nonce None f.kept) (seed_of counter nonce f.kept) _ is
    (slice_get-changed_same f.device (rejoined used counter nonce None) m.devices f.kept is.is_kept) (after_rejoin used counter nonce f.kept)

-- the keys of an answer to a join- or rejoin-request
kind_fields : (c : Config) (keys : List RootKeys) (activation : Activation) (at : ℕ) (row : DeviceRow) (facts : Facts) (seed : Seed) (sender : Sender)
    → is_known c sender ≡ true → is_some (application_named c row.app) ≡ true
    → members_of_keys (answer_keys c (nwk_at keys at) (app_at keys at) row seed (entries_for row sender (answer_kind activation) c.desk.lifetime_s))
    ≡ entitled_fields c keys at row sender seed (entitled (answer_kind activation) (role row facts sender (answer_kind activation)) row.carry_app c.desk.lifetime_s)
kind_fields c keys activation at row facts seed sender known there =
    rw (kind_entries activation row facts sender c.desk.lifetime_s, kind_entries activation row no_facts sender c.desk.lifetime_s)
    (join_fields c keys at row seed sender known there)

module _ (c : Config) (keys : List RootKeys) (m : Machine) (now : ℕ) (head : Head) (valid : All (Belongs c.desk.net_id c.networks c.applications) c.devices) (known : is_known c head.sender ≡ true) where
  -- what a step leaves of the device of a request
  step_left : (activation : Activation) (request : JoinRequest) (up : JoinUp) (f : Found) → IsJoin c (nwk_at keys) m activation head request up f
      → Left c (on_change head.sender (change_of f.device (step_of (nwk_at keys f.device) request.phy_payload up f.kept) None) m) f (next_seed up f.kept)
  step_left activation request up f is =
      change_left c m head.sender f request.dev_eui (step_of (nwk_at keys f.device) request.phy_payload up f.kept).used (counter_of up) (stands_at c m request.dev_eui f is.is_found)

  fields_there : (activation : Activation) (request : JoinRequest) (up : JoinUp) (f : Found) (kept : Device) → IsJoin c (nwk_at keys) m activation head request up f
      → members_of_keys (answer_keys c (nwk_at keys f.device) (app_at keys f.device) f.row (next_seed up f.kept) (entries_for f.row head.sender (answer_kind activation) c.desk.lifetime_s))
      ≡ entitled_fields c keys f.device f.row head.sender (next_seed up f.kept) (entitled (answer_kind activation) (role f.row (facts_of head.sender now kept) head.sender (answer_kind activation)) f.row.carry_app c.desk.lifetime_s)
  fields_there activation request up f kept is =
      kind_fields c keys activation f.device f.row (facts_of head.sender now kept) (next_seed up f.kept) head.sender known (application_there c f.device f.row valid (stands_at c m request.dev_eui f is.is_found).is_row)

  join_agrees : (activation : Activation) (request : JoinRequest) (up : JoinUp) (f : Found) → IsJoin c (nwk_at keys) m activation head request up f
      → Agrees c keys m now head.sender (accepted c (nwk_at keys) (app_at keys) activation head request up f)
  unfolding join_members
  join_agrees by.Join request up f is =
      let left = step_left by.Join request up f is in
      record {
        device = record f { kept = left.kept };
        seed = first_seed (next_seed up f.kept);
        is_found = left.is_found;
        is_seed = left.is_seed;
        fields = join_written _ _ ∙ fields_there by.Join request up f left.kept is;
      }
  join_agrees by.Rejoin request up f is =
      let left = step_left by.Rejoin request up f is in
      record {
        device = record f { kept = left.kept };
        seed = first_seed (next_seed up f.kept);
        is_found = left.is_found;
        is_seed = left.is_seed;
        fields = rejoin_written _ _ ∙ fields_there by.Rejoin request up f left.kept is;
      }

  app_s_key_agrees : (request : AppSKeyRequest) (f : Found) (seed : KeptSeed) → IsAsked c m request f seed
      → Agrees c keys m now head.sender (app_s_key_reply c (app_at keys) head request f seed.seed)
  unfolding app_s_key_answer
  app_s_key_agrees request f seed is =
      let same : request.session_key_id.dev_eui ≡ request.dev_eui = same_eui _ _ (eqb-true _ _ (neither_not _ _ is.right)) in
      let there = application_there c f.device f.row valid (stands_at c m request.dev_eui f is.is_found).is_row in (
        record {
          device = f;
          seed = seed;
          is_found = rw same is.is_found;
          is_seed = is.is_seed;
          fields = app_s_key_written _ _ ∙ (app_s_key_fields c keys f.device f.row seed.seed head.sender there
              ∙ ap (entitled_fields c keys f.device f.row head.sender seed.seed) (sym (app_s_key_entries f.row (facts_of head.sender now f.kept) head.sender)));
        },
        same,
      )

  agree_cases : HoldsInCases c (nwk_at keys) (app_at keys) (app_at keys) m head (λ left right. Agrees c keys m now head.sender left)
  agree_cases = record {
    refusal = λ why. none_written head why;
    join = join_agrees;
    app_s_key = app_s_key_agrees;
    home_ns = λ f. home_ns_written head _;
  }

pub answers_agree : AnswersAgree
answers_agree c keys m now head request valid known =
    by_cases c (nwk_at keys) (app_at keys) (app_at keys) m head (λ left right. Agrees c keys m now head.sender left) (agree_cases c keys m now head valid known) request
