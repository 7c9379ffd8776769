-- The entries of a set of keys are those that it has.
use Rattle.std.proofs.Common.{◌≡◌, ℕ, List, Bool, true, false, refl}
use Rattle.std.specs.List.{list_any}
use Rattle.entitlement.specs.Keys.{entries_of}
use Rattle.entitlement.specs.declared.keys.KeySet.{KeySet}
use Rattle.wire_ids.specs.declared.keys.Seed.{Seed}
use Rattle.key_vault.specs.Keys.{network_keys}
use Rattle.agreements.specs.Walk.{Config}
use Rattle.agreements.specs.declared.rows.DeviceRow.{DeviceRow}
use Rattle.js_core.specs.Replies.{answer_keys, application_key, for_network, is_app_s_key, is_nwk_s_enc_key, is_f_nwk_s_int_key, is_s_nwk_s_int_key, where_set}

abbrev set_of : Bool → Bool → Bool → Bool → KeySet
set_of f s e app = record { f = f; s = s; e = e; app = app }

flags : (f s e app : Bool)
    → (list_any is_f_nwk_s_int_key (entries_of (set_of f s e app)) ≡ f) × (list_any is_s_nwk_s_int_key (entries_of (set_of f s e app)) ≡ s)
    × (list_any is_nwk_s_enc_key (entries_of (set_of f s e app)) ≡ e) × (list_any is_app_s_key (entries_of (set_of f s e app)) ≡ app)
flags true true true true = (refl, refl, refl, refl)
flags true true true false = (refl, refl, refl, refl)
flags true true false true = (refl, refl, refl, refl)
flags true true false false = (refl, refl, refl, refl)
flags true false true true = (refl, refl, refl, refl)
flags true false true false = (refl, refl, refl, refl)
flags true false false true = (refl, refl, refl, refl)
flags true false false false = (refl, refl, refl, refl)
flags false true true true = (refl, refl, refl, refl)
flags false true true false = (refl, refl, refl, refl)
flags false true false true = (refl, refl, refl, refl)
flags false true false false = (refl, refl, refl, refl)
flags false false true true = (refl, refl, refl, refl)
flags false false true false = (refl, refl, refl, refl)
flags false false false true = (refl, refl, refl, refl)
flags false false false false = (refl, refl, refl, refl)

pub keys_of_set : (c : Config) (nwk app : List ℕ) (row : DeviceRow) (seed : Seed) (set : KeySet)
    → answer_keys c nwk app row seed (entries_of set) ≡ (record {
      f_nwk_s_int_key = where_set set.f (for_network c row.home (network_keys nwk seed).f);
      s_nwk_s_int_key = where_set set.s (for_network c row.home (network_keys nwk seed).s);
      nwk_s_enc_key = where_set set.e (for_network c row.home (network_keys nwk seed).e);
      app_s_key = application_key c app row seed (entries_of set);
    })
unfolding answer_keys
keys_of_set c nwk app row seed set =
    let has = flags set.f set.s set.e set.app in
    rw (has.0, has.1, has.2) refl
