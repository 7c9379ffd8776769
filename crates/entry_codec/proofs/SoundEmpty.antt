-- What holds of every state holds of the first.
use Rattle.std.proofs.Common.{◌≡◌, ℕ, zero, suc, ◌+◌, ◌<◌, ◌≤◌, Bool, true, false, cond, eqb, List, [], ◌∷◌, ◌++◌, length, map, take, get_or, add-one, Option, Some, None, refl, ap, ◌∙◌, arith}
use Rattle.std.specs.Prelude.{IsTrue, ◌||◌, nat_lt, sum_by}
use Rattle.std.specs.List.{AllByRecursion, cons_option}
use Rattle.std.proofs.lemmas.List.{length-map}
use Rattle.std.proofs.lemmas.List.Sums.{sum_by-cons}
use Rattle.wire_ids.specs.declared.address.DevAddr.{DevAddr}
use Rattle.wire_ids.specs.declared.party.Sender.{Sender}
use Rattle.agreements.specs.Walk.{Config}
use Rattle.agreements.specs.declared.rows.ApplicationRow.{ApplicationRow}
use Rattle.agreements.specs.declared.rows.DeviceRow.{DeviceRow}
use Rattle.agreements.specs.declared.rows.GatewayRow.{GatewayRow}
use Rattle.agreements.specs.declared.rows.NetworkRow.{NetworkRow}
use Rattle.entry_codec.specs.Empty.{application_sender, empty, empty_kept, gateway_sender, names_of, network_sender, new_device, no_answers, put_sender, put_senders, sender_number, senders_of}
use Rattle.entry_codec.specs.Ends.{DeviceEndsFrom, EndsFrom}
use Rattle.entry_codec.specs.Index.{names, row_number}
use Rattle.entry_codec.specs.Kept.{AllFew}
use Rattle.entry_codec.specs.Sound.{IsSound, IsSoundDevice, device_uses, network_of, networks, uses}

-- ---- senders

more_or_same : (o : Option ℕ) (ns ms : List ℕ) (k : ℕ) → length ns ≤ length ms + k → length (cons_option o ns) ≤ length (cons_option o ms) + k
more_or_same None ns ms k h = h
more_or_same (Some n) ns ms k h = omega (arith, h)

put_network : (s : Sender) (ss : List Sender) → length (networks (put_sender s ss)) ≤ length (networks ss) + length (networks (s ∷ []))
put_network s [] = omega arith
put_network s (x ∷ ss) = elim (nat_lt (sender_number x) (sender_number s)) as (λ b. length (networks (cond b (x ∷ put_sender s ss) (cond (eqb (sender_number x) (sender_number s)) (x ∷ ss) (s ∷ x ∷ ss)))) ≤ length (networks (x ∷ ss)) + length (networks (s ∷ []))) [
  | true ↦ more_or_same (network_of x) (networks (put_sender s ss)) (networks ss) (length (networks (s ∷ []))) (put_network s ss)
  | false ↦ elim (eqb (sender_number x) (sender_number s)) as (λ b. length (networks (cond b (x ∷ ss) (s ∷ x ∷ ss))) ≤ length (networks (x ∷ ss)) + length (networks (s ∷ []))) [
    | true ↦ omega arith
    | false ↦ one_first (network_of s) (networks (x ∷ ss))
  ]
]
  where
    one_first : (o : Option ℕ) (ns : List ℕ) → length (cons_option o ns) ≤ length ns + length (cons_option o [])
    one_first None ns = omega arith
    one_first (Some n) ns = omega arith

one_more_network : (o : Option ℕ) (ns : List ℕ) → length (cons_option o []) + length ns ≤ length (cons_option o ns)
one_more_network None ns = omega arith
one_more_network (Some n) ns = omega arith

few_senders : (more ss : List Sender) → length (networks (put_senders more ss)) ≤ length (networks ss) + length (networks more)
few_senders [] ss = omega arith
few_senders (s ∷ more) ss = omega (arith, few_senders more (put_sender s ss), put_network s ss, one_more_network (network_of s) (networks more))

no_gateways : (rows : List GatewayRow) → networks (map gateway_sender rows) ≡ []
no_gateways [] = refl
no_gateways (r ∷ rows) = no_gateways rows

no_applications : (rows : List ApplicationRow) (rest : List Sender) → networks (map application_sender rows ++ rest) ≡ networks rest
no_applications [] rest = refl
no_applications (r ∷ rows) rest = no_applications rows rest

all_networks : (rows : List NetworkRow) (rest : List Sender) → length (networks (map network_sender rows ++ rest)) ≡ length rows + length (networks rest)
all_networks [] rest = omega arith
all_networks (r ∷ rows) rest = omega (arith, all_networks rows rest)

few_networks : (c : Config) → length c.networks ≤ 32 → length (networks (senders_of c)) ≤ 32
unfolding senders_of
few_networks c few = omega (
  arith,
  few,
  few_senders (names_of c) [],
  all_networks c.networks (map application_sender c.applications ++ map gateway_sender c.gateways),
  ap (λ (ns : List ℕ). length ns) (no_applications c.applications (map gateway_sender c.gateways) ∙ no_gateways c.gateways),
)

-- ---- devices

or_true : (b : Bool) → IsTrue (b || true)
or_true true = refl
or_true false = refl

sound-new : (ss : List Sender) (own : ℕ) (r : DeviceRow) → IsSoundDevice ss (new_device own r)
sound-new ss own r = record {
  seeds = omega arith;
  nonces = tt;
  slots = record { sound = record { active = tt; pending = tt }; active = tt; pending = tt; differ = tt };
  home = or_true (new_device own r).is_home;
  granted = tt;
  known = tt;
}

sound-devices : (ss : List Sender) (own : ℕ) (rows : List DeviceRow) → AllByRecursion (IsSoundDevice ss) (map (new_device own) rows)
sound-devices ss own [] = tt
sound-devices ss own (r ∷ rows) = (sound-new ss own r, sound-devices ss own rows)

unused : (addr : DevAddr) (own : ℕ) (rows : List DeviceRow) → sum_by (device_uses addr) (map (new_device own) rows) ≡ 0
unused addr own [] = refl
unused addr own (r ∷ rows) = rw (sum_by-cons (device_uses addr) (new_device own r) (map (new_device own) rows)) (omega (arith, unused addr own rows))

pub sound-empty : (c : Config) → length c.devices ≤ 4096 → length c.networks ≤ 32 → IsSound (empty c)
unfolding empty
sound-empty c few few_nets = record {
  few_devices = omega (arith, few, length-map c.devices (new_device c.desk.net_id));
  few_networks = few_networks c few_nets;
  few_visitors = omega arith;
  few_held = omega arith;
  few_asks = omega arith;
  devices = sound-devices (senders_of c) c.desk.net_id c.devices;
  visitors = tt;
  visitors_in_order = tt;
  held_in_order = tt;
  asks_in_order = tt;
  asks_before = tt;
  addresses = λ addr. omega (arith, unused addr c.desk.net_id c.devices);
}

pub uses_empty : (addr : DevAddr) (c : Config) → uses addr (empty c) ≡ 0
unfolding empty
uses_empty addr c = omega (arith, unused addr c.desk.net_id c.devices)

pub names-new : (own : ℕ) (rows : List DeviceRow) → names (map (new_device own) rows) ≡ map row_number rows
names-new own [] = refl
names-new own (r ∷ rows) = ap (λ (ns : List ℕ). r.dev_eui.0 ∷ ns) (names-new own rows)

pub names-empty : (c : Config) → names (empty c).devices ≡ map row_number c.devices
unfolding empty
names-empty c = names-new c.desk.net_id c.devices

ends-new : (at own : ℕ) (rows : List DeviceRow) → AllByRecursion (DeviceEndsFrom at) (map (new_device own) rows)
ends-new at own [] = tt
ends-new at own (r ∷ rows) = (record { lent = tt; granted = tt }, ends-new at own rows)

pub ends-empty : (at : ℕ) (c : Config) → EndsFrom at (empty c)
unfolding empty
ends-empty at c = record { devices = ends-new at c.desk.net_id c.devices; visitors = tt; held = tt; asks = tt }

few-answers : (ss : List Sender) → AllFew (map no_answers ss)
few-answers [] = tt
few-answers (s ∷ ss) = (omega arith, few-answers ss)

pub few-empty : (c : Config) → AllFew (empty_kept c)
unfolding empty_kept
few-empty c = few-answers (senders_of c)

-- one more name put in
pub senders-more : (ss : List Sender) (i : ℕ) (d : Sender) (acc : List Sender) → i < length ss → put_senders (take (i + 1) ss) acc ≡ put_sender (get_or ss i d) (put_senders (take i ss) acc)
senders-more ss i d acc lt = ap (λ (n : ℕ). put_senders (take n ss) acc) (add-one i) ∙ upto ss i acc lt
  where
    upto : (ss : List Sender) (i : ℕ) (acc : List Sender) → i < length ss → put_senders (take (suc i) ss) acc ≡ put_sender (get_or ss i d) (put_senders (take i ss) acc)
    upto [] i acc lt = absurd (omega arith)
    upto (s ∷ ss) zero acc lt = refl
    upto (s ∷ ss) (suc i) acc lt = upto ss i (put_sender s acc) (omega (arith, lt))
