-- Each sender that has a row is one of the state's.
use Rattle.std.proofs.Common.{◌≡◌, ◌<◌, ℕ, zero, suc, ◌^◌, ◌==◌, ◌||◌, List, [], ◌∷◌, ◌++◌, map, Bool, true, false, cond, Some, refl, sym, ◌∙◌, subst, arith}
use Rattle.std.proofs.lemmas.Bool.{eqb-true, eq-eqb}
use Rattle.std.proofs.lemmas.List.Folds.{list_any-append}
use Rattle.std.specs.List.{AllByRecursion, list_any}
use Rattle.std.specs.Prelude.{is_some, nat_lt, slice_get}
use Rattle.wire_ids.specs.declared.eui.Eui.{Eui}
use Rattle.wire_ids.specs.declared.party.Sender.{Sender}
use Rattle.wire_ids.specs.declared.party.Sender.TheVariants.{Network, Party}
use Rattle.agreements.specs.Rows.{has_gateway}
use Rattle.agreements.specs.Walk.{Config}
use Rattle.agreements.specs.declared.rows.ApplicationRow.{ApplicationRow}
use Rattle.agreements.specs.declared.rows.GatewayRow.{GatewayRow}
use Rattle.agreements.specs.declared.rows.NetworkRow.{NetworkRow}
use Rattle.agreements.proofs.Belonging.{is_some-find}
use Rattle.entry_codec.specs.Empty.{application_sender, empty, gateway_sender, names_of, network_sender, put_sender, put_senders, sender_number, senders_of}
use Rattle.entry_codec.specs.LookUps.{is_same_sender}
use Rattle.entry_codec.proofs.Ordered.{all_put}
use Rattle.js_core.specs.Parties.{application_named, is_known}
use Rattle.roam_core.specs.Entering.{KnowsSenders}

-- a NetID has 24 bits
abbrev IsValid : Sender → Type 0
IsValid (Network net) = net < 2 ^ 24
IsValid (Party id) = Unit {0}

same_number : (t s : Sender) → IsValid t → IsValid s → sender_number t ≡ sender_number s → is_same_sender t s ≡ true
same_number (Network a) (Network b) ta sb e = eq-eqb a b e
same_number (Network a) (Party b) ta sb e = absurd (omega (arith, ta, e))
same_number (Party a) (Network b) ta sb e = absurd (omega (arith, sb, e))
same_number (Party a) (Party b) ta sb e = eq-eqb a.0 b.0 (omega (arith, e))

number_same : (t s : Sender) → is_same_sender t s ≡ true → sender_number t ≡ sender_number s
number_same (Network a) (Network b) e = eqb-true a b e
number_same (Network a) (Party b) e = cc
number_same (Party a) (Network b) e = cc
number_same (Party a) (Party b) e = omega (arith, eqb-true a.0 b.0 e)

first_true : (a b : Bool) → a ≡ true → (a || b) ≡ true
first_true true b e = refl
first_true false b e = cc

rest_true : (a b : Bool) → b ≡ true → (a || b) ≡ true
rest_true true b e = refl
rest_true false b e = e

either : (a b : Bool) {X : Type 0} → (a || b) ≡ true → (a ≡ true → X) → (b ≡ true → X) → X
either true b e f g = f refl
either false b e f g = g e

abbrev has : Sender → List Sender → Bool
has t ss = list_any (is_same_sender t) ss

-- one that was put in is there
put_is_there : (t s : Sender) → IsValid t → is_same_sender t s ≡ true → (ss : List Sender) → AllByRecursion IsValid ss → has t (put_sender s ss) ≡ true
put_is_there t s vt e [] all = first_true (is_same_sender t s) false e
put_is_there t s vt e (x ∷ xs) all = elim (nat_lt (sender_number x) (sender_number s)) as (λ b. has t (cond b (x ∷ put_sender s xs) (cond (sender_number x == sender_number s) (x ∷ xs) (s ∷ x ∷ xs))) ≡ true) [
  | true ↦ rest_true (is_same_sender t x) (has t (put_sender s xs)) (put_is_there t s vt e xs all.1)
  | false ↦ by (sender_number x == sender_number s) refl
]
  where
    by : (b : Bool) → (sender_number x == sender_number s) ≡ b → has t (cond b (x ∷ xs) (s ∷ x ∷ xs)) ≡ true
    by true f = first_true (is_same_sender t x) (has t xs) (same_number t x vt all.0 (number_same t s e ∙ sym (eqb-true (sender_number x) (sender_number s) f)))
    by false f = first_true (is_same_sender t s) (has t (x ∷ xs)) e

-- one that is there stays
put_keeps : (t s : Sender) (ss : List Sender) → has t ss ≡ true → has t (put_sender s ss) ≡ true
put_keeps t s [] h = cc
put_keeps t s (x ∷ xs) h = elim (nat_lt (sender_number x) (sender_number s)) as (λ b. has t (cond b (x ∷ put_sender s xs) (cond (sender_number x == sender_number s) (x ∷ xs) (s ∷ x ∷ xs))) ≡ true) [
  | true ↦ either (is_same_sender t x) (has t xs) h (λ e. first_true (is_same_sender t x) (has t (put_sender s xs)) e) (λ e. rest_true (is_same_sender t x) (has t (put_sender s xs)) (put_keeps t s xs e))
  | false ↦ elim (sender_number x == sender_number s) as (λ b. has t (cond b (x ∷ xs) (s ∷ x ∷ xs)) ≡ true) [
    | true ↦ h
    | false ↦ rest_true (is_same_sender t s) (has t (x ∷ xs)) h
  ]
]

puts_keep : (t : Sender) (names ss : List Sender) → has t ss ≡ true → has t (put_senders names ss) ≡ true
puts_keep t [] ss h = h
puts_keep t (s ∷ names) ss h = puts_keep t names (put_sender s ss) (put_keeps t s ss h)

puts_there : (t : Sender) → IsValid t → (names ss : List Sender) → AllByRecursion IsValid names → AllByRecursion IsValid ss → has t names ≡ true → has t (put_senders names ss) ≡ true
puts_there t vt [] ss all valid h = cc
puts_there t vt (s ∷ names) ss all valid h = either (is_same_sender t s) (has t names) h
    (λ e. puts_keep t names (put_sender s ss) (put_is_there t s vt e ss valid))
    (λ e. puts_there t vt names (put_sender s ss) all.1 (all_put IsValid IsValid sender_number s (λ (old : Sender). old) ss all.0 (λ x k. k) (λ x is k. k) valid) e)

-- ---- the names of the tables

all_append : (P : Sender → Type 0) (xs ys : List Sender) → AllByRecursion P xs → AllByRecursion P ys → AllByRecursion P (xs ++ ys)
all_append P [] ys a b = b
all_append P (x ∷ xs) ys a b = (a.0, all_append P xs ys a.1 b)

networks_valid : (rows : List NetworkRow) → ((k : ℕ) (r : NetworkRow) → slice_get rows k ≡ Some r → r.net_id < 2 ^ 24) → AllByRecursion IsValid (map network_sender rows)
networks_valid [] h = tt
networks_valid (r ∷ rows) h = (h zero r refl, networks_valid rows (λ k x e. h (suc k) x e))

applications_valid : (rows : List ApplicationRow) → AllByRecursion IsValid (map application_sender rows)
applications_valid [] = tt
applications_valid (r ∷ rows) = (tt, applications_valid rows)

gateways_valid : (rows : List GatewayRow) → AllByRecursion IsValid (map gateway_sender rows)
gateways_valid [] = tt
gateways_valid (r ∷ rows) = (tt, gateways_valid rows)

turned : (a b : ℕ) → (a == b) ≡ true → (b == a) ≡ true
turned a b e = eq-eqb b a (sym (eqb-true a b e))

network_there : (net : ℕ) (rows : List NetworkRow) → list_any (λ (r : NetworkRow). r.net_id == net) rows ≡ true → has (Network net) (map network_sender rows) ≡ true
network_there net [] h = cc
network_there net (r ∷ rows) h = either (r.net_id == net) (list_any (λ (x : NetworkRow). x.net_id == net) rows) h
    (λ e. first_true (net == r.net_id) (has (Network net) (map network_sender rows)) (turned r.net_id net e))
    (λ e. rest_true (net == r.net_id) (has (Network net) (map network_sender rows)) (network_there net rows e))

application_there : (id : Eui) (rows : List ApplicationRow) → list_any (λ (r : ApplicationRow). r.app_id.0 == id.0) rows ≡ true → has (Party id) (map application_sender rows) ≡ true
application_there id [] h = cc
application_there id (r ∷ rows) h = either (r.app_id.0 == id.0) (list_any (λ (x : ApplicationRow). x.app_id.0 == id.0) rows) h
    (λ e. first_true (id.0 == r.app_id.0) (has (Party id) (map application_sender rows)) (turned r.app_id.0 id.0 e))
    (λ e. rest_true (id.0 == r.app_id.0) (has (Party id) (map application_sender rows)) (application_there id rows e))

gateway_there : (id : Eui) (rows : List GatewayRow) → list_any (λ (r : GatewayRow). r.gateway_id.0 == id.0) rows ≡ true → has (Party id) (map gateway_sender rows) ≡ true
gateway_there id [] h = cc
gateway_there id (r ∷ rows) h = either (r.gateway_id.0 == id.0) (list_any (λ (x : GatewayRow). x.gateway_id.0 == id.0) rows) h
    (λ e. first_true (id.0 == r.gateway_id.0) (has (Party id) (map gateway_sender rows)) (turned r.gateway_id.0 id.0 e))
    (λ e. rest_true (id.0 == r.gateway_id.0) (has (Party id) (map gateway_sender rows)) (gateway_there id rows e))

in_first : (t : Sender) (xs ys : List Sender) → has t xs ≡ true → has t (xs ++ ys) ≡ true
in_first t xs ys h = list_any-append (is_same_sender t) xs ys ∙ first_true (has t xs) (has t ys) h

in_rest : (t : Sender) (xs ys : List Sender) → has t ys ≡ true → has t (xs ++ ys) ≡ true
in_rest t xs ys h = list_any-append (is_same_sender t) xs ys ∙ rest_true (has t xs) (has t ys) h

named_there : (c : Config) (t : Sender) → is_known c t ≡ true → has t (names_of c) ≡ true
unfolding is_known
named_there c (Network net) h =
    in_first (Network net) (map network_sender c.networks) _ (network_there net c.networks (sym (is_some-find (λ (r : NetworkRow). r.net_id == net) c.networks) ∙ h))
named_there c (Party id) h =
    in_rest (Party id) (map network_sender c.networks) _ (either (is_some (application_named c id)) (has_gateway id c.gateways) h
    (λ e. in_first (Party id) (map application_sender c.applications) _ (application_there id c.applications (sym (is_some-find (λ (r : ApplicationRow). r.app_id.0 == id.0) c.applications) ∙ e)))
    (λ e. in_rest (Party id) (map application_sender c.applications) _ (gateway_there id c.gateways e)))

known_valid : (c : Config) (t : Sender) → AllByRecursion IsValid (map network_sender c.networks) → is_known c t ≡ true → IsValid t
unfolding is_known
known_valid c (Network net) all h = by c.networks all (sym (is_some-find (λ (r : NetworkRow). r.net_id == net) c.networks) ∙ h)
  where
    by : (rows : List NetworkRow) → AllByRecursion IsValid (map network_sender rows) → list_any (λ (r : NetworkRow). r.net_id == net) rows ≡ true → net < 2 ^ 24
    by [] all h = cc
    by (r ∷ rows) all h = either (r.net_id == net) (list_any (λ (x : NetworkRow). x.net_id == net) rows) h
        (λ e. subst (λ (n : ℕ). n < 2 ^ 24) (eqb-true r.net_id net e) all.0) (λ e. by rows all.1 e)
known_valid c (Party id) all h = tt

pub knows_senders : (c : Config) → ((k : ℕ) (r : NetworkRow) → slice_get c.networks k ≡ Some r → r.net_id < 2 ^ 24) → KnowsSenders c (empty c)
unfolding empty senders_of
knows_senders c nets = λ sender known.
    let networks = networks_valid c.networks nets in
    let names = all_append IsValid (map network_sender c.networks) (map application_sender c.applications ++ map gateway_sender c.gateways) networks
    (all_append IsValid (map application_sender c.applications) (map gateway_sender c.gateways) (applications_valid c.applications) (gateways_valid c.gateways)) in
    puts_there sender (known_valid c sender networks known) (names_of c) [] names tt (named_there c sender known)
