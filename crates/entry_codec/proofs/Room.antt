-- There is room for what an entry that fits adds.
use Rattle.std.proofs.Common.{◌≡◌, ℕ, zero, suc, ◌+◌, ◌<◌, ◌≤◌, Bool, true, false, List, [], ◌∷◌, length, map, Option, Some, None, refl, sym, subst, arith}
use Rattle.std.specs.Prelude.{IsTrue, ◌&&◌, ◌||◌, nat_eq, nat_le, nat_lt, slice_get}
use Rattle.std.specs.List.{AllByRecursion, IsDistinct, list_any}
use Rattle.std.specs.Set.{is_member}
use Rattle.std.proofs.lemmas.Cmp.{nat_eq_equiv}
use Rattle.std.proofs.lemmas.Map.Made.{length-le_from_is_member}
use Rattle.wire_ids.specs.Lists.{at_place, holds_of}
use Rattle.wire_ids.specs.declared.party.Sender.{Sender}
use Rattle.wire_ids.specs.declared.party.Sender.TheVariants.{Network, Party}
use Rattle.entries.specs.declared.ask.AskOutcome.{AskOutcome}
use Rattle.entries.specs.declared.ask.Effect.{Effect}
use Rattle.entries.specs.declared.ask.Effect.TheVariants as effect
use Rattle.entries.specs.declared.change.Change.{Change}
use Rattle.entries.specs.declared.change.Change.TheVariants as change
use Rattle.entries.specs.declared.entry.Event.{Event}
use Rattle.entries.specs.declared.entry.Event.TheVariants as event
use Rattle.entry_codec.specs.Devices.{can_grant, net_of, put_granted}
use Rattle.entry_codec.specs.Fits.{can_hold, fits_change, fits_effect, fits_event, fits_told, fits_up}
use Rattle.entry_codec.specs.LookUps.{at_home, is_network, is_same_sender, is_sender}
use Rattle.entry_codec.specs.Machine.{Machine, granted_by, is_home, open_ask, place_of}
use Rattle.entry_codec.specs.Ordered.{IsRisingBy, IsRisingFrom}
use Rattle.entry_codec.specs.Sound.{HasRow, IsSound, IsSoundDevice, networks}
use Rattle.entry_codec.specs.State.{CanGrant, HasRoomAt, HasRoomFor}
use Rattle.entry_codec.specs.declared.device.Device.{Device}
use Rattle.entry_codec.specs.declared.device.Granted.{Granted}
use Rattle.entry_codec.specs.declared.parties.OpenAsk.{OpenAsk}
use Rattle.entry_codec.proofs.Bools.{and_left, and_right}
use Rattle.std.proofs.lemmas.List.{length-map}
use Rattle.entry_codec.proofs.Ordered.{all_put, rising-put, some_is}
use Rattle.entry_codec.proofs.Sound.{room_to_hold}

-- ---- no more different networks than there are

above_all : (n low : ℕ) (ns : List ℕ) → n < low → IsRisingFrom low ns → AllByRecursion (λ y. nat_eq n y ≡ false) ns
above_all n low [] lt h = tt
above_all n low (m ∷ ms) lt h = (grind (arith, lt, h.0), above_all n (m + 1) ms (omega (arith, lt, h.0)) h.1)

rising-distinct : (low : ℕ) (ns : List ℕ) → IsRisingFrom low ns → IsDistinct nat_eq ns
unfolding IsDistinct
rising-distinct low [] h = tt
rising-distinct low (n ∷ ns) h = (above_all n (n + 1) ns (omega arith) h.1, rising-distinct (n + 1) ns h.1)

or_cons : (a b c : Bool) → (b ≡ true → c ≡ true) → (a || b) ≡ true → (a || c) ≡ true
or_cons true b c f h = refl
or_cons false b c f h = f h

row_member : (net : ℕ) (ss : List Sender) → list_any (is_same_sender (Network net)) ss ≡ true → is_member nat_eq (networks ss) net ≡ true
row_member net [] h = absurd cc
row_member net (Network a ∷ ss) h = or_cons (nat_eq net a) _ _ (row_member net ss) h
row_member net (Party a ∷ ss) h = row_member net ss h

known_member : (ss : List Sender) (gs : List Granted) (q : ℕ) → AllByRecursion (HasRow ss) gs → is_member nat_eq (map net_of gs) q ≡ true → is_member nat_eq (networks ss) q ≡ true
known_member ss [] q all h = absurd cc
known_member ss (g ∷ gs) q all h = elim (nat_eq q g.net) as (λ b. nat_eq q g.net ≡ b → (b || is_member nat_eq (map net_of gs) q) ≡ true → is_member nat_eq (networks ss) q ≡ true) [
  | true ↦ λ e k. subst (λ (n : ℕ). is_member nat_eq (networks ss) n ≡ true) (sym (same q g.net e)) (row_member g.net ss all.0)
  | false ↦ λ e k. known_member ss gs q all.1 k
] refl h
  where
    same : (a b : ℕ) → nat_eq a b ≡ true → a ≡ b
    same a b e = grind (arith, e)

few_granted : (ss : List Sender) (gs : List Granted) → IsRisingBy net_of gs → AllByRecursion (HasRow ss) gs → length gs ≤ length (networks ss)
few_granted ss gs rising all = omega (arith, length-le_from_is_member nat_eq_equiv (map net_of gs) (networks ss) (rising-distinct 0 (map net_of gs) rising) (λ q h. known_member ss gs q all h), length-map gs net_of)

room_for : (ss : List Sender) (g : Granted) (d : Device) → length (networks ss) ≤ 32 → HasRow ss g → IsSoundDevice ss d → IsTrue (can_grant g d)
unfolding can_grant
room_for ss g d few row h =
    let gs = put_granted g d.granted.items in
    let rising : IsRisingBy net_of gs = rising-put net_of g (λ (old : Granted). g) (λ x e. refl) d.granted.items h.granted in
    let known : AllByRecursion (HasRow ss) gs = all_put (HasRow ss) (HasRow ss) net_of g (λ (old : Granted). g) d.granted.items row (λ x k. k) (λ x e k. row) h.known in
    le_true (length gs) 32 (omega (arith, few_granted ss gs rising known, few))
  where
    le_true : (a b : ℕ) → a ≤ b → IsTrue (nat_le a b)
    le_true a b le = grind (arith, le)

all_at : {X : Type 0} (P : X → Type 0) (xs : List X) (i : ℕ) (x : X) → AllByRecursion P xs → slice_get xs i ≡ Some x → P x
all_at P [] i x all e = absurd cc
all_at P (y ∷ ys) zero x all e = subst P (some_is y x e) all.0
all_at P (y ∷ ys) (suc i) x all e = all_at P ys i x all.1 e

-- ---- of each event that fits

room_at : (m : Machine) (g : Granted) (o : Option ℕ) → IsTrue (holds_of is_home (at_place m.devices o)) → HasRow m.senders g → IsSound m → IsTrue (holds_of (can_grant g) (at_place m.devices o))
room_at m g None home row h = absurd cc
room_at m g (Some i) home row h = by (slice_get m.devices i) refl home
  where
    by : (q : Option Device) → slice_get m.devices i ≡ q → IsTrue (holds_of is_home q) → IsTrue (holds_of (can_grant g) q)
    by None e k = absurd cc
    by (Some d) e k = room_for m.senders g d h.few_networks row (all_at (IsSoundDevice m.senders) m.devices i d h.devices e)

grants : (sender : Sender) (c : Change) (m : Machine) → IsTrue (fits_change sender c m) → IsSound m → CanGrant c m
unfolding fits_change
grants sender (change.Join j) m fits h = tt
grants sender (change.Rejoin j) m fits h = tt
grants sender (change.Lent l) m fits h = tt
grants sender (change.Up u) m fits h = tt
grants sender (change.Passive p) m fits h =
    let both = and_left (is_network p.net m && at_home p.up.dev_eui m) (fits_up p.up m) fits in
    room_at m (granted_by p) (place_of p.up.dev_eui m) (and_right (is_network p.net m) (at_home p.up.dev_eui m) both) (and_left (is_network p.net m) (at_home p.up.dev_eui m) both) h
grants sender (change.Queue q) m fits h = tt
grants sender (change.Dropped d) m fits h = tt

room_effect : (t : ℕ) (e : Effect) (m : Machine) (a : OpenAsk) → IsTrue (fits_effect t e m a) → IsSound m → HasRoomFor e m
unfolding fits_effect
room_effect t effect.Nothing m a fits h = tt
room_effect t (effect.Visitor v) m a fits h = tt
room_effect t (effect.Held s) m a fits h = room_to_hold s m m.entries (and_right (is_network s.net m) (can_hold s.net s.dev_addr s.count m) fits) h
room_effect t (effect.Counter c) m a fits h = tt

room_told : (t : AskOutcome) (m : Machine) (o : Option OpenAsk) → IsTrue (holds_of (fits_effect t.ask t.effect m) o) → IsSound m → HasRoomFor t.effect m
room_told t m None fits h = absurd cc
room_told t m (Some a) fits h = room_effect t.ask t.effect m a fits h

pub has_room : (e : Event) (m : Machine) → IsTrue (fits_event e m) → IsSound m → HasRoomAt e m
unfolding fits_event
has_room event.Opened m fits h = tt
has_room (event.Tables t) m fits h = tt
has_room (event.Kept r c) m fits h = grants r.sender c m (and_right (nat_lt 0 m.entries && is_sender r.sender m) (fits_change r.sender c m) fits) h
has_room (event.Asked a) m fits h = tt
has_room (event.Told t) m fits h = room_told t m (open_ask t.ask m) (and_right (nat_lt 0 m.entries) (fits_told t m) fits) h
has_room (event.Suspend i) m fits h = tt
has_room (event.Resume i) m fits h = tt
