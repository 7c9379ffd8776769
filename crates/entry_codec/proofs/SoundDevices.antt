-- Each step of a device keeps what holds of every device, and gives no address but the one that it names.
use Rattle.std.proofs.Common.{◌≡◌, ℕ, ◌+◌, ◌<◌, ◌≤◌, ◌^◌, Bool, true, false, List, [], ◌∷◌, length, Option, Some, None, option_map, refl, sym, ap, subst, cond, ◌∙◌, arith}
use Rattle.std.specs.Prelude.{IsTrue, ◌==◌, nat_le, nat_lt, not, is_some, ◌||◌, ◌&&◌}
use Rattle.std.specs.List.{AllByRecursion}
use borrow.Author.Tests.{ltb-true, leb-true}
use Rattle.std.proofs.lemmas.List.{length-take}
use Rattle.wire_ids.specs.Lists.{holds_of}
use Rattle.wire_ids.specs.declared.address.DevAddr.{DevAddr}
use Rattle.wire_ids.specs.declared.keys.Seed.{Seed}
use Rattle.wire_ids.specs.declared.party.Sender.{Sender}
use Rattle.wire_ids.proofs.Lists.{all_changed, all_more, all_take, length-changed}
use Rattle.contexts.specs.Contexts.{fresh_of}
use Rattle.contexts.specs.Queue.{drawn, pushed, without_first}
use Rattle.contexts.specs.Slots.{accepted, activated, activated_by, offered, on_active, woken}
use Rattle.contexts.specs.Slots as slots
use Rattle.contexts.specs.Sound.{IsSoundContext, IsSoundSlot}
use Rattle.contexts.specs.declared.context.Context.{Context}
use Rattle.contexts.specs.declared.context.Item.{Item}
use Rattle.contexts.specs.declared.context.Origin.{Origin}
use Rattle.contexts.specs.declared.context.Origin.TheVariants.{Given, Seeded}
use Rattle.contexts.specs.declared.slots.Slots.{Slots}
use Rattle.contexts.proofs.Sound as contexts
use Rattle.entries.specs.declared.change.Downlink.{Downlink}
use Rattle.entries.specs.declared.change.Downlink.TheVariants as down
use Rattle.entries.specs.declared.change.OwnContext.{OwnContext}
use Rattle.entries.specs.declared.used_seed.UsedSeed.{UsedSeed}
use Rattle.entries.specs.declared.used_seed.UsedSeed.TheVariants.{Rejoin0, Rejoin1, Rejoin2}
use Rattle.entry_codec.specs.Devices.{answered, called_back, counted, heard, in_slots, joined, kept_count, lapsed, lent_out, marked, queued, rejoined, seed_of, stepped, with_count, with_grant, with_session}
use Rattle.entry_codec.specs.Fits.{can_queue, takes}
use Rattle.entry_codec.specs.LookUps.{slot_has}
use Rattle.entry_codec.specs.Ordered.{IsRisingBy}
use Rattle.entry_codec.specs.Sound.{AreSlots, Differ, HasNonceTo, HasRow, IsSeededTo, IsSoundDevice, OnSlot, count_if, device_uses, has_context, slots_use}
use Rattle.entry_codec.specs.declared.device.Device.{Device}
use Rattle.entry_codec.specs.declared.device.Granted.{Granted}
use Rattle.entry_codec.specs.declared.device.KeptSeed.{KeptSeed}
use Rattle.entry_codec.specs.declared.device.LentTo.{LentTo}
use Rattle.entry_codec.proofs.Bools.{and_left, and_right}
use Rattle.entry_codec.proofs.Ordered.{all_filter, all_put, rising-put, rising_filter}

-- ---- slots

OnSlot-more : (P Q : Context → Type 0) (o : Option Context) → ((c : Context) → P c → Q c) → OnSlot P o → OnSlot Q o
OnSlot-more P Q None more h = tt
OnSlot-more P Q (Some c) more h = more c h

OnSlot-map : (P : Context → Type 0) (f : Context → Context) (o : Option Context) → ((c : Context) → o ≡ Some c → P c → P (f c)) → OnSlot P o → OnSlot P (option_map f o)
OnSlot-map P f None step h = tt
OnSlot-map P f (Some c) step h = step c refl h

Differ-map : (f : Context → Context) (o p : Option Context) → ((c : Context) → (f c).origin ≡ c.origin) → Differ o p → Differ (option_map f o) p
Differ-map f None p same h = tt
Differ-map f (Some a) None same h = tt
Differ-map f (Some a) (Some b) same h = λ e. h (sym (same a) ∙ e)

sound_slot : (f : Context → Context) (o : Option Context) → ((c : Context) → o ≡ Some c → IsSoundContext c → IsSoundContext (f c)) → IsSoundSlot o → IsSoundSlot (option_map f o)
sound_slot f None step h = tt
sound_slot f (Some c) step h = step c refl h

pub slots-more : (P Q : Origin → Type 0) (s : Slots) → ((o : Origin) → P o → Q o) → AreSlots P s → AreSlots Q s
slots-more P Q s more h = record {
  sound = h.sound;
  active = OnSlot-more (λ (c : Context). P c.origin) (λ (c : Context). Q c.origin) s.active (λ c k. more c.origin k) h.active;
  pending = OnSlot-more (λ (c : Context). P c.origin) (λ (c : Context). Q c.origin) s.pending (λ c k. more c.origin k) h.pending;
  differ = h.differ;
}

-- a change of the active context, whose origin stays
pub slots-on_active : (P : Origin → Type 0) (f : Context → Context) (s : Slots) → ((c : Context) → (f c).origin ≡ c.origin) → ((c : Context) → s.active ≡ Some c → IsSoundContext c → IsSoundContext (f c)) → AreSlots P s → AreSlots P (on_active f s)
slots-on_active P f s same step h = record {
  sound = record { active = sound_slot f s.active step h.sound.active; pending = h.sound.pending };
  active = OnSlot-map (λ (c : Context). P c.origin) f s.active (λ c _ k. subst P (sym (same c)) k) h.active;
  pending = h.pending;
  differ = Differ-map f s.active s.pending same h.differ;
}

slots-activated_by : (P : Origin → Type 0) (s : Slots) (o : Option Context) → o ≡ s.pending → AreSlots P s → AreSlots P (activated_by o s)
slots-activated_by P s None e h = h
slots-activated_by P s (Some c) e h = record {
  sound = record { active = subst IsSoundSlot (sym e) h.sound.pending; pending = tt };
  active = subst (λ (o : Option Context). OnSlot (λ (c : Context). P c.origin) o) (sym e) h.pending;
  pending = tt;
  differ = tt;
}

pub slots-activated : (P : Origin → Type 0) (s : Slots) → AreSlots P s → AreSlots P (activated s)
slots-activated P s h = slots-activated_by P s s.pending refl h

slots-woken : (P : Origin → Type 0) (pending : Bool) (s : Slots) → AreSlots P s → AreSlots P (woken pending s)
slots-woken P true s h = slots-activated P s h
slots-woken P false s h = h

-- a context whose origin is none of theirs
pub slots-offered : (P Q : Origin → Type 0) (fresh : Context) (s : Slots) → IsSoundContext fresh → Q fresh.origin → ((o : Origin) → P o → Q o) → ((o : Origin) → P o → o ≡ fresh.origin → ⊥) → AreSlots P s → AreSlots Q (offered fresh s)
slots-offered P Q fresh s sound is more apart h = record {
  sound = record { active = h.sound.active; pending = sound };
  active = OnSlot-more (λ (c : Context). P c.origin) (λ (c : Context). Q c.origin) s.active (λ c k. more c.origin k) h.active;
  pending = is;
  differ = differs s.active h.active;
}
  where
    differs : (o : Option Context) → OnSlot (λ (c : Context). P c.origin) o → Differ o (Some fresh)
    differs None k = tt
    differs (Some a) k = λ e. apart a.origin k e

sound-drawn : (c : Context) → IsSoundContext c → IsSoundContext (drawn c)
sound-drawn c h = elim (nat_lt c.next_n (2 ^ 32)) as (λ b. nat_lt c.next_n (2 ^ 32) ≡ b → IsSoundContext (cond b (record c { next_n = c.next_n + 1 }) c)) [
  | true ↦ λ t. record { few = h.few; rising = h.rising; next_n = omega (arith, ltb-true c.next_n (2 ^ 32) t); next_a = h.next_a }
  | false ↦ λ t. h
] refl

sound-answered : (d : Downlink) (c : Context) → IsSoundContext c → IsSoundContext (answered d c)
sound-answered down.Nothing c h = h
sound-answered down.Empty c h = sound-drawn c h
sound-answered down.FirstItem c h = contexts.sound-taken c h

origin-drawn : (c : Context) → (drawn c).origin ≡ c.origin
origin-drawn c = elim (nat_lt c.next_n (2 ^ 32)) as (λ b. (cond b (record c { next_n = c.next_n + 1 }) c).origin ≡ c.origin) [ true ↦ refl | false ↦ refl ]

origin-without_first : (items : List Item) (c : Context) → (without_first items c).origin ≡ c.origin
origin-without_first [] c = refl
origin-without_first (item ∷ items) c = refl

origin-answered : (d : Downlink) (c : Context) → (answered d c).origin ≡ c.origin
origin-answered down.Nothing c = refl
origin-answered down.Empty c = origin-drawn c
origin-answered down.FirstItem c = origin-without_first c.queue.items c

pub slots-heard : (P : Origin → Type 0) (pending : Bool) (count : ℕ) (frame : List ℕ) (d : Downlink) (s : Slots) → AreSlots P s → AreSlots P (heard pending count frame d s)
unfolding heard
slots-heard P pending count frame d s h =
    let accept = slots-on_active P (slots.heard count frame) (woken pending s) (λ c. refl) (λ c _ k. record { few = k.few; rising = k.rising; next_n = k.next_n; next_a = k.next_a }) (slots-woken P pending s h) in
    slots-on_active P (answered d) (accepted pending count frame s) (origin-answered d) (λ c _ k. sound-answered d c k) accept

-- ---- whether there are contexts

has-activated_by : (s : Slots) (o : Option Context) → o ≡ s.pending → IsTrue (not (has_context s)) → IsTrue (not (has_context (activated_by o s)))
has-activated_by s None e h = h
has-activated_by s (Some c) e h = absurd (none_there s.active s.pending e h)
  where
    none_there : (a p : Option Context) → Some c ≡ p → IsTrue (not (is_some a || is_some p)) → ⊥
    none_there None None e h = absurd cc
    none_there None (Some x) e h = absurd cc
    none_there (Some a) p e h = absurd cc

pub has-activated : (s : Slots) → IsTrue (not (has_context s)) → IsTrue (not (has_context (activated s)))
has-activated s h = has-activated_by s s.pending refl h

pub has-on_active : (f : Context → Context) (a p : Option Context) → (is_some (option_map f a) || is_some p) ≡ (is_some a || is_some p)
has-on_active f None p = refl
has-on_active f (Some a) p = refl

has-woken : (pending : Bool) (s : Slots) → IsTrue (not (has_context s)) → IsTrue (not (has_context (woken pending s)))
has-woken true s h = has-activated_by s s.pending refl h
has-woken false s h = h

pub has-heard : (pending : Bool) (count : ℕ) (frame : List ℕ) (d : Downlink) (s : Slots) → IsTrue (not (has_context s)) → IsTrue (not (has_context (heard pending count frame d s)))
unfolding heard
has-heard pending count frame d s h =
    let w = woken pending s in
    rw (has-on_active (answered d) (option_map (slots.heard count frame) w.active) w.pending, has-on_active (slots.heard count frame) w.active w.pending) (has-woken pending s h)

-- what holds of a home device, or of one without contexts, holds after a step that gives none
home_still : (b : Bool) (s t : Slots) → (IsTrue (not (has_context s)) → IsTrue (not (has_context t))) → IsTrue (b || not (has_context s)) → IsTrue (b || not (has_context t))
home_still true s t step h = refl
home_still false s t step h = step h

-- ---- seeds and contexts of this desk

IsSeeded-more : (a b : ℕ) → a ≤ b → (o : Origin) → IsSeededTo a o → IsSeededTo b o
IsSeeded-more a b le (Seeded seed) h = omega (arith, h, le)
IsSeeded-more a b le (Given number keys) h = h

seeds_apart : (low : ℕ) (seed : Seed) → low < seed.nonce → (o : Origin) → IsSeededTo low o → o ≡ Seeded seed → ⊥
seeds_apart low seed lt (Seeded other) h e = apart other.nonce (ap nonce_in e)
  where
    nonce_in : Origin → ℕ
    nonce_in (Seeded s) = s.nonce
    nonce_in (Given n k) = 0

    apart : (n : ℕ) → other.nonce ≡ seed.nonce → ⊥
    apart n same = omega (arith, h, lt, same)
seeds_apart low seed lt (Given number keys) h e = h

sound-fresh : (addr : DevAddr) (o : Origin) (own : OwnContext) → IsSoundContext (fresh_of addr o own.radio)
sound-fresh addr o own = record { few = omega arith; rising = omega arith; next_n = omega arith; next_a = omega arith }

HasNonce-more : (a b : ℕ) → a ≤ b → (k : KeptSeed) → HasNonceTo a k → HasNonceTo b k
HasNonce-more a b le k h = omega (arith, h, le)

-- a row whose last JoinNonce rises to that of a new seed, which may bring a context
record IsReady (ss : List Sender) (low : ℕ) (d : Device) : Type 0 where
  pub seeds : length d.seeds.items ≤ 4
  pub nonces : AllByRecursion (HasNonceTo low) d.seeds.items
  pub slots : AreSlots (IsSeededTo low) d.slots
  pub home : IsTrue (d.is_home || not (has_context d.slots))
  pub granted : IsRisingBy (λ (g : Granted). g.net) d.granted.items
  pub known : AllByRecursion (HasRow ss) d.granted.items
  pub below : low < d.join_nonce

abbrev pub own_is_home : Option OwnContext → Device → Type 0
own_is_home None d = Unit {0}
own_is_home (Some own) d = IsTrue d.is_home

home_any : (b c : Bool) → IsTrue b → IsTrue (b || c)
home_any true c h = refl
home_any false c h = absurd cc

sound-with_session : (ss : List Sender) (seed : Seed) (own : Option OwnContext) (low : ℕ) (d : Device) → seed.nonce ≡ d.join_nonce → own_is_home own d → IsReady ss low d → IsSoundDevice ss (with_session seed own d)
sound-with_session ss seed None low d e home h = record {
  seeds = omega (arith, length-take 4 (record { seed = seed; rj_count0 = None } ∷ d.seeds.items));
  nonces = all_take (HasNonceTo d.join_nonce) 4 (record { seed = seed; rj_count0 = None } ∷ d.seeds.items) (omega (arith, e), all_more (HasNonceTo low) (HasNonceTo d.join_nonce) d.seeds.items (HasNonce-more low d.join_nonce (omega (arith, h.below))) h.nonces);
  slots = slots-more (IsSeededTo low) (IsSeededTo d.join_nonce) d.slots (IsSeeded-more low d.join_nonce (omega (arith, h.below))) h.slots;
  home = h.home;
  granted = h.granted;
  known = h.known;
}
sound-with_session ss seed (Some own) low d e home h = record {
  seeds = omega (arith, length-take 4 (record { seed = seed; rj_count0 = None } ∷ d.seeds.items));
  nonces = all_take (HasNonceTo d.join_nonce) 4 (record { seed = seed; rj_count0 = None } ∷ d.seeds.items) (omega (arith, e), all_more (HasNonceTo low) (HasNonceTo d.join_nonce) d.seeds.items (HasNonce-more low d.join_nonce (omega (arith, h.below))) h.nonces);
  slots = slots-offered (IsSeededTo low) (IsSeededTo d.join_nonce) (fresh_of own.dev_addr (Seeded seed) own.radio) d.slots (sound-fresh own.dev_addr (Seeded seed) own) (omega (arith, e)) (IsSeeded-more low d.join_nonce (omega (arith, h.below))) (seeds_apart low seed (omega (arith, h.below, e))) h.slots;
  home = home_any d.is_home _ home;
  granted = h.granted;
  known = h.known;
}

pub sound-joined : (ss : List Sender) (counter join_nonce : ℕ) (own : Option OwnContext) (d : Device) → d.join_nonce < join_nonce → own_is_home own d → IsSoundDevice ss d → IsSoundDevice ss (joined counter join_nonce own d)
unfolding joined
sound-joined ss counter join_nonce own d lt home h = sound-with_session ss (seed_of counter join_nonce d) own d.join_nonce (record d { dev_nonce = Some counter; join_nonce = join_nonce }) refl (home_same own home)
    (record { seeds = h.seeds; nonces = h.nonces; slots = h.slots; home = h.home; granted = h.granted; known = h.known; below = lt })
  where
    home_same : (o : Option OwnContext) → own_is_home o d → own_is_home o (record d { dev_nonce = Some counter; join_nonce = join_nonce })
    home_same None k = tt
    home_same (Some own) k = k

ready-with_count : (ss : List Sender) (low place counter : ℕ) (d : Device) → IsReady ss low d → IsReady ss low (with_count place counter d)
ready-with_count ss low place counter d h = record {
  seeds = omega (arith, length-changed place (counted counter) d.seeds.items, h.seeds);
  nonces = all_changed (HasNonceTo low) place (counted counter) d.seeds.items (λ k _ hk. hk) h.nonces;
  slots = h.slots;
  home = h.home;
  granted = h.granted;
  known = h.known;
  below = h.below;
}

ready-counted : (ss : List Sender) (low : ℕ) (used : UsedSeed) (counter : ℕ) (d : Device) → IsReady ss low d → IsReady ss low (kept_count used counter d)
ready-counted ss low (Rejoin0 place) counter d h = ready-with_count ss low place counter d h
ready-counted ss low Rejoin1 counter d h = record { seeds = h.seeds; nonces = h.nonces; slots = h.slots; home = h.home; granted = h.granted; known = h.known; below = h.below }
ready-counted ss low (Rejoin2 place) counter d h = ready-with_count ss low place counter d h

pub nonce-counted : (used : UsedSeed) (counter : ℕ) (d : Device) → (kept_count used counter d).join_nonce ≡ d.join_nonce
nonce-counted (Rejoin0 place) counter d = refl
nonce-counted Rejoin1 counter d = refl
nonce-counted (Rejoin2 place) counter d = refl

pub home-counted : (used : UsedSeed) (counter : ℕ) (d : Device) → (kept_count used counter d).is_home ≡ d.is_home
home-counted (Rejoin0 place) counter d = refl
home-counted Rejoin1 counter d = refl
home-counted (Rejoin2 place) counter d = refl

pub slots-counted : (used : UsedSeed) (counter : ℕ) (d : Device) → (kept_count used counter d).slots ≡ d.slots
slots-counted (Rejoin0 place) counter d = refl
slots-counted Rejoin1 counter d = refl
slots-counted (Rejoin2 place) counter d = refl

pub name-counted : (used : UsedSeed) (counter : ℕ) (d : Device) → (kept_count used counter d).dev_eui ≡ d.dev_eui
name-counted (Rejoin0 place) counter d = refl
name-counted Rejoin1 counter d = refl
name-counted (Rejoin2 place) counter d = refl

pub sound-rejoined : (ss : List Sender) (used : UsedSeed) (counter join_nonce : ℕ) (own : Option OwnContext) (d : Device) → d.join_nonce < join_nonce → own_is_home own d → IsSoundDevice ss d → IsSoundDevice ss (rejoined used counter join_nonce own d)
unfolding rejoined
sound-rejoined ss used counter join_nonce own d lt home h =
    let first : IsReady ss d.join_nonce (record d { join_nonce = join_nonce }) = record { seeds = h.seeds; nonces = h.nonces; slots = h.slots; home = h.home; granted = h.granted; known = h.known; below = lt } in
    sound-with_session ss (seed_of counter join_nonce d) own d.join_nonce (kept_count used counter (record d { join_nonce = join_nonce })) (sym (nonce-counted used counter (record d { join_nonce = join_nonce }))) (home_same own home)
    (ready-counted ss d.join_nonce used counter (record d { join_nonce = join_nonce }) first)
  where
    home_same : (o : Option OwnContext) → own_is_home o d → own_is_home o (kept_count used counter (record d { join_nonce = join_nonce }))
    home_same None k = tt
    home_same (Some own) k = subst (λ (b : Bool). IsTrue b) (sym (home-counted used counter (record d { join_nonce = join_nonce }))) k

sound-stepped : (ss : List Sender) (used : Option UsedSeed) (counter join_nonce : ℕ) (d : Device) → d.join_nonce < join_nonce → IsSoundDevice ss d → IsSoundDevice ss (stepped used counter join_nonce d)
sound-stepped ss None counter join_nonce d lt h = sound-joined ss counter join_nonce None d lt tt h
sound-stepped ss (Some used) counter join_nonce d lt h = sound-rejoined ss used counter join_nonce None d lt tt h

pub sound-lent_out : (ss : List Sender) (used : Option UsedSeed) (counter join_nonce : ℕ) (to : LentTo) (d : Device) → d.join_nonce < join_nonce → IsSoundDevice ss d → IsSoundDevice ss (lent_out used counter join_nonce to d)
unfolding lent_out
sound-lent_out ss used counter join_nonce to d lt h =
    let k = sound-stepped ss used counter join_nonce d lt h in
    record { seeds = k.seeds; nonces = k.nonces; slots = k.slots; home = k.home; granted = k.granted; known = k.known }

-- ---- the other steps

pub sound-lapsed : (ss : List Sender) (at : ℕ) (d : Device) → IsSoundDevice ss d → IsSoundDevice ss (lapsed at d)
unfolding lapsed
sound-lapsed ss at d h = record {
  seeds = h.seeds;
  nonces = h.nonces;
  slots = h.slots;
  home = h.home;
  granted = rising_filter (λ (g : Granted). g.net) _ d.granted.items h.granted;
  known = all_filter (HasRow ss) _ d.granted.items h.known;
}

pub sound-marked : (ss : List Sender) (suspended : Bool) (d : Device) → IsSoundDevice ss d → IsSoundDevice ss (marked suspended d)
unfolding marked
sound-marked ss suspended d h = record { seeds = h.seeds; nonces = h.nonces; slots = h.slots; home = h.home; granted = h.granted; known = h.known }

pub sound-called_back : (ss : List Sender) (d : Device) → IsSoundDevice ss d → IsSoundDevice ss (called_back d)
unfolding called_back
sound-called_back ss d h = record { seeds = h.seeds; nonces = h.nonces; slots = h.slots; home = h.home; granted = h.granted; known = h.known }

pub sound-with_grant : (ss : List Sender) (g : Granted) (d : Device) → HasRow ss g → IsSoundDevice ss d → IsSoundDevice ss (with_grant g d)
unfolding with_grant
sound-with_grant ss g d row h = record {
  seeds = h.seeds;
  nonces = h.nonces;
  slots = h.slots;
  home = h.home;
  granted = rising-put (λ (x : Granted). x.net) g (λ (old : Granted). g) (λ x e. refl) d.granted.items h.granted;
  known = all_put (HasRow ss) (HasRow ss) (λ (x : Granted). x.net) g (λ (old : Granted). g) d.granted.items row (λ x k. k) (λ x e k. row) h.known;
}

pub sound-in_slots : (ss : List Sender) (f : Slots → Slots) (d : Device) → (AreSlots (IsSeededTo d.join_nonce) d.slots → AreSlots (IsSeededTo d.join_nonce) (f d.slots)) → (IsTrue (not (has_context d.slots)) → IsTrue (not (has_context (f d.slots)))) → IsSoundDevice ss d → IsSoundDevice ss (in_slots f d)
sound-in_slots ss f d step bare h = record {
  seeds = h.seeds;
  nonces = h.nonces;
  slots = step h.slots;
  home = home_still d.is_home d.slots (f d.slots) bare h.home;
  granted = h.granted;
  known = h.known;
}

pub sound-activated : (ss : List Sender) (d : Device) → IsSoundDevice ss d → IsSoundDevice ss (in_slots activated d)
sound-activated ss d h = sound-in_slots ss activated d (slots-activated (IsSeededTo d.join_nonce) d.slots) (has-activated_by d.slots d.slots.pending refl) h

pub sound-heard : (ss : List Sender) (pending : Bool) (count : ℕ) (frame : List ℕ) (down : Downlink) (d : Device) → IsSoundDevice ss d → IsSoundDevice ss (in_slots (heard pending count frame down) d)
sound-heard ss pending count frame down d h = sound-in_slots ss (heard pending count frame down) d (slots-heard (IsSeededTo d.join_nonce) pending count frame down d.slots) (has-heard pending count frame down d.slots) h

take_parts : (item : Item) (c : Context) → IsTrue (takes item.number c) → IsSoundContext c → IsSoundContext (pushed item c)
take_parts item c h k =
    let a = nat_lt item.number (2 ^ 32) in
    let b = nat_le c.next_a item.number in
    let r = nat_lt (length c.queue.items) 8 in
    contexts.sound-pushed item c (leb-true c.next_a item.number (and_right a b (and_left (a && b) r h))) (ltb-true item.number (2 ^ 32) (and_left a b (and_left (a && b) r h))) (ltb-true (length c.queue.items) 8 (and_right (a && b) r h)) k

pub sound-queued : (ss : List Sender) (item : Item) (d : Device) → IsTrue (can_queue item.number d) → IsSoundDevice ss d → IsSoundDevice ss (queued item d)
unfolding queued can_queue
sound-queued ss item d can h = sound-in_slots ss (on_active (pushed item)) d
    (slots-on_active (IsSeededTo d.join_nonce) (pushed item) d.slots (λ c. refl) (λ c e k. take_parts item c (subst (λ (o : Option Context). IsTrue (holds_of (takes item.number) o)) e can) k))
    (λ k. rw (has-on_active (pushed item) d.slots.active d.slots.pending) k) h

-- ---- addresses: how many a device has after a step

abbrev pub own_uses : DevAddr → Option OwnContext → ℕ
own_uses addr None = 0
own_uses addr (Some own) = count_if (own.dev_addr.0 == addr.0)

has-map : (f : Context → Context) → ((c : Context) → (f c).addr ≡ c.addr) → (addr : DevAddr) (o : Option Context) → slot_has addr (option_map f o) ≡ slot_has addr o
has-map f same addr None = refl
has-map f same addr (Some c) = ap (λ (a : DevAddr). a.0 == addr.0) (same c)

pub use-on_active : (f : Context → Context) → ((c : Context) → (f c).addr ≡ c.addr) → (addr : DevAddr) (s : Slots) → slots_use addr (on_active f s) ≡ slots_use addr s
use-on_active f same addr s = ap (λ (b : Bool). count_if b + count_if (slot_has addr s.pending)) (has-map f same addr s.active)

use-activated_by : (addr : DevAddr) (s : Slots) (o : Option Context) → o ≡ s.pending → slots_use addr (activated_by o s) ≤ slots_use addr s
use-activated_by addr s None e = omega arith
use-activated_by addr s (Some c) e = subst (λ (p : Option Context). count_if (slot_has addr (Some c)) + 0 ≤ count_if (slot_has addr s.active) + count_if (slot_has addr p)) e (omega arith)

pub use-activated : (addr : DevAddr) (s : Slots) → slots_use addr (activated s) ≤ slots_use addr s
use-activated addr s = use-activated_by addr s s.pending refl

use-woken : (addr : DevAddr) (pending : Bool) (s : Slots) → slots_use addr (woken pending s) ≤ slots_use addr s
use-woken addr true s = use-activated addr s
use-woken addr false s = omega arith

addr-drawn : (c : Context) → (drawn c).addr ≡ c.addr
addr-drawn c = elim (nat_lt c.next_n (2 ^ 32)) as (λ b. (cond b (record c { next_n = c.next_n + 1 }) c).addr ≡ c.addr) [ true ↦ refl | false ↦ refl ]

addr-without_first : (items : List Item) (c : Context) → (without_first items c).addr ≡ c.addr
addr-without_first [] c = refl
addr-without_first (item ∷ items) c = refl

pub addr-answered : (d : Downlink) (c : Context) → (answered d c).addr ≡ c.addr
addr-answered down.Nothing c = refl
addr-answered down.Empty c = addr-drawn c
addr-answered down.FirstItem c = addr-without_first c.queue.items c

pub use-heard : (addr : DevAddr) (pending : Bool) (count : ℕ) (frame : List ℕ) (d : Downlink) (s : Slots) → slots_use addr (heard pending count frame d s) ≤ slots_use addr s
unfolding heard
use-heard addr pending count frame d s = omega (
  arith,
  use-on_active (answered d) (addr-answered d) addr (accepted pending count frame s),
  use-on_active (slots.heard count frame) (λ c. refl) addr (woken pending s),
  use-woken addr pending s,
)

pub use-queued : (addr : DevAddr) (item : Item) (d : Device) → device_uses addr (queued item d) ≤ device_uses addr d + 0
unfolding queued
use-queued addr item d = omega (arith, use-on_active (pushed item) (λ c. refl) addr d.slots)

pub use-lapsed : (addr : DevAddr) (at : ℕ) (d : Device) → device_uses addr (lapsed at d) ≤ device_uses addr d
unfolding lapsed
use-lapsed addr at d = omega arith

pub use-marked : (addr : DevAddr) (suspended : Bool) (d : Device) → device_uses addr (marked suspended d) ≤ device_uses addr d + 0
unfolding marked
use-marked addr suspended d = omega arith

pub use-called_back : (addr : DevAddr) (d : Device) → device_uses addr (called_back d) ≤ device_uses addr d + 0
unfolding called_back
use-called_back addr d = omega arith

pub use-with_grant : (addr : DevAddr) (g : Granted) (d : Device) → device_uses addr (with_grant g d) ≤ device_uses addr d + 0
unfolding with_grant
use-with_grant addr g d = omega arith

use-with_session : (addr : DevAddr) (seed : Seed) (own : Option OwnContext) (d : Device) → device_uses addr (with_session seed own d) ≤ device_uses addr d + own_uses addr own
use-with_session addr seed None d = omega arith
use-with_session addr seed (Some own) d = omega arith

pub use-joined : (addr : DevAddr) (counter join_nonce : ℕ) (own : Option OwnContext) (d : Device) → device_uses addr (joined counter join_nonce own d) ≤ device_uses addr d + own_uses addr own
unfolding joined
use-joined addr counter join_nonce own d = use-with_session addr (seed_of counter join_nonce d) own (record d { dev_nonce = Some counter; join_nonce = join_nonce })

pub use-rejoined : (addr : DevAddr) (used : UsedSeed) (counter join_nonce : ℕ) (own : Option OwnContext) (d : Device) → device_uses addr (rejoined used counter join_nonce own d) ≤ device_uses addr d + own_uses addr own
unfolding rejoined
use-rejoined addr used counter join_nonce own d =
    let step = use-with_session addr (seed_of counter join_nonce d) own (kept_count used counter (record d { join_nonce = join_nonce })) in
    let same : device_uses addr (kept_count used counter (record d { join_nonce = join_nonce })) ≡ device_uses addr d = ap (λ (s : Slots). slots_use addr s) (slots-counted used counter (record d { join_nonce = join_nonce })) in
    omega (arith, step, same)

use-stepped : (addr : DevAddr) (used : Option UsedSeed) (counter join_nonce : ℕ) (d : Device) → device_uses addr (stepped used counter join_nonce d) ≤ device_uses addr d + 0
use-stepped addr None counter join_nonce d = use-joined addr counter join_nonce None d
use-stepped addr (Some used) counter join_nonce d = use-rejoined addr used counter join_nonce None d

pub use-lent_out : (addr : DevAddr) (used : Option UsedSeed) (counter join_nonce : ℕ) (to : LentTo) (d : Device) → device_uses addr (lent_out used counter join_nonce to d) ≤ device_uses addr d + 0
unfolding lent_out
use-lent_out addr used counter join_nonce to d = use-stepped addr used counter join_nonce d

-- ---- what a step doesn't touch: a device's name, and whether it is at home

pub record IsSame (f : Device → Device) : Type 0 where
  pub name : (d : Device) → (f d).dev_eui ≡ d.dev_eui
  pub home : (d : Device) → (f d).is_home ≡ d.is_home

pub same-in_slots : (f : Slots → Slots) → IsSame (in_slots f)
same-in_slots f = record { name = λ d. refl; home = λ d. refl }

name-with_session : (seed : Seed) (own : Option OwnContext) (d : Device) → (with_session seed own d).dev_eui ≡ d.dev_eui
name-with_session seed None d = refl
name-with_session seed (Some own) d = refl

home-with_session : (seed : Seed) (own : Option OwnContext) (d : Device) → (with_session seed own d).is_home ≡ d.is_home
home-with_session seed None d = refl
home-with_session seed (Some own) d = refl

pub same-joined : (counter join_nonce : ℕ) (own : Option OwnContext) → IsSame (joined counter join_nonce own)
unfolding joined
same-joined counter join_nonce own = record {
  name = λ d. name-with_session (seed_of counter join_nonce d) own (record d { dev_nonce = Some counter; join_nonce = join_nonce });
  home = λ d. home-with_session (seed_of counter join_nonce d) own (record d { dev_nonce = Some counter; join_nonce = join_nonce });
}

pub same-rejoined : (used : UsedSeed) (counter join_nonce : ℕ) (own : Option OwnContext) → IsSame (rejoined used counter join_nonce own)
unfolding rejoined
same-rejoined used counter join_nonce own = record {
  name = λ d. name-with_session (seed_of counter join_nonce d) own (kept_count used counter (record d { join_nonce = join_nonce })) ∙ name-counted used counter (record d { join_nonce = join_nonce });
  home = λ d. home-with_session (seed_of counter join_nonce d) own (kept_count used counter (record d { join_nonce = join_nonce })) ∙ home-counted used counter (record d { join_nonce = join_nonce });
}

pub same-lent_out : (used : Option UsedSeed) (counter join_nonce : ℕ) (to : LentTo) → IsSame (lent_out used counter join_nonce to)
unfolding lent_out
same-lent_out None counter join_nonce to = record { name = λ d. (same-joined counter join_nonce None).name d; home = λ d. (same-joined counter join_nonce None).home d }
same-lent_out (Some used) counter join_nonce to = record { name = λ d. (same-rejoined used counter join_nonce None).name d; home = λ d. (same-rejoined used counter join_nonce None).home d }

pub same-marked : (suspended : Bool) → IsSame (marked suspended)
unfolding marked
same-marked suspended = record { name = λ d. refl; home = λ d. refl }

pub same-called_back : IsSame called_back
unfolding called_back
same-called_back = record { name = λ d. refl; home = λ d. refl }

pub same-with_grant : (g : Granted) → IsSame (with_grant g)
unfolding with_grant
same-with_grant g = record { name = λ d. refl; home = λ d. refl }

pub same-queued : (item : Item) → IsSame (queued item)
unfolding queued
same-queued item = record { name = λ d. refl; home = λ d. refl }

pub same-lapsed : (at : ℕ) → IsSame (lapsed at)
unfolding lapsed
same-lapsed at = record { name = λ d. refl; home = λ d. refl }
