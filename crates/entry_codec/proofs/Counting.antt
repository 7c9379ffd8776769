-- The least number that a device may be issued next never falls, and a number that is issued is not below it, but below the next.
use Rattle.std.proofs.Common.{◌≡◌, ℕ, zero, suc, ◌+◌, ◌≤◌, Bool, true, false, List, [], ◌∷◌, map, Option, Some, None, option_map, refl, sym, ap, subst, ◌∙◌, arith}
use Rattle.std.specs.Prelude.{IsTrue, ◌&&◌, nat_lt, slice_get}
use Rattle.wire_ids.specs.Lists.{changed, holds_of}
use Rattle.wire_ids.specs.declared.eui.Eui.{Eui}
use Rattle.wire_ids.specs.declared.keys.Seed.{Seed}
use Rattle.wire_ids.specs.declared.party.Sender.{Sender}
use Rattle.wire_ids.proofs.Lists.{changed-cons}
use Rattle.contexts.specs.Slots.{activated}
use Rattle.contexts.specs.declared.context.Item.{Item}
use Rattle.contexts.specs.declared.slots.Slots.{Slots}
use Rattle.entries.specs.declared.ask.Effect.{Effect}
use Rattle.entries.specs.declared.ask.Effect.TheVariants as effect
use Rattle.entries.specs.declared.ask.RejoinCount.{RejoinCount}
use Rattle.entries.specs.declared.change.Change.{Change}
use Rattle.entries.specs.declared.change.Change.TheVariants as change
use Rattle.entries.specs.declared.change.Joined.{Joined}
use Rattle.entries.specs.declared.change.Lending.{Lending}
use Rattle.entries.specs.declared.change.OwnContext.{OwnContext}
use Rattle.entries.specs.declared.change.Rejoined.{Rejoined}
use Rattle.entries.specs.declared.change.RoamingKind.{RoamingKind}
use Rattle.entries.specs.declared.change.RoamingKind.TheVariants as kind
use Rattle.entries.specs.declared.entry.Entry.{Entry}
use Rattle.entries.specs.declared.entry.Event.{Event}
use Rattle.entries.specs.declared.entry.Event.TheVariants as event
use Rattle.entries.specs.declared.used_seed.UsedSeed.{UsedSeed}
use Rattle.entries.specs.declared.used_seed.UsedSeed.TheVariants.{Rejoin0, Rejoin1, Rejoin2}
use Rattle.entry_codec.specs.Devices.{called_back, heard, in_slots, joined, kept_count, lapsed, lent_out, marked, queued, rejoined, seed_of, with_grant, with_session}
use Rattle.entry_codec.specs.Fits.{fits, fits_change, fits_event, fits_join, fits_lending, fits_rejoin}
use Rattle.entry_codec.specs.LookUps.{is_network, is_sender}
use Rattle.entry_codec.specs.Machine.{Machine, after, asked, closed, granted_by, holder_of, item_of, lapse, lent_to, on_change, on_device, on_dropped, on_effect, on_event, on_place, on_slots, place_of, ready, wake, wakes, with_rejoin}
use Rattle.entry_codec.specs.declared.device.Device.{Device}
use Rattle.entry_codec.specs.declared.device.Granted.{Granted}
use Rattle.entry_codec.specs.declared.device.LentTo.{LentTo}
use Rattle.entry_codec.specs.declared.parties.Holder.{Holder}
use Rattle.entry_codec.specs.declared.parties.Holder.TheVariants as holder
use Rattle.entry_codec.proofs.Bools.{and_right}
use Rattle.entry_codec.proofs.SoundDevices.{nonce-counted}
use Rattle.entry_codec.proofs.Stays.{fits_its_event}
use Rattle.entry_codec.proofs.Sums.{at_some, element-changed, none_holds}

-- ---- the nonces that a step of a device leaves

join_nonce-with_session : (seed : Seed) (own : Option OwnContext) (d : Device) → (with_session seed own d).join_nonce ≡ d.join_nonce
join_nonce-with_session seed None d = refl
join_nonce-with_session seed (Some own) d = refl

dev_nonce-with_session : (seed : Seed) (own : Option OwnContext) (d : Device) → (with_session seed own d).dev_nonce ≡ d.dev_nonce
dev_nonce-with_session seed None d = refl
dev_nonce-with_session seed (Some own) d = refl

pub join_nonce-joined : (counter n : ℕ) (own : Option OwnContext) (d : Device) → (joined counter n own d).join_nonce ≡ n
unfolding joined
join_nonce-joined counter n own d = join_nonce-with_session (seed_of counter n d) own (record d { dev_nonce = Some counter; join_nonce = n })

pub dev_nonce-joined : (counter n : ℕ) (own : Option OwnContext) (d : Device) → (joined counter n own d).dev_nonce ≡ Some counter
unfolding joined
dev_nonce-joined counter n own d = dev_nonce-with_session (seed_of counter n d) own (record d { dev_nonce = Some counter; join_nonce = n })

pub join_nonce-rejoined : (used : UsedSeed) (counter n : ℕ) (own : Option OwnContext) (d : Device) → (rejoined used counter n own d).join_nonce ≡ n
unfolding rejoined
join_nonce-rejoined used counter n own d =
    join_nonce-with_session (seed_of counter n d) own (kept_count used counter (record d { join_nonce = n })) ∙ nonce-counted used counter (record d { join_nonce = n })

dev_nonce-counted : (used : UsedSeed) (counter : ℕ) (d : Device) → (kept_count used counter d).dev_nonce ≡ d.dev_nonce
dev_nonce-counted (Rejoin0 place) counter d = refl
dev_nonce-counted Rejoin1 counter d = refl
dev_nonce-counted (Rejoin2 place) counter d = refl

pub dev_nonce-rejoined : (used : UsedSeed) (counter n : ℕ) (own : Option OwnContext) (d : Device) → (rejoined used counter n own d).dev_nonce ≡ d.dev_nonce
unfolding rejoined
dev_nonce-rejoined used counter n own d =
    dev_nonce-with_session (seed_of counter n d) own (kept_count used counter (record d { join_nonce = n })) ∙ dev_nonce-counted used counter (record d { join_nonce = n })

pub join_nonce-lent_out : (used : Option UsedSeed) (counter n : ℕ) (to : LentTo) (d : Device) → (lent_out used counter n to d).join_nonce ≡ n
unfolding lent_out
join_nonce-lent_out None counter n to d = join_nonce-joined counter n None d
join_nonce-lent_out (Some used) counter n to d = join_nonce-rejoined used counter n None d

pub dev_nonce-lent_join : (counter n : ℕ) (to : LentTo) (d : Device) → (lent_out None counter n to d).dev_nonce ≡ Some counter
unfolding lent_out
dev_nonce-lent_join counter n to d = dev_nonce-joined counter n None d

pub dev_nonce-lent_rejoin : (used : UsedSeed) (counter n : ℕ) (to : LentTo) (d : Device) → (lent_out (Some used) counter n to d).dev_nonce ≡ d.dev_nonce
unfolding lent_out
dev_nonce-lent_rejoin used counter n to d = dev_nonce-rejoined used counter n None d

-- ---- what counts

-- a step issues a number from the least that may come, which is the one above it afterwards; where it issues none, the least doesn't fall
abbrev pub Steps : Option ℕ → ℕ → ℕ → Type 0
Steps None was is = was ≤ is
Steps (Some n) was is = (was ≤ n) × (is ≡ n + 1)

-- the least that may come, by a device's last DevNonce and its last JoinNonce
abbrev pub of_nonces : (Option ℕ → ℕ → ℕ) → Device → ℕ
of_nonces next d = next d.dev_nonce d.join_nonce

-- so do the three steps that have a JoinNonce
pub record Counts (next : Option ℕ → ℕ → ℕ) (number : Change → Option ℕ) : Type 0 where
  pub joins : (j : Joined) (m : Machine) (d : Device) → IsTrue (fits_join j m d) → Steps (number (change.Join j)) (of_nonces next d) (of_nonces next (joined j.counter j.join_nonce j.own d))
  pub rejoins : (j : Rejoined) (m : Machine) (d : Device) → IsTrue (fits_rejoin j m d) → Steps (number (change.Rejoin j)) (of_nonces next d) (of_nonces next (rejoined j.used j.counter j.join_nonce j.own d))
  pub lends : (l : Lending) (d : Device) → IsTrue (fits_lending l d) → Steps (number (change.Lent l)) (of_nonces next d) (of_nonces next (lent_out l.used l.counter l.join_nonce (lent_to l) d))

abbrev pub least : (Option ℕ → ℕ → ℕ) → Option Device → ℕ
least next None = 0
least next (Some d) = of_nonces next d

-- of no device it falls
abbrev pub Climbs : (Option ℕ → ℕ → ℕ) → Machine → Machine → Type 0
Climbs next m k = (i : ℕ) → least next (slice_get m.devices i) ≤ least next (slice_get k.devices i)

-- a step at a device that allows it
pub record StepsAt (next : Option ℕ → ℕ → ℕ) (i : ℕ) (f : Device → Device) (number : Option ℕ) (m : Machine) : Type 0 where
  pub device : Device
  pub there : slice_get m.devices i ≡ Some device
  pub steps : Steps number (of_nonces next device) (of_nonces next (f device))

-- what an entry issues is not below the least that may come, which is the one above it afterwards
pub record Issues (next : Option ℕ → ℕ → ℕ) (i n : ℕ) (m : Machine) (e : Entry) : Type 0 where
  pub from : least next (slice_get m.devices i) ≤ n
  pub to : least next (slice_get (after m e).devices i) ≡ n + 1

not_below : (number : Option ℕ) (was is : ℕ) → Steps number was is → was ≤ is
not_below None was is h = h
not_below (Some n) was is h = omega (arith, h.0, h.1)

module _ (next : Option ℕ → ℕ → ℕ) where
  climbs_then : (m k l : Machine) → Climbs next m k → Climbs next k l → Climbs next m l
  climbs_then m k l a b = λ i. omega (arith, a i, b i)

  climbs-changed : (i : ℕ) (f : Device → Device) (ds : List Device) → ((d : Device) → slice_get ds i ≡ Some d → of_nonces next d ≤ of_nonces next (f d)) → (j : ℕ) → least next (slice_get ds j) ≤ least next (slice_get (changed i f ds) j)
  climbs-changed i f [] step j = omega arith
  climbs-changed zero f (d ∷ ds) step zero = step d refl
  climbs-changed zero f (d ∷ ds) step (suc j) = omega arith
  climbs-changed (suc i) f (d ∷ ds) step zero = rw (changed-cons d ds i f) (omega arith)
  climbs-changed (suc i) f (d ∷ ds) step (suc j) = rw (changed-cons d ds i f) (climbs-changed i f ds step j)

  climbs-on_device : (i : ℕ) (f : Device → Device) (m : Machine) → ((d : Device) → slice_get m.devices i ≡ Some d → of_nonces next d ≤ of_nonces next (f d)) → Climbs next m (on_device i f m)
  climbs-on_device i f m step = λ j. climbs-changed i f m.devices step j

  climbs-on_place : (o : Option ℕ) (f : Device → Device) (m : Machine) → ((d : Device) → of_nonces next d ≤ of_nonces next (f d)) → Climbs next m (on_place o f m)
  climbs-on_place None f m step = λ j. omega arith
  climbs-on_place (Some i) f m step = climbs-on_device i f m (λ d e. step d)

  climbs-on_slots : (who : Option Holder) (f : Slots → Slots) (m : Machine) → Climbs next m (on_slots who f m)
  climbs-on_slots None f m = λ j. omega arith
  climbs-on_slots (Some (holder.Device i)) f m = climbs-on_device i (in_slots f) m (λ d e. omega arith)
  climbs-on_slots (Some (holder.Visitor dev)) f m = λ j. omega arith

  -- ---- steps of a device that issue nothing

  climbs-queued : (item : Item) (d : Device) → of_nonces next d ≤ of_nonces next (queued item d)
  unfolding queued
  climbs-queued item d = omega arith

  climbs-marked : (b : Bool) (d : Device) → of_nonces next d ≤ of_nonces next (marked b d)
  unfolding marked
  climbs-marked b d = omega arith

  climbs-called_back : (d : Device) → of_nonces next d ≤ of_nonces next (called_back d)
  unfolding called_back
  climbs-called_back d = omega arith

  climbs-with_grant : (g : Granted) (d : Device) → of_nonces next d ≤ of_nonces next (with_grant g d)
  unfolding with_grant
  climbs-with_grant g d = omega arith

  climbs-dropped : (k : RoamingKind) (sender : Sender) (dev : Eui) (m : Machine) → Climbs next m (on_dropped k sender dev m)
  climbs-dropped kind.Held sender dev m = λ j. omega arith
  climbs-dropped kind.Lent sender dev m = climbs-on_place (place_of dev m) called_back m climbs-called_back
  climbs-dropped kind.Visitor sender dev m = λ j. omega arith

  climbs-rejoin : (dev : Option Eui) (count : Option RejoinCount) (m : Machine) → Climbs next m (with_rejoin dev count m)
  climbs-rejoin None count m = λ j. omega arith
  climbs-rejoin (Some dev) None m = λ j. omega arith
  climbs-rejoin (Some dev) (Some count) m = λ j. omega arith

  climbs-effect : (n t : ℕ) (e : Effect) (m : Machine) → Climbs next m (on_effect n e (closed t m))
  unfolding on_effect
  climbs-effect n t effect.Nothing m = λ j. omega arith
  climbs-effect n t (effect.Visitor v) m = λ j. omega arith
  climbs-effect n t (effect.Held s) m = λ j. omega arith
  climbs-effect n t (effect.Counter c) m = λ j. omega arith

  -- ---- the state at which an entry is looked at has the same nonces

  least-lapsed : (at : ℕ) (ds : List Device) (j : ℕ) → least next (slice_get (map (lapsed at) ds) j) ≡ least next (slice_get ds j)
  unfolding lapsed
  least-lapsed at [] j = refl
  least-lapsed at (d ∷ ds) zero = refl
  least-lapsed at (d ∷ ds) (suc j) = least-lapsed at ds j

  least-lapse : (at : ℕ) (m : Machine) (j : ℕ) → least next (slice_get (lapse at m).devices j) ≡ least next (slice_get m.devices j)
  unfolding lapse
  least-lapse at m j = least-lapsed at m.devices j

  least-in_slots : (i : ℕ) (f : Slots → Slots) (ds : List Device) (j : ℕ) → least next (slice_get (changed i (in_slots f) ds) j) ≡ least next (slice_get ds j)
  least-in_slots i f [] j = refl
  least-in_slots zero f (d ∷ ds) zero = refl
  least-in_slots zero f (d ∷ ds) (suc j) = refl
  least-in_slots (suc i) f (d ∷ ds) zero = rw (changed-cons d ds i (in_slots f)) refl
  least-in_slots (suc i) f (d ∷ ds) (suc j) = rw (changed-cons d ds i (in_slots f)) (least-in_slots i f ds j)

  least-wake : (who : Option Holder) (m : Machine) (j : ℕ) → least next (slice_get (wake who m).devices j) ≡ least next (slice_get m.devices j)
  least-wake None m j = refl
  least-wake (Some (holder.Device i)) m j = least-in_slots i activated m.devices j
  least-wake (Some (holder.Visitor dev)) m j = refl

  least-ready : (m : Machine) (e : Entry) (j : ℕ) → least next (slice_get (ready m e).devices j) ≡ least next (slice_get m.devices j)
  unfolding ready
  least-ready m e j = least-wake (wakes e.event (lapse e.moment.0 m)) (lapse e.moment.0 m) j ∙ least-lapse e.moment.0 m j

  -- ---- steps that may issue a number

  step_by : (i : ℕ) (f : Device → Device) (number : Option ℕ) (can : Device → Bool) (m : Machine) → ((d : Device) → IsTrue (can d) → Steps number (of_nonces next d) (of_nonces next (f d))) → IsTrue (holds_of can (slice_get m.devices i)) → StepsAt next i f number m
  step_by i f number can m steps h = by (slice_get m.devices i) refl
    where
      by : (o : Option Device) → slice_get m.devices i ≡ o → StepsAt next i f number m
      by None e = absurd (none_holds can (slice_get m.devices i) e h)
      by (Some d) e = record { device = d; there = e; steps = steps d (at_some can (slice_get m.devices i) d e h) }

  climbs-step : (i : ℕ) (f : Device → Device) (number : Option ℕ) (m : Machine) → StepsAt next i f number m → Climbs next m (on_device i f m)
  climbs-step i f number m s = climbs-on_device i f m (λ d e. step d e)
    where
      step : (d : Device) → slice_get m.devices i ≡ Some d → of_nonces next d ≤ of_nonces next (f d)
      step d e =
          let same : s.device ≡ d = cc (e, s.there) in
          subst (λ (x : Device). of_nonces next x ≤ of_nonces next (f x)) same (not_below number (of_nonces next s.device) (of_nonces next (f s.device)) s.steps)

  pub issues-step : (i n : ℕ) (f : Device → Device) (m : Machine) (e : Entry) → StepsAt next i f (Some n) (ready m e) → on_event e.event (ready m e) ≡ on_device i f (ready m e) → Issues next i n m e
  issues-step i n f m e s is = record {
    from = omega (arith, sym (least-ready m e i), ap (least next) s.there, s.steps.0);
    to = ap (λ (k : Machine). least next (slice_get k.devices i)) is ∙ ap (least next) (element-changed i f (ready m e).devices ∙ ap (option_map f) s.there) ∙ s.steps.1;
  }

module _ (next : Option ℕ → ℕ → ℕ) (number : Change → Option ℕ) (counts : Counts next number) where
  pub step-join : (j : Joined) (m : Machine) → IsTrue (holds_of (fits_join j m) (slice_get m.devices j.device)) → StepsAt next j.device (joined j.counter j.join_nonce j.own) (number (change.Join j)) m
  step-join j m h = step_by next j.device (joined j.counter j.join_nonce j.own) (number (change.Join j)) (fits_join j m) m (λ d can. counts.joins j m d can) h

  pub step-rejoin : (j : Rejoined) (m : Machine) → IsTrue (holds_of (fits_rejoin j m) (slice_get m.devices j.device)) → StepsAt next j.device (rejoined j.used j.counter j.join_nonce j.own) (number (change.Rejoin j)) m
  step-rejoin j m h = step_by next j.device (rejoined j.used j.counter j.join_nonce j.own) (number (change.Rejoin j)) (fits_rejoin j m) m (λ d can. counts.rejoins j m d can) h

  pub step-lend : (l : Lending) (m : Machine) → IsTrue (is_network l.net m && holds_of (fits_lending l) (slice_get m.devices l.device)) → StepsAt next l.device (lent_out l.used l.counter l.join_nonce (lent_to l)) (number (change.Lent l)) m
  step-lend l m h =
      step_by next l.device (lent_out l.used l.counter l.join_nonce (lent_to l)) (number (change.Lent l)) (fits_lending l) m (λ d can. counts.lends l d can)
      (and_right (is_network l.net m) (holds_of (fits_lending l) (slice_get m.devices l.device)) h)

  climbs-change : (sender : Sender) (c : Change) (m : Machine) → IsTrue (fits_change sender c m) → Climbs next m (on_change sender c m)
  unfolding on_change fits_change
  climbs-change sender (change.Join j) m h = climbs-step next j.device (joined j.counter j.join_nonce j.own) (number (change.Join j)) m (step-join j m h)
  climbs-change sender (change.Rejoin j) m h = climbs-step next j.device (rejoined j.used j.counter j.join_nonce j.own) (number (change.Rejoin j)) m (step-rejoin j m h)
  climbs-change sender (change.Lent l) m h = climbs-step next l.device (lent_out l.used l.counter l.join_nonce (lent_to l)) (number (change.Lent l)) m (step-lend l m h)
  climbs-change sender (change.Up u) m h = climbs-on_slots next (holder_of u.dev_eui m) (heard u.pending u.count u.frame u.down) m
  climbs-change sender (change.Passive p) m h =
      let k = on_place (place_of p.up.dev_eui m) (with_grant (granted_by p)) m in
      climbs_then next m k (on_slots (holder_of p.up.dev_eui m) (heard p.up.pending p.up.count p.up.frame p.up.down) k) (climbs-on_place next (place_of p.up.dev_eui m) (with_grant (granted_by p)) m (climbs-with_grant next (granted_by p)))
      (climbs-on_slots next (holder_of p.up.dev_eui m) (heard p.up.pending p.up.count p.up.frame p.up.down) k)
  climbs-change sender (change.Queue q) m h = climbs-on_device next q.device (queued (item_of q)) m (λ d e. climbs-queued next (item_of q) d)
  climbs-change sender (change.Dropped d) m h = climbs-dropped next d.what sender d.dev_eui m

  climbs-event : (e : Event) (m : Machine) → IsTrue (fits_event e m) → Climbs next m (on_event e m)
  unfolding on_event fits_event
  climbs-event event.Opened m h = λ j. omega arith
  climbs-event (event.Tables t) m h = λ j. omega arith
  climbs-event (event.Kept r c) m h = climbs-change r.sender c m (and_right (nat_lt 0 m.entries && is_sender r.sender m) (fits_change r.sender c m) h)
  climbs-event (event.Asked a) m h = λ j. omega (arith, climbs-rejoin next a.target.dev_eui a.target.rejoin (asked a m) j)
  climbs-event (event.Told t) m h = climbs-effect next m.entries t.ask t.effect m
  climbs-event (event.Suspend i) m h = climbs-on_device next i (marked true) m (λ d e. climbs-marked next true d)
  climbs-event (event.Resume i) m h = climbs-on_device next i (marked false) m (λ d e. climbs-marked next false d)

  pub climbs-after : (m : Machine) (e : Entry) → IsTrue (fits m e) → Climbs next m (after m e)
  climbs-after m e h = λ j. omega (arith, climbs-event e.event (ready m e) (fits_its_event m e h) j, least-ready next m e j)
