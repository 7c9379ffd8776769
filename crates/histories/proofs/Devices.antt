-- Each step of a device leaves past what was past, as a new context has a JoinNonce above the last.
use Rattle.std.proofs.Common.{◌≡◌, ℕ, ◌<◌, ◌≤◌, Bool, Option, Some, None, refl, sym, ap, ◌∙◌, arith}
use Rattle.std.specs.Prelude.{IsTrue, ◌&&◌, ◌^◌, nat_le, nat_lt, length}
use borrow.Author.Tests.{leb-true}
use Rattle.wire_ids.specs.declared.eui.Eui.{Eui}
use Rattle.wire_ids.specs.declared.keys.Seed.{Seed}
use Rattle.contexts.specs.Contexts.{fresh_of}
use Rattle.contexts.specs.Queue.{pushed}
use Rattle.contexts.specs.declared.context.Context.{Context}
use Rattle.contexts.specs.declared.context.Item.{Item}
use Rattle.contexts.specs.declared.context.Origin.{Origin}
use Rattle.contexts.specs.declared.context.Origin.TheVariants.{Given, Seeded}
use Rattle.contexts.specs.declared.slots.Slots.{Slots}
use Rattle.entries.specs.declared.change.OwnContext.{OwnContext}
use Rattle.entries.specs.declared.used_seed.UsedSeed.{UsedSeed}
use Rattle.entries.specs.declared.used_seed.UsedSeed.TheVariants.{Rejoin0, Rejoin1, Rejoin2}
use Rattle.entry_codec.specs.Devices.{called_back, in_slots, joined, kept_count, lapsed, lent_out, marked, queued, rejoined, seed_of, stepped, with_grant, with_session}
use Rattle.entry_codec.specs.Fits.{can_queue, takes}
use Rattle.entry_codec.specs.Sound.{IsSeededTo}
use Rattle.entry_codec.specs.declared.device.Device.{Device}
use Rattle.entry_codec.specs.declared.device.Granted.{Granted}
use Rattle.entry_codec.specs.declared.device.LentTo.{LentTo}
use Rattle.entry_codec.proofs.Bools.{and_left, and_right}
use Rattle.entry_codec.proofs.SoundDevices.{IsSame}
use Rattle.entry_codec.proofs.Sums.{at_some}
use Rattle.histories.specs.Downlinks.{ContextCounter}
use Rattle.histories.proofs.Contexts.{PastSlots, past-offered, past-on_active, past-pushed}

-- ---- what is past of a device

-- a seed's JoinNonce was given out
abbrev pub WasGiven : ℕ → Origin → Type 0
WasGiven last (Seeded seed) = seed.nonce ≤ last
WasGiven last (Given number keys) = Unit {0}

pub record PastOf (k : ContextCounter) (n : ℕ) (d : Device) : Type 0 where
  pub given : WasGiven d.join_nonce k.origin
  pub slots : PastSlots k n d.slots

abbrev pub PastDevice : ContextCounter → ℕ → Device → Type 0
PastDevice k n d = d.dev_eui.0 ≡ k.dev_eui.0 → PastOf k n d

pub past-step : (k : ContextCounter) (n : ℕ) (f : Device → Device) (d : Device) → IsSame f → (PastOf k n d → PastOf k n (f d)) → PastDevice k n d → PastDevice k n (f d)
past-step k n f d same step h = λ e. step (h (ap (λ (x : Eui). x.0) (sym (same.name d)) ∙ e))

-- ---- steps that leave the contexts

pub past-lapsed : (k : ContextCounter) (n at : ℕ) (d : Device) → PastOf k n d → PastOf k n (lapsed at d)
unfolding lapsed
past-lapsed k n at d h = record { given = h.given; slots = h.slots }

pub past-marked : (k : ContextCounter) (n : ℕ) (suspended : Bool) (d : Device) → PastOf k n d → PastOf k n (marked suspended d)
unfolding marked
past-marked k n suspended d h = record { given = h.given; slots = h.slots }

pub past-called_back : (k : ContextCounter) (n : ℕ) (d : Device) → PastOf k n d → PastOf k n (called_back d)
unfolding called_back
past-called_back k n d h = record { given = h.given; slots = h.slots }

pub past-with_grant : (k : ContextCounter) (n : ℕ) (g : Granted) (d : Device) → PastOf k n d → PastOf k n (with_grant g d)
unfolding with_grant
past-with_grant k n g d h = record { given = h.given; slots = h.slots }

-- ---- joins and rejoins

pub seed_was_given : (last : ℕ) (o : Origin) → IsSeededTo last o → WasGiven last o
seed_was_given last (Seeded seed) h = h
seed_was_given last (Given number keys) h = tt

given-more : (a b : ℕ) → a ≤ b → (o : Origin) → WasGiven a o → WasGiven b o
given-more a b le (Seeded seed) h = omega (arith, le, h)
given-more a b le (Given number keys) h = tt

-- a seed with a higher JoinNonce is a new one
pub seeds_apart : (last : ℕ) (seed : Seed) → last < seed.nonce → (o : Origin) → WasGiven last o → Seeded seed ≡ o → ⊥
seeds_apart last seed lt (Seeded other) h e = apart (ap nonce_in e)
  where
    nonce_in : Origin → ℕ
    nonce_in (Seeded s) = s.nonce
    nonce_in (Given number keys) = 0

    apart : seed.nonce ≡ other.nonce → ⊥
    apart same = omega (arith, h, lt, same)
seeds_apart last seed lt (Given number keys) h e = absurd cc

past-with_session : (k : ContextCounter) (n : ℕ) (seed : Seed) (own : Option OwnContext) (d : Device) → (Seeded seed ≡ k.origin → ⊥) → PastOf k n d → PastOf k n (with_session seed own d)
past-with_session k n seed None d apart h = record { given = h.given; slots = h.slots }
past-with_session k n seed (Some own) d apart h = record { given = h.given; slots = past-offered k n (fresh_of own.dev_addr (Seeded seed) own.radio) d.slots apart h.slots }

pub past-joined : (k : ContextCounter) (n counter nonce : ℕ) (own : Option OwnContext) (d : Device) → d.join_nonce < nonce → PastOf k n d → PastOf k n (joined counter nonce own d)
unfolding joined
past-joined k n counter nonce own d lt h =
    past-with_session k n (seed_of counter nonce d) own (record d { dev_nonce = Some counter; join_nonce = nonce })
    (seeds_apart d.join_nonce (seed_of counter nonce d) lt k.origin h.given) (record { given = given-more d.join_nonce nonce (omega (arith, lt)) k.origin h.given; slots = h.slots })

past-counted : (k : ContextCounter) (n : ℕ) (used : UsedSeed) (counter : ℕ) (d : Device) → PastOf k n d → PastOf k n (kept_count used counter d)
past-counted k n (Rejoin0 place) counter d h = record { given = h.given; slots = h.slots }
past-counted k n Rejoin1 counter d h = record { given = h.given; slots = h.slots }
past-counted k n (Rejoin2 place) counter d h = record { given = h.given; slots = h.slots }

pub past-rejoined : (k : ContextCounter) (n : ℕ) (used : UsedSeed) (counter nonce : ℕ) (own : Option OwnContext) (d : Device) → d.join_nonce < nonce → PastOf k n d → PastOf k n (rejoined used counter nonce own d)
unfolding rejoined
past-rejoined k n used counter nonce own d lt h =
    past-with_session k n (seed_of counter nonce d) own (kept_count used counter (record d { join_nonce = nonce }))
    (seeds_apart d.join_nonce (seed_of counter nonce d) lt k.origin h.given)
    (past-counted k n used counter (record d { join_nonce = nonce }) (record { given = given-more d.join_nonce nonce (omega (arith, lt)) k.origin h.given; slots = h.slots }))

past-stepped : (k : ContextCounter) (n : ℕ) (used : Option UsedSeed) (counter nonce : ℕ) (d : Device) → d.join_nonce < nonce → PastOf k n d → PastOf k n (stepped used counter nonce d)
past-stepped k n None counter nonce d lt h = past-joined k n counter nonce None d lt h
past-stepped k n (Some used) counter nonce d lt h = past-rejoined k n used counter nonce None d lt h

pub past-lent_out : (k : ContextCounter) (n : ℕ) (used : Option UsedSeed) (counter nonce : ℕ) (to : LentTo) (d : Device) → d.join_nonce < nonce → PastOf k n d → PastOf k n (lent_out used counter nonce to d)
unfolding lent_out
past-lent_out k n used counter nonce to d lt h = let s = past-stepped k n used counter nonce d lt h in record { given = s.given; slots = s.slots }

-- ---- the queue

next_below : (number : ℕ) (c : Context) → IsTrue (takes number c) → c.next_a ≤ number
next_below number c h =
    leb-true c.next_a number (and_right (nat_lt number (2 ^ 32)) (nat_le c.next_a number) (and_left (nat_lt number (2 ^ 32) && nat_le c.next_a number) (nat_lt (length c.queue.items) 8) h))

pub past-queued : (k : ContextCounter) (n : ℕ) (item : Item) (d : Device) → IsTrue (can_queue item.number d) → PastOf k n d → PastOf k n (queued item d)
unfolding queued can_queue
past-queued k n item d can h = record {
  given = h.given;
  slots = past-on_active k n (pushed item) d.slots (λ c. refl) (λ c there p. past-pushed item k.counter n c (next_below item.number c (at_some (takes item.number) d.slots.active c there can)) p) h.slots;
}

pub past-in_slots : (k : ContextCounter) (n : ℕ) (f : Slots → Slots) (d : Device) → (PastSlots k n d.slots → PastSlots k n (f d.slots)) → PastOf k n d → PastOf k n (in_slots f d)
past-in_slots k n f d step h = record { given = h.given; slots = step h.slots }
