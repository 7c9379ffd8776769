-- The counter and the JoinNonce of a join step are above the last ones.
use Rattle.std.proofs.Common.{◌≡◌, ℕ, ◌+◌, ◌==◌, List, true, false, cond, Option, Some, None, get_or, refl, arith}
use Rattle.std.proofs.lemmas.List.Quantifiers.{position-Some}
use Rattle.std.proofs.lemmas.Option.{slice_get-get_or}
use Rattle.std.specs.Prelude.{is_none, nat_lt, slice_get}
use Rattle.wire_ids.specs.Lists.{holds_of}
use Rattle.entries.specs.declared.used_seed.UsedSeed.TheVariants.{Rejoin0, Rejoin2}
use Rattle.entry_codec.specs.Fits.{fits_used, is_above, is_above_count}
use Rattle.entry_codec.specs.declared.device.Device.{Device}
use Rattle.entry_codec.specs.declared.device.KeptSeed.{KeptSeed}
use Rattle.js_core.specs.Steps.{is_not_above, is_valid_under, rejoin_seed, seed_place}

pub above : (n : ℕ) (o : Option ℕ) → is_not_above n o ≡ false → is_above n o ≡ true
above n None h = refl
above n (Some last) h = grind arith

pub next_above : (n : ℕ) → nat_lt n (n + 1) ≡ true
next_above n = grind arith

seed_above : (n : ℕ) (o : Option KeptSeed) (seed : KeptSeed) → o ≡ Some seed → holds_of (λ (s : KeptSeed). is_not_above n s.rj_count0) o ≡ false → holds_of (is_above_count n) o ≡ true
seed_above n None seed e h = absurd cc
seed_above n (Some s) seed e h = above n s.rj_count0 h

-- the used seed is there, and the counter is above its last one
pub used_fits : (nwk frame : List ℕ) (kind count place : ℕ) (kept : Device) (seed : KeptSeed) → seed_place nwk frame kept ≡ Some place
    → holds_of (λ (s : KeptSeed). is_not_above count s.rj_count0) (slice_get kept.seeds.items place) ≡ false → fits_used (rejoin_seed kind place) count kept ≡ true
unfolding seed_place
used_fits nwk frame kind count place kept seed there low =
    let within = (position-Some (is_valid_under nwk frame) kept.seeds.items place seed there).0 in
    let fit = seed_above count (slice_get kept.seeds.items place) (get_or kept.seeds.items place seed) (slice_get-get_or kept.seeds.items place seed within) low in
    elim (kind == 0) as (λ b. fits_used (cond b (Rejoin0 place) (Rejoin2 place)) count kept ≡ true) [ true ↦ fit | false ↦ fit ]

pub none_valid : (o : Option ℕ) → o ≡ None → is_none o ≡ false → ⊥
none_valid None e h = cc
none_valid (Some place) e h = cc
