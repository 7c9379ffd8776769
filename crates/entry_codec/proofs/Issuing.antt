-- Each JoinNonce and each DevNonce of a device is above those before it.
use Rattle.std.proofs.Common.{◌≡◌, ℕ, zero, suc, ◌+◌, ◌<◌, ◌≤◌, Bool, List, [], ◌∷◌, length, map, get_or, Option, Some, None, option_map, refl, ap, subst, ◌∙◌, arith}
use Rattle.std.specs.Prelude.{IsTrue, ◌==◌, ◌&&◌, nat_lt, position, slice_get, is_some, if◌then◌else◌}
use borrow.Author.Tests.{ltb-true}
use Rattle.std.proofs.lemmas.Option.{get_or_from_slice_get, slice_get_within, some_pair_parts}
use Rattle.wire_ids.specs.Lists.{at_place}
use Rattle.wire_ids.specs.declared.eui.Eui.{Eui}
use Rattle.agreements.specs.LookUps.{AreFound as HasPlaces}
use Rattle.agreements.specs.Walk.{Config}
use Rattle.agreements.specs.declared.rows.DeviceRow.{DeviceRow}
use Rattle.entries.specs.declared.change.Change.{Change}
use Rattle.entries.specs.declared.change.Change.TheVariants as change
use Rattle.entries.specs.declared.entry.Entry.{Entry}
use Rattle.entries.specs.declared.entry.Event.{Event}
use Rattle.entries.specs.declared.entry.Event.TheVariants as event
use Rattle.entries.specs.declared.entry.Request.{Request}
use Rattle.entries.specs.declared.used_seed.UsedSeed.{UsedSeed}
use Rattle.entry_codec.specs.Devices.{joined, lent_out, rejoined}
use Rattle.entry_codec.specs.Empty.{empty, new_device}
use Rattle.entry_codec.specs.Fits.{fits, fits_change, fits_event, fits_own, fits_step, fits_used, is_above}
use Rattle.entry_codec.specs.Index.{is_number, names, row_number}
use Rattle.entry_codec.specs.Issues.{DevNoncesOnce, IssuesOnce, JoinNoncesOnce, accepted_dev_nonce, device_of, event_number, given_join_nonce, issued, issues, of_device}
use Rattle.entry_codec.specs.LookUps.{is_sender}
use Rattle.entry_codec.specs.Machine.{Machine, after, lent_to, on_change, on_device, on_event, ready}
use Rattle.entry_codec.specs.Replay.{AllFit}
use Rattle.entry_codec.specs.declared.device.Device.{Device}
use Rattle.entry_codec.specs.declared.device.LentTo.{LentTo}
use Rattle.entry_codec.proofs.Bools.{and_left, and_right}
use Rattle.entry_codec.proofs.Counting.{Counts, Issues, Steps, StepsAt, climbs-after, dev_nonce-joined, dev_nonce-lent_join, dev_nonce-lent_rejoin, dev_nonce-rejoined, issues-step, join_nonce-joined, join_nonce-lent_out, join_nonce-rejoined, least, step-join, step-lend, step-rejoin}
use Rattle.entry_codec.proofs.Marks.{AllFitting, IsMark, all_above, differ}
use Rattle.entry_codec.proofs.Names.{position-map}
use Rattle.entry_codec.proofs.SoundEmpty.{names-new}
use Rattle.entry_codec.proofs.Stays.{fits_its_event, names-after}

-- ---- devices by name

-- each device is found by its DevEUI
abbrev AreFound : Machine → Type 0
AreFound m = (i : ℕ) (d : Device) → slice_get m.devices i ≡ Some d → position (is_number d.dev_eui.0) (names m.devices) ≡ Some i

same_place : (dev : Eui) (m : Machine) (e : Entry) → position (is_number dev.0) (names (after m e).devices) ≡ position (is_number dev.0) (names m.devices)
same_place dev m e = ap (λ (ns : List ℕ). position (is_number dev.0) ns) (names-after m e)

record FitsFound (m : Machine) (e : Entry) : Type 0 where
  pub fits : IsTrue (fits m e)
  pub found : AreFound m

-- ---- names stay found

found_name : (ds es : List Device) (i : ℕ) (e : Device) → names es ≡ names ds → slice_get es i ≡ Some e → (d : Device) × (slice_get ds i ≡ Some d) × (d.dev_eui.0 ≡ e.dev_eui.0)
found_name [] [] i e same there = absurd cc
found_name [] (y ∷ ys) i e same there = absurd cc
found_name (x ∷ xs) [] i e same there = absurd cc
found_name (x ∷ xs) (y ∷ ys) zero e same there = (x, refl, first x y xs ys e same there)
  where
    first : (x y : Device) (xs ys : List Device) (e : Device) → names (y ∷ ys) ≡ names (x ∷ xs) → Some y ≡ Some e → x.dev_eui.0 ≡ e.dev_eui.0
    first x y xs ys e same there = cc
found_name (x ∷ xs) (y ∷ ys) (suc i) e same there = found_name xs ys i e (rest x y xs ys same) there
  where
    rest : (x y : Device) (xs ys : List Device) → names (y ∷ ys) ≡ names (x ∷ xs) → names ys ≡ names xs
    rest x y xs ys same = cc

found-after : (m : Machine) (e : Entry) → AreFound m → AreFound (after m e)
found-after m e found = λ i d there.
    let was = found_name m.devices (after m e).devices i d (names-after m e) there in
    ap (λ (ns : List ℕ). position (is_number d.dev_eui.0) ns) (names-after m e) ∙ subst (λ (k : ℕ). position (is_number k) (names m.devices) ≡ Some i) was.2 (found i was.0 was.1)

all_found : (es : List Entry) (m : Machine) → AreFound m → AllFit m es → AllFitting FitsFound after m es
all_found [] m found fit = tt
all_found (e ∷ es) m found fit = (record { fits = fit.0; found = found }, all_found es (after m e) (found-after m e found) fit.1)

found-empty : (c : Config) → HasPlaces c.devices → AreFound (empty c)
unfolding empty
found-empty c places = λ i d there. found_at c.devices i d places there
  where
    name_at : (rows : List DeviceRow) (i : ℕ) (d : Device) → slice_get (map (new_device c.desk.net_id) rows) i ≡ Some d → (r : DeviceRow) × (slice_get rows i ≡ Some r) × (r.dev_eui.0 ≡ d.dev_eui.0)
    name_at [] i d there = absurd cc
    name_at (r ∷ rows) zero d there = (r, refl, cc)
    name_at (r ∷ rows) (suc i) d there = name_at rows i d there

    named_at : (rows : List DeviceRow) (i : ℕ) (d : Device) (r : DeviceRow) → HasPlaces rows → slice_get rows i ≡ Some r → r.dev_eui.0 ≡ d.dev_eui.0 → position (is_number d.dev_eui.0) (names (map (new_device c.desk.net_id) rows)) ≡ Some i
    named_at rows i d r h at name =
        let within : i < length rows = slice_get_within rows i r at in
        let own : get_or rows i r ≡ r = get_or_from_slice_get rows i r r at in
        let place : position (λ (r : DeviceRow). r.dev_eui.0 == d.dev_eui.0) rows ≡ Some i = subst (λ (k : ℕ). position (λ (r : DeviceRow). r.dev_eui.0 == k) rows ≡ Some i) (ap (λ (r : DeviceRow). r.dev_eui.0) own ∙ name) (h i r within) in
        ap (λ (ns : List ℕ). position (is_number d.dev_eui.0) ns) (names-new c.desk.net_id rows) ∙ position-map (is_number d.dev_eui.0) row_number rows ∙ place

    found_at : (rows : List DeviceRow) (i : ℕ) (d : Device) → HasPlaces rows → slice_get (map (new_device c.desk.net_id) rows) i ≡ Some d → position (is_number d.dev_eui.0) (names (map (new_device c.desk.net_id) rows)) ≡ Some i
    found_at rows i d h there = let was = name_at rows i d there in named_at rows i d was.0 h was.1 was.2

-- ---- the mark of a DevEUI

abbrev mark : (Option ℕ → ℕ → ℕ) → Eui → Machine → ℕ
mark next dev m = least next (at_place m.devices (position (is_number dev.0) (names m.devices)))

record IssuedAt (next : Option ℕ → ℕ → ℕ) (m : Machine) (e : Entry) (key : Eui) (n : ℕ) : Type 0 where
  pub place : ℕ
  pub device : Device
  pub there : slice_get m.devices place ≡ Some device
  pub name : device.dev_eui ≡ key
  pub issues : Issues next place n m e

in_kept : (r : Request) (c : Change) (m : Machine) → IsTrue (fits_event (event.Kept r c) m) → IsTrue (fits_change r.sender c m)
unfolding fits_event
in_kept r c m k = and_right (nat_lt 0 m.entries && is_sender r.sender m) (fits_change r.sender c m) k

kept_fits : (m : Machine) (e : Entry) (r : Request) (c : Change) → e.event ≡ event.Kept r c → IsTrue (fits m e) → IsTrue (fits_change r.sender c (ready m e))
kept_fits m e r c is h = in_kept r c (ready m e) (subst (λ (x : Event). IsTrue (fits_event x (ready m e))) is (fits_its_event m e h))

kept_event : (m : Machine) (e : Entry) (r : Request) (c : Change) → e.event ≡ event.Kept r c → on_event e.event (ready m e) ≡ on_change r.sender c (ready m e)
unfolding on_event
kept_event m e r c is = ap (λ (x : Event). on_event x (ready m e)) is

place_of_key : (m : Machine) (key : Eui) (i : ℕ) (d : Device) → AreFound m → slice_get m.devices i ≡ Some d → d.dev_eui ≡ key → position (is_number key.0) (names m.devices) ≡ Some i
place_of_key m key i d found there name = subst (λ (k : Eui). position (is_number k.0) (names m.devices) ≡ Some i) name (found i d there)

module _ (next : Option ℕ → ℕ → ℕ) (number : Change → Option ℕ) (counts : Counts next number) where
  mark-stays : (m : Machine) (e : Entry) (dev : Eui) → FitsFound m e → mark next dev m ≤ mark next dev (after m e)
  mark-stays m e dev f = by (position (is_number dev.0) (names m.devices)) (same_place dev m e)
    where
      by : (o : Option ℕ) → position (is_number dev.0) (names (after m e).devices) ≡ o → least next (at_place m.devices o) ≤ least next (at_place (after m e).devices (position (is_number dev.0) (names (after m e).devices)))
      by None s = rw s (omega arith)
      by (Some i) s = rw s (climbs-after next number counts m e f.fits i)

  found_number : (m : Machine) (e : Entry) (key : Eui) (i x n : ℕ) (o : Option Device) → slice_get m.devices i ≡ o → ◌≡◌ {A = Option (Eui × ℕ)} (option_map (λ (d : Device). (d.dev_eui, x)) o) (Some (key, n)) → Issues next i x m e → IssuedAt next m e key n
  found_number m e key i x n None there some issues = absurd cc
  found_number m e key i x n (Some d) there some issues =
      let both = some_pair_parts d.dev_eui key x n some in
      record { place = i; device = d; there = there; name = both.0; issues = subst (λ (y : ℕ). Issues next i y m e) both.1 issues }

  step_issued : (m : Machine) (e : Entry) (key : Eui) (i n : ℕ) (f : Device → Device) (o : Option ℕ) → ◌≡◌ {A = Option (Eui × ℕ)} (of_device (Some i) o m) (Some (key, n)) → StepsAt next i f o (ready m e) → on_event e.event (ready m e) ≡ on_device i f (ready m e) → IssuedAt next m e key n
  step_issued m e key i n f None some s is = absurd cc
  step_issued m e key i n f (Some x) some s is = found_number m e key i x n (slice_get m.devices i) refl some (issues-step next i x f m e s is)

  change_issued : (m : Machine) (e : Entry) (r : Request) (c : Change) (key : Eui) (n : ℕ) → e.event ≡ event.Kept r c → ◌≡◌ {A = Option (Eui × ℕ)} (of_device (device_of c) (number c) m) (Some (key, n)) → IsTrue (fits m e) → IssuedAt next m e key n
  unfolding on_change fits_change
  change_issued m e r (change.Join j) key n is some h =
      step_issued m e key j.device n (joined j.counter j.join_nonce j.own) (number (change.Join j)) some
      (step-join next number counts j (ready m e) (kept_fits m e r (change.Join j) is h)) (kept_event m e r (change.Join j) is)
  change_issued m e r (change.Rejoin j) key n is some h =
      step_issued m e key j.device n (rejoined j.used j.counter j.join_nonce j.own) (number (change.Rejoin j)) some
      (step-rejoin next number counts j (ready m e) (kept_fits m e r (change.Rejoin j) is h)) (kept_event m e r (change.Rejoin j) is)
  change_issued m e r (change.Lent l) key n is some h =
      step_issued m e key l.device n (lent_out l.used l.counter l.join_nonce (lent_to l)) (number (change.Lent l)) some
      (step-lend next number counts l (ready m e) (kept_fits m e r (change.Lent l) is h)) (kept_event m e r (change.Lent l) is)
  change_issued m e r (change.Up u) key n is some h = absurd cc
  change_issued m e r (change.Passive p) key n is some h = absurd cc
  change_issued m e r (change.Queue q) key n is some h = absurd cc
  change_issued m e r (change.Dropped d) key n is some h = absurd cc

  event_issued : (m : Machine) (e : Entry) (x : Event) (key : Eui) (n : ℕ) → e.event ≡ x → ◌≡◌ {A = Option (Eui × ℕ)} (event_number number x m) (Some (key, n)) → IsTrue (fits m e) → IssuedAt next m e key n
  event_issued m e event.Opened key n is some h = absurd cc
  event_issued m e (event.Tables t) key n is some h = absurd cc
  event_issued m e (event.Kept r c) key n is some h = change_issued m e r c key n is some h
  event_issued m e (event.Asked a) key n is some h = absurd cc
  event_issued m e (event.Told t) key n is some h = absurd cc
  event_issued m e (event.Suspend i) key n is some h = absurd cc
  event_issued m e (event.Resume i) key n is some h = absurd cc

  mark-from : (m : Machine) (e : Entry) (key : Eui) (n : ℕ) → FitsFound m e → issued number m e ≡ Some (key, n) → mark next key m ≤ n
  mark-from m e key n f some =
      let at = event_issued m e e.event key n refl some f.fits in
      let here : mark next key m ≡ least next (slice_get m.devices at.place) = ap (λ (o : Option ℕ). least next (at_place m.devices o)) (place_of_key m key at.place at.device f.found at.there at.name) in
      omega (arith, here, at.issues.from)

  mark-to : (m : Machine) (e : Entry) (key : Eui) (n : ℕ) → FitsFound m e → issued number m e ≡ Some (key, n) → n < mark next key (after m e)
  mark-to m e key n f some =
      let at = event_issued m e e.event key n refl some f.fits in
      let place = same_place key m e ∙ place_of_key m key at.place at.device f.found at.there at.name in
      let here : mark next key (after m e) ≡ least next (slice_get (after m e).devices at.place) = ap (λ (o : Option ℕ). least next (at_place (after m e).devices o)) place in
      omega (arith, here, at.issues.to)

  is_mark : IsMark FitsFound after (issued number) (mark next)
  is_mark = record { from = λ m e key n f some. mark-from m e key n f some; to = λ m e key n f some. mark-to m e key n f some; stays = λ m e key f. mark-stays m e key f }

  issues_once : (c : Config) (es : List Entry) → HasPlaces c.devices → AllFit (empty c) es → IssuesOnce number (empty c) es
  issues_once c es places fit =
      let above = all_above FitsFound after (issued number) (mark next) is_mark es (empty c) (all_found es (empty c) (found-empty c places) fit) in
      record { once = differ (issues after (issued number) (empty c) es) above; rising = above }

-- ---- JoinNonces

abbrev next_join_nonce : Option ℕ → ℕ → ℕ
next_join_nonce dev_nonce join_nonce = join_nonce + 1

-- the test of each step has the JoinNonce above the last one
above_last : (a : Bool) (d n is : ℕ) → IsTrue (a && nat_lt d n) → is ≡ n → Steps (Some n) (d + 1) (is + 1)
above_last a d n is h same = (omega (arith, ltb-true d n (and_right a (nat_lt d n) h)), ap (λ (k : ℕ). k + 1) same)

counts-join_nonce : Counts next_join_nonce given_join_nonce
counts-join_nonce = record {
  joins = λ j m d can. above_last (is_above j.counter d.dev_nonce) d.join_nonce j.join_nonce (joined j.counter j.join_nonce j.own d).join_nonce
      (and_left (is_above j.counter d.dev_nonce && nat_lt d.join_nonce j.join_nonce) (fits_own j.own d m) can) (join_nonce-joined j.counter j.join_nonce j.own d);
  rejoins = λ j m d can. above_last (fits_used j.used j.counter d) d.join_nonce j.join_nonce (rejoined j.used j.counter j.join_nonce j.own d).join_nonce
      (and_left (fits_used j.used j.counter d && nat_lt d.join_nonce j.join_nonce) (fits_own j.own d m) can) (join_nonce-rejoined j.used j.counter j.join_nonce j.own d);
  lends = λ l d can. above_last (fits_step l.used l.counter d) d.join_nonce l.join_nonce (lent_out l.used l.counter l.join_nonce (lent_to l) d).join_nonce can
      (join_nonce-lent_out l.used l.counter l.join_nonce (lent_to l) d);
}

pub join_nonces_once : JoinNoncesOnce
join_nonces_once c es places fit = issues_once next_join_nonce given_join_nonce counts-join_nonce c es places fit

-- ---- DevNonces

abbrev above : Option ℕ → ℕ
above None = 0
above (Some n) = n + 1

abbrev next_dev_nonce : Option ℕ → ℕ → ℕ
next_dev_nonce dev_nonce join_nonce = above dev_nonce

from_above : (n : ℕ) (o : Option ℕ) → IsTrue (is_above n o) → above o ≤ n
from_above n None h = omega arith
from_above n (Some m) h = omega (arith, ltb-true m n h)

lends-dev_nonce : (used : Option UsedSeed) (counter n : ℕ) (to : LentTo) (d : Device) → IsTrue (fits_step used counter d && nat_lt d.join_nonce n) → Steps (if is_some used then None else Some counter) (above d.dev_nonce) (above (lent_out used counter n to d).dev_nonce)
lends-dev_nonce None counter n to d can = (from_above counter d.dev_nonce (and_left (is_above counter d.dev_nonce) (nat_lt d.join_nonce n) can), ap above (dev_nonce-lent_join counter n to d))
lends-dev_nonce (Some used) counter n to d can = omega (arith, ap above (dev_nonce-lent_rejoin used counter n to d))

counts-dev_nonce : Counts next_dev_nonce accepted_dev_nonce
counts-dev_nonce = record {
  joins = λ j m d can. (from_above j.counter d.dev_nonce (and_left (is_above j.counter d.dev_nonce) (nat_lt d.join_nonce j.join_nonce) (and_left (is_above j.counter d.dev_nonce && nat_lt d.join_nonce j.join_nonce) (fits_own j.own d m) can)), ap above (dev_nonce-joined j.counter j.join_nonce j.own d));
  rejoins = λ j m d can. omega (arith, ap above (dev_nonce-rejoined j.used j.counter j.join_nonce j.own d));
  lends = λ l d can. lends-dev_nonce l.used l.counter l.join_nonce (lent_to l) d can;
}

pub dev_nonces_once : DevNoncesOnce
dev_nonces_once c es places fit = issues_once next_dev_nonce accepted_dev_nonce counts-dev_nonce c es places fit
