-- Each downlink of an entry that fits has a number, above those of its counter before it.
use Rattle.std.proofs.Common.{◌≡◌, ℕ, suc, ◌<◌, Bool, true, false, cond, List, [], ◌∷◌, length, Option, Some, None, option_map, refl, sym, ap, subst, ◌∙◌}
use Rattle.std.specs.Prelude.{IsTrue, ◌&&◌, nat_lt, is_some}
use Rattle.std.specs.List.{filter}
use Rattle.wire_ids.specs.declared.party.Sender.{Sender}
use Rattle.contexts.specs.Queue.{first_in}
use Rattle.contexts.specs.declared.context.Context.{Context}
use Rattle.contexts.specs.declared.context.Item.{Item}
use Rattle.contexts.specs.declared.slots.Slots.{Slots}
use Rattle.entries.specs.declared.change.Change.{Change}
use Rattle.entries.specs.declared.change.Change.TheVariants as change
use Rattle.entries.specs.declared.change.Downlink.{Downlink}
use Rattle.entries.specs.declared.change.Downlink.TheVariants as down
use Rattle.entries.specs.declared.change.PassiveUplink.{PassiveUplink}
use Rattle.entries.specs.declared.change.Uplink.{Uplink}
use Rattle.entries.specs.declared.entry.Entry.{Entry}
use Rattle.entries.specs.declared.entry.Event.{Event}
use Rattle.entries.specs.declared.entry.Event.TheVariants as event
use Rattle.entry_codec.specs.Devices.{heard, in_slots, with_grant}
use Rattle.entry_codec.specs.Empty.{empty}
use Rattle.entry_codec.specs.Fits.{can_answer, fits, fits_change, fits_event, fits_up}
use Rattle.entry_codec.specs.Index.{names}
use Rattle.entry_codec.specs.Issues.{issues, one_more}
use Rattle.entry_codec.specs.LookUps.{at_home, is_network, is_sender}
use Rattle.entry_codec.specs.Machine.{Machine, after, granted_by, holder_of, on_change, on_event, on_place, on_slots, place_of, ready}
use Rattle.entry_codec.specs.Replay.{AllFit}
use Rattle.entry_codec.specs.Sound.{OnSlot}
use Rattle.entry_codec.specs.declared.device.Device.{Device}
use Rattle.entry_codec.specs.declared.device.Granted.{Granted}
use Rattle.entry_codec.specs.declared.parties.Holder.{Holder}
use Rattle.entry_codec.specs.declared.parties.Holder.TheVariants as holder
use Rattle.entry_codec.proofs.Bools.{and_right}
use Rattle.entry_codec.proofs.Marks.{AllFitting, differ}
use Rattle.entry_codec.proofs.SoundDevices.{same-with_grant}
use Rattle.entry_codec.proofs.SoundEmpty.{names-empty}
use Rattle.entry_codec.proofs.Stays.{fits_its_event, names-after, stays-ready}
use Rattle.histories.specs.Downlinks.{AFCntDown, ContextCounter, DownlinkNumbersOnce, change_has_down, change_number, counter_of, event_has_down, event_number, has_down, heard_under, is_down, issued, number_at, number_in, up_number}
use Rattle.histories.proofs.Above.{GoesPast, rising}
use Rattle.histories.proofs.Contexts.{IsNumber, PastIn, is_number, past-woken}
use Rattle.histories.proofs.Devices.{past-with_grant}
use Rattle.histories.proofs.Elements.{AreOnce, changes-commute, found_once}
use Rattle.histories.proofs.Holders.{HeardAt, heard_at, is_held, past_held, past_to}
use Rattle.histories.proofs.Own.{Own, own-after, own-empty, own-ready}
use Rattle.histories.proofs.Past.{Past, past-after, past-entered, past-on_place, past-ready}

-- ---- an uplink's downlink

number-heard : (u : Uplink) (m : Machine) (at : HeardAt u m) → up_number u m ≡ number_in u.down u.dev_eui at.context
number-heard u m at = ap (λ (o : Option Slots). number_at u (heard_under u.pending o)) at.there ∙ ap (number_at u) at.active

up_is : (u : Uplink) (m : Machine) (at : HeardAt u m) (k : ContextCounter) (n : ℕ) → up_number u m ≡ Some (k, n) → IsNumber u.down u.dev_eui at.context k n
up_is u m at k n e = is_number u.down u.dev_eui at.context k n (sym (number-heard u m at) ∙ e)

up_above : (u : Uplink) (m : Machine) (k : ContextCounter) (n next : ℕ) → IsTrue (fits_up u m) → Past k n m → up_number u m ≡ Some (k, next) → n < next
up_above u m k n next fit past e =
    let at = heard_at u m fit in
    let is = up_is u m at k next e in
    let slots = past-woken k n u.pending at.slots (past_held k n u.dev_eui m (holder_of u.dev_eui m) at.slots is.name past (is_held u.dev_eui m at.slots at.there)) in
    is.above n (subst (λ (o : Option Context). OnSlot (PastIn k n) o) at.active slots.active is.origin)

up_to : (u : Uplink) (m : Machine) (k : ContextCounter) (n : ℕ) → Own m.entries m → AreOnce (names m.devices) → IsTrue (fits_up u m) → up_number u m ≡ Some (k, n)
    → Past k n (on_slots (holder_of u.dev_eui m) (heard u.pending u.count u.frame u.down) m)
up_to u m k n own once fit e = let at = heard_at u m fit in past_to u m k n own once at (up_is u m at k n e)

grant-commutes : (who : Option Holder) (o : Option ℕ) (f : Slots → Slots) (g : Granted) (m : Machine) → on_slots who f (on_place o (with_grant g) m) ≡ on_place o (with_grant g) (on_slots who f m)
unfolding with_grant
grant-commutes None None f g m = refl
grant-commutes None (Some j) f g m = refl
grant-commutes (Some (holder.Device i)) None f g m = refl
grant-commutes (Some (holder.Device i)) (Some j) f g m = ap (λ (ds : List Device). record m { devices = ds }) (changes-commute i j (in_slots f) (with_grant g) m.devices (λ d. refl))
grant-commutes (Some (holder.Visitor dev)) None f g m = refl
grant-commutes (Some (holder.Visitor dev)) (Some j) f g m = refl

passive_fits : (p : PassiveUplink) (m : Machine) → IsTrue (is_network p.net m && at_home p.up.dev_eui m && fits_up p.up m) → IsTrue (fits_up p.up m)
passive_fits p m h = and_right (is_network p.net m && at_home p.up.dev_eui m) (fits_up p.up m) h

passive_to : (p : PassiveUplink) (m : Machine) (k : ContextCounter) (n : ℕ) → Past k n (on_slots (holder_of p.up.dev_eui m) (heard p.up.pending p.up.count p.up.frame p.up.down) m)
    → Past k n (on_slots (holder_of p.up.dev_eui m) (heard p.up.pending p.up.count p.up.frame p.up.down) (on_place (place_of p.up.dev_eui m) (with_grant (granted_by p)) m))
passive_to p m k n h =
    let place = place_of p.up.dev_eui m in
    let step : Slots → Slots = heard p.up.pending p.up.count p.up.frame p.up.down in
    let heard_there = on_slots (holder_of p.up.dev_eui m) step m in
    subst (Past k n) (sym (grant-commutes (holder_of p.up.dev_eui m) place step (granted_by p) m)) (past-on_place k n place (with_grant (granted_by p)) heard_there (same-with_grant (granted_by p)) (λ d q. past-with_grant k n (granted_by p) d q) h)

-- ---- an entry's

change_above : (sender : Sender) (c : Change) (m : Machine) (k : ContextCounter) (n next : ℕ) → IsTrue (fits_change sender c m) → Past k n m → change_number c m ≡ Some (k, next) → n < next
unfolding fits_change
change_above sender (change.Join j) m k n next fit past e = absurd cc
change_above sender (change.Rejoin j) m k n next fit past e = absurd cc
change_above sender (change.Lent l) m k n next fit past e = absurd cc
change_above sender (change.Up u) m k n next fit past e = up_above u m k n next fit past e
change_above sender (change.Passive p) m k n next fit past e = up_above p.up m k n next (passive_fits p m fit) past e
change_above sender (change.Queue q) m k n next fit past e = absurd cc
change_above sender (change.Dropped d) m k n next fit past e = absurd cc

change_to : (sender : Sender) (c : Change) (m : Machine) (k : ContextCounter) (n : ℕ) → Own m.entries m → AreOnce (names m.devices) → IsTrue (fits_change sender c m) → change_number c m ≡ Some (k, n) → Past k n (on_change sender c m)
unfolding fits_change on_change
change_to sender (change.Join j) m k n own once fit e = absurd cc
change_to sender (change.Rejoin j) m k n own once fit e = absurd cc
change_to sender (change.Lent l) m k n own once fit e = absurd cc
change_to sender (change.Up u) m k n own once fit e = up_to u m k n own once fit e
change_to sender (change.Passive p) m k n own once fit e = passive_to p m k n (up_to p.up m k n own once (passive_fits p m fit) e)
change_to sender (change.Queue q) m k n own once fit e = absurd cc
change_to sender (change.Dropped d) m k n own once fit e = absurd cc

event_above : (x : Event) (m : Machine) (k : ContextCounter) (n next : ℕ) → IsTrue (fits_event x m) → Past k n m → event_number x m ≡ Some (k, next) → n < next
unfolding fits_event
event_above event.Opened m k n next fit past e = absurd cc
event_above (event.Tables text) m k n next fit past e = absurd cc
event_above (event.Kept r c) m k n next fit past e = change_above r.sender c m k n next (and_right (nat_lt 0 m.entries && is_sender r.sender m) (fits_change r.sender c m) fit) past e
event_above (event.Asked a) m k n next fit past e = absurd cc
event_above (event.Told t) m k n next fit past e = absurd cc
event_above (event.Suspend i) m k n next fit past e = absurd cc
event_above (event.Resume i) m k n next fit past e = absurd cc

event_to : (x : Event) (m : Machine) (k : ContextCounter) (n : ℕ) → Own m.entries m → AreOnce (names m.devices) → IsTrue (fits_event x m) → event_number x m ≡ Some (k, n) → Past k n (on_event x m)
unfolding fits_event on_event
event_to event.Opened m k n own once fit e = absurd cc
event_to (event.Tables text) m k n own once fit e = absurd cc
event_to (event.Kept r c) m k n own once fit e = change_to r.sender c m k n own once (and_right (nat_lt 0 m.entries && is_sender r.sender m) (fits_change r.sender c m) fit) e
event_to (event.Asked a) m k n own once fit e = absurd cc
event_to (event.Told t) m k n own once fit e = absurd cc
event_to (event.Suspend i) m k n own once fit e = absurd cc
event_to (event.Resume i) m k n own once fit e = absurd cc

-- ---- entries from a state

record FitsOwn (m : Machine) (e : Entry) : Type 0 where
  pub fits : IsTrue (fits m e)
  pub own : Own m.entries m
  pub once : AreOnce (names m.devices)

all_own : (es : List Entry) (m : Machine) → Own m.entries m → AreOnce (names m.devices) → AllFit m es → AllFitting FitsOwn after m es
all_own [] m own once fit = tt
all_own (e ∷ es) m own once fit =
    (record { fits = fit.0; own = own; once = once }, all_own es (after m e) (own-after m e fit.0 own) (subst AreOnce (sym (names-after m e)) once) fit.1)

goes_past : GoesPast FitsOwn after issued Past
goes_past = record {
  above = λ m e k n next f past some. event_above e.event (ready m e) k n next (fits_its_event m e f.fits) (past-ready k n m e past) some;
  to = λ m e k n f some. past-entered k n e.moment.0 (on_event e.event (ready m e))
      (event_to e.event (ready m e) k n (own-ready m e f.own) (subst AreOnce (sym (stays-ready m e).names) f.once) (fits_its_event m e f.fits) some);
  stays = λ m e k n f past. past-after k n m e f.fits past;
}

-- ---- each downlink has a number

first_some : (f : Item → ContextCounter × ℕ) (items : List Item) → IsTrue (nat_lt 0 (length items)) → is_some (option_map f (first_in items)) ≡ true
first_some f [] h = absurd cc
first_some f (item ∷ items) h = refl

number_some : (d : Downlink) (u : Uplink) (c : Context) → IsTrue (can_answer d c) → is_some (number_in d u.dev_eui c) ≡ is_down d
number_some down.Nothing u c h = refl
number_some down.Empty u c h = refl
number_some down.FirstItem u c h = first_some (λ (item : Item). (counter_of u.dev_eui c AFCntDown, item.number)) c.queue.items h

up_some : (u : Uplink) (m : Machine) → IsTrue (fits_up u m) → is_some (up_number u m) ≡ is_down u.down
up_some u m fit = let at = heard_at u m fit in ap is_some (number-heard u m at) ∙ number_some u.down u at.context at.can

change_some : (sender : Sender) (c : Change) (m : Machine) → IsTrue (fits_change sender c m) → is_some (change_number c m) ≡ change_has_down c
unfolding fits_change
change_some sender (change.Join j) m fit = refl
change_some sender (change.Rejoin j) m fit = refl
change_some sender (change.Lent l) m fit = refl
change_some sender (change.Up u) m fit = up_some u m fit
change_some sender (change.Passive p) m fit = up_some p.up m (passive_fits p m fit)
change_some sender (change.Queue q) m fit = refl
change_some sender (change.Dropped d) m fit = refl

event_some : (x : Event) (m : Machine) → IsTrue (fits_event x m) → is_some (event_number x m) ≡ event_has_down x
unfolding fits_event
event_some event.Opened m fit = refl
event_some (event.Tables text) m fit = refl
event_some (event.Kept r c) m fit = change_some r.sender c m (and_right (nat_lt 0 m.entries && is_sender r.sender m) (fits_change r.sender c m) fit)
event_some (event.Asked a) m fit = refl
event_some (event.Told t) m fit = refl
event_some (event.Suspend i) m fit = refl
event_some (event.Resume i) m fit = refl

length-more : (o : Option (ContextCounter × ℕ)) (xs : List (ContextCounter × ℕ)) (b : Bool) (e : Entry) (es : List Entry) → is_some o ≡ b → length xs ≡ length es → length (one_more o xs) ≡ length (cond b (e ∷ es) es)
length-more None xs true e es is same = absurd cc
length-more None xs false e es is same = same
length-more (Some x) xs true e es is same = ap suc same
length-more (Some x) xs false e es is same = absurd cc

each_numbered : (es : List Entry) (m : Machine) → AllFit m es → length (issues after issued m es) ≡ length (filter has_down es)
each_numbered [] m fit = refl
each_numbered (e ∷ es) m fit =
    length-more (issued m e) (issues after issued (after m e) es) (has_down e) e (filter has_down es) (event_some e.event (ready m e) (fits_its_event m e fit.0)) (each_numbered es (after m e) fit.1)

-- ---- all

pub downlink_numbers_once : DownlinkNumbersOnce
downlink_numbers_once c es places fit =
    let once = subst AreOnce (sym (names-empty c)) (found_once c.devices places) in
    let above = rising FitsOwn after issued Past goes_past es (empty c) (all_own es (empty c) (own-empty c) once fit) in
    record { once = differ (issues after issued (empty c) es) above; rising = above; each = each_numbered es (empty c) fit }
