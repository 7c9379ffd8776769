-- What no entry changes: the devices' names, JoinEUIs and homes, and the senders.
use Rattle.std.proofs.Common.{◌≡◌, ℕ, List, [], ◌∷◌, map, Option, Some, None, refl, sym, ◌∙◌, subst, Bool, true, false}
use Rattle.std.specs.List.{list_any}
use Rattle.std.specs.Prelude.{IsTrue}
use Rattle.wire_ids.specs.declared.eui.Eui.{Eui}
use Rattle.wire_ids.specs.declared.party.Sender.{Sender}
use Rattle.contexts.specs.Slots.{activated}
use Rattle.contexts.specs.declared.slots.Slots.{Slots}
use Rattle.agreements.specs.Walk.{Config}
use Rattle.entries.specs.declared.ask.Effect.{Effect}
use Rattle.entries.specs.declared.ask.Effect.TheVariants as effect
use Rattle.entries.specs.declared.ask.RejoinCount.{RejoinCount}
use Rattle.entries.specs.declared.change.Change.{Change}
use Rattle.entries.specs.declared.change.Change.TheVariants as change
use Rattle.entries.specs.declared.change.OwnContext.{OwnContext}
use Rattle.entries.specs.declared.change.RoamingKind.{RoamingKind}
use Rattle.entries.specs.declared.change.RoamingKind.TheVariants as kind
use Rattle.entries.specs.declared.entry.Entry.{Entry}
use Rattle.entries.specs.declared.entry.Event.{Event}
use Rattle.entries.specs.declared.entry.Event.TheVariants as event
use Rattle.entries.specs.declared.used_seed.UsedSeed.{UsedSeed}
use Rattle.entries.specs.declared.used_seed.UsedSeed.TheVariants.{Rejoin0, Rejoin1, Rejoin2}
use Rattle.entry_codec.specs.Devices.{called_back, heard, in_slots, joined, lapsed, lent_out, marked, queued, rejoined, with_grant}
use Rattle.entry_codec.specs.Empty.{empty}
use Rattle.entry_codec.specs.Machine.{Machine, after, asked, closed, granted_by, holder_of, item_of, lapse, lent_to, on_change, on_device, on_dropped, on_effect, on_event, on_place, on_slots, place_of, ready, wake, wakes, with_rejoin}
use Rattle.entry_codec.specs.declared.device.Device.{Device}
use Rattle.entry_codec.specs.declared.device.LentTo.{LentTo}
use Rattle.entry_codec.specs.declared.parties.Holder.{Holder}
use Rattle.entry_codec.specs.declared.parties.Holder.TheVariants as holder
use Rattle.entry_codec.proofs.Names.{map-changed}
use Rattle.entry_codec.specs.LookUps.{is_same_sender}
use Rattle.roam_core.specs.Desk.{IsStateOf, named}
use Rattle.roam_core.specs.Entering.{KnowsSenders}

-- ---- steps of one device

abbrev Keeps : (Device → Device) → Type 0
Keeps f = (d : Device) → named (f d) ≡ named d

keeps-joined : (counter join_nonce : ℕ) (own : Option OwnContext) → Keeps (joined counter join_nonce own)
unfolding joined
keeps-joined counter join_nonce None d = refl
keeps-joined counter join_nonce (Some own) d = refl

keeps-rejoined : (used : UsedSeed) (counter join_nonce : ℕ) (own : Option OwnContext) → Keeps (rejoined used counter join_nonce own)
unfolding rejoined
keeps-rejoined (Rejoin0 place) counter join_nonce None d = refl
keeps-rejoined (Rejoin0 place) counter join_nonce (Some own) d = refl
keeps-rejoined Rejoin1 counter join_nonce None d = refl
keeps-rejoined Rejoin1 counter join_nonce (Some own) d = refl
keeps-rejoined (Rejoin2 place) counter join_nonce None d = refl
keeps-rejoined (Rejoin2 place) counter join_nonce (Some own) d = refl

keeps-lent_out : (used : Option UsedSeed) (counter join_nonce : ℕ) (to : LentTo) → Keeps (lent_out used counter join_nonce to)
unfolding lent_out
keeps-lent_out None counter join_nonce to d = keeps-joined counter join_nonce None d
keeps-lent_out (Some used) counter join_nonce to d = keeps-rejoined used counter join_nonce None d

keeps-called_back : Keeps called_back
unfolding called_back
keeps-called_back d = refl

keeps-marked : (suspended : Bool) → Keeps (marked suspended)
unfolding marked
keeps-marked suspended d = refl

keeps-in_slots : (f : Slots → Slots) → Keeps (in_slots f)
keeps-in_slots f d = refl

keeps-lapsed : (at : ℕ) → Keeps (lapsed at)
unfolding lapsed
keeps-lapsed at d = refl

-- ---- steps of a state

record Stays (m k : Machine) : Type 0 where
  devices : map named k.devices ≡ map named m.devices
  senders : k.senders ≡ m.senders

stays : (m : Machine) → Stays m m
stays m = record { devices = refl; senders = refl }

stays_then : (m k l : Machine) → Stays m k → Stays k l → Stays m l
stays_then m k l a b = record { devices = b.devices ∙ a.devices; senders = b.senders ∙ a.senders }

stays-on_device : (i : ℕ) (f : Device → Device) (m : Machine) → Keeps f → Stays m (on_device i f m)
stays-on_device i f m keeps = record { devices = map-changed named i f m.devices keeps; senders = refl }

stays-on_place : (o : Option ℕ) (f : Device → Device) (m : Machine) → Keeps f → Stays m (on_place o f m)
stays-on_place None f m keeps = stays m
stays-on_place (Some i) f m keeps = stays-on_device i f m keeps

stays-on_slots : (who : Option Holder) (f : Slots → Slots) (m : Machine) → Stays m (on_slots who f m)
stays-on_slots None f m = stays m
stays-on_slots (Some (holder.Device i)) f m = stays-on_device i (in_slots f) m (keeps-in_slots f)
stays-on_slots (Some (holder.Visitor dev)) f m = record { devices = refl; senders = refl }

stays-dropped : (k : RoamingKind) (sender : Sender) (dev : Eui) (m : Machine) → Stays m (on_dropped k sender dev m)
stays-dropped kind.Held sender dev m = record { devices = refl; senders = refl }
stays-dropped kind.Lent sender dev m = stays-on_place (place_of dev m) called_back m keeps-called_back
stays-dropped kind.Visitor sender dev m = record { devices = refl; senders = refl }

stays-change : (sender : Sender) (c : Change) (m : Machine) → Stays m (on_change sender c m)
unfolding on_change queued with_grant
stays-change sender (change.Join j) m = stays-on_device j.device (joined j.counter j.join_nonce j.own) m (keeps-joined j.counter j.join_nonce j.own)
stays-change sender (change.Rejoin j) m = stays-on_device j.device (rejoined j.used j.counter j.join_nonce j.own) m (keeps-rejoined j.used j.counter j.join_nonce j.own)
stays-change sender (change.Lent l) m = stays-on_device l.device (lent_out l.used l.counter l.join_nonce (lent_to l)) m (keeps-lent_out l.used l.counter l.join_nonce (lent_to l))
stays-change sender (change.Up u) m = stays-on_slots (holder_of u.dev_eui m) (heard u.pending u.count u.frame u.down) m
stays-change sender (change.Passive p) m =
    let k = on_place (place_of p.up.dev_eui m) (with_grant (granted_by p)) m in
    let u = p.up in
    stays_then m k (on_slots (holder_of u.dev_eui m) (heard u.pending u.count u.frame u.down) k)
    (stays-on_place (place_of u.dev_eui m) (with_grant (granted_by p)) m (λ d. refl)) (stays-on_slots (holder_of u.dev_eui m) (heard u.pending u.count u.frame u.down) k)
stays-change sender (change.Queue q) m = stays-on_device q.device (queued (item_of q)) m (λ d. refl)
stays-change sender (change.Dropped d) m = stays-dropped d.what sender d.dev_eui m

stays-rejoin : (dev : Option Eui) (count : Option RejoinCount) (m : Machine) → Stays m (with_rejoin dev count m)
stays-rejoin None count m = stays m
stays-rejoin (Some dev) None m = stays m
stays-rejoin (Some dev) (Some count) m = record { devices = refl; senders = refl }

stays-effect : (n t : ℕ) (e : Effect) (m : Machine) → Stays m (on_effect n e (closed t m))
unfolding on_effect
stays-effect n t effect.Nothing m = record { devices = refl; senders = refl }
stays-effect n t (effect.Visitor v) m = record { devices = refl; senders = refl }
stays-effect n t (effect.Held s) m = record { devices = refl; senders = refl }
stays-effect n t (effect.Counter c) m = record { devices = refl; senders = refl }

stays-event : (e : Event) (m : Machine) → Stays m (on_event e m)
unfolding on_event
stays-event event.Opened m = record { devices = refl; senders = refl }
stays-event (event.Tables t) m = stays m
stays-event (event.Kept r c) m = stays-change r.sender c m
stays-event (event.Asked a) m = let k = stays-rejoin a.target.dev_eui a.target.rejoin (asked a m) in record { devices = k.devices; senders = k.senders }
stays-event (event.Told t) m = stays-effect m.entries t.ask t.effect m
stays-event (event.Suspend i) m = stays-on_device i (marked true) m (keeps-marked true)
stays-event (event.Resume i) m = stays-on_device i (marked false) m (keeps-marked false)

named-map : (f : Device → Device) (ds : List Device) → Keeps f → map named (map f ds) ≡ map named ds
named-map f [] keeps = refl
named-map f (d ∷ ds) keeps = rw (keeps d, named-map f ds keeps) refl

stays-lapse : (at : ℕ) (m : Machine) → Stays m (lapse at m)
unfolding lapse
stays-lapse at m = record { devices = named-map (lapsed at) m.devices (keeps-lapsed at); senders = refl }

stays-ready : (m : Machine) (e : Entry) → Stays m (ready m e)
unfolding ready
stays-ready m e =
    let l = lapse e.moment.0 m in
    stays_then m l (wake (wakes e.event l) l) (stays-lapse e.moment.0 m) (stays-on_slots (wakes e.event l) activated l)

stays-after : (m : Machine) (e : Entry) → Stays m (after m e)
stays-after m e =
    let k = stays_then m (ready m e) (on_event e.event (ready m e)) (stays-ready m e) (stays-event e.event (ready m e)) in
    record { devices = k.devices; senders = k.senders }

-- ---- a state of the tables

pub state_first : (c : Config) → IsStateOf c (empty c)
state_first c = record { devices = refl; senders = refl }

pub state_after : (c : Config) (m : Machine) (e : Entry) → IsStateOf c m → IsStateOf c (after m e)
state_after c m e s =
    let k = stays-after m e in
    record { devices = k.devices ∙ s.devices; senders = k.senders ∙ s.senders }

-- a state of the tables knows the senders that another one knows
pub senders_after : (c : Config) (m k : Machine) → IsStateOf c m → IsStateOf c k → KnowsSenders c m → KnowsSenders c k
senders_after c m k a b known = λ sender has. subst (λ (ss : List Sender). IsTrue (list_any (is_same_sender sender) ss)) (a.senders ∙ sym b.senders) (known sender has)
