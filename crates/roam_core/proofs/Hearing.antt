-- The entry of what the home network decides fits.
use Rattle.std.proofs.Common.{◌≡◌, ℕ, zero, suc, ◌+◌, ◌==◌, ◌<◌, ◌≤◌, ◌^◌, List, [], ◌∷◌, length, map, Bool, true, false, cond, not, ◌||◌, Option, Some, None, option_map, option_and_then, is_some, refl, sym, ap, ◌∙◌, subst, arith, eq-eqb, eqb-true, inl, inr, le-leb, lt-ltb}
use Rattle.std.proofs.lemmas.Bool.{cases_lt, false≢true}
use Rattle.std.proofs.lemmas.Option.{get_or_from_slice_get, slice_get_within}
use Rattle.std.specs.List.{AllByRecursion, list_any}
use Rattle.std.specs.Prelude.{◌&&◌, IsTrue, find, nat_le, nat_lt, position, slice_get}
use Rattle.wire_ids.specs.Addresses.{base_of, room_of}
use Rattle.wire_ids.specs.Lists.{at_place, holds_of}
use Rattle.wire_ids.specs.declared.address.DevAddr.{DevAddr}
use Rattle.wire_ids.specs.declared.eui.Eui.{Eui}
use Rattle.wire_ids.specs.declared.party.Sender.{Sender}
use Rattle.contexts.specs.Queue.{first_in}
use Rattle.contexts.specs.Sound.{IsSoundSlot}
use Rattle.contexts.specs.declared.context.Context.{Context}
use Rattle.contexts.specs.declared.context.Item.{Item}
use Rattle.contexts.specs.declared.slots.Slots.{Slots}
use Rattle.data_frames.specs.Counts.{IsAbove}
use Rattle.data_frames.specs.DataForms.{data_fault}
use Rattle.agreements.specs.LookUps.{AreFound as HasPlaces}
use Rattle.agreements.specs.Walk.{Config}
use Rattle.agreements.specs.declared.rows.DeviceRow.{DeviceRow}
use Rattle.backend_json.specs.declared.head.Head.{Head}
use Rattle.backend_json.specs.declared.request.UplinkRequest.{UplinkRequest}
use Rattle.backend_json.specs.declared.request.XmitDataRequest.{XmitDataRequest}
use Rattle.entries.specs.declared.change.Downlink.{Downlink}
use Rattle.entries.specs.declared.change.Downlink.TheVariants as down
use Rattle.entries.specs.declared.change.OwnContext.{OwnContext}
use Rattle.entries.specs.declared.used_seed.UsedSeed.{UsedSeed}
use Rattle.entries.specs.declared.used_seed.UsedSeed.TheVariants.{Rejoin0, Rejoin1, Rejoin2}
use Rattle.entry_codec.specs.Devices.{in_slots}
use Rattle.entry_codec.specs.Empty.{empty}
use Rattle.entry_codec.specs.Fits.{can_answer, can_queue, fits_change, fits_slots, fits_used, is_above, takes}
use Rattle.entry_codec.specs.Free.{free_address, free_from, is_number_taken}
use Rattle.entry_codec.specs.Index.{is_number, device_number, names, row_number}
use Rattle.entry_codec.specs.LookUps.{at_home, device_slots, is_taken, live_context, slots_of, visitor_of, visitor_slots}
use Rattle.entry_codec.specs.Machine.{Machine, change_wakes, holder_of, home_or_visitor, is_home, is_visitor, lapse, place_of, wake}
use Rattle.entry_codec.specs.Sound.{IsSound, IsSoundDevice, IsSoundVisitor, has_context}
use Rattle.entry_codec.specs.declared.device.Device.{Device}
use Rattle.entry_codec.specs.declared.device.KeptSeed.{KeptSeed}
use Rattle.entry_codec.specs.declared.parties.Holder.{Holder}
use Rattle.entry_codec.specs.declared.parties.Holder.TheVariants as holder
use Rattle.entry_codec.specs.declared.parties.LiveContext.{LiveContext}
use Rattle.entry_codec.specs.declared.parties.Visitor.{Visitor}
use Rattle.entry_codec.proofs.Names.{position-map}
use Rattle.entry_codec.proofs.SoundEmpty.{names-empty}
use Rattle.entry_codec.proofs.Stays.{stays-lapse}
use Rattle.join_frames.specs.declared.join_up.JoinUp.{JoinUp}
use Rattle.join_frames.specs.declared.join_up.JoinUp.TheVariants.{Join, Rejoin02, Rejoin1 as RejoinOne}
use Rattle.js_core.specs.Found.{Found}
use Rattle.js_core.specs.Steps.{change_of, is_not_above, next_seed, rejoin_seed, seed_place, step_of, used_seed}
use Rattle.js_core.proofs.Cases.{stands_at}
use Rattle.exchanges.specs.Downlinks.{down_of, fits_at, has_fitting_item, has_number, rx1_rate, wants_downlink}
use Rattle.exchanges.specs.Frames.{addr_of, is_data}
use Rattle.ns_core.specs.Own.{own_address, own_context, own_with, waking}
use Rattle.ns_core.specs.Payloads.{has_8, is_under, is_used, queue_of}
use Rattle.ns_core.specs.Replies.{up_of}
use Rattle.ns_core.specs.Speakers.{Speaker, context_at, count_of, in_slot, keys_of, name_of, speaker_at, speaker_of, speaker_with, valid_under}
use Rattle.exchanges.specs.declared.valid.Count.{Count}
use Rattle.ns_core.proofs.Cases.{IsActivation, IsPayload, IsUplink}
use Rattle.exchanges.proofs.Counting.{counts_above}
use Rattle.roam_core.specs.Desk.{IsStateOf, Named, named}
use Rattle.roam_core.proofs.Stepping.{above, next_above, none_valid, used_fits}
use Rattle.roam_core.proofs.Waking.{other-wake}

-- ---- the devices of a state by their names

-- the state has the devices of the tables, in whose rows no DevEUI stands twice
pub record AreNamed (c : Config) (m : Machine) : Type 0 where
  pub rows : names m.devices ≡ map row_number c.devices
  pub places : HasPlaces c.devices

names_of : (ds : List Device) → names ds ≡ map (λ (n : Named). n.dev_eui.0) (map named ds)
names_of [] = refl
names_of (d ∷ ds) = ap (λ (ns : List ℕ). d.dev_eui.0 ∷ ns) (names_of ds)

pub names_of_state : (c : Config) (m : Machine) → HasPlaces c.devices → IsStateOf c m → AreNamed c m
names_of_state c m places is = record {
  rows = names_of m.devices ∙ ap (map (λ (n : Named). n.dev_eui.0)) is.devices ∙ sym (names_of (empty c).devices) ∙ names-empty c;
  places = places;
}

pub named_lapsed : (at : ℕ) (c : Config) (m : Machine) → AreNamed c m → AreNamed c (lapse at m)
named_lapsed at c m are = record { rows = (stays-lapse at m).names ∙ are.rows; places = are.places }

-- the device in a row is found by the row's name
named_place : (c : Config) (m : Machine) (k : ℕ) (row : DeviceRow) → AreNamed c m → slice_get c.devices k ≡ Some row → place_of row.dev_eui m ≡ Some k
named_place c m k row are there =
    let key = row.dev_eui.0 in
    let own = get_or_from_slice_get c.devices k row row there in
    let place : position (λ (r : DeviceRow). r.dev_eui.0 == key) c.devices ≡ Some k = subst (λ (r : DeviceRow). position (λ (x : DeviceRow). x.dev_eui.0 == r.dev_eui.0) c.devices ≡ Some k) own (are.places k row (slice_get_within c.devices k row there)) in
    sym (position-map (is_number key) device_number m.devices)
    ∙ ap (position (is_number key)) are.rows
    ∙ position-map (is_number key) row_number c.devices
    ∙ place

-- ---- free addresses

free_there : (taken : ℕ → Bool) (more n k : ℕ) → free_from taken more n ≡ Some k → taken k ≡ false
unfolding free_from
free_there taken zero n k e = absurd cc
free_there taken (suc more) n k e = by (taken n) refl (free_there taken more (suc n) k) e
  where
    by : (b : Bool) → taken n ≡ b → (free_from taken more (suc n) ≡ Some k → taken k ≡ false) → cond b (free_from taken more (suc n)) (Some n) ≡ Some k → taken k ≡ false
    by true is rest e = rest e
    by false is rest e = let same : n ≡ k = cc in ap taken (sym same) ∙ is

number_there : (net : ℕ) (m : Machine) (o : Option ℕ) (addr : ℕ) → free_from (is_number_taken net m) (room_of net) 0 ≡ o → option_map (λ (n : ℕ). base_of net + n) o ≡ Some addr → is_taken (record { 0 = addr }) m ≡ false
number_there net m None addr is e = absurd cc
number_there net m (Some n) addr is e =
    let same : base_of net + n ≡ addr = cc in
    subst (λ (a : ℕ). is_taken (record { 0 = a }) m ≡ false) same (free_there (is_number_taken net m) (room_of net) 0 n is)

address_free : (net : ℕ) (m : Machine) (addr : ℕ) → free_address net m ≡ Some addr → is_taken (record { 0 = addr }) m ≡ false
unfolding free_address
address_free net m addr e = number_there net m (free_from (is_number_taken net m) (room_of net) 0) addr refl e

own_from : (c : Config) (m : Machine) (used : Option UsedSeed) (f : Found) (o : Option ℕ) (own : OwnContext) → free_address c.desk.net_id (wake (waking used f) m) ≡ o → option_map (own_with c used f) o ≡ Some own
    → is_taken own.dev_addr (wake (waking used f) m) ≡ false
own_from c m used f None own is e = absurd cc
own_from c m used f (Some addr) own is e =
    let same : own_with c used f addr ≡ own = cc in
    subst (λ (x : OwnContext). is_taken x.dev_addr (wake (waking used f) m) ≡ false) same (address_free c.desk.net_id (wake (waking used f) m) addr is)

-- the address of an own context is free once the context whose seed was used is active
own_free : (c : Config) (m : Machine) (used : Option UsedSeed) (f : Found) (own : OwnContext) → own_context c m used f ≡ Some own → is_taken own.dev_addr (wake (waking used f) m) ≡ false
unfolding own_context own_address
own_free c m used f own e = own_from c m used f (free_address c.desk.net_id (wake (waking used f) m)) own refl e

-- ---- joins and rejoins

same_used : (used : UsedSeed) (n : ℕ) (g : Slots → Slots) (d : Device) → fits_used used n (in_slots g d) ≡ fits_used used n d
same_used (Rejoin0 place) n g d = refl
same_used Rejoin1 n g d = refl
same_used (Rejoin2 place) n g d = refl

-- a rejoin that fits the device as it is found fits the one that is awake
rejoin_fits : (m : Machine) (sender : Sender) (f : Found) (used : UsedSeed) (counter : ℕ) (own : OwnContext) → slice_get m.devices f.device ≡ Some f.kept → f.kept.is_home ≡ true → fits_used used counter f.kept ≡ true
    → is_taken own.dev_addr (wake (waking (Some used) f) m) ≡ false
    → (let change = change_of f.device (record { used = Some used; seed = record { nonce = f.kept.join_nonce + 1; join_eui = f.kept.join_eui; counter = counter } }) (Some own) in IsTrue (fits_change sender change (wake (change_wakes change m) m)))
unfolding fits_change
rejoin_fits m sender f used counter own there home higher free =
    let other = other-wake (waking (Some used) f) m f.device in
    let woken : slice_get (wake (waking (Some used) f) m).devices f.device ≡ Some (in_slots other.slots f.kept) = other.is ∙ ap (option_map (in_slots other.slots)) there in
    rw (there, woken, same_used used counter other.slots f.kept, higher, next_above f.kept.join_nonce, free, home) refl

module _ (c : Config) (nwk : ℕ → List ℕ) (m : Machine) (sender : Sender) (request : UplinkRequest) (f : Found) (own : OwnContext) where
  abbrev Fit : JoinUp → Type 0
  Fit up = let change = change_of f.device (step_of (nwk f.device) request.phy_payload up f.kept) (Some own) in IsTrue (fits_change sender change (wake (change_wakes change m) m))

  fit_of : (up : JoinUp) → IsActivation c nwk m request up f own → slice_get m.devices f.device ≡ Some f.kept → Fit up
  unfolding fits_change
  fit_of (Join join_eui dev_eui nonce mic) is there =
      let free = own_free c m None f own is.is_own in
      rw (there, above nonce f.kept.dev_nonce is.above, next_above f.kept.join_nonce, is.home, free) refl
  fit_of (Rejoin02 kind net dev_eui count mic) is there = by (seed_place (nwk f.device) request.phy_payload f.kept) refl
    where
      by : (o : Option ℕ) → seed_place (nwk f.device) request.phy_payload f.kept ≡ o → Fit (Rejoin02 kind net dev_eui count mic)
      by None e = absurd (none_valid (seed_place (nwk f.device) request.phy_payload f.kept) e is.valid)
      by (Some place) e =
          let low : holds_of (λ (s : KeptSeed). is_not_above count s.rj_count0) (slice_get f.kept.seeds.items place) ≡ false =
          ap (λ (p : Option ℕ). holds_of (λ (s : KeptSeed). is_not_above count s.rj_count0) (at_place f.kept.seeds.items p)) (sym e) ∙ is.above in
          let seed : KeptSeed = record { seed = next_seed (Rejoin02 kind net dev_eui count mic) f.kept; rj_count0 = None } in
          let used : used_seed (nwk f.device) request.phy_payload (Rejoin02 kind net dev_eui count mic) f.kept ≡ Some (rejoin_seed kind place) = ap (option_map (rejoin_seed kind)) e in
          let free = own_free c m (Some (rejoin_seed kind place)) f own (ap (λ (u : Option UsedSeed). own_context c m u f) (sym used) ∙ is.is_own) in
          rw used (rejoin_fits m sender f (rejoin_seed kind place) count own there is.home (used_fits (nwk f.device) request.phy_payload kind count place f.kept seed e low) free)
  fit_of (RejoinOne join_eui dev_eui count mic) is there =
      rejoin_fits m sender f Rejoin1 count own there is.home (above count f.kept.rj_count1 is.above) (own_free c m (Some Rejoin1) f own is.is_own)

pub activation_fits : (c : Config) (nwk : ℕ → List ℕ) (m : Machine) (sender : Sender) (request : UplinkRequest) (up : JoinUp) (f : Found) (own : OwnContext) → IsActivation c nwk m request up f own
    → (let change = change_of f.device (step_of (nwk f.device) request.phy_payload up f.kept) (Some own) in IsTrue (fits_change sender change (wake (change_wakes change m) m)))
activation_fits c nwk m sender request up f own is = fit_of c nwk m sender request f own up is (stands_at c m _ f is.is_found).is_kept

-- ---- who speaks

record IsSpeaker (c : Config) (m : Machine) (s : Speaker) : Type 0 where
  pub slots : Slots
  pub name : name_of c s.holder ≡ Some s.dev_eui
  pub is_slots : slots_of (Some s.holder) m ≡ Some slots
  pub is_context : in_slot s.pending slots ≡ Some s.context

slots_in : (c : Config) (m : Machine) (live : LiveContext) (dev : Eui) (context : Context) (slots : Option Slots) → name_of c live.holder ≡ Some dev → slots_of (Some live.holder) m ≡ slots
    → (option_and_then (in_slot live.pending) slots ≡ Some context) → IsSpeaker c m (record { holder = live.holder; dev_eui = dev; pending = live.pending; context = context })
slots_in c m live dev context None name is e = absurd cc
slots_in c m live dev context (Some slots) name is e = record { slots = slots; name = name; is_slots = is; is_context = e }

speaker_in : (c : Config) (m : Machine) (live : LiveContext) (name : Option Eui) (context : Option Context) (s : Speaker) → name_of c live.holder ≡ name → context_at live m ≡ context → speaker_with live name context ≡ Some s → IsSpeaker c m s
speaker_in c m live None context s is_name is_context e = absurd cc
speaker_in c m live (Some dev) None s is_name is_context e = absurd cc
speaker_in c m live (Some dev) (Some context) s is_name is_context e =
    let made : Speaker = record { holder = live.holder; dev_eui = dev; pending = live.pending; context = context } in
    let same : made ≡ s = cc in
    subst (IsSpeaker c m) same (slots_in c m live dev context (slots_of (Some live.holder) m) is_name refl is_context)

speaker_found : (c : Config) (m : Machine) (live : Option LiveContext) (s : Speaker) → speaker_at c m live ≡ Some s → IsSpeaker c m s
speaker_found c m None s e = absurd cc
speaker_found c m (Some live) s e = speaker_in c m live (name_of c live.holder) (context_at live m) s refl refl e

is_speaker : (c : Config) (m : Machine) (addr : DevAddr) (s : Speaker) → speaker_of c m addr ≡ Some s → IsSpeaker c m s
unfolding speaker_of
is_speaker c m addr s e = speaker_found c m (live_context addr m) s e

-- ---- the holder is found by its name

all_at : {X : Type 0} (P : X → Type 0) (xs : List X) (k : ℕ) (x : X) → AllByRecursion P xs → slice_get xs k ≡ Some x → P x
all_at P [] k x all e = absurd cc
all_at P (y ∷ ys) zero x all e = let same : y ≡ x = cc in subst P same all.0
all_at P (y ∷ ys) (suc k) x all e = all_at P ys k x all.1 e

some_slot : (pending : Bool) (s : Slots) (context : Context) → in_slot pending s ≡ Some context → has_context s ≡ true
some_slot true s context e = by s.active s.pending e
  where
    by : (a p : Option Context) → p ≡ Some context → (is_some a || is_some p) ≡ true
    by None p e = rw e refl
    by (Some x) p e = refl
some_slot false s context e = rw e refl

or_not : (a b : Bool) → IsTrue (a || not b) → b ≡ true → a ≡ true
or_not true b h e = refl
or_not false true h e = absurd cc
or_not false false h e = absurd cc

-- a device that has a context is at home here
device_home : (m : Machine) (k : ℕ) (d : Device) (pending : Bool) (context : Context) → IsSound m → slice_get m.devices k ≡ Some d → in_slot pending d.slots ≡ Some context → d.is_home ≡ true
device_home m k d pending context sound there e =
    let is = all_at (IsSoundDevice m.senders) m.devices k d sound.devices there in
    or_not d.is_home (has_context d.slots) is.home (some_slot pending d.slots context e)

home_holder : (m : Machine) (dev : Eui) (k : ℕ) (d : Device) → place_of dev m ≡ Some k → slice_get m.devices k ≡ Some d → d.is_home ≡ true → holder_of dev m ≡ Some (holder.Device k)
unfolding holder_of
home_holder m dev k d place there home = rw (place, there, home) refl

device_there : (o : Option Device) (slots : Slots) → option_map device_slots o ≡ Some slots → (d : Device) × (o ≡ Some d) × (d.slots ≡ slots)
device_there None slots e = absurd cc
device_there (Some d) slots e = (d, refl, cc)

row_there : (o : Option DeviceRow) (dev : Eui) → option_map (λ (r : DeviceRow). r.dev_eui) o ≡ Some dev → (row : DeviceRow) × (o ≡ Some row) × (row.dev_eui ≡ dev)
row_there None dev e = absurd cc
row_there (Some row) dev e = (row, refl, cc)

device_holder : (c : Config) (m : Machine) (k : ℕ) (dev : Eui) (slots : Slots) (pending : Bool) (context : Context) → AreNamed c m → IsSound m → name_of c (holder.Device k) ≡ Some dev
    → slots_of (Some (holder.Device k)) m ≡ Some slots → in_slot pending slots ≡ Some context → holder_of dev m ≡ Some (holder.Device k)
unfolding slots_of
device_holder c m k dev slots pending context names sound name is e =
    let row = row_there (slice_get c.devices k) dev name in
    let d = device_there (slice_get m.devices k) slots is in
    let place : place_of dev m ≡ Some k = subst (λ (x : Eui). place_of x m ≡ Some k) row.2 (named_place c m k row.0 names row.1) in
    home_holder m dev k d.0 place d.1 (device_home m k d.0 pending context sound d.1 (ap (in_slot pending) d.2 ∙ e))

visitor_there : (o : Option Visitor) (slots : Slots) → option_map visitor_slots o ≡ Some slots → (v : Visitor) × (o ≡ Some v)
visitor_there None slots e = absurd cc
visitor_there (Some v) slots e = (v, refl)

record IsGuest (dev : Eui) (m : Machine) (v : Visitor) : Type 0 where
  pub among : list_any (is_visitor dev) m.visitors ≡ true
  pub name : (v.dev_eui.0 == dev.0) ≡ true
  pub sound : IsSoundVisitor m.entries m.devices v

find_there : (entries : ℕ) (devices : List Device) (dev : Eui) (vs : List Visitor) (v : Visitor) → AllByRecursion (IsSoundVisitor entries devices) vs → find (is_visitor dev) vs ≡ Some v
    → (list_any (is_visitor dev) vs ≡ true) × ((v.dev_eui.0 == dev.0) ≡ true) × IsSoundVisitor entries devices v
find_there entries devices dev [] v all e = absurd cc
find_there entries devices dev (x ∷ xs) v all e = by (is_visitor dev x) refl (find_there entries devices dev xs v all.1) e
  where
    by : (b : Bool) → is_visitor dev x ≡ b → (find (is_visitor dev) xs ≡ Some v → (list_any (is_visitor dev) xs ≡ true) × ((v.dev_eui.0 == dev.0) ≡ true) × IsSoundVisitor entries devices v)
        → cond b (Some x) (find (is_visitor dev) xs) ≡ Some v → ((b || list_any (is_visitor dev) xs) ≡ true) × ((v.dev_eui.0 == dev.0) ≡ true) × IsSoundVisitor entries devices v
    by true is then e = let same : x ≡ v = cc in (refl, subst (λ (y : Visitor). (y.dev_eui.0 == dev.0) ≡ true) same is, subst (IsSoundVisitor entries devices) same all.0)
    by false is then e = let rest = then e in (rest.0, rest.1, rest.2)

no_home : (m : Machine) (dev : Eui) (place : Option ℕ) → place_of dev m ≡ place → at_home dev m ≡ false → list_any (is_visitor dev) m.visitors ≡ true → home_or_visitor dev place m ≡ Some (holder.Visitor dev)
no_home m dev None is away among = rw among refl
no_home m dev (Some k) is away among =
    let none : holds_of is_home (slice_get m.devices k) ≡ false = ap (λ (o : Option ℕ). holds_of is_home (at_place m.devices o)) (sym is) ∙ away in
    rw (none, among) refl

visitor_holder : (m : Machine) (dev : Eui) (slots : Slots) → IsSound m → slots_of (Some (holder.Visitor dev)) m ≡ Some slots → holder_of dev m ≡ Some (holder.Visitor dev)
unfolding slots_of holder_of
visitor_holder m dev slots sound is =
    let v = visitor_there (visitor_of dev m) slots is in
    let found = find_there m.entries m.devices dev m.visitors v.0 sound.visitors v.1 in
    let same : v.0.dev_eui ≡ dev = ap (λ (n : ℕ). let e : Eui = record { 0 = n } in e) (eqb-true v.0.dev_eui.0 dev.0 found.1) in
    let away : at_home dev m ≡ false = subst (λ (x : Eui). at_home x m ≡ false) same found.2.stranger in
    no_home m dev (place_of dev m) refl away found.0

holder_found : (c : Config) (m : Machine) (who : Holder) (dev : Eui) (slots : Slots) (pending : Bool) (context : Context) → AreNamed c m → IsSound m → name_of c who ≡ Some dev → slots_of (Some who) m ≡ Some slots
    → in_slot pending slots ≡ Some context → holder_of dev m ≡ Some who
holder_found c m (holder.Device k) dev slots pending context names sound name is e = device_holder c m k dev slots pending context names sound name is e
holder_found c m (holder.Visitor own) dev slots pending context names sound name is e =
    let same : own ≡ dev = cc in
    subst (λ (x : Eui). holder_of x m ≡ Some (holder.Visitor own)) same (visitor_holder m own slots sound is)

-- ---- the uplink

above_last : (n : ℕ) (last : Option ℕ) → IsAbove last n → is_above n last ≡ true
above_last n None h = refl
above_last n (Some last) h = grind (arith, h)

has_first : (rate : ℕ) (items : List Item) → holds_of (fits_at rate) (first_in items) ≡ true → nat_lt 0 (length items) ≡ true
has_first rate [] e = absurd cc
has_first rate (item ∷ items) e = lt-ltb 0 (suc (length items)) (grind (arith))

-- the downlink that answers is there: the first item where it fits, and the number where one is left
answers : (c : Context) (frame : List ℕ) (rate : ℕ) → can_answer (down_of c frame rate) c ≡ true
unfolding down_of
answers c frame rate = by (has_fitting_item c rate) (wants_downlink frame) (has_number c) refl refl
  where
    by : (item wants number : Bool) → has_fitting_item c rate ≡ item → has_number c ≡ number → can_answer (cond item down.FirstItem (cond (wants && number) down.Empty down.Nothing)) c ≡ true
    by true wants number is left = has_first (rx1_rate c.radio rate) c.queue.items is
    by false true true is left = left
    by false true false is left = refl
    by false false number is left = refl

hears : (pending : Bool) (count : ℕ) (down : Downlink) (slots : Slots) (context : Context) → in_slot pending slots ≡ Some context → IsAbove context.last count → can_answer down context ≡ true → fits_slots pending count down slots ≡ true
unfolding fits_slots
hears true count down slots context e above can = rw (e, above_last count context.last above, can) refl
hears false count down slots context e above can = rw (e, above_last count context.last above, can) refl

sized_of : (frame : List ℕ) → is_data frame ≡ true → nat_le (length frame) 255 ≡ true
unfolding is_data data_fault
sized_of frame is = by (nat_le 12 (length frame)) (nat_le (length frame) 255) refl refl
  where
    by : (a b : Bool) → nat_le 12 (length frame) ≡ a → nat_le (length frame) 255 ≡ b → b ≡ true
    by a true ea eb = refl
    by true false ea eb = let none : is_data frame ≡ false = rw (ea, eb) refl in absurd cc
    by false false ea eb = let none : is_data frame ≡ false = rw ea refl in absurd cc

above_under : (s : Speaker) (frame : List ℕ) (rate : ℕ) (v : Count) (keys : _) → valid_under s frame rate keys ≡ Some v → IsAbove s.context.last v.count
above_under s frame rate v None e = absurd cc
above_under s frame rate v (Some keys) e = counts_above keys s.context frame rate v e

count_above : (nwk : ℕ → List ℕ) (frame : List ℕ) (rate : ℕ) (s : Speaker) (v : Count) → count_of nwk frame rate s ≡ Some v → IsAbove s.context.last v.count
unfolding count_of
count_above nwk frame rate s v e = above_under s frame rate v (keys_of nwk s.holder s.context.origin) e

pub uplink_fits : (c : Config) (nwk : ℕ → List ℕ) (m : Machine) (sender : Sender) (request : UplinkRequest) (s : Speaker) (v : Count) → AreNamed c m → IsSound m → IsUplink c nwk m request s v
    → (let change = up_of s request v in IsTrue (fits_change sender change (wake (change_wakes change m) m)))
unfolding fits_change
uplink_fits c nwk m sender request s v names sound is =
    let speaks = is_speaker c m (addr_of request.phy_payload) s is.is_speaker in
    let who = holder_found c m s.holder s.dev_eui speaks.slots s.pending s.context names sound speaks.name speaks.is_slots speaks.is_context in
    let can = answers s.context request.phy_payload request.data_rate in
    let down = down_of s.context request.phy_payload request.data_rate in
    let hear = hears s.pending v.count down speaks.slots s.context speaks.is_context (count_above nwk request.phy_payload request.data_rate s v is.is_count) can in
    rw (sized_of request.phy_payload is.is_up, who, speaks.is_slots, hear) refl

-- ---- the payload

room_for : (n : ℕ) → n ≤ 8 → (n == 8) ≡ false → nat_lt n 8 ≡ true
room_for n few other =
    elim (cases_lt n 8) [
      | inl less ↦ lt-ltb n 8 less
      | inr most ↦
          let same : n ≡ 8 = omega (arith, few, most) in
          absurd (false≢true (sym other ∙ eq-eqb n 8 same))
    ]

below_next : (n next : ℕ) → nat_lt n next ≡ false → nat_le next n ≡ true
below_next n next h =
    elim (cases_lt n next) [
      | inl less ↦ absurd (false≢true (sym h ∙ lt-ltb n next less))
      | inr most ↦ le-leb next n most
    ]

few_bytes : (n : ℕ) → nat_lt 242 n ≡ false → nat_le n 242 ≡ true
few_bytes n h = below_next 242 n h

takes_item : (request : XmitDataRequest) (active : Option Context) → IsSoundSlot active → request.f_cnt_down < 2 ^ 32 → not (holds_of (is_under request) active) ≡ false
    → holds_of (is_used request) active ≡ false → holds_of has_8 active ≡ false → holds_of (takes request.f_cnt_down) active ≡ true
takes_item request None sound range under next room = absurd cc
takes_item request (Some c) sound range under next room =
    rw (lt-ltb request.f_cnt_down (2 ^ 32) range, below_next request.f_cnt_down c.next_a next, room_for (length c.queue.items) sound.few room) refl

pub payload_fits : (c : Config) (m : Machine) (head : Head) (request : XmitDataRequest) (f : Found) → IsSound m → request.f_cnt_down < 2 ^ 32 → IsPayload c m head request f
    → (let change = queue_of request f.device in IsTrue (fits_change head.sender change (wake (change_wakes change m) m)))
unfolding fits_change can_queue
payload_fits c m head request f sound range is =
    let there = (stands_at c m request.dev_eui f is.is_found).is_kept in
    let device = all_at (IsSoundDevice m.senders) m.devices f.device f.kept sound.devices there in
    let takes = takes_item request f.kept.slots.active device.slots.sound.active range is.session is.next is.room in
    rw (few_bytes (length request.frm_payload) is.few, there, takes) refl
