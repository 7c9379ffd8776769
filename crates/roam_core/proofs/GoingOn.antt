-- A legal history goes on legally by the entry of each line.
use Rattle.std.proofs.Common.{◌≡◌, ◌<◌, ℕ, zero, suc, ◌+◌, ◌==◌, List, [], ◌∷◌, ◌++◌, length, map, get_or, false, Some, refl, sym, ap, ◌∙◌, subst, arith, eq-eqb, lt-ltb}
use Rattle.std.proofs.Math.ListN.{get_or-map}
use Rattle.std.proofs.lemmas.List.{length-map}
use Rattle.std.proofs.lemmas.List.Sums.{position_or_len_is}
use Rattle.std.specs.List.{AllByRecursion, IsDistinct, position_or_len}
use Rattle.std.specs.Prelude.{IsTrue}
use Rattle.wire_ids.specs.Decisions.{entry_of}
use Rattle.wire_ids.specs.declared.keys.RootKeys.{RootKeys}
use Rattle.agreements.specs.LookUps.{AreFound as HasPlaces}
use Rattle.agreements.specs.Sound.{IsSound as AreSound}
use Rattle.agreements.specs.Walk.{Config}
use Rattle.agreements.specs.declared.rows.DeviceRow.{DeviceRow}
use Rattle.agreements.proofs.Soundness.{sound_tables_of}
use Rattle.entries.specs.declared.entry.Entry.{Entry}
use Rattle.entries.specs.declared.entry.Event.{Event}
use Rattle.entries.specs.declared.entry.Event.TheVariants as event
use Rattle.entry_codec.specs.Empty.{empty}
use Rattle.entry_codec.specs.Fits.{fits}
use Rattle.entry_codec.specs.Machine.{Machine, after, ready}
use Rattle.entry_codec.specs.Replay.{AllFit, replay}
use Rattle.entry_codec.specs.Sound.{IsSound}
use Rattle.entry_codec.proofs.Sound.{sound-after}
use Rattle.entry_codec.proofs.SoundEmpty.{sound-empty}
use Rattle.entry_codec.proofs.Stays.{stays-event, stays-ready}
use Rattle.roam_core.specs.Decided.{entry_in}
use Rattle.roam_core.specs.Desk.{Desk, IsStateOf, desk_after, empty_desk}
use Rattle.roam_core.specs.Legal.{IsFirst, IsLegal, IsStep, LinesGoOn, MayFollow, desk_at, desk_from}
use Rattle.roam_core.specs.Lines.{line_decided, reaction}
use Rattle.roam_core.proofs.Fitting.{entries_fit}
use Rattle.roam_core.proofs.Issuing.{legal_fits}
use Rattle.roam_core.proofs.Outcomes.{accepted}
use Rattle.roam_core.proofs.Staying.{senders_after, state_after, state_first}

-- one more entry
follows : (c : Config) (keys : List RootKeys) (es : List Entry) (s : Desk) (e : Entry) → MayFollow c keys s es → IsTrue (fits (desk_from s es).now e) → IsStep c keys (desk_from s es) e e.event → MayFollow c keys s (es ++ e ∷ [])
follows c keys [] s e may fit step = (fit, step, tt)
follows c keys (x ∷ es) s e may fit step = (may.0, may.1, follows c keys es (desk_after s x) e may.2 fit step)

entries_after : (m : Machine) (e : Entry) → (after m e).entries ≡ m.entries + 1
entries_after m e = ap (λ (n : ℕ). n + 1) ((stays-event e.event (ready m e)).entries ∙ (stays-ready m e).entries)

-- the state that entries lead to
record Led (c : Config) (s : Desk) (least : ℕ) : Type 0 where
  pub state : IsStateOf c s.now
  pub count : least < s.now.entries + 1

led : (c : Config) (es : List Entry) (s : Desk) (least : ℕ) → Led c s least → Led c (desk_from s es) (least + length es)
led c [] s least l = record { state = l.state; count = omega (arith, l.count) }
led c (e ∷ es) s least l =
    let rest = led c es (desk_after s e) (least + 1) (record { state = state_after c s.now e l.state; count = omega (arith, l.count, entries_after s.now e) }) in
    record { state = rest.state; count = omega (arith, rest.count) }

-- the entry of a line is the step of its body
step_of : (c : Config) (keys : List RootKeys) (s : Desk) (body : List ℕ) (now : ℕ) (e : Entry) → (reaction c keys s body now).entry ≡ Some e → IsStep c keys s e e.event
unfolding reaction
step_of c keys s body now e made =
    let a = accepted c keys s body now e made in
    let x = entry_in a.head body now a.answer a.change in
    let here : entry_of (line_decided c keys s body now) ≡ Some x = made ∙ ap (λ (y : Entry). Some y) a.is_entry in
    subst (λ (y : Entry). IsStep c keys s y y.event) (sym a.is_entry) here

-- ---- what holds of the state that a legal history leads to

replayed : (es : List Entry) (s : Desk) → (desk_from s es).now ≡ replay s.now es
replayed [] s = refl
replayed (e ∷ es) s = replayed es (desk_after s e)

-- the first entry has the text of the tables
tables_sound : (c : Config) (x : Event) → IsFirst c x → AreSound c
tables_sound c event.Opened first = absurd first
tables_sound c (event.Tables text) first = sound_tables_of text c first
tables_sound c (event.Kept request change) first = absurd first
tables_sound c (event.Asked ask) first = absurd first
tables_sound c (event.Told outcome) first = absurd first
tables_sound c (event.Suspend device) first = absurd first
tables_sound c (event.Resume device) first = absurd first

sound_replay : (es : List Entry) (m : Machine) → IsSound m → AllFit m es → IsSound (replay m es)
sound_replay [] m sound fit = sound
sound_replay (e ∷ es) m sound fit = sound_replay es (after m e) (sound-after m e fit.0 sound) fit.1

sound_at : (c : Config) (keys : List RootKeys) (history : List Entry) → AreSound c → IsLegal c keys history → IsSound (desk_at c history).now
sound_at c keys history valid legal =
    subst IsSound (sym (replayed history (empty_desk c)))
    (sound_replay history (empty c) (sound-empty c valid.limits.devices valid.limits.networks) (legal_fits c keys history legal))

-- no name stands twice before a place
other_before : (ns : List ℕ) (k i d : ℕ) → IsDistinct (λ (x y : ℕ). x == y) ns → k < i → i < length ns → (get_or ns k d == get_or ns i d) ≡ false
unfolding IsDistinct
other_before [] k i d distinct low high = absurd (omega (arith, high))
other_before (n ∷ ns) k zero d distinct low high = absurd (omega (arith, low))
other_before (n ∷ ns) zero (suc i) d distinct low high = all_get (λ (y : ℕ). (n == y) ≡ false) ns i d distinct.0 (omega (arith, high))
  where
    all_get : (P : ℕ → Type 0) (xs : List ℕ) (i d : ℕ) → AllByRecursion P xs → i < length xs → P (get_or xs i d)
    all_get P [] i d all high = absurd (omega (arith, high))
    all_get P (x ∷ xs) zero d all high = all.0
    all_get P (x ∷ xs) (suc i) d all high = all_get P xs i d all.1 (omega (arith, high))
other_before (n ∷ ns) (suc k) (suc i) d distinct low high = other_before ns k i d distinct.1 (omega (arith, low)) (omega (arith, high))

distinct_places : (rows : List DeviceRow) → IsDistinct (λ (x y : ℕ). x == y) (map (λ (r : DeviceRow). r.dev_eui.0) rows) → HasPlaces rows
distinct_places rows distinct i d high =
    let name : DeviceRow → ℕ = λ r. r.dev_eui.0 in
    let named : (k : ℕ) → name (get_or rows k d) ≡ get_or (map name rows) k (name d) = λ k. sym (get_or-map name rows k d) in
    let key = name (get_or rows i d) in
    let len : i < length (map name rows) = rw (length-map rows name) high in
    let first : position_or_len (λ (r : DeviceRow). name r == key) rows ≡ i = position_or_len_is (λ (r : DeviceRow). name r == key) rows i d (omega (arith, high))
    (λ k low. rw (named k, named i) (other_before (map name rows) k i (name d) distinct low len))
    (λ lt. eq-eqb key key refl) in
    rw (first, lt-ltb i (length rows) high) refl

pub lines_go_on : LinesGoOn
lines_go_on c keys [] body now e known legal some time made = absurd (omega (arith, some))
lines_go_on c keys (x ∷ es) body now e known legal some time made =
    let s = desk_at c (x ∷ es) in
    let l = led c (x ∷ es) (empty_desk c) 0 (record { state = state_first c; count = omega arith }) in
    let valid = tables_sound c x.event legal.1 in
    let fit = entries_fit c keys s body now e (distinct_places c.devices valid.devices_differ) (sound_at c keys (x ∷ es) valid legal) (record {
      state = l.state;
      senders = senders_after c (empty c) s.now (state_first c) l.state known;
      begun = grind (arith, l.count);
      time = time;
    }) made in
    (legal.0, legal.1, follows c keys es (desk_after (empty_desk c) x) e legal.2 fit (step_of c keys s body now e made))
