use Rattle.std.proofs.Common.{◌≡◌, ℕ, ◌≤◌, List, Option, sym, ap, subst, ◌∙◌, arith}
use Rattle.std.specs.Prelude.{IsTrue, position}
use Rattle.std.proofs.Math.Nat.{min-le_left, min-le_right}
use Rattle.entries.specs.declared.entry.Request.{Request}
use Rattle.entry_codec.specs.Ends.{EndsFrom, event_end}
use Rattle.entry_codec.specs.Fits.{fits, fits_event}
use Rattle.entry_codec.specs.Index.{is_number, names}
use Rattle.entry_codec.specs.Kept.{AllFew, keep, kept_by}
use Rattle.entry_codec.specs.Machine.{Machine, after, entered, on_event, ready}
use Rattle.entry_codec.specs.Sound.{IsSound}
use Rattle.entry_codec.specs.State.{HasRoomAt, Stored, kept_after}
use Rattle.entry_codec.proofs.Keeping.{few-keep}
use Rattle.entry_codec.proofs.Lasting.{ends-entered, ends-event, ends-less, ends-wake}
use Rattle.entry_codec.proofs.Room.{has_room}
use Rattle.entry_codec.proofs.Sound.{sound-after, sound-ready, sound_lapsed}
use Rattle.entry_codec.proofs.Stays.{fits_its_event, names-after, one_more, ready_is, stays-event, stays-lapse, stays-ready}
use Rattle.entry_codec.proofs.Tabled.{all_asks_gone, table_stepped}
use Rattle.entry_codec.specs.declared.addresses.Touched.{Touched}
use Rattle.entry_codec.proofs.state.State.apply.Goals as goal

pub touched-owners-requires : goal.touched-owners-requires
touched-owners-requires c =
    let m = c.self.inside.current.machine in
    λ key. c.self.invariant.1 key ∙ ap (λ (ns : List ℕ). position (is_number key) ns) (sym (ap (λ (k : Machine). names k.devices) c.lapse.ensures.machine ∙ (stays-lapse c.args.entry.moment.0 m).names))

pub take_touched-requires : goal.take_touched-requires
take_touched-requires c = subst (λ (k : Machine). IsSound k) (sym c.lapse.ensures.machine) (sound_lapsed c.args.entry.moment.0 c.self.inside.current.machine c.self.invariant.0)

pub put_touched-requires-clause-sound : goal.put_touched-requires-clause-sound
put_touched-requires-clause-sound c =
    let m = c.self.inside.current.machine in
    let e = c.args.entry in
    let fit : IsTrue (fits m e) = rw (← c.self.view_is) at c.requires.fits in
    let is_ready : c.wake.new.self.machine ≡ ready m e = ready_is m e c.lapse.new.now.machine c.wake.new.self.machine c.wakes-who.result c.lapse.ensures.machine c.wakes-who.ensures c.wake.ensures.machine in
    let is_after : c.count.new.self.machine ≡ after m e = c.count.ensures.machine ∙ ap (entered e.moment.0) (c.enter-kept.ensures.machine ∙ ap (on_event e.event) is_ready) in
    subst (λ (k : Machine). IsSound k) (sym is_after) (sound-after m e fit c.self.invariant.0)

pub put_touched-requires-clause-asks : goal.put_touched-requires-clause-asks
put_touched-requires-clause-asks c = λ all.
    let e = c.args.entry in
    let l = c.lapse.new.now.machine in
    ap (λ (k : Machine). k.asks) (c.count.ensures.machine ∙ ap (entered e.moment.0) c.enter-kept.ensures.machine)
    ∙ all_asks_gone e.event l c.wake.new.self.machine (sym (ap (λ (w : Touched). w.all_asks) c.touched-owners.ensures) ∙ all)

pub enter-kept-requires-clause-index : goal.enter-kept-requires-clause-index
enter-kept-requires-clause-index c =
    let m = c.self.inside.current.machine in
    let e = c.args.entry in
    let is_ready : c.wake.new.self.machine ≡ ready m e = ready_is m e c.lapse.new.now.machine c.wake.new.self.machine c.wakes-who.result c.lapse.ensures.machine c.wakes-who.ensures c.wake.ensures.machine in
    λ key. c.self.invariant.1 key ∙ ap (λ (ns : List ℕ). position (is_number key) ns) (sym (ap (λ (k : Machine). names k.devices) is_ready ∙ (stays-ready m e).names))

pub enter-kept-requires-clause-fits : goal.enter-kept-requires-clause-fits
enter-kept-requires-clause-fits c =
    let m = c.self.inside.current.machine in
    let e = c.args.entry in
    let fit : IsTrue (fits m e) = rw (← c.self.view_is) at c.requires.fits in
    let is_ready : c.wake.new.self.machine ≡ ready m e = ready_is m e c.lapse.new.now.machine c.wake.new.self.machine c.wakes-who.result c.lapse.ensures.machine c.wakes-who.ensures c.wake.ensures.machine in
    subst (λ (k : Machine). IsTrue (fits_event e.event k)) (sym is_ready) (fits_its_event m e fit)

pub enter-kept-requires-clause-room : goal.enter-kept-requires-clause-room
enter-kept-requires-clause-room c =
    let m = c.self.inside.current.machine in
    let e = c.args.entry in
    let fit : IsTrue (fits m e) = rw (← c.self.view_is) at c.requires.fits in
    let is_ready : c.wake.new.self.machine ≡ ready m e = ready_is m e c.lapse.new.now.machine c.wake.new.self.machine c.wakes-who.result c.lapse.ensures.machine c.wakes-who.ensures c.wake.ensures.machine in
    subst (λ (k : Machine). HasRoomAt e.event k) (sym is_ready) (has_room e.event (ready m e) (fits_its_event m e fit) (sound-ready m e c.self.invariant.0))

pub count-requires : goal.count-requires
count-requires c =
    let m = c.self.inside.current.machine in
    let e = c.args.entry in
    let fit : IsTrue (fits m e) = rw (← c.self.view_is) at c.requires.fits in
    let is_ready : c.wake.new.self.machine ≡ ready m e = ready_is m e c.lapse.new.now.machine c.wake.new.self.machine c.wakes-who.result c.lapse.ensures.machine c.wakes-who.ensures c.wake.ensures.machine in
    let same : c.enter-kept.new.self.machine.entries ≡ m.entries = ap (λ (k : Machine). k.entries) (c.enter-kept.ensures.machine ∙ ap (on_event e.event) is_ready) ∙ (stays-event e.event (ready m e)).entries ∙ (stays-ready m e).entries in
    omega (arith, one_more m e fit, same)

pub invariant_of-self : goal.invariant_of-self
invariant_of-self c =
    let m = c.self.inside.current.machine in
    let e = c.args.entry in
    let fit : IsTrue (fits m e) = rw (← c.self.view_is) at c.requires.fits in
    let is_ready : c.wake.new.self.machine ≡ ready m e = ready_is m e c.lapse.new.now.machine c.wake.new.self.machine c.wakes-who.result c.lapse.ensures.machine c.wakes-who.ensures c.wake.ensures.machine in
    let is_after : c.count.new.self.machine ≡ after m e = c.count.ensures.machine ∙ ap (entered e.moment.0) (c.enter-kept.ensures.machine ∙ ap (on_event e.event) is_ready) in
    let r = c.min-self-inside.result in
    let first : r ≤ c.lapse.new.due = subst (λ (n : ℕ). n ≤ c.lapse.new.due) (sym c.min-self-inside.ensures) (min-le_left _ _) in
    let second : r ≤ event_end e.event = subst (λ (n : ℕ). n ≤ event_end e.event) (sym c.min-self-inside.ensures) (omega (arith, min-le_right c.lapse.new.due c.event_end.result, c.event_end.ensures)) in
    let lapsed : EndsFrom r c.lapse.new.now.machine = ends-less r c.lapse.new.due c.lapse.new.now.machine first c.lapse.ensures.due in
    let waked : EndsFrom r c.wake.new.self.machine = subst (EndsFrom r) (sym c.wake.ensures.machine) (ends-wake r c.wakes-who.result c.lapse.new.now.machine lapsed) in
    let in_event : EndsFrom r (on_event e.event c.wake.new.self.machine) = ends-event r e.event c.wake.new.self.machine second waked in (
      subst (λ (k : Machine). IsSound k) (sym is_after) (sound-after m e fit c.self.invariant.0),
      λ key. c.self.invariant.1 key ∙ ap (λ (ns : List ℕ). position (is_number key) ns) (sym (ap (λ (k : Machine). names k.devices) is_after ∙ names-after m e)),
      subst (EndsFrom r) (sym (c.count.ensures.machine ∙ ap (entered e.moment.0) c.enter-kept.ensures.machine)) (ends-entered r e.moment.0 (on_event e.event c.wake.new.self.machine) in_event),
      subst AllFew (sym c.keep.ensures) (few-keep c.enter-kept.result c.self.inside.kept.items c.self.invariant.3),
      c.put_touched.ensures
          (table_stepped m e c.lapse.new.now.machine c.count.new.self.machine c.touched-owners.result c.take_touched.new.table c.lapse.ensures.machine is_after c.touched-owners.ensures (c.take_touched.ensures c.lapse.ensures.table)),
    )

pub returns-clause-now : goal.returns-clause-now
returns-clause-now c =
    let m = c.self.inside.current.machine in
    let e = c.args.entry in
    let is_ready : c.wake.new.self.machine ≡ ready m e = ready_is m e c.lapse.new.now.machine c.wake.new.self.machine c.wakes-who.result c.lapse.ensures.machine c.wakes-who.ensures c.wake.ensures.machine in
    let is_after : c.count.new.self.machine ≡ after m e = c.count.ensures.machine ∙ ap (entered e.moment.0) (c.enter-kept.ensures.machine ∙ ap (on_event e.event) is_ready) in
    is_after ∙ ap (λ (s : Stored). after s.now e) c.self.view_is

pub returns-clause-kept : goal.returns-clause-kept
returns-clause-kept c =
    let m = c.self.inside.current.machine in
    let e = c.args.entry in
    let is_ready : c.wake.new.self.machine ≡ ready m e = ready_is m e c.lapse.new.now.machine c.wake.new.self.machine c.wakes-who.result c.lapse.ensures.machine c.wakes-who.ensures c.wake.ensures.machine in
    c.keep.ensures ∙ ap (λ (o : Option Request). keep o c.self.inside.kept.items) (c.enter-kept.ensures.kept ∙ ap (kept_by e.event) is_ready) ∙ ap (λ (s : Stored). kept_after s.now s.kept e) c.self.view_is
