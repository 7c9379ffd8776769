use Rattle.std.proofs.Common.{◌+◌, Bool, false, Option, ap, arith, get_or, refl, sym, ◌∙◌}
use Rattle.std.specs.Prelude.{◌&&◌, ◌||◌, not}
use Rattle.std.proofs.lemmas.List.{get_or-replicate}
use Rattle.wire_ids.specs.declared.address.DevAddr.{DevAddr}
use Rattle.entry_codec.specs.Free.{addr_of}
use Rattle.entry_codec.specs.LookUps.{is_addr, is_taken}
use Rattle.entry_codec.specs.Machine.{lapse, wake}
use Rattle.entry_codec.proofs.Window.{awake_marks, first_free}
use Rattle.entry_codec.proofs.now.Now.first_unmarked.Goals as goal

pub returns : goal.returns
returns c =
    let m = c.args.self.now.machine in
    let at = c.args.at in
    let old = c.mark_taken.new.marks in
    let new = c.unmark.new.marks in
    first_free c.args.first (λ (a : DevAddr). is_taken a (wake c.args.who (lapse at m))) new c.first_free.result (c.unmark.ensures.0 ∙ c.mark_taken.ensures.0 ∙ refl) (sym c.first_free.ensures)
    (awake_marks c.args.first at c.args.who m new old c.requires c.unmark.ensures.0 (λ i lt. c.mark_taken.ensures.1 i (omega (arith, lt, c.mark_taken.ensures.0)) ∙ ap (λ (b : Bool). b || is_taken (addr_of (c.args.first + i)) (lapse at m)) (get_or-replicate 10368 i false false (omega (arith, lt, c.mark_taken.ensures.0))))
    (λ i lt. c.unmark.ensures.1 i lt ∙ ap (λ (o : Option DevAddr). not (is_addr (addr_of (c.args.first + i)) o) && get_or old i false) c.leaving.ensures))
