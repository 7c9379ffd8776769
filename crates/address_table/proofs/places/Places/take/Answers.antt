use Rattle.std.proofs.Common.{Bool, List, ap, arith, length, sym}
use Rattle.address_table.proofs.Firsts.{both_stay}
use Rattle.address_table.proofs.places.Places.take.Goals as goal

pub invariant_of-self-else-place-next : goal.invariant_of-self-else-place-next
invariant_of-self-else-place-next c = both_stay c.self.inside.taken.items c.args.place c.self.inside.free c.in-Some-next.next c.self.inside.next (omega (arith, c.requires, ap (λ (l : List Bool). length l) c.self.view_is)) (λ e. c.if-place-self.false (sym e)) (λ e. c.if-place-next.false (sym e)) c.in-Some-next.is c.self.invariant
