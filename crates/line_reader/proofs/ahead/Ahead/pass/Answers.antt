use Rattle.std.proofs.Common.{◌-◌, ◌≤◌, ◌∙◌, ap, arith, drop, length}
use Rattle.std.proofs.lemmas.List.{length-take}
use Rattle.line_reader.specs.Ahead.{Progress}
use Rattle.line_reader.proofs.Parts.{part_after}
use Rattle.line_reader.proofs.ahead.Ahead.pass.Goals as goal

pub returns-clause-pending : goal.returns-clause-pending
returns-clause-pending c =
    let room = c.self.inside.room.items in
    let from = c.self.inside.from in
    let to = c.self.inside.to in
    let there = ap (λ (p : Progress). p.pending) c.self.view_is in
    let long : length c.args.self.now.pending ≤ to - from = rw (← there) (simp length-take (omega arith)) in
    part_after room from to c.args.count (omega (arith, long, c.self.invariant.0, c.requires)) ∙ ap (drop c.args.count) there
