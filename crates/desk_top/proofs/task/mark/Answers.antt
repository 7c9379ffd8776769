use Rattle.std.proofs.Common.{◌≡◌, ◌∙◌, List, ℕ, Some, Err, Result, ap, subst, sym, true, false}
use Rattle.std.proofs.lemmas.Result.{err_from_is_err_and}
use Rattle.std.specs.Io.KnownBytes.{Appends}
use Rattle.disk_model.specs.Written.{AppendsFront}
use Rattle.desk_top.specs.Journals.{Outside}
use Rattle.desk_top.specs.LastLines.{marked_line}
use Rattle.desk_top.specs.Tasks.{DeviceMarked}
use Rattle.desk_top.specs.declared.fault.Fault.{Fault}
use Rattle.desk_top.specs.declared.fault.Fault.TheVariants as fault
use Rattle.desk_top.proofs.Growing.{keeps_itself}
use Rattle.desk_top.proofs.MarkLemmas.{marked_already, marked_done, stays_unmarked}
use Rattle.desk_top.proofs.task.mark.Goals as goal

pub returns-in-Done-clause-marked : goal.returns-in-Done-clause-marked
returns-in-Done-clause-marked g c =
    let book = c.args.book.now in
    let page = c.set_mark.new.book.page in
    let before : Outside = record { clock = g.K.Clock.tells c.args.clock.now; written = g.O.Sink.written c.args.out.now; records = book.page.records } in
    let now : Outside = record { clock = g.K.Clock.tells c.now.new.self; written = g.O.Sink.written c.write_whole.new.out; records = page.records } in
    let said = c.in-Done.ensures.marks in
    let line : c.deref.result.now ≡ marked_line c.args.suspended false c.args.eui = cc (c.deref.ensures.value, c.in_ok-done.ensures) in
    (marked_done c.args.suspended c.args.device book.page.desk before now c.now.result said.0 c.now.ensures said.1.adds.records, subst (λ (bs : List ℕ). Appends before.written now.written bs) line c.in_ok-write_whole-in-Done.ensures.ok, said.1.adds.tried)

pub returns-in_err-write_whole-in-Done-clause-marked :
    goal.returns-in_err-write_whole-in-Done-clause-marked
returns-in_err-write_whole-in-Done-clause-marked g c =
    let book = c.args.book.now in
    let page = c.set_mark.new.book.page in
    let before : Outside = record { clock = g.K.Clock.tells c.args.clock.now; written = g.O.Sink.written c.args.out.now; records = book.page.records } in
    let now : Outside = record { clock = g.K.Clock.tells c.now.new.self; written = g.O.Sink.written c.write_whole.new.out; records = page.records } in
    let said = c.in-Done.ensures.marks in
    let line : c.deref.result.now ≡ marked_line c.args.suspended false c.args.eui = cc (c.deref.ensures.value, c.in_ok-done.ensures) in
    let told = err_from_is_err_and c.from_residual-in_err-write_whole-in-Done.result c.from_residual-in_err-write_whole-in-Done.ensures.1 in
    let is : c.from_residual-in_err-write_whole-in-Done.result ≡ Err fault.Write = told.1 ∙ ap Err told.2 in
    let front = subst (λ (bs : List ℕ). AppendsFront before.written now.written bs) line c.in_err-write_whole-in-Done.ensures.err in
    subst (λ (r : Result (Unit {0}) Fault). DeviceMarked g.P.Keeper.fills c.args.suspended c.args.device c.args.eui book.page.desk before now page.tried r) (sym is) (marked_done c.args.suspended c.args.device book.page.desk before now c.now.result said.0 c.now.ensures said.1.adds.records, front, said.1.adds.tried)

pub returns-in-Already-clause-marked : goal.returns-in-Already-clause-marked
returns-in-Already-clause-marked g c =
    let book = c.args.book.now in
    let page = c.set_mark.new.book.page in
    let before : Outside = record { clock = g.K.Clock.tells c.args.clock.now; written = g.O.Sink.written c.args.out.now; records = book.page.records } in
    let now : Outside = record { clock = g.K.Clock.tells c.now.new.self; written = g.O.Sink.written c.write_whole-in-Already.new.out; records = page.records } in
    let said = c.in-Already.ensures.marks in
    let line : c.deref-in-Already.result.now ≡ marked_line c.args.suspended true c.args.eui = cc (c.deref-in-Already.ensures.value, c.in_ok-already.ensures) in
    (marked_already c.args.suspended c.args.device book.page.desk before now c.now.result said.0 c.now.ensures said.1.same.records, subst (λ (bs : List ℕ). Appends before.written now.written bs) line c.in_ok-write_whole-in-Already.ensures.ok, said.1.same.tried ∙ c.requires.whole)

pub returns-in_err-write_whole-in-Already-clause-marked :
    goal.returns-in_err-write_whole-in-Already-clause-marked
returns-in_err-write_whole-in-Already-clause-marked g c =
    let book = c.args.book.now in
    let page = c.set_mark.new.book.page in
    let before : Outside = record { clock = g.K.Clock.tells c.args.clock.now; written = g.O.Sink.written c.args.out.now; records = book.page.records } in
    let now : Outside = record { clock = g.K.Clock.tells c.now.new.self; written = g.O.Sink.written c.write_whole-in-Already.new.out; records = page.records } in
    let said = c.in-Already.ensures.marks in
    let line : c.deref-in-Already.result.now ≡ marked_line c.args.suspended true c.args.eui = cc (c.deref-in-Already.ensures.value, c.in_ok-already.ensures) in
    let told = err_from_is_err_and c.from_residual-in_err-write_whole-in-Already.result c.from_residual-in_err-write_whole-in-Already.ensures.1 in
    let is : c.from_residual-in_err-write_whole-in-Already.result ≡ Err fault.Write = told.1 ∙ ap Err told.2 in
    let front = subst (λ (bs : List ℕ). AppendsFront before.written now.written bs) line c.in_err-write_whole-in-Already.ensures.err in
    subst (λ (r : Result (Unit {0}) Fault). DeviceMarked g.P.Keeper.fills c.args.suspended c.args.device c.args.eui book.page.desk before now page.tried r) (sym is) (marked_already c.args.suspended c.args.device book.page.desk before now c.now.result said.0 c.now.ensures said.1.same.records, front, said.1.same.tried ∙ c.requires.whole)

pub returns-in-Full-clause-marked : goal.returns-in-Full-clause-marked
returns-in-Full-clause-marked g c =
    let book = c.args.book.now in
    let page = c.set_mark.new.book.page in
    let before : Outside = record { clock = g.K.Clock.tells c.args.clock.now; written = g.O.Sink.written c.args.out.now; records = book.page.records } in
    let now : Outside = record { clock = g.K.Clock.tells c.now.new.self; written = g.O.Sink.written c.args.out.now; records = page.records } in
    let said = c.in-Full.ensures.marks in
    let sound = c.sound.ensures.page in
    let readable = g.met.P.Keeper.rest_is_readable book.page.keeper (sound.whole c.requires.whole) in
    let fills = λ (rs : List (List ℕ)) (told : page.records ≡ Some rs).
    (g.met.P.Keeper.full_of book.page.keeper _ _ readable rs (sym sound.told ∙ sym said.1.same.records ∙ told)).0 said.2 in
    (_, stays_unmarked c.args.suspended c.args.device book.page.desk before now c.now.result said.0 c.now.ensures (keeps_itself before.written) said.1.same.records, (said.1.same.tried ∙ c.requires.whole, fills))
