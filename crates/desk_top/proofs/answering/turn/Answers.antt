use Rattle.std.proofs.Common.{◌≡◌, ◌∙◌, List, ℕ, length, Some, refl, subst, sym}
use Rattle.entries.specs.Entries.{encode_of}
use Rattle.entries.specs.declared.entry.Entry.{Entry}
use Rattle.line_reader.specs.Ahead.{coming}
use Rattle.desk_top.specs.Journals.{Outside}
use Rattle.desk_top.specs.Tasks.{Unwritten}
use Rattle.desk_top.specs.declared.fault.Stop.{Stop}
use Rattle.desk_top.specs.declared.fault.Stop.TheVariants as stop
use Rattle.desk_top.proofs.Alike.{desk_one, front_turned, front_unturned, same_entry, turn_stops, turned}
use Rattle.desk_top.proofs.Clock.{told_none}
use Rattle.desk_top.proofs.Growing.{keeps_itself}
use Rattle.desk_top.proofs.Results.{not_stopped}
use Rattle.desk_top.proofs.TurnLemmas.{front_of_none}
use Rattle.desk_top.proofs.answering.turn.Goals as goal

pub returns-in_err-line-clause-front : goal.returns-in_err-line-clause-front
returns-in_err-line-clause-front g c =
    let left = g.T.Source.left in
    let book = c.args.book.now in
    let old = coming c.args.ahead.now (left c.args.input.now) in
    let before : Outside = record { clock = g.K.Clock.tells c.args.clock.now; written = g.O.Sink.written c.args.out.now; records = book.page.records } in
    not_stopped _ ((front_of_none book.page.config book.fixed.keys book.page.desk old before before (told_none before.clock) (keeps_itself before.written) refl, c.requires.whole))

pub returns-in_err-write_line-in-Answer-clause-front :
    goal.returns-in_err-write_line-in-Answer-clause-front
returns-in_err-write_line-in-Answer-clause-front g c =
    let left = g.T.Source.left in
    let book = c.args.book.now in
    let old = coming c.args.ahead.now (left c.args.input.now) in
    let before : Outside = record { clock = g.K.Clock.tells c.args.clock.now; written = g.O.Sink.written c.args.out.now; records = book.page.records } in
    let next = coming c.next_line.new.ahead (left c.next_line.new.source) in
    let used = rw c.in-Line.is at c.in_ok-line.ensures.used in
    let now : Outside = record { clock = g.K.Clock.tells c.now.new.self; written = g.O.Sink.written c.write_line.new.out; records = c.answer.new.self.page.records } in
    let said = rw c.as_slice.ensures at c.in-Answer.ensures.answers in
    let written = rw c.into_vec.ensures at c.in_err-write_line-in-Answer.ensures.err in
    not_stopped _ ((front_turned book.page.config book.fixed.keys book.page.desk old next before now c.in-Line.line c.in-Answer.bytes c.now.result used said.bytes_are c.now.ensures written said.adds.records, said.adds.tried))

pub returns-in-Answer-clause-turns : goal.returns-in-Answer-clause-turns
returns-in-Answer-clause-turns g c =
    let left = g.T.Source.left in
    let book = c.args.book.now in
    let old = coming c.args.ahead.now (left c.args.input.now) in
    let before : Outside = record { clock = g.K.Clock.tells c.args.clock.now; written = g.O.Sink.written c.args.out.now; records = book.page.records } in
    let next = coming c.next_line.new.ahead (left c.next_line.new.source) in
    let used = rw c.in-Line.is at c.in_ok-line.ensures.used in
    let now : Outside = record { clock = g.K.Clock.tells c.now.new.self; written = g.O.Sink.written c.write_line.new.out; records = c.answer.new.self.page.records } in
    let said = rw c.as_slice.ensures at c.in-Answer.ensures.answers in
    let written = rw c.into_vec.ensures at c.in_ok-write_line-in-Answer.ensures.ok in
    let desk = said.adds.desk ∙ desk_one book.page.desk _ in
    turned book.page.config book.fixed.keys book.page.desk c.answer.new.self.page.desk old next before now c.in-Line.line c.in-Answer.bytes c.now.result used said.bytes_are desk c.now.ensures written said.adds.records

pub returns-in-Fault-clause-stops : goal.returns-in-Fault-clause-stops
returns-in-Fault-clause-stops g c =
    let left = g.T.Source.left in
    let book = c.args.book.now in
    let old = coming c.args.ahead.now (left c.args.input.now) in
    let before : Outside = record { clock = g.K.Clock.tells c.args.clock.now; written = g.O.Sink.written c.args.out.now; records = book.page.records } in
    let next = coming c.next_line.new.ahead (left c.next_line.new.source) in
    let used = rw c.in-Line.is at c.in_ok-line.ensures.used in
    let now : Outside = record { clock = g.K.Clock.tells c.now.new.self; written = g.O.Sink.written c.args.out.now; records = c.answer.new.self.page.records } in
    let said = rw c.as_slice.ensures at c.in-Fault.ensures.answers in
    let page = c.answer.new.self.page in
    λ why is.
    let same : stop.Failed ≡ why = cc in (
      said.0,
      turn_stops book.page.config book.fixed.keys book.page.desk old next before now c.in-Line.line c.now.result said.0 used said.1 c.now.ensures (keeps_itself before.written) said.2.doubts.records,
      subst (λ (w : Stop). Unwritten g.P.Keeper.fills said.0 page.records page.tried w) same said.2.doubts.tried,
    )

pub returns-in-Full-clause-stops : goal.returns-in-Full-clause-stops
returns-in-Full-clause-stops g c =
    let left = g.T.Source.left in
    let book = c.args.book.now in
    let old = coming c.args.ahead.now (left c.args.input.now) in
    let before : Outside = record { clock = g.K.Clock.tells c.args.clock.now; written = g.O.Sink.written c.args.out.now; records = book.page.records } in
    let next = coming c.next_line.new.ahead (left c.next_line.new.source) in
    let used = rw c.in-Line.is at c.in_ok-line.ensures.used in
    let now : Outside = record { clock = g.K.Clock.tells c.now.new.self; written = g.O.Sink.written c.args.out.now; records = c.answer.new.self.page.records } in
    let said = rw c.as_slice.ensures at c.in-Full.ensures.answers in
    let lacks = rw c.as_slice.ensures at c.in-Full.ensures.full in
    let page = c.answer.new.self.page in
    let fills = λ (rs : List (List ℕ)) (told : page.records ≡ Some rs).
    let lack = lacks tt rs (sym said.2.same.records ∙ told) in
    subst (λ (x : Entry). g.P.Keeper.fills rs 1 (length (encode_of x))) (same_entry _ said.0 lack.0 said.1 lack.1) lack.2 in
    λ why is.
    let same : stop.Full ≡ why = cc in (
      said.0,
      turn_stops book.page.config book.fixed.keys book.page.desk old next before now c.in-Line.line c.now.result said.0 used said.1 c.now.ensures (keeps_itself before.written) said.2.same.records,
      subst (λ (w : Stop). Unwritten g.P.Keeper.fills said.0 page.records page.tried w) same (said.2.same.tried ∙ c.requires.whole, fills),
    )

pub returns-clause-front : goal.returns-clause-front
returns-clause-front g c =
    let left = g.T.Source.left in
    let book = c.args.book.now in
    let old = coming c.args.ahead.now (left c.args.input.now) in
    let before : Outside = record { clock = g.K.Clock.tells c.args.clock.now; written = g.O.Sink.written c.args.out.now; records = book.page.records } in
    let next = coming c.next_line.new.ahead (left c.next_line.new.source) in
    let used = rw c.in-Line.is at c.in_ok-line.ensures.used in
    let now : Outside = record { clock = g.K.Clock.tells c.now.new.self; written = g.O.Sink.written c.args.out.now; records = c.answer.new.self.page.records } in
    let said = c.in-Memory.ensures.answers in
    λ not. (front_unturned book.page.config book.fixed.keys book.page.desk old next before now c.in-Line.line c.now.result used c.now.ensures (keeps_itself before.written) said.same.records, said.same.tried ∙ c.requires.whole)
