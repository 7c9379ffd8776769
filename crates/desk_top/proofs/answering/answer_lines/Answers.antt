use Rattle.std.proofs.Common.{◌≡◌, Err, ap, arith, refl, ◌∙◌}
use Rattle.std.proofs.lemmas.Result.{err_from_is_err_and}
use Rattle.line_reader.specs.Ahead.{coming}
use Rattle.line_reader.proofs.Hearings.{TakesCount_none, TakesCount_then}
use Rattle.desk_top.specs.Journals.{Outside}
use Rattle.desk_top.specs.declared.fault.Fault.TheVariants as fault
use Rattle.desk_top.proofs.EndLemmas.{answered_err, answered_none, much_under_way, read_under_way, told_most, told_too_much}
use Rattle.desk_top.proofs.TurnLemmas.{all_under_way, front_under_way, stops_under_way, under_way_first, under_way_then}
use Rattle.desk_top.proofs.answering.answer_lines.Goals as goal

pub returns-in_err-turn-clause-answered : goal.returns-in_err-turn-clause-answered
returns-in_err-turn-clause-answered g c =
    let left = g.T.Source.left in
    let book = c.args.book.now in
    let config = book.page.config in
    let keys = book.fixed.keys in
    let before : Outside = record { clock = g.K.Clock.tells c.args.clock.now; written = g.O.Sink.written c.args.out.now; records = book.page.records } in
    let mid : Outside = record { clock = g.K.Clock.tells c.lines.clock; written = g.O.Sink.written c.lines.out; records = c.lines.book.page.records } in
    let now : Outside = record { clock = g.K.Clock.tells c.turn.new.clock; written = g.O.Sink.written c.turn.new.out; records = c.turn.new.book.page.records } in
    let told = err_from_is_err_and c.from_residual-in_err-turn.result c.from_residual-in_err-turn.ensures.1 in
    let met = c.in_err-turn.field-0.0 in
    let is : c.from_residual-in_err-turn.result ≡ Err met = told.1 ∙ ap Err told.2 in
    let old = coming c.lines.ahead (left c.lines.input) in
    let desk = c.lines.book.page.desk in
    let under = c.lines.invariant.under_way in
    let front = rw (c.lines.invariant.config, c.lines.invariant.keys) at c.in_err-turn.ensures.front in
    let stops = rw (c.lines.invariant.config, c.lines.invariant.keys) at c.in_err-turn.ensures.stops in
    let taken = TakesCount_then _ _ _ _ _ _ c.lines.invariant.taken c.turn.ensures.taken in
    let limit : c.turn.new.ahead.limit ≡ c.args.limit = c.turn.ensures.limit ∙ c.lines.invariant.limit in
    let quiet = λ (e : met ≡ fault.InputRead). c.in_err-turn.ensures.read_in_line (ap Err e) in
    let behind = λ (e : met ≡ fault.TooMuch). c.in_err-turn.ensures.stops_behind (ap Err e) in
    answered_err g.P.Keeper.fills c.args.limit config keys book.page.desk (left c.args.input.now) (left c.turn.new.input) before now c.turn.new.book.page.tried _ met is c.in_err-turn.ensures.kind
    (λ not. (front_under_way config keys book.page.desk desk (left c.args.input.now) old before mid now under (front not).0, (front not).1))
    (λ why h. let s = stops why (ap Err h) in (s.0, stops_under_way config keys book.page.desk desk (left c.args.input.now) old _ before mid now s.0 under s.1, s.2))
    (λ e. read_under_way c.args.limit c.turn.new.ahead.taken config keys book.page.desk desk (left c.args.input.now) old (left c.turn.new.input) before mid now under (quiet e).0 (quiet e).1 (quiet e).2 (quiet e).3 taken (omega (arith, limit, c.in_err-turn.ensures.over (λ h. cc))))
    (λ e. much_under_way c.args.limit c.turn.new.ahead.taken config keys book.page.desk desk (left c.args.input.now) old (left c.turn.new.input) before mid now under (behind e).0 (behind e).1 (behind e).2 (behind e).3 taken (omega (arith, limit, c.in_err-turn.ensures.too_much (ap Err e))))

pub returns-in_err-turn-clause-too_much : goal.returns-in_err-turn-clause-too_much
returns-in_err-turn-clause-too_much g c =
    let all = TakesCount_then _ _ _ _ _ _ c.lines.invariant.taken c.turn.ensures.taken in
    let told = err_from_is_err_and c.from_residual-in_err-turn.result c.from_residual-in_err-turn.ensures.1 in
    let met = c.in_err-turn.field-0.0 in
    let is : c.from_residual-in_err-turn.result ≡ Err met = told.1 ∙ ap Err told.2 in
    let limit : c.turn.new.ahead.limit ≡ c.args.limit = c.turn.ensures.limit ∙ c.lines.invariant.limit in (
      all.0,
      all.1,
      told_too_much _ met _ _ is (λ other. omega (arith, all.2, limit, c.in_err-turn.ensures.over other)) (λ much. omega (arith, all.2, limit, c.in_err-turn.ensures.too_much (ap Err much))),
      told_most met _ _ (λ other. omega (arith, all.2, limit, c.in_err-turn.ensures.over other)) (λ much. omega (arith, all.2, limit, c.in_err-turn.ensures.too_much (ap Err much))),
    )

pub lines-preserved : goal.lines-preserved
lines-preserved g c =
    let left = g.T.Source.left in
    let book = c.args.book.now in
    let config = book.page.config in
    let keys = book.fixed.keys in
    let before : Outside = record { clock = g.K.Clock.tells c.args.clock.now; written = g.O.Sink.written c.args.out.now; records = book.page.records } in
    let mid : Outside = record { clock = g.K.Clock.tells c.lines.clock; written = g.O.Sink.written c.lines.out; records = c.lines.book.page.records } in
    let now : Outside = record { clock = g.K.Clock.tells c.turn.new.clock; written = g.O.Sink.written c.turn.new.out; records = c.turn.new.book.page.records } in
    let turns = rw (c.if-branch.true, c.lines.invariant.config, c.lines.invariant.keys) at c.in_ok-turn.ensures.turns in
    record {
      under_way = under_way_then config keys book.page.desk c.lines.book.page.desk c.turn.new.book.page.desk (left c.args.input.now) (coming c.lines.ahead (left c.lines.input)) (coming c.turn.new.ahead (left c.turn.new.input)) before mid now
          c.lines.invariant.under_way turns;
      config = c.turn.ensures.config ∙ c.lines.invariant.config;
      keys = c.turn.ensures.keys ∙ c.lines.invariant.keys;
      whole = c.in_ok-turn.ensures.whole;
      taken = TakesCount_then _ _ _ _ _ _ c.lines.invariant.taken c.turn.ensures.taken;
      limit = c.turn.ensures.limit ∙ c.lines.invariant.limit;
      within = c.in_ok-turn.ensures.within;
      input_count = omega (arith, c.lines.invariant.input_count, c.turn.ensures.input_count);
      out_count = omega (arith, c.lines.invariant.out_count, c.turn.ensures.out_count);
      disk_count = omega (arith, c.lines.invariant.disk_count, c.turn.ensures.disk_count);
      changes = c.turn.ensures.changes ∙ c.lines.invariant.changes;
    }

pub returns-clause-too_much : goal.returns-clause-too_much
returns-clause-too_much g c =
    let all = TakesCount_then _ _ _ _ _ _ c.lines.invariant.taken c.turn.ensures.taken in
    let limit : c.turn.new.ahead.limit ≡ c.args.limit = c.turn.ensures.limit ∙ c.lines.invariant.limit in
    (all.0, all.1, (λ h. cc, λ l. absurd (omega (arith, all.2, limit, c.in_ok-turn.ensures.within))), omega (arith, all.2, limit, c.in_ok-turn.ensures.within))

pub lines-init : goal.lines-init
lines-init g c =
    let left = g.T.Source.left c.args.input.now in
    let book = c.args.book.now in
    let before : Outside = record { clock = g.K.Clock.tells c.args.clock.now; written = g.O.Sink.written c.args.out.now; records = book.page.records } in
    record {
      under_way = under_way_first book.page.config book.fixed.keys book.page.desk left before c.in_ok-ahead.ahead.pending c.in_ok-ahead.ensures.pending;
      config = refl;
      keys = refl;
      whole = c.requires.whole;
      taken = rw c.in_ok-ahead.ensures.taken (TakesCount_none left 0);
      limit = c.in_ok-ahead.ensures.limit;
      within = omega (arith, c.in_ok-ahead.ensures.taken);
      input_count = omega arith;
      out_count = omega arith;
      disk_count = omega arith;
      changes = refl;
    }

pub returns-in_err-ahead-clause-answered : goal.returns-in_err-ahead-clause-answered
returns-in_err-ahead-clause-answered g c =
    let book = c.args.book.now in
    let before : Outside = record { clock = g.K.Clock.tells c.args.clock.now; written = g.O.Sink.written c.args.out.now; records = book.page.records } in
    let told = err_from_is_err_and c.from_residual.result c.from_residual.ensures.1 in
    answered_none g.P.Keeper.fills c.args.limit book.page.config book.fixed.keys book.page.desk (g.T.Source.left c.args.input.now) before book.page.tried _ (told.1 ∙ ap Err told.2) c.requires.whole

pub returns-clause-answered : goal.returns-clause-answered
returns-clause-answered g c =
    let left = g.T.Source.left in
    let book = c.args.book.now in
    let config = book.page.config in
    let keys = book.fixed.keys in
    let before : Outside = record { clock = g.K.Clock.tells c.args.clock.now; written = g.O.Sink.written c.args.out.now; records = book.page.records } in
    let mid : Outside = record { clock = g.K.Clock.tells c.lines.clock; written = g.O.Sink.written c.lines.out; records = c.lines.book.page.records } in
    let now : Outside = record { clock = g.K.Clock.tells c.turn.new.clock; written = g.O.Sink.written c.turn.new.out; records = c.turn.new.book.page.records } in
    let turns = rw c.if-branch.false at c.in_ok-turn.ensures.turns in (
      all_under_way config keys book.page.desk c.lines.book.page.desk c.turn.new.book.page.desk (left c.args.input.now) (coming c.lines.ahead (left c.lines.input)) (coming c.turn.new.ahead (left c.turn.new.input)) before mid now
          c.lines.invariant.under_way turns,
      rw c.if-branch.false at c.in_ok-turn.ensures.end,
      c.in_ok-turn.ensures.whole,
    )
