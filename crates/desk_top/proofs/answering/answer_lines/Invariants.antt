use Rattle.std.proofs.Common.{◌≡◌, ◌≤◌, None}
use Rattle.line_reader.specs.Ahead.{budget, coming, TakesCount}
use Rattle.desk_top.specs.Turns.{IsUnderWay}
use Rattle.desk_top.proofs.answering.answer_lines.Given as goal

abbrev pub invariant-lines : goal.invariant-lines
invariant-lines g l =
    let left = g.T.Source.left in
    let written = g.O.Sink.written in
    let tells = g.K.Clock.tells in
    record {
      under_way : IsUnderWay l.fn.book.page.config l.fn.book.fixed.keys l.fn.book.page.desk (left l.fn.input) (record { clock = tells l.fn.clock; written = written l.fn.out; records = l.fn.book.page.records })
          (coming l.ahead (left l.input)) l.book.page.desk (record { clock = tells l.clock; written = written l.out; records = l.book.page.records });
      config : l.book.page.config ≡ l.fn.book.page.config;
      keys : l.book.fixed ≡ l.fn.book.fixed;
      whole : l.book.page.tried ≡ None;
      taken : TakesCount (left l.fn.input) (left l.input) 0 l.ahead.taken;
      limit : l.ahead.limit ≡ l.limit;
      within : l.ahead.taken ≤ l.ahead.limit;
      input_count : g.T.Source.faults l.fn.input ≤ g.T.Source.faults l.input;
      out_count : g.O.Sink.faults l.fn.out ≤ g.O.Sink.faults l.out;
      disk_count : l.fn.book.page.faults ≤ l.book.page.faults;
      changes : g.P.Keeper.changes l.book.page.keeper ≡ g.P.Keeper.changes l.fn.book.page.keeper;
    }

abbrev pub decreases-lines : goal.decreases-lines
decreases-lines g l = budget l.ahead
