use Rattle.desk_top.specs.Runs.{seen}
use Rattle.desk_top.proofs.program.run.Goals as goal

pub returns-clause-ends : goal.returns-clause-ends
returns-clause-ends g c = record {
  end = c.work-object.result.end;
  out = seen g.O.Sink.written g.O.Sink.faults c.work-object.new.out;
  promises = c.work-object.ensures;
  status = c.status_of.ensures;
  last_line = c.close.ensures.closes;
  later = c.close.ensures.later;
}
