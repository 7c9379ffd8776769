use Rattle.line_reader.proofs.Breaks.{line_end_found, no_line_end}
use Rattle.line_reader.proofs.reader.line_end.Goals as goal

pub returns-clause-found : goal.returns-clause-found
returns-clause-found c = line_end_found c.args.piece.now c.memchr.result c.memchr.ensures

pub returns-clause-none : goal.returns-clause-none
returns-clause-none c = no_line_end c.args.piece.now c.memchr.result c.memchr.ensures
