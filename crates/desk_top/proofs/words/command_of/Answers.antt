use Rattle.std.proofs.lemmas.Bool.{iff_false}
use Rattle.desk_top.proofs.WordLemmas.{none_spelled}
use Rattle.desk_top.proofs.words.command_of.Goals as goal

pub returns-in-None-clause-none : goal.returns-in-None-clause-none
returns-in-None-clause-none c =
    none_spelled c.args.words.now (iff_false c.is_check.ensures c.if-is_check.false) (iff_false c.is_answer.ensures c.if-is_answer.false) c.in-None.ensures.none
