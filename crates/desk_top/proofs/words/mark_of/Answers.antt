use Rattle.desk_top.proofs.words.mark_of.Goals as goal

pub returns-in-None-marked-clause-none : goal.returns-in-None-marked-clause-none
returns-in-None-marked-clause-none c = λ eui. (c.in-None.ensures.none eui, c.in-None-marked.ensures.none eui)
