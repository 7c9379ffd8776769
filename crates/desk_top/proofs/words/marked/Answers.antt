use Rattle.desk_top.proofs.Results.{none_weaker}
use Rattle.desk_top.proofs.words.marked.Goals as goal

pub returns-then-has_word-3-clause-none : goal.returns-then-has_word-3-clause-none
returns-then-has_word-3-clause-none c = none_weaker c.eui_at.result (λ none eui m. none eui m.4) c.eui_at.ensures.none
