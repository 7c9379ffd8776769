use Rattle.js_core.proofs.Agreeing.{answers_agree}
use Rattle.js_core.proofs.laws.answers_agree.Goals as goal

pub returns : goal.returns
returns c = answers_agree
