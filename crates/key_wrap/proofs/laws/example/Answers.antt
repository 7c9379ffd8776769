use Rattle.key_wrap.proofs.ExampleSteps.{example}
use Rattle.key_wrap.proofs.laws.example.Goals as goal

pub returns : goal.returns
returns c = example
