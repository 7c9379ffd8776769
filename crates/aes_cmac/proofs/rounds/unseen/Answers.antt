use Rattle.std.proofs.Common.{◌∙◌, rules, ap, List, ℕ, bit_xor}
use lib.Lanes.{zip2}
use Rattle.aes_cmac.proofs.Unseen.{kept_by}
use Rattle.aes_cmac.proofs.rounds.unseen.Goals as goal

pub returns : goal.returns
returns c = ap (λ (v : List ℕ). zip2 bit_xor c.args.places v) c.requires ∙ kept_by c.args.places (search rules)
