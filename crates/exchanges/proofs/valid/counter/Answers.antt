use Rattle.std.proofs.Common.{rules, ◌≡◌, ◌<◌, ◌^◌, ℕ, Some}
use Rattle.exchanges.proofs.Counting.{counter_is}
use Rattle.exchanges.proofs.valid.counter.Goals as goal

pub returns : goal.returns
returns c =
    let few : (n : ℕ) → c.full_count.result ≡ Some n → n < 2 ^ 32 = λ n e. search rules in
    counter_is c.args.last c.args.wire c.full_count.result few c.full_count.ensures.least c.full_count.ensures.none
