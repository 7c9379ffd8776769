use Rattle.std.proofs.Common.{rules, ◌∷◌, ◌%◌, ◌^◌, List, ℕ, ap, map, sum, sym, take, ◌∙◌}
use Rattle.std.proofs.lemmas.List.{take-map}
use Rattle.entry_codec.specs.declared.kept.KeptPair.{KeptPair}
use Rattle.entry_codec.proofs.kept.KeptPairs.put.Goals as goal

pub invariant_of-self : goal.invariant_of-self
invariant_of-self c = (
  c.put_first-2.ensures.few,
  search rules,
  search rules,
  c.put_first.ensures.items ∙ ap (λ (n : ℕ). take 64 (n ∷ c.self.inside.sums.items)) (c.sum_of.ensures ∙ ap (λ (l : List ℕ). sum l % 2 ^ 32) c.as_slice.ensures.value)
      ∙ ap (λ (l : List ℕ). take 64 ((sum c.args.pair.body % 2 ^ 32) ∷ l)) c.self.invariant.3
      ∙ take-map (λ (p : KeptPair). sum p.body % 2 ^ 32) 64 (c.args.pair ∷ c.self.inside.pairs.items)
      ∙ sym (ap (map (λ (p : KeptPair). sum p.body % 2 ^ 32)) c.put_first-2.ensures.items),
)
