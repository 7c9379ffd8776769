use Rattle.std.proofs.Common.{rules, ◌≡◌, ◌∙◌, ◌++◌, ap, List, ℕ, length, take, drop, arith, length-drop}
use Rattle.std.proofs.lemmas.List.{take_all}
use Rattle.join_frames.proofs.open.cf_list.Goals as goal

pub returns : goal.returns
returns c =
    let len : length c.args.first ≡ 16 = search rules in
    c.joined.ensures ∙ ap (λ (u : List ℕ). u ++ take 12 c.args.second) (take_all 4 (drop 12 c.args.first) (omega (arith, length-drop 12 c.args.first)))
