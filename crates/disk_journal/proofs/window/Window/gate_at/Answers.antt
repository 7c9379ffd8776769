use Rattle.std.proofs.Common.{ℕ, List, take, subst, ◌≡◌, ◌≤◌, min, length, drop, sym, ap, arith, length-drop}
use Rattle.disk_journal.proofs.WindowLemmas.{length-shown_from, shown}
use Rattle.disk_journal.proofs.window.Window.gate_at.Goals as goal

pub returns-clause-found : goal.returns-clause-found
returns-clause-found g c = λ x told gate rest len is.
    let w = c.show.new.self in
    let at = c.args.at in
    let left : c.saturating_sub.result ≡ length (drop at x) = omega (arith, c.saturating_sub.ensures, len, length-drop at x) in
    let enough : min 5 (length (drop at x)) ≤ length c.from.result.now = omega (arith, c.in_ok-show.ensures.whole x told, length-shown_from w at c.in_ok-show.ensures.from c.in_ok-show.ensures.to, length-drop at x, ap length c.from.ensures) in
    c.gate_in.ensures.found (drop at x) rest gate is left enough
    (subst (λ (l : List ℕ). l ≡ take (length l) (drop at x)) (sym c.from.ensures) (shown w at c.in_ok-show.ensures.from c.in_ok-show.ensures.to x (c.in_ok-show.ensures.shows x told)))
