-- What a window shows.
use Rattle.std.proofs.Common.{◌≡◌, ℕ, ◌+◌, ◌-◌, ◌≤◌, List, length, take, drop, ◌∙◌, ap, arith, length-drop, length-take}
use Rattle.std.proofs.lemmas.List.{drop-drop, drop-take}
use Rattle.disk_journal.specs.Windows.{Shows, shown_from}
use Rattle.disk_journal.specs.declared.window.Window.{Window}

module _ (w : Window) (at : ℕ) (from : w.at ≤ at) (to : at ≤ w.at + w.used) where
  pub length-shown_from : length (shown_from w at) ≡ w.at + w.used - at
  length-shown_from = omega (arith, length-drop (at - w.at) (take w.used w.room.items), length-take w.used w.room.items, w.within, from, to)

  -- a piece of the content from the place on
  pub shown : (c : List ℕ) → Shows w c → shown_from w at ≡ take (length (shown_from w at)) (drop at c)
  shown c shows =
      let k = at - w.at in
      let n = w.used - k in
      let sum : w.used ≡ k + n = omega (arith, from, to) in
      let place : w.at + k ≡ at = omega (arith, from) in
      let long : n ≡ length (shown_from w at) = omega (arith, length-shown_from, from, to) in
      ap (λ (l : List ℕ). drop k l) shows ∙ ap (λ (m : ℕ). drop k (take m (drop w.at c))) sum ∙ drop-take k n (drop w.at c) ∙ ap (λ (l : List ℕ). take n l) (drop-drop k w.at c)
      ∙ ap (λ (m : ℕ). take n (drop m c)) place ∙ ap (λ (m : ℕ). take m (drop at c)) long
