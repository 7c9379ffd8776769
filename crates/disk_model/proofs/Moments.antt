-- How a run of disk calls goes on.
use Rattle.std.proofs.Common.{inl, inr, ⊎_elim, ℕ, arith}
use Rattle.disk_model.specs.Disk.{Elapses, LeavesOnly}

module _ {A D : Type 0} (moment : D → ℕ) (since : D → ℕ → A → Type 0) where
  -- before the first call
  pub started : (old : D) (P : A → Type 0) → ((c : A) → since old (moment old) c → P c) → LeavesOnly moment since old old P
  started old P here = record { later = omega arith; each = here; before = λ t c le left. inl left }

  -- one call more, after which each image has P
  pub goes_on : (old mid new : D) (P images : A → Type 0) → LeavesOnly moment since old mid P → Elapses (moment mid) (moment new) (since mid) (since new) images
      → ((c : A) → images c → P c) → LeavesOnly moment since old new P
  goes_on old mid new P images so_far time here = record {
    later = omega (arith, so_far.later, time.later);
    each = λ c left. ⊎_elim (so_far.each c) (here c) (time.nothing_else (moment old) c so_far.later left);
    before = λ t c le left. ⊎_elim (so_far.before t c le) (λ now. inr (here c now)) (time.nothing_else t c (omega (arith, le, so_far.later)) left);
  }

  -- one run behind another
  pub then : (old mid new : D) (P : A → Type 0) → LeavesOnly moment since old mid P → LeavesOnly moment since mid new P → LeavesOnly moment since old new P
  then old mid new P first second = record {
    later = omega (arith, first.later, second.later);
    each = λ c left. ⊎_elim (first.each c) (λ p. p) (second.before (moment old) c first.later left);
    before = λ t c le left. ⊎_elim (first.before t c le) (λ p. inr p) (second.before t c (omega (arith, le, first.later)) left);
  }

  pub weaker : (old new : D) (P Q : A → Type 0) → ((c : A) → P c → Q c) → LeavesOnly moment since old new P → LeavesOnly moment since old new Q
  weaker old new P Q then_q only = record {
    later = only.later;
    each = λ c left. then_q c (only.each c left);
    before = λ t c le left. ⊎_elim (λ past. inl past) (λ p. inr (then_q c p)) (only.before t c le left);
  }
