-- How a run of disk calls keeps what each content has, call by call.
use Rattle.std.proofs.Common.{◌≡◌, inl, inr, ⊎_elim, ℕ, ◌≤◌, List, length, Option, Some, refl, sym, ◌∙◌, subst, arith}
use Rattle.std.proofs.lemmas.Option.{same_Some}
use Rattle.disk_model.specs.Disk.{Becomes, Overwrites, Torn, Follows, NoneNew, Elapses, LeavesOnly}
use Rattle.disk_model.proofs.CallLemmas.{torn_front}
use Rattle.disk_model.proofs.Moments.{started, goes_on, then}
use Rattle.disk_journal.specs.Keeps.{Keeps, Quiet}

module _ {D : Type 0} (seen : D → Option (List ℕ)) (images : D → List ℕ → Type 0) (moment : D → ℕ) (since : D → ℕ → List ℕ → Type 0) where
  pub quiet_none : (old : D) → Quiet seen images moment since old old
  quiet_none old = record { same = refl; none_new = λ c now. now; later = omega arith; before = λ t c le left. inl left }

  pub quiet_call : (old new : D) → seen new ≡ seen old → NoneNew (images old) (images new) → Elapses (moment old) (moment new) (since old) (since new) (images new) → Quiet seen images moment since old new
  quiet_call old new same none time = record {
    same = same;
    none_new = none;
    later = time.later;
    before = λ t c le left. ⊎_elim (λ past. inl past) (λ now. inr (none c now)) (time.nothing_else t c le left);
  }

  pub quiet_then : (old mid new : D) → Quiet seen images moment since old mid → Quiet seen images moment since mid new → Quiet seen images moment since old new
  quiet_then old mid new first second = record {
    same = second.same ∙ first.same;
    none_new = λ c now. first.none_new c (second.none_new c now);
    later = omega (arith, first.later, second.later);
    before = λ t c le left. ⊎_elim (first.before t c le) (λ now. inr (first.none_new c now)) (second.before t c (omega (arith, le, first.later)) left);
  }

  pub quiet_leaves : (P : List ℕ → Type 0) (old new : D) → Quiet seen images moment since old new → ((x : List ℕ) → since old (moment old) x → images old x) → ((x : List ℕ) → images old x → P x) → LeavesOnly moment since old new P
  quiet_leaves P old new quiet only_now each = record {
    later = quiet.later;
    each = λ x left. each x (⊎_elim (only_now x) (λ now. now) (quiet.before (moment old) x (omega arith) left));
    before = λ t x le left. ⊎_elim (λ past. inl past) (λ now. inr (each x now)) (quiet.before t x le left);
  }

  -- calls that only look, where each content has P
  pub quiet_keeps : (P : List ℕ → Type 0) (old new : D) (c : List ℕ) → Quiet seen images moment since old new → ((x : List ℕ) → since old (moment old) x → images old x) → seen old ≡ Some c → P c → ((x : List ℕ) → images old x → P x) → Keeps seen images moment since P old new
  quiet_keeps P old new c quiet only_now told has each = record {
    leaves = quiet_leaves P old new quiet only_now each;
    each = λ x now. each x (quiet.none_new x now);
    shown = λ x now. subst P (same_Some c x (sym told ∙ sym quiet.same ∙ now)) has;
    told = (c, quiet.same ∙ told);
  }

  -- and others behind them
  pub quiet_then_keeps : (P : List ℕ → Type 0) (old mid new : D) → Quiet seen images moment since old mid → ((x : List ℕ) → since old (moment old) x → images old x) → ((x : List ℕ) → images old x → P x) → Keeps seen images moment since P mid new → Keeps seen images moment since P old new
  quiet_then_keeps P old mid new quiet only_now each keeps = record {
    leaves = then moment since old mid new P (quiet_leaves P old mid quiet only_now each) keeps.leaves;
    each = keeps.each;
    shown = keeps.shown;
    told = keeps.told;
  }

module _ {D : Type 0} (seen : D → Option (List ℕ)) (images : D → List ℕ → Type 0) (moment : D → ℕ) (since : D → ℕ → List ℕ → Type 0) (only_now : (d : D) (c : List ℕ) → since d (moment d) c → images d c) where
  pub begins : (P : List ℕ → Type 0) (disk : D) (d : List ℕ) → seen disk ≡ Some d → P d → ((c : List ℕ) → images disk c → P c) → Keeps seen images moment since P disk disk
  begins P disk d told has each = record {
    leaves = started moment since disk P (λ c left. each c (only_now disk c left));
    each = each;
    shown = λ c now. subst P (same_Some d c (sym told ∙ now)) has;
    told = (d, told);
  }

  -- a call that changes nothing
  pub stays : (P : List ℕ → Type 0) (old mid new : D) → Keeps seen images moment since P old mid → seen new ≡ seen mid → NoneNew (images mid) (images new) → Elapses (moment mid) (moment new) (since mid) (since new) (images new) → Keeps seen images moment since P old new
  stays P old mid new so_far same none time =
      let each : (c : List ℕ) → images new c → P c = λ c now. so_far.each c (none c now) in
      record {
        leaves = goes_on moment since old mid new P (images new) so_far.leaves time each;
        each = each;
        shown = λ c told. so_far.shown c (sym same ∙ told);
        told = (so_far.told.0, same ∙ so_far.told.1);
      }

  -- a write that may be torn
  pub torn : (P : List ℕ → Type 0) (at count : ℕ) (old mid new : D) → Keeps seen images moment since P old mid → ((d c : List ℕ) → P d → Torn at count d c → P c) → (d : List ℕ) → seen mid ≡ Some d → Becomes (seen mid) (seen new) (Torn at count) → Follows (Torn at count) (images mid) (images new) → Elapses (moment mid) (moment new) (since mid) (since new) (images new) → Keeps seen images moment since P old new
  torn P at count old mid new so_far closed d told becomes follows time =
      let each : (c : List ℕ) → images new c → P c = λ c now. let from = follows c now in closed from.0 c (so_far.each from.0 from.1) from.2 in
      let step = becomes.told d told in
      record {
        leaves = goes_on moment since old mid new P (images new) so_far.leaves time each;
        each = each;
        told = (step.0, step.1);
        shown = λ c now. closed d c (so_far.shown d told) (subst (λ (l : List ℕ). Torn at count d l) (same_Some step.0 c (sym step.1 ∙ now)) step.2);
      }

  -- a write that was done
  pub written : (P : List ℕ → Type 0) (at : ℕ) (bytes : List ℕ) (old mid new : D) → Keeps seen images moment since P old mid → ((d c : List ℕ) → P d → Torn at (length bytes) d c → P c) → (d : List ℕ) → seen mid ≡ Some d → at ≤ length d → Becomes (seen mid) (seen new) (Overwrites at bytes) → Follows (Torn at (length bytes)) (images mid) (images new) → Elapses (moment mid) (moment new) (since mid) (since new) (images new) → Keeps seen images moment since P old new
  written P at bytes old mid new so_far closed d told within becomes follows time =
      let step = becomes.told d told in
      let become : Becomes (seen mid) (seen new) (Torn at (length bytes)) = record {
        told = λ x is. (step.0, step.1, subst (λ (l : List ℕ). Torn at (length bytes) l step.0) (same_Some d x (sym told ∙ is)) (torn_front at (length bytes) bytes d step.0 within (omega arith) step.2));
        untold = becomes.untold;
      } in
      torn P at (length bytes) old mid new so_far closed d told become follows time
