-- At most 64 answers are kept of a sender, and one is found by its body.
use Rattle.std.proofs.Common.{inl, inr, ◌≡◌, ℕ, suc, ◌+◌, ◌%◌, ◌^◌, ◌<◌, Bool, true, false, cond, List, ◌∷◌, length, drop, get_or, add-one, eq-eqb, Option, Some, None, refl, sym, sum, ap, ◌∙◌, arith}
use Rattle.std.specs.Prelude.{◌==◌, ◌&&◌, find, position}
use Rattle.std.specs.Str.{bytes_eq}
use Rattle.std.proofs.Math.Seq.{drop-cons}
use Rattle.std.proofs.lemmas.Bool.{cases_Bool}
use Rattle.std.proofs.lemmas.List.{length-take}
use Rattle.std.proofs.lemmas.Slice.Eq.{bytes_eq-Decides}
use Rattle.wire_ids.proofs.Lists.{all_changed_there}
use Rattle.entries.specs.declared.entry.Request.{Request}
use Rattle.entry_codec.specs.Kept.{AllFew, HasFew, is_of, keep, with_pair}
use Rattle.entry_codec.specs.declared.kept.KeptAnswers.{KeptAnswers}
use Rattle.entry_codec.specs.declared.kept.KeptPair.{KeptPair}

few-with_pair : (pair : KeptPair) (k : KeptAnswers) → HasFew k → HasFew (with_pair pair k)
few-with_pair pair k h = omega (arith, length-take 64 (pair ∷ k.pairs))

pub few-keep : (o : Option Request) (kept : List KeptAnswers) → AllFew kept → AllFew (keep o kept)
few-keep None kept h = h
few-keep (Some r) kept h = all_changed_there HasFew (with_pair (record { body = r.body; answer = r.answer })) kept (position (is_of r.sender) kept) (few-with_pair (record { body = r.body; answer = r.answer })) h

-- ---- look-ups by the sums of bodies

-- equal bodies have equal sums
pub body_by_sum : (a b : List ℕ) (x y : ℕ) → x ≡ sum a % 2 ^ 32 → y ≡ sum b % 2 ^ 32 → (x == y && bytes_eq a b) ≡ bytes_eq a b
body_by_sum a b x y is_x is_y = elim (cases_Bool (bytes_eq a b)) [
  | inl t ↦
      let same : a ≡ b = (bytes_eq-Decides a b).0 t in
      ap (λ (k : Bool). k && bytes_eq a b) (eq-eqb x y (is_x ∙ ap (λ (l : List ℕ). sum l % 2 ^ 32) same ∙ sym is_y))
  | inr f ↦ ap (λ (k : Bool). x == y && k) f ∙ last (x == y) ∙ sym f
]
  where
    last : (k : Bool) → (k && false) ≡ false
    last true = refl
    last false = refl

module _ {X : Type 0} (p : X → Bool) where
  pub found_at : (xs : List X) (i : ℕ) (d : X) → i < length xs → find p (drop i xs) ≡ find p xs → p (get_or xs i d) ≡ true → Some (get_or xs i d) ≡ find p xs
  found_at xs i d lt same t = sym (ap (λ b. cond b (Some (get_or xs i d)) (find p (drop (suc i) xs))) t) ∙ sym (ap (find p) (drop-cons xs i d lt)) ∙ same

  pub not_at : (xs : List X) (i : ℕ) (d : X) → i < length xs → find p (drop i xs) ≡ find p xs → p (get_or xs i d) ≡ false → find p (drop (i + 1) xs) ≡ find p xs
  not_at xs i d lt same f = ap (λ n. find p (drop n xs)) (add-one i) ∙ sym (ap (λ b. cond b (Some (get_or xs i d)) (find p (drop (suc i) xs))) f) ∙ sym (ap (find p) (drop-cons xs i d lt)) ∙ same
