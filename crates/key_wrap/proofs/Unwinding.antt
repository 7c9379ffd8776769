-- All twelve steps, and all of them taken back.
use Rattle.std.proofs.Common.{◌≡◌, ℕ, zero, suc, ◌+◌, ◌-◌, ◌<◌, ◌≤◌, List, ◌++◌, length, take, drop, get_or, refl, ap, sym, ◌∙◌, arith, length-drop}
use Rattle.std.proofs.lemmas.List.{take-append-drop, take_at, drop_at, take_all, drop-drop}
use Rattle.aes_cmac.specs.Aes.{IsBlock}
use Rattle.key_wrap.specs.Wrap.{Registers, initial_value, start, step, unstep, after, registers_of, registers_text, wrapped_key}
use Rattle.key_wrap.proofs.Bytes.{joined_block, first_half, second_half, part_half, below_8}
use Rattle.key_wrap.proofs.Steps.{IsWhole, IsWhole-step, IsWhole-unstep, unstep-step, step-unstep}

-- one step more
pub step_more : (kek : List ℕ) (s x : Registers) (n p : ℕ) → p ≡ n + 1 → x ≡ after kek s n → step kek p x ≡ after kek s p
unfolding after
step_more kek s x n p hp e =
    let ep : p ≡ suc n = omega arith in
    rw (ep, e) refl

-- all twelve
pub all_steps : (kek k : List ℕ) (s x : Registers) (n : ℕ) → k ≡ kek → n ≡ 12 → x ≡ after k s n → x ≡ after kek s 12
all_steps kek k s x n ek en e = e ∙ ap (λ (j : List ℕ). after j s n) ek ∙ ap (after kek s) en

-- the registers after n of twelve steps were taken back
unfoldable pub undone : List ℕ → Registers → ℕ → Registers
undone kek s zero = s
undone kek s (suc n) = unstep kek (12 - n) (undone kek s n)

-- one step more is taken back
pub unstep_more : (kek : List ℕ) (s x : Registers) (n p : ℕ) → p ≡ n + 1 → x ≡ undone kek s n → unstep kek (12 - n) x ≡ undone kek s p
unfolding undone
unstep_more kek s x n p hp e =
    let ep : p ≡ suc n = omega arith in
    rw (ep, e) refl

-- all twelve
pub all_undone : (kek k : List ℕ) (s x : Registers) (n : ℕ) → k ≡ kek → n ≡ 12 → x ≡ undone k s n → x ≡ undone kek s 12
all_undone kek k s x n ek en e = e ∙ ap (λ (j : List ℕ). undone j s n) ek ∙ ap (undone kek s) en

IsWhole-after : (kek : List ℕ) (s : Registers) → ((i : ℕ) → get_or kek i 0 < 256) → IsWhole s → (t : ℕ) → IsWhole (after kek s t)
unfolding after
IsWhole-after kek s k h zero = h
IsWhole-after kek s k h (suc t) = IsWhole-step kek (suc t) (after kek s t) k (IsWhole-after kek s k h t)

IsWhole-undone : (kek : List ℕ) (s : Registers) → ((i : ℕ) → get_or kek i 0 < 256) → IsWhole s → (n : ℕ) → IsWhole (undone kek s n)
unfolding undone
IsWhole-undone kek s k h zero = h
IsWhole-undone kek s k h (suc n) = IsWhole-unstep kek (12 - n) (undone kek s n) k (IsWhole-undone kek s k h n)

-- m steps after all were taken back
after_undone : (kek : List ℕ) (s : Registers) → ((i : ℕ) → get_or kek i 0 < 256) → IsWhole s → (all : ℕ) → all ≡ 12 → (m : ℕ) → m ≤ all
    → after kek (undone kek s all) m ≡ undone kek s (all - m)
unfolding after undone
after_undone kek s k h all e zero l = let same : all - 0 ≡ all = omega arith in rw same refl
after_undone kek s k h all e (suc m) l =
    let q : ℕ = all - suc m in
    let more : all - m ≡ suc q = omega arith in
    let number : 12 - q ≡ suc m = omega arith in
    rw (after_undone kek s k h all e m (omega arith), more, number) (step-unstep kek (suc m) (undone kek s q) k (omega arith) (IsWhole-undone kek s k h q))

-- n steps taken back after all
undone_after : (kek : List ℕ) (s : Registers) → ((i : ℕ) → get_or kek i 0 < 256) → IsWhole s → (all : ℕ) → all ≡ 12 → (n : ℕ) → n ≤ all
    → undone kek (after kek s all) n ≡ after kek s (all - n)
unfolding after undone
undone_after kek s k h all e zero l = let same : all - 0 ≡ all = omega arith in rw same refl
undone_after kek s k h all e (suc n) l =
    let q : ℕ = all - suc n in
    let more : all - n ≡ suc q = omega arith in
    let number : 12 - n ≡ suc q = omega arith in
    rw (undone_after kek s k h all e n (omega arith), more, number) (unstep-step kek (suc q) (after kek s q) k (omega arith) (IsWhole-after kek s k h q))

undone_none : (kek : List ℕ) (s : Registers) → undone kek s 0 ≡ s
unfolding undone
undone_none kek s = refl

after_none : (kek : List ℕ) (s : Registers) → after kek s 0 ≡ s
unfolding after
after_none kek s = refl

-- the registers of 24 bytes
IsWhole-registers_of : (w : List ℕ) → length w ≡ 24 → ((i : ℕ) → get_or w i 0 < 256) → IsWhole (registers_of w)
IsWhole-registers_of w len below = record {
  a = part_half w 0 (omega arith) below;
  r1 = part_half w 8 (omega arith) below;
  r2 = part_half w 16 (omega arith) below;
}

-- those of a key
IsWhole-start : (key : List ℕ) → IsBlock key → IsWhole (start key)
IsWhole-start key is = record {
  a = record {
    len = refl;
    below = below_8 0xa6 0xa6 0xa6 0xa6 0xa6 0xa6 0xa6 0xa6 (omega arith) (omega arith) (omega arith) (omega arith) (omega arith) (omega arith) (omega arith) (omega arith);
  };
  r1 = first_half key is;
  r2 = second_half key is;
}

registers_are : (s : Registers) (a r1 r2 : List ℕ) → a ≡ s.a → r1 ≡ s.r1 → r2 ≡ s.r2 → (let r : Registers = record { a = a; r1 = r1; r2 = r2 } in r) ≡ s
registers_are s a r1 r2 ea e1 e2 = rw (ea, e1, e2) refl

text_of : (w : List ℕ) → length w ≡ 24 → registers_text (registers_of w) ≡ w
text_of w len =
    let last : take 8 (drop 16 w) ≡ drop 8 (drop 8 w) =
    take_all 8 (drop 16 w) (omega (arith, length-drop {A = ℕ} 16 w)) ∙ sym (drop-drop 8 8 w) in
    rw (last, take-append-drop 8 (drop 8 w)) (take-append-drop 8 w)

registers_of_text : (s : Registers) → IsWhole s → registers_of (registers_text s) ≡ s
registers_of_text s h =
    let text : List ℕ = s.a ++ (s.r1 ++ s.r2) in
    let rest : drop 8 text ≡ s.r1 ++ s.r2 = drop_at s.a (s.r1 ++ s.r2) 8 h.a.len in
    let last : drop 16 text ≡ s.r2 = sym (drop-drop 8 8 text) ∙ ap (drop 8) rest ∙ drop_at s.r1 s.r2 8 h.r1.len in
    registers_are s (take 8 text) (take 8 (drop 8 text)) (take 8 (drop 16 text)) (take_at s.a (s.r1 ++ s.r2) 8 h.a.len)
    (ap (take 8) rest ∙ take_at s.r1 s.r2 8 h.r1.len) (ap (take 8) last ∙ take_all 8 s.r2 (omega (arith, h.r2.len)))

-- the halves that are left are a block
pub unwound_block : (kek w : List ℕ) (s : Registers) → ((i : ℕ) → get_or kek i 0 < 256) → length w ≡ 24 → ((i : ℕ) → get_or w i 0 < 256)
    → s ≡ undone kek (registers_of w) 12 → IsBlock (s.r1 ++ s.r2)
unwound_block kek w s k len below e =
    let h : IsWhole s = rw e (IsWhole-undone kek (registers_of w) k (IsWhole-registers_of w len below) 12) in
    joined_block s.r1 s.r2 h.r1 h.r2

-- registers that end as they begin are a key
pub unwound_wraps : (kek w : List ℕ) (s : Registers) → ((i : ℕ) → get_or kek i 0 < 256) → length w ≡ 24 → ((i : ℕ) → get_or w i 0 < 256)
    → s ≡ undone kek (registers_of w) 12 → s.a ≡ initial_value → wrapped_key kek (s.r1 ++ s.r2) ≡ w
unfolding wrapped_key
unwound_wraps kek w s k len below e begins =
    let whole : IsWhole (registers_of w) = IsWhole-registers_of w len below in
    let h : IsWhole s = rw e (IsWhole-undone kek (registers_of w) k whole 12) in
    let begun : start (s.r1 ++ s.r2) ≡ s =
    registers_are s initial_value (take 8 (s.r1 ++ s.r2)) (drop 8 (s.r1 ++ s.r2)) (sym begins) (take_at s.r1 s.r2 8 h.r1.len) (drop_at s.r1 s.r2 8 h.r1.len) in
    let ran : after kek (undone kek (registers_of w) 12) 12 ≡ undone kek (registers_of w) 0 = after_undone kek (registers_of w) k whole 12 refl 12 (omega arith) in
    ap (λ (x : Registers). registers_text (after kek x 12)) (begun ∙ e) ∙ ap (λ (x : Registers). registers_text x) (ran ∙ undone_none kek (registers_of w)) ∙ text_of w len

-- and each key that was wrapped is found
pub unwound_is : (kek w key : List ℕ) (s : Registers) → ((i : ℕ) → get_or kek i 0 < 256)
    → s ≡ undone kek (registers_of w) 12 → IsBlock key → wrapped_key kek key ≡ w → s ≡ start key
unfolding wrapped_key
unwound_is kek w key s k e is wraps =
    let whole : IsWhole (start key) = IsWhole-start key is in
    let end : Registers = after kek (start key) 12 in
    let same : registers_of w ≡ end =
    ap (λ (x : List ℕ). registers_of x) (sym wraps) ∙ registers_of_text end (IsWhole-after kek (start key) k whole 12) in
    let back : undone kek end 12 ≡ after kek (start key) 0 = undone_after kek (start key) k whole 12 refl 12 (omega arith) in
    e ∙ ap (λ (x : Registers). undone kek x 12) same ∙ back ∙ after_none kek (start key)
