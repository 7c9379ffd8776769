-- A join form by the pieces of its bytes, and that it has one reading.
use Rattle.std.proofs.Common.{◌≡◌, ℕ, ◌+◌, ◌*◌, ◌<◌, ◌^◌, List, ◌∷◌, ◌++◌, length, take, drop, get_or, slice_index_or, refl, sym, ◌∙◌, ap, arith, inl, inr, ◌⊎◌, length-drop}
use Rattle.std.proofs.lemmas.List.{take-append-drop, take_all, drop-drop}
use Rattle.std.proofs.Math.Seq.{drop-cons}
use Rattle.std.proofs.lemmas.Nat.{from_le_bytes-to_le_bytes_2, from_le_bytes-to_le_bytes_8}
use Rattle.std.specs.Int.{w16, w64, to_le_bytes, from_le_bytes}
use Rattle.wire_ids.specs.Numbers.{wire_bytes}
use Rattle.wire_ids.specs.declared.eui.Eui.{Eui}
use Rattle.join_frames.specs.JoinForms.{JoinForm, join_fields, rejoin02_fields, rejoin1_fields}
use Rattle.join_frames.specs.declared.join_up.JoinUp.{JoinUp}
use Rattle.join_frames.specs.declared.join_up.JoinUp.TheVariants.{Join, Rejoin02, Rejoin1}

same_16 : (a b : ℕ) → a < 2 ^ 16 → b < 2 ^ 16 → to_le_bytes w16 a ≡ to_le_bytes w16 b → a ≡ b
same_16 a b p q e = sym (from_le_bytes-to_le_bytes_2 a p) ∙ ap (from_le_bytes w16) e ∙ from_le_bytes-to_le_bytes_2 b q

same_eui : (a b : Eui) → a.0 < 2 ^ 64 → b.0 < 2 ^ 64 → to_le_bytes w64 a.0 ≡ to_le_bytes w64 b.0 → a ≡ b
same_eui a b p q e =
    let same : a.0 ≡ b.0 = sym (from_le_bytes-to_le_bytes_8 a.0 p) ∙ ap (from_le_bytes w64) e ∙ from_le_bytes-to_le_bytes_8 b.0 q in
    ap (λ (n : ℕ). let eui : Eui = record { 0 = n } in eui) same

-- the number of three bytes, the lowest first
of_wire : List ℕ → ℕ
of_wire s = get_or s 0 0 + 256 * get_or s 1 0 + 65536 * get_or s 2 0

of_wire-wire_bytes : (n : ℕ) → n < 2 ^ 24 → of_wire (wire_bytes n) ≡ n
unfolding of_wire
of_wire-wire_bytes n h = omega arith

pub same_24 : (a b : ℕ) → a < 2 ^ 24 → b < 2 ^ 24 → wire_bytes a ≡ wire_bytes b → a ≡ b
same_24 a b p q e = sym (of_wire-wire_bytes a p) ∙ ap of_wire e ∙ of_wire-wire_bytes b q

take_4 : (m : List ℕ) → length m ≡ 4 → take 4 m ≡ m
take_4 m h = take_all 4 m (omega arith)

-- a list is its piece at a place, and the rest
piece : (i n k : ℕ) (s x : List ℕ) → k ≡ i + n → x ≡ take n (drop i s) → x ++ drop k s ≡ drop i s
piece i n k s x e h = rw (h, e, ← drop-drop) (take-append-drop n (drop i s))

-- the last piece of a list
last_piece : (i n : ℕ) (s x : List ℕ) → length s ≡ i + n → x ≡ take n (drop i s) → x ≡ drop i s
last_piece i n s x e h = h ∙ take_all n (drop i s) (simp length-drop (omega arith))

first_byte : (s : List ℕ) (b : ℕ) → 0 < length s → slice_index_or s 0 0 ≡ b → b ∷ drop 1 s ≡ s
first_byte s b h e = ap (λ (n : ℕ). n ∷ drop 1 s) (sym e) ∙ sym (drop-cons s 0 0 h)

second_byte : (s : List ℕ) (b : ℕ) → 1 < length s → slice_index_or s 1 0 ≡ b → b ∷ drop 2 s ≡ drop 1 s
second_byte s b h e = ap (λ (n : ℕ). n ∷ drop 2 s) (sym e) ∙ sym (drop-cons s 1 0 h)

-- a join-request from its pieces
pub is_join : (bytes : List ℕ) (j d : Eui) (n : ℕ) (m : List ℕ) → length bytes ≡ 23 → slice_index_or bytes 0 0 ≡ 0
    → to_le_bytes w64 j.0 ≡ take 8 (drop 1 bytes) → to_le_bytes w64 d.0 ≡ take 8 (drop 9 bytes)
    → to_le_bytes w16 n ≡ take 2 (drop 17 bytes) → m ≡ take 4 (drop 19 bytes) → bytes ≡ join_fields j d n ++ m
is_join bytes j d n m len first ej ed en em = sym (
    ap (λ (t : List ℕ). 0 ∷ to_le_bytes w64 j.0 ++ (to_le_bytes w64 d.0 ++ (to_le_bytes w16 n ++ t))) (last_piece 19 4 bytes m len em)
    ∙ ap (λ (t : List ℕ). 0 ∷ to_le_bytes w64 j.0 ++ (to_le_bytes w64 d.0 ++ t)) (piece 17 2 19 bytes _ refl en)
    ∙ ap (λ (t : List ℕ). 0 ∷ to_le_bytes w64 j.0 ++ t) (piece 9 8 17 bytes _ refl ed)
    ∙ ap (λ (t : List ℕ). 0 ∷ t) (piece 1 8 9 bytes _ refl ej)
    ∙ first_byte bytes 0 (omega arith) first
    )

-- a rejoin-request of type 0 or 2 from its pieces
pub is_rejoin02 : (bytes : List ℕ) (k w : ℕ) (d : Eui) (n : ℕ) (m : List ℕ) → length bytes ≡ 19 → slice_index_or bytes 0 0 ≡ 192 → slice_index_or bytes 1 0 ≡ k
    → wire_bytes w ≡ take 3 (drop 2 bytes) → to_le_bytes w64 d.0 ≡ take 8 (drop 5 bytes)
    → to_le_bytes w16 n ≡ take 2 (drop 13 bytes) → m ≡ take 4 (drop 15 bytes) → bytes ≡ rejoin02_fields k w d n ++ m
is_rejoin02 bytes k w d n m len first second ew ed en em = sym (
    ap (λ (t : List ℕ). 192 ∷ k ∷ wire_bytes w ++ (to_le_bytes w64 d.0 ++ (to_le_bytes w16 n ++ t))) (last_piece 15 4 bytes m len em)
    ∙ ap (λ (t : List ℕ). 192 ∷ k ∷ wire_bytes w ++ (to_le_bytes w64 d.0 ++ t)) (piece 13 2 15 bytes _ refl en)
    ∙ ap (λ (t : List ℕ). 192 ∷ k ∷ wire_bytes w ++ t) (piece 5 8 13 bytes _ refl ed)
    ∙ ap (λ (t : List ℕ). 192 ∷ k ∷ t) (piece 2 3 5 bytes _ refl ew)
    ∙ ap (λ (t : List ℕ). 192 ∷ t) (second_byte bytes k (omega arith) second)
    ∙ first_byte bytes 192 (omega arith) first
    )

-- a rejoin-request of type 1 from its pieces
pub is_rejoin1 : (bytes : List ℕ) (j d : Eui) (n : ℕ) (m : List ℕ) → length bytes ≡ 24 → slice_index_or bytes 0 0 ≡ 192 → slice_index_or bytes 1 0 ≡ 1
    → to_le_bytes w64 j.0 ≡ take 8 (drop 2 bytes) → to_le_bytes w64 d.0 ≡ take 8 (drop 10 bytes)
    → to_le_bytes w16 n ≡ take 2 (drop 18 bytes) → m ≡ take 4 (drop 20 bytes) → bytes ≡ rejoin1_fields j d n ++ m
is_rejoin1 bytes j d n m len first second ej ed en em = sym (
    ap (λ (t : List ℕ). 192 ∷ 1 ∷ to_le_bytes w64 j.0 ++ (to_le_bytes w64 d.0 ++ (to_le_bytes w16 n ++ t))) (last_piece 20 4 bytes m len em)
    ∙ ap (λ (t : List ℕ). 192 ∷ 1 ∷ to_le_bytes w64 j.0 ++ (to_le_bytes w64 d.0 ++ t)) (piece 18 2 20 bytes _ refl en)
    ∙ ap (λ (t : List ℕ). 192 ∷ 1 ∷ to_le_bytes w64 j.0 ++ t) (piece 10 8 18 bytes _ refl ed)
    ∙ ap (λ (t : List ℕ). 192 ∷ 1 ∷ t) (piece 2 8 10 bytes _ refl ej)
    ∙ ap (λ (t : List ℕ). 192 ∷ t) (second_byte bytes 1 (omega arith) second)
    ∙ first_byte bytes 192 (omega arith) first
    )

-- a join-request has one reading
pub one_join : (bytes : List ℕ) (j d : Eui) (n : ℕ) (m : List ℕ) (v : JoinUp) → JoinForm bytes v → slice_index_or bytes 0 0 ≡ 0
    → j.0 < 2 ^ 64 → d.0 < 2 ^ 64 → n < 2 ^ 16 → to_le_bytes w64 j.0 ≡ take 8 (drop 1 bytes) → to_le_bytes w64 d.0 ≡ take 8 (drop 9 bytes)
    → to_le_bytes w16 n ≡ take 2 (drop 17 bytes) → m ≡ take 4 (drop 19 bytes) → Join j d n m ≡ v
one_join bytes j d n m (Join j' d' n' m') f first hj hd hn ej ed en em =
    let j_same : j ≡ j' = same_eui j j' hj f.2 (rw f.0 at ej) in
    let d_same : d ≡ d' = same_eui d d' hd f.3 (rw f.0 at ed) in
    let n_same : n ≡ n' = same_16 n n' hn f.4 (rw f.0 at en) in
    let m_at : m ≡ take 4 m' = rw f.0 at em in
    let m_same : m ≡ m' = m_at ∙ take_4 m' f.1 in
    cc
one_join bytes j d n m (Rejoin02 k' w' d' c' m') f first hj hd hn ej ed en em = let bad = rw f.0 at first in cc
one_join bytes j d n m (Rejoin1 j' d' c' m') f first hj hd hn ej ed en em = let bad = rw f.0 at first in cc

-- a rejoin-request of type 0 or 2 has one reading
pub one_rejoin02 : (bytes : List ℕ) (k w : ℕ) (d : Eui) (n : ℕ) (m : List ℕ) (v : JoinUp) → JoinForm bytes v → slice_index_or bytes 0 0 ≡ 192
    → slice_index_or bytes 1 0 ≡ k → (k ≡ 0) ⊎ (k ≡ 2)
    → w < 2 ^ 24 → d.0 < 2 ^ 64 → n < 2 ^ 16 → wire_bytes w ≡ take 3 (drop 2 bytes) → to_le_bytes w64 d.0 ≡ take 8 (drop 5 bytes)
    → to_le_bytes w16 n ≡ take 2 (drop 13 bytes) → m ≡ take 4 (drop 15 bytes) → Rejoin02 k w d n m ≡ v
one_rejoin02 bytes k w d n m (Join j' d' n' m') f first second kind hw hd hn ew ed en em = let bad = rw f.0 at first in cc
one_rejoin02 bytes k w d n m (Rejoin02 k' w' d' n' m') f first second kind hw hd hn ew ed en em =
    let k_same : k' ≡ k = rw f.0 at second in
    let w_same : w ≡ w' = same_24 w w' hw f.3 (rw f.0 at ew) in
    let d_same : d ≡ d' = same_eui d d' hd f.4 (rw f.0 at ed) in
    let n_same : n ≡ n' = same_16 n n' hn f.5 (rw f.0 at en) in
    let m_at : m ≡ take 4 m' = rw f.0 at em in
    let m_same : m ≡ m' = m_at ∙ take_4 m' f.1 in
    cc
one_rejoin02 bytes k w d n m (Rejoin1 j' d' n' m') f first second kind hw hd hn ew ed en em =
    let k_is : 1 ≡ k = rw f.0 at second in
    absurd (elim kind [ inl e ↦ omega arith | inr e ↦ omega arith ])

-- a rejoin-request of type 1 has one reading
pub one_rejoin1 : (bytes : List ℕ) (j d : Eui) (n : ℕ) (m : List ℕ) (v : JoinUp) → JoinForm bytes v → slice_index_or bytes 0 0 ≡ 192
    → slice_index_or bytes 1 0 ≡ 1
    → j.0 < 2 ^ 64 → d.0 < 2 ^ 64 → n < 2 ^ 16 → to_le_bytes w64 j.0 ≡ take 8 (drop 2 bytes) → to_le_bytes w64 d.0 ≡ take 8 (drop 10 bytes)
    → to_le_bytes w16 n ≡ take 2 (drop 18 bytes) → m ≡ take 4 (drop 20 bytes) → Rejoin1 j d n m ≡ v
one_rejoin1 bytes j d n m (Join j' d' n' m') f first second hj hd hn ej ed en em = let bad = rw f.0 at first in cc
one_rejoin1 bytes j d n m (Rejoin02 k' w' d' n' m') f first second hj hd hn ej ed en em =
    let k_is : k' ≡ 1 = rw f.0 at second in
    absurd (elim f.2 [ inl e ↦ omega arith | inr e ↦ omega arith ])
one_rejoin1 bytes j d n m (Rejoin1 j' d' n' m') f first second hj hd hn ej ed en em =
    let j_same : j ≡ j' = same_eui j j' hj f.2 (rw f.0 at ej) in
    let d_same : d ≡ d' = same_eui d d' hd f.3 (rw f.0 at ed) in
    let n_same : n ≡ n' = same_16 n n' hn f.4 (rw f.0 at en) in
    let m_at : m ≡ take 4 m' = rw f.0 at em in
    let m_same : m ≡ m' = m_at ∙ take_4 m' f.1 in
    cc
