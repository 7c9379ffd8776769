-- The fields of a join- or rejoin-request are those of its join form.
use Rattle.std.proofs.Common.{◌≡◌, ℕ, ◌<◌, ◌^◌, ◌≤◌, ◌+◌, ◌==◌, ◌&&◌, ◌||◌, ◌⊎◌, Bool, true, false, cond, List, All, [], ◌∷◌, ◌++◌, length, take, drop, get_or, slice_index_or, Option, Some, None, refl, sym, subst, ap, ◌∙◌, arith, inl, inr, length-drop, slice_index, eqb-true}
use Rattle.std.proofs.lemmas.Bool.{cases_Bool, cases_lt}
use Rattle.std.proofs.lemmas.List.Elements.{All-get_or}
use Rattle.std.proofs.lemmas.List.{length-take, get_or-take, get_or-drop, get_or_past, take_all}
use Rattle.std.proofs.lemmas.Nat.{from_le_bytes-to_le_bytes_2, from_le_bytes-to_le_bytes_8, le_bytes_2, le_bytes_8}
use Rattle.std.specs.Int.{w16, w64, from_le_bytes}
use Rattle.wire_ids.proofs.Reading.{three_back}
use Rattle.wire_ids.specs.Numbers.{wire_bytes, wire_number}
use Rattle.wire_ids.specs.declared.eui.Eui.{Eui}
use Rattle.wire_ids.specs.declared.faults.FrameFault.{FrameFault}
use Rattle.wire_ids.specs.declared.faults.FrameFault.TheVariants.{Size, Form}
use Rattle.join_frames.proofs.Forms as forms
use Rattle.join_frames.specs.JoinForms.{HasJoinSize, JoinFault, JoinForm, join_fields, rejoin02_fields, rejoin1_fields}
use Rattle.join_frames.specs.declared.join_up.JoinUp.{JoinUp}
use Rattle.join_frames.specs.declared.join_up.JoinUp.TheVariants.{Join, Rejoin02, Rejoin1}
use Rattle.js_core.specs.Frames.{JoinFramesRead, frame_size, is_join, is_rejoin02, is_rejoin1, join_of, join_up_of, rejoin02_of, rejoin1_of}

-- ---- of the bytes of a form

abbrev eui : ℕ → Eui
eui n = record { 0 = n }

take_4 : (m : List ℕ) → length m ≡ 4 → take 4 m ≡ m
take_4 m h = take_all 4 m (omega arith)

same_join : (a b a' b' n n' : ℕ) (m m' : List ℕ) → a ≡ a' → b ≡ b' → n ≡ n' → m ≡ m'
    → (let left : Option JoinUp = Some (Join (eui a) (eui b) n m) in let right : Option JoinUp = Some (Join (eui a') (eui b') n' m') in left ≡ right)
same_join a b a' b' n n' m m' ea eb en em = cc

same_rejoin02 : (k w w' b b' n n' : ℕ) (m m' : List ℕ) → w ≡ w' → b ≡ b' → n ≡ n' → m ≡ m'
    → (let left : Option JoinUp = Some (Rejoin02 k w (eui b) n m) in let right : Option JoinUp = Some (Rejoin02 k w' (eui b') n' m') in left ≡ right)
same_rejoin02 k w w' b b' n n' m m' ew eb en em = cc

same_rejoin1 : (a b a' b' n n' : ℕ) (m m' : List ℕ) → a ≡ a' → b ≡ b' → n ≡ n' → m ≡ m'
    → (let left : Option JoinUp = Some (Rejoin1 (eui a) (eui b) n m) in let right : Option JoinUp = Some (Rejoin1 (eui a') (eui b') n' m') in left ≡ right)
same_rejoin1 a b a' b' n n' m m' ea eb en em = cc

join_read : (e d : Eui) (n : ℕ) (m : List ℕ) → length m ≡ 4 → e.0 < 2 ^ 64 → d.0 < 2 ^ 64 → n < 2 ^ 16
    → join_up_of (join_fields e d n ++ m) ≡ Some (Join e d n m)
unfolding join_up_of
join_read e d n m h he hd hn =
    rw h (same_join _ _ _ _ _ _ _ _ (from_le_bytes-to_le_bytes_8 e.0 he) (from_le_bytes-to_le_bytes_8 d.0 hd) (from_le_bytes-to_le_bytes_2 n hn) (take_4 m h))

rejoin02_read : (k w : ℕ) (d : Eui) (n : ℕ) (m : List ℕ) → length m ≡ 4 → (k ≡ 0) ⊎ (k ≡ 2) → w < 2 ^ 24 → d.0 < 2 ^ 64 → n < 2 ^ 16
    → join_up_of (rejoin02_fields k w d n ++ m) ≡ Some (Rejoin02 k w d n m)
unfolding join_up_of
rejoin02_read k w d n m h (inl e) hw hd hn =
    subst (λ (j : ℕ). join_up_of (rejoin02_fields j w d n ++ m) ≡ Some (Rejoin02 j w d n m)) (sym e)
    (rw h (same_rejoin02 0 _ _ _ _ _ _ _ _ (three_back w hw) (from_le_bytes-to_le_bytes_8 d.0 hd) (from_le_bytes-to_le_bytes_2 n hn) (take_4 m h)))
rejoin02_read k w d n m h (inr e) hw hd hn =
    subst (λ (j : ℕ). join_up_of (rejoin02_fields j w d n ++ m) ≡ Some (Rejoin02 j w d n m)) (sym e)
    (rw h (same_rejoin02 2 _ _ _ _ _ _ _ _ (three_back w hw) (from_le_bytes-to_le_bytes_8 d.0 hd) (from_le_bytes-to_le_bytes_2 n hn) (take_4 m h)))

rejoin1_read : (e d : Eui) (n : ℕ) (m : List ℕ) → length m ≡ 4 → e.0 < 2 ^ 64 → d.0 < 2 ^ 64 → n < 2 ^ 16
    → join_up_of (rejoin1_fields e d n ++ m) ≡ Some (Rejoin1 e d n m)
unfolding join_up_of
rejoin1_read e d n m h he hd hn =
    rw h (same_rejoin1 _ _ _ _ _ _ _ _ (from_le_bytes-to_le_bytes_8 e.0 he) (from_le_bytes-to_le_bytes_8 d.0 hd) (from_le_bytes-to_le_bytes_2 n hn) (take_4 m h))

pub form_read : (frame : List ℕ) (up : JoinUp) → JoinForm frame up → join_up_of frame ≡ Some up
form_read frame (Join e d n m) f = subst (λ (s : List ℕ). join_up_of s ≡ Some (Join e d n m)) (sym f.0) (join_read e d n m f.1 f.2 f.3 f.4)
form_read frame (Rejoin02 k w d n m) f = subst (λ (s : List ℕ). join_up_of s ≡ Some (Rejoin02 k w d n m)) (sym f.0) (rejoin02_read k w d n m f.1 f.2 f.3 f.4 f.5)
form_read frame (Rejoin1 e d n m) f = subst (λ (s : List ℕ). join_up_of s ≡ Some (Rejoin1 e d n m)) (sym f.0) (rejoin1_read e d n m f.1 f.2 f.3 f.4)

join_size : (e d : Eui) (n : ℕ) (m : List ℕ) → length m ≡ 4 → length (join_fields e d n ++ m) ≡ 23
join_size e d n m h = rw h refl

rejoin02_size : (k w : ℕ) (d : Eui) (n : ℕ) (m : List ℕ) → length m ≡ 4 → length (rejoin02_fields k w d n ++ m) ≡ 19
rejoin02_size k w d n m h = rw h refl

rejoin1_size : (e d : Eui) (n : ℕ) (m : List ℕ) → length m ≡ 4 → length (rejoin1_fields e d n ++ m) ≡ 24
rejoin1_size e d n m h = rw h refl

pub form_size : (frame : List ℕ) (up : JoinUp) → JoinForm frame up → length frame ≡ frame_size up
form_size frame (Join e d n m) f = ap length f.0 ∙ join_size e d n m f.1
form_size frame (Rejoin02 k w d n m) f = ap length f.0 ∙ rejoin02_size k w d n m f.1
form_size frame (Rejoin1 e d n m) f = ap length f.0 ∙ rejoin1_size e d n m f.1

-- ---- of bytes with no join form

piece_bytes : (s : List ℕ) (i n : ℕ) → ((k : ℕ) → get_or s k 0 < 256) → (k : ℕ) → get_or (take n (drop i s)) k 0 < 256
piece_bytes s i n h k = elim (cases_lt k n) [
  | inl below ↦ rw (get_or-take n (drop i s) k 0 below, get_or-drop i s k 0) (h (i + k))
  | inr above ↦ let short : length (take n (drop i s)) ≤ k = omega (arith, length-take n (drop i s)) in rw (get_or_past (take n (drop i s)) k 0 short) (omega arith)
]

below_8 : (bs : List ℕ) → ((k : ℕ) → get_or bs k 0 < 256) → from_le_bytes w64 bs < 2 ^ 64
below_8 bs h = omega (arith, h 0, h 1, h 2, h 3, h 4, h 5, h 6, h 7)

below_2 : (bs : List ℕ) → ((k : ℕ) → get_or bs k 0 < 256) → from_le_bytes w16 bs < 2 ^ 16
below_2 bs h = omega (arith, h 0, h 1)

below_3 : (bs : List ℕ) → ((k : ℕ) → get_or bs k 0 < 256) → wire_number bs < 2 ^ 24
below_3 bs h = omega (arith, h 0, h 1, h 2)

piece_length : (s : List ℕ) (i n : ℕ) → i + n ≤ length s → length (take n (drop i s)) ≡ n
piece_length s i n h = simp (length-take, length-drop) (omega arith)

same_three : (a b c a' b' c' : ℕ) → a ≡ a' → b ≡ b' → c ≡ c' → a ∷ b ∷ c ∷ [] ≡ a' ∷ b' ∷ c' ∷ []
same_three a b c a' b' c' ea eb ec = cc

three_bytes_back : (a b c : ℕ) → a < 256 → b < 256 → c < 256 → wire_bytes (wire_number (a ∷ b ∷ c ∷ [])) ≡ a ∷ b ∷ c ∷ []
three_bytes_back a b c ha hb hc = same_three _ _ _ _ _ _ (omega arith) (omega arith) (omega arith)

wire_bytes_3 : (bs : List ℕ) → length bs ≡ 3 → ((k : ℕ) → get_or bs k 0 < 256) → wire_bytes (wire_number bs) ≡ bs
wire_bytes_3 [] len h = absurd cc
wire_bytes_3 (a ∷ []) len h = absurd cc
wire_bytes_3 (a ∷ b ∷ []) len h = absurd cc
wire_bytes_3 (a ∷ b ∷ c ∷ []) len h = three_bytes_back a b c (h 0) (h 1) (h 2)
wire_bytes_3 (a ∷ b ∷ c ∷ d ∷ bs) len h = absurd (omega (arith, len))

join_there : (s : List ℕ) → length s ≡ 23 → slice_index_or s 0 0 ≡ 0 → ((k : ℕ) → get_or s k 0 < 256) → JoinForm s (join_of s)
join_there s len first bytes =
    let e = piece_bytes s 1 8 bytes in
    let d = piece_bytes s 9 8 bytes in
    let n = piece_bytes s 17 2 bytes in (
      forms.is_join s _ _ _ _ len first
          (le_bytes_8 (take 8 (drop 1 s)) _ (piece_length s 1 8 (omega arith)) e refl)
          (le_bytes_8 (take 8 (drop 9 s)) _ (piece_length s 9 8 (omega arith)) d refl)
          (le_bytes_2 (take 2 (drop 17 s)) _ (piece_length s 17 2 (omega arith)) n refl)
          refl,
      piece_length s 19 4 (omega arith),
      below_8 (take 8 (drop 1 s)) e,
      below_8 (take 8 (drop 9 s)) d,
      below_2 (take 2 (drop 17 s)) n,
    )

rejoin02_there : (s : List ℕ) → length s ≡ 19 → slice_index_or s 0 0 ≡ 192 → (slice_index_or s 1 0 ≡ 0) ⊎ (slice_index_or s 1 0 ≡ 2) → ((k : ℕ) → get_or s k 0 < 256)
    → JoinForm s (rejoin02_of s)
rejoin02_there s len first kind bytes =
    let w = piece_bytes s 2 3 bytes in
    let d = piece_bytes s 5 8 bytes in
    let n = piece_bytes s 13 2 bytes in (
      forms.is_rejoin02 s _ _ _ _ _ len first refl
          (wire_bytes_3 (take 3 (drop 2 s)) (piece_length s 2 3 (omega arith)) w)
          (le_bytes_8 (take 8 (drop 5 s)) _ (piece_length s 5 8 (omega arith)) d refl)
          (le_bytes_2 (take 2 (drop 13 s)) _ (piece_length s 13 2 (omega arith)) n refl)
          refl,
      piece_length s 15 4 (omega arith),
      kind,
      below_3 (take 3 (drop 2 s)) w,
      below_8 (take 8 (drop 5 s)) d,
      below_2 (take 2 (drop 13 s)) n,
    )

rejoin1_there : (s : List ℕ) → length s ≡ 24 → slice_index_or s 0 0 ≡ 192 → slice_index_or s 1 0 ≡ 1 → ((k : ℕ) → get_or s k 0 < 256) → JoinForm s (rejoin1_of s)
rejoin1_there s len first second bytes =
    let e = piece_bytes s 2 8 bytes in
    let d = piece_bytes s 10 8 bytes in
    let n = piece_bytes s 18 2 bytes in (
      forms.is_rejoin1 s _ _ _ _ len first second
          (le_bytes_8 (take 8 (drop 2 s)) _ (piece_length s 2 8 (omega arith)) e refl)
          (le_bytes_8 (take 8 (drop 10 s)) _ (piece_length s 10 8 (omega arith)) d refl)
          (le_bytes_2 (take 2 (drop 18 s)) _ (piece_length s 18 2 (omega arith)) n refl)
          refl,
      piece_length s 20 4 (omega arith),
      below_8 (take 8 (drop 2 s)) e,
      below_8 (take 8 (drop 10 s)) d,
      below_2 (take 2 (drop 18 s)) n,
    )

and_both : (a b : Bool) → (a && b) ≡ true → (a ≡ true) × (b ≡ true)
and_both true b h = (refl, h)
and_both false b h = absurd cc

or_either : (a b : Bool) → (a || b) ≡ true → (a ≡ true) ⊎ (b ≡ true)
or_either true b h = inl refl
or_either false b h = inr h

kind_of : (k : ℕ) → (k == 0 || k == 2) ≡ true → (k ≡ 0) ⊎ (k ≡ 2)
kind_of k h = elim (or_either (k == 0) (k == 2) h) [ inl e ↦ inl (eqb-true _ _ e) | inr e ↦ inr (eqb-true _ _ e) ]

abbrev HasNoJoinForm : List ℕ → Type 0
HasNoJoinForm s = (up : JoinUp) → ¬ JoinForm s up

none_by : (a b c : Bool) (x y z : JoinUp) → a ≡ false → b ≡ false → c ≡ false → cond a (Some x) (cond b (Some y) (cond c (Some z) None)) ≡ None
none_by false false false x y z ha hb hc = refl
none_by true b c x y z ha hb hc = absurd cc
none_by false true c x y z ha hb hc = absurd cc
none_by false false true x y z ha hb hc = absurd cc

no_join : (s : List ℕ) → ((k : ℕ) → get_or s k 0 < 256) → HasNoJoinForm s → is_join s ≡ false
no_join s bytes none = elim (cases_Bool (is_join s)) [
  | inl is ↦
      let both = and_both (length s == 23) (slice_index s 0 == 0) is in
      absurd (none (join_of s) (join_there s (eqb-true _ _ both.0) (eqb-true _ _ both.1) bytes))
  | inr other ↦ other
]

no_rejoin02 : (s : List ℕ) → ((k : ℕ) → get_or s k 0 < 256) → HasNoJoinForm s → is_rejoin02 s ≡ false
no_rejoin02 s bytes none = elim (cases_Bool (is_rejoin02 s)) [
  | inl is ↦
      let both = and_both (length s == 19 && slice_index s 0 == 192) (slice_index s 1 == 0 || slice_index s 1 == 2) is in
      let first = and_both (length s == 19) (slice_index s 0 == 192) both.0 in
      absurd (none (rejoin02_of s) (rejoin02_there s (eqb-true _ _ first.0) (eqb-true _ _ first.1) (kind_of _ both.1) bytes))
  | inr other ↦ other
]

no_rejoin1 : (s : List ℕ) → ((k : ℕ) → get_or s k 0 < 256) → HasNoJoinForm s → is_rejoin1 s ≡ false
no_rejoin1 s bytes none = elim (cases_Bool (is_rejoin1 s)) [
  | inl is ↦
      let both = and_both (length s == 24 && slice_index s 0 == 192) (slice_index s 1 == 1) is in
      let first = and_both (length s == 24) (slice_index s 0 == 192) both.0 in
      absurd (none (rejoin1_of s) (rejoin1_there s (eqb-true _ _ first.0) (eqb-true _ _ first.1) (eqb-true _ _ both.1) bytes))
  | inr other ↦ other
]

no_form : (s : List ℕ) → ((k : ℕ) → get_or s k 0 < 256) → HasNoJoinForm s → join_up_of s ≡ None
unfolding join_up_of
no_form s bytes none = none_by (is_join s) (is_rejoin02 s) (is_rejoin1 s) _ _ _ (no_join s bytes none) (no_rejoin02 s bytes none) (no_rejoin1 s bytes none)

-- a frame of a join form has one of their sizes
sized : (s : List ℕ) (up : JoinUp) → length s ≡ frame_size up → HasJoinSize s
sized s (Join e d n m) h = inr (inl h)
sized s (Rejoin02 k w d n m) h = inl h
sized s (Rejoin1 e d n m) h = inr (inr h)

pub fault_read : (s : List ℕ) (fault : FrameFault) → ((k : ℕ) → get_or s k 0 < 256) → JoinFault s fault → join_up_of s ≡ None
fault_read s (Size got) bytes f = no_form s bytes (λ up form. f.1 (sized s up (form_size s up form)))
fault_read s Form bytes f = no_form s bytes f.1

byte_at : (s : List ℕ) → All (λ b. b < 256) s → (k : ℕ) → get_or s k 0 < 256
byte_at s bytes k = elim (cases_lt k (length s)) [ inl within ↦ All-get_or (λ b. b < 256) s k 0 within bytes | inr past ↦ rw (get_or_past s k 0 past) (omega arith) ]

pub join_frames_read : JoinFramesRead
join_frames_read = record { form = form_read; none = λ frame bytes none. no_form frame (byte_at frame bytes) none }
