-- Each form reads its spellings again, and nothing else.
use Rattle.std.proofs.Common.{◌≡◌, ℕ, suc, ◌+◌, ◌*◌, ◌/◌, ◌%◌, ◌^◌, ◌<◌, ◌≤◌, Bool, true, false, cond, ltb, eqb, List, [], ◌∷◌, ◌++◌, length, take, drop, Option, Some, None, refl, sym, ap, subst, ◌∙◌, append_assoc, arith, inl, inr}
use Rattle.std.specs.Prelude.{IfSome}
use Rattle.std.specs.Int.{Width, w16, w32, w64, byte_len, from_be_bytes, to_be_bytes}
use Rattle.std.proofs.lemmas.Bool.{cases_lt, ltb-false, le-ltb, eqb-true, eq-eqb, ltb-true, lt-ltb}
use Rattle.std.proofs.lemmas.List.{take_at, drop_at, take-append-drop, length-append, length-take, get_or-drop, get_or-take, get_or_past}
use Rattle.std.proofs.lemmas.Nat.{be_bytes_2, be_bytes_4, be_bytes_8, from_be_bytes-to_be_bytes_2, from_be_bytes-to_be_bytes_4, from_be_bytes-to_be_bytes_8}
use Rattle.wire_ids.specs.Forms.{AreBytes, IsForm, Read, Form, Takes, and_then, number, u8, u16, u24, u32, u64, below, mark, byte_at, three_at, arm, sum, flag, flag_tag, flag_at, optional, option_tag, option_fields, option_at, exactly, counted, short, long, text_after, both, named}

pub AreBytes-drop : (n : ℕ) (bytes : List ℕ) → AreBytes bytes → AreBytes (drop n bytes)
AreBytes-drop n bytes h i = rw get_or-drop (h (n + i))

AreBytes-take : (n : ℕ) (bytes : List ℕ) → AreBytes bytes → AreBytes (take n bytes)
AreBytes-take n bytes h i =
    elim (cases_lt i n) [
      | inl lt ↦ rw (get_or-take n bytes i 0 lt) (h i)
      | inr le ↦ rw (get_or_past (take n bytes) i 0 (omega (arith, length-take n bytes))) (omega arith)
    ]

pub AreBytes-rest : (b : ℕ) (bytes : List ℕ) → AreBytes (b ∷ bytes) → AreBytes bytes
AreBytes-rest b bytes h i = h (suc i)

-- ---- tools

pub then_some : {A B : Type 0} (r : Read A) (f : A → List ℕ → Read B) (y : B × List ℕ) → and_then r f ≡ Some y → (a : A) × (rest : List ℕ) × (r ≡ Some (a, rest)) × (f a rest ≡ Some y)
then_some None f y e = absurd cc
then_some (Some x) f y e = (x.0, x.1, refl, e)

pub guard_some : {A : Type 0} (b : Bool) (x y : A) → cond b None (Some x) ≡ Some y → (b ≡ false) × (x ≡ y)
guard_some true x y e = absurd cc
guard_some false x y e = (refl, cc)

abbrev found : {A : Type 0} → A → Option A
found x = Some x

pub some_is : {A : Type 0} (x y : A) → found x ≡ found y → x ≡ y
some_is x y e = cc

-- ---- combinators

pub form-both : {A B : Type 0} (f : Form A) (g : Form B) → IsForm f → IsForm g → IsForm (both f g)
unfolding both
form-both f g hf hg = record {
  again = λ p rest fits. rw (append_assoc (f.spell p.0) (g.spell p.1) rest, hf.again p.0 (g.spell p.1 ++ rest) fits.0, hg.again p.1 rest fits.1) refl;
  takes = λ bytes p rest fits e.
      let x = then_some (f.read bytes) (λ a rest. and_then (g.read rest) (λ b more. Some ((a, b), more))) (p, rest) e in
      let y = then_some (g.read x.1) (λ b more. Some ((x.0, b), more)) (p, rest) x.3 in
      let tf = hf.takes bytes x.0 x.1 fits x.2 in
      let tg = hg.takes x.1 y.0 y.1 tf.left y.2 in
      subst (λ (q : (_ × _) × List ℕ). Takes (both f g) bytes q.0 q.1) (some_is ((x.0, y.0), y.1) (p, rest) y.3)
      (record { parts = tf.parts ∙ ap (λ (t : List ℕ). f.spell x.0 ++ t) tg.parts ∙ sym (append_assoc (f.spell x.0) (g.spell y.0) y.1); left = tg.left; fits = (tf.fits, tg.fits) });
}

pub form-named : {A B : Type 0} (f : Form A) (to : A → B) (back : B → A) → ((a : A) → back (to a) ≡ a) → ((b : B) → to (back b) ≡ b) → IsForm f → IsForm (named f to back)
unfolding named
form-named f to back ba tb hf = record {
  again = λ b rest fits. rw (hf.again (back b) rest fits) (ap (λ x. Some (x, rest)) (tb b));
  takes = λ bytes b rest fits e.
      let x = then_some (f.read bytes) (λ a more. Some (to a, more)) (b, rest) e in
      let t = hf.takes bytes x.0 x.1 fits x.2 in
      subst (λ (q : _ × List ℕ). Takes (named f to back) bytes q.0 q.1) (some_is (to x.0, x.1) (b, rest) x.3)
      (record { parts = t.parts ∙ ap (λ a. f.spell a ++ x.1) (sym (ba x.0)); left = t.left; fits = subst f.Fits (sym (ba x.0)) t.fits });
}

-- ---- numbers

pub record IsWide (w : Width) (limit : ℕ) : Type 0 where
  pub len : (n : ℕ) → length (to_be_bytes w n) ≡ byte_len w
  pub back : (bytes : List ℕ) → length bytes ≡ byte_len w → AreBytes bytes → to_be_bytes w (from_be_bytes w bytes) ≡ bytes
  pub again : (n : ℕ) → n < limit → from_be_bytes w (to_be_bytes w n) ≡ n
  pub below : (bytes : List ℕ) → AreBytes bytes → from_be_bytes w bytes < limit

form-number : (w : Width) (limit : ℕ) → IsWide w limit → IsForm (number w limit)
form-number w limit wide = record {
  again = λ n rest lt.
      let len = wide.len n in
      let long : ltb (length (to_be_bytes w n ++ rest)) (byte_len w) ≡ false = le-ltb _ _ (omega (arith, length-append (to_be_bytes w n) rest)) in
      rw (long, take_at (to_be_bytes w n) rest (byte_len w) len, drop_at (to_be_bytes w n) rest (byte_len w) len, wide.again n lt) refl;
  takes = λ bytes n rest fits e.
      let g = guard_some (ltb (length bytes) (byte_len w)) (from_be_bytes w (take (byte_len w) bytes), drop (byte_len w) bytes) (n, rest) e in
      let long : byte_len w ≤ length bytes = ltb-false _ _ g.0 in
      let n-is : from_be_bytes w (take (byte_len w) bytes) ≡ n = ap (λ (p : ℕ × List ℕ). p.0) g.1 in
      let rest-is : drop (byte_len w) bytes ≡ rest = ap (λ (p : ℕ × List ℕ). p.1) g.1 in
      let front : to_be_bytes w n ≡ take (byte_len w) bytes = rw (← n-is) (wide.back (take (byte_len w) bytes) (omega (arith, length-take (byte_len w) bytes)) (AreBytes-take (byte_len w) bytes fits)) in
      record {
        parts = rw (front, ← rest-is) (sym (take-append-drop (byte_len w) bytes));
        left = rw (← rest-is) (AreBytes-drop (byte_len w) bytes fits);
        fits = rw (← n-is) (wide.below (take (byte_len w) bytes) (AreBytes-take (byte_len w) bytes fits));
      };
}

pub form-u16 : IsForm u16
unfolding u16
form-u16 = form-number w16 (2 ^ 16) (record {
  len = λ n. refl;
  back = λ bytes len fits. be_bytes_2 bytes _ len fits refl;
  again = λ n lt. from_be_bytes-to_be_bytes_2 n lt;
  below = λ bytes fits. omega (arith, fits 0, fits 1);
})

pub form-u32 : IsForm u32
unfolding u32
form-u32 = form-number w32 (2 ^ 32) (record {
  len = λ n. refl;
  back = λ bytes len fits. be_bytes_4 bytes _ len fits refl;
  again = λ n lt. from_be_bytes-to_be_bytes_4 n lt;
  below = λ bytes fits. omega (arith, fits 0, fits 1, fits 2, fits 3);
})

pub form-u64 : IsForm u64
unfolding u64
form-u64 = form-number w64 (2 ^ 64) (record {
  len = λ n. refl;
  back = λ bytes len fits. be_bytes_8 bytes _ len fits refl;
  again = λ n lt. from_be_bytes-to_be_bytes_8 n lt;
  below = λ bytes fits. omega (arith, fits 0, fits 1, fits 2, fits 3, fits 4, fits 5, fits 6, fits 7);
})

-- a reader by cases takes what it returns
byte_takes : (bytes : List ℕ) (n : ℕ) (rest : List ℕ) → AreBytes bytes → byte_at bytes ≡ Some (n, rest) → (bytes ≡ n ∷ rest) × AreBytes rest × (n < 256)
byte_takes [] n rest fits e = absurd cc
byte_takes (b ∷ bytes) n rest fits e = subst (λ (q : ℕ × List ℕ). (b ∷ bytes ≡ q.0 ∷ q.1) × AreBytes q.1 × (q.0 < 256)) (some_is (b, bytes) (n, rest) e) (refl, AreBytes-rest b bytes fits, fits 0)

pub form-u8 : IsForm u8
unfolding u8
form-u8 = record {
  again = λ n rest lt. refl;
  takes = λ bytes n rest fits e. let t = byte_takes bytes n rest fits e in record { parts = t.0; left = t.1; fits = t.2 };
}

three_takes : (bytes : List ℕ) (n : ℕ) (rest : List ℕ) → AreBytes bytes → three_at bytes ≡ Some (n, rest) → (bytes ≡ n / 65536 ∷ n / 256 % 256 ∷ n % 256 ∷ rest) × AreBytes rest × (n < 2 ^ 24)
three_takes [] n rest fits e = absurd cc
three_takes (a ∷ []) n rest fits e = absurd cc
three_takes (a ∷ b ∷ []) n rest fits e = absurd cc
three_takes (a ∷ b ∷ c ∷ bytes) n rest fits e =
    let h0 : a < 256 = fits 0 in
    let h1 : b < 256 = fits 1 in
    let h2 : c < 256 = fits 2 in
    let m : ℕ = a * 65536 + b * 256 + c in
    let e0 : m / 65536 ≡ a = omega arith in
    let e1 : m / 256 % 256 ≡ b = omega arith in
    let e2 : m % 256 ≡ c = omega arith in
    let parts : a ∷ b ∷ c ∷ bytes ≡ m / 65536 ∷ m / 256 % 256 ∷ m % 256 ∷ bytes = rw (e0, e1, e2) refl in
    subst (λ (q : ℕ × List ℕ). (a ∷ b ∷ c ∷ bytes ≡ q.0 / 65536 ∷ q.0 / 256 % 256 ∷ q.0 % 256 ∷ q.1) × AreBytes q.1 × (q.0 < 2 ^ 24)) (some_is (m, bytes) (n, rest) e) (parts, (λ i. fits (suc (suc (suc i)))), omega arith)

pub form-u24 : IsForm u24
unfolding u24
form-u24 = record {
  again = λ n rest lt. let e : n / 65536 * 65536 + n / 256 % 256 * 256 + n % 256 ≡ n = omega arith in ap (λ (m : ℕ). found (m, rest)) e;
  takes = λ bytes n rest fits e. let t = three_takes bytes n rest fits e in record { parts = t.0; left = t.1; fits = t.2 };
}

-- ---- cases

-- what is taken behind the byte that names a case
pub record Taken {A : Type 0} (tag : A → ℕ) (fields : A → List ℕ) (Fits : A → Type 0) (first : ℕ) (bytes : List ℕ) (a : A) (rest : List ℕ) : Type 0 where
  pub named_by : first ≡ tag a
  pub parts : bytes ≡ fields a ++ rest
  pub left : AreBytes rest
  pub fits : Fits a

-- which way a test went
pub by_test : {A : Type 0} {P : Type 0} (b : Bool) (x y z : A) → (b ≡ true → x ≡ z → P) → (b ≡ false → y ≡ z → P) → cond b x y ≡ z → P
by_test true x y z hit miss e = hit refl e
by_test false x y z hit miss e = miss refl e

pub taken_arm : {A B : Type 0} (tag : B → ℕ) (fields : B → List ℕ) (Fits : B → Type 0) (f : Form A) (make : A → B) (k : ℕ) → ((a : A) → k ≡ tag (make a)) → ((a : A) → f.spell a ≡ fields (make a)) → ((a : A) → f.Fits a → Fits (make a)) → IsForm f
    → (first : ℕ) (bytes : List ℕ) (b : B) (rest : List ℕ) → AreBytes bytes → eqb first k ≡ true → arm f make bytes ≡ Some (b, rest) → Taken tag fields Fits first bytes b rest
taken_arm {A} {B} tag fields Fits f make k tags spells fit h first bytes b rest is t same =
    let x = then_some (f.read bytes) (λ a more. Some (make a, more)) (b, rest) same in
    let took = h.takes bytes x.0 x.1 is x.2 in
    subst (λ (q : B × List ℕ). Taken tag fields Fits first bytes q.0 q.1) (some_is (make x.0, x.1) (b, rest) x.3)
    (record { named_by = eqb-true first k t ∙ tags x.0; parts = took.parts ∙ ap (λ (w : List ℕ). w ++ x.1) (spells x.0); left = took.left; fits = fit x.0 took.fits })

abbrev found_at : {B : Type 0} → B → List ℕ → Read B
found_at b rest = Some (b, rest)

-- a case with no fields
pub taken_bare : {B : Type 0} (tag : B → ℕ) (fields : B → List ℕ) (Fits : B → Type 0) (case : B) (k : ℕ) → k ≡ tag case → [] ≡ fields case → Fits case
    → (first : ℕ) (bytes : List ℕ) (b : B) (rest : List ℕ) → AreBytes bytes → eqb first k ≡ true → found_at case bytes ≡ found_at b rest → Taken tag fields Fits first bytes b rest
taken_bare {B} tag fields Fits case k tags spells fit first bytes b rest is t same =
    subst (λ (q : B × List ℕ). Taken tag fields Fits first bytes q.0 q.1) (some_is (case, bytes) (b, rest) same)
    (record { named_by = eqb-true first k t ∙ tags; parts = ap (λ (w : List ℕ). w ++ bytes) spells; left = is; fits = fit })

pub arm_again : {A B : Type 0} (f : Form A) (make : A → B) → IsForm f → (a : A) (rest : List ℕ) → f.Fits a → arm f make (f.spell a ++ rest) ≡ Some (make a, rest)
arm_again f make h a rest fits = rw (h.again a rest fits) refl

pub u8_again : (n : ℕ) (rest : List ℕ) → u8.read (n ∷ rest) ≡ Some (n, rest)
unfolding u8
u8_again n rest = refl

pub u8_front : (n : ℕ) (rest : List ℕ) → u8.spell n ++ rest ≡ n ∷ rest
unfolding u8
u8_front n rest = refl

pub form-sum : {A : Type 0} (tag : A → ℕ) (fields : A → List ℕ) (at : ℕ → List ℕ → Read A) (Fits : A → Type 0)
    → ((a : A) (rest : List ℕ) → Fits a → at (tag a) (fields a ++ rest) ≡ Some (a, rest))
    → ((first : ℕ) (bytes : List ℕ) (a : A) (rest : List ℕ) → AreBytes bytes → at first bytes ≡ Some (a, rest) → Taken tag fields Fits first bytes a rest)
    → IsForm (sum tag fields at Fits)
unfolding sum
form-sum tag fields at Fits again takes = record {
  again = λ a rest fits. rw (u8_again (tag a) (fields a ++ rest)) (again a rest fits);
  takes = λ bytes a rest is e.
      let x = then_some (u8.read bytes) at (a, rest) e in
      let t = form-u8.takes bytes x.0 x.1 is x.2 in
      let k = takes x.0 x.1 a rest t.left x.3 in
      record { parts = t.parts ∙ u8_front x.0 x.1 ∙ ap (λ (w : List ℕ). x.0 ∷ w) k.parts ∙ ap (λ (n : ℕ). n ∷ (fields a ++ rest)) k.named_by; left = k.left; fits = k.fits };
}

flag_again : (b : Bool) (rest : List ℕ) → flag_at (flag_tag b) rest ≡ Some (b, rest)
flag_again true rest = refl
flag_again false rest = refl

pub form-flag : IsForm flag
unfolding flag
form-flag = form-sum flag_tag (λ b. []) flag_at (λ b. Unit {0}) (λ b rest _. flag_again b rest) (λ first bytes b rest is.
    by_test (eqb first 0) _ _ _ (taken_bare flag_tag (λ _. []) (λ _. Unit {0}) false 0 refl refl tt first bytes b rest is) (λ _.
    by_test (eqb first 1) _ _ _ (taken_bare flag_tag (λ _. []) (λ _. Unit {0}) true 1 refl refl tt first bytes b rest is) (λ _ none. absurd cc)))

option_again : {A : Type 0} (f : Form A) → IsForm f → (o : Option A) (rest : List ℕ) → IfSome o f.Fits → option_at f (option_tag o) (option_fields f o ++ rest) ≡ Some (o, rest)
option_again f h None rest fits = refl
option_again f h (Some a) rest fits = arm_again f Some h a rest fits

pub form-optional : {A : Type 0} (f : Form A) → IsForm f → IsForm (optional f)
unfolding optional
form-optional f h = form-sum option_tag (option_fields f) (option_at f) (λ o. IfSome o f.Fits) (option_again f h) (λ first bytes o rest is.
    by_test (eqb first 0) _ _ _ (taken_bare option_tag (option_fields f) (λ o. IfSome o f.Fits) None 0 refl refl tt first bytes o rest is) (λ _.
    by_test (eqb first 1) _ _ _ (taken_arm option_tag (option_fields f) (λ o. IfSome o f.Fits) f Some 1 (λ _. refl) (λ _. refl) (λ _ k. k) h first bytes o rest is) (λ _ none. absurd cc)))

-- ---- bytes of a kind

if_some : {A : Type 0} (b : Bool) (x y : A) → cond b (Some x) None ≡ Some y → (b ≡ true) × (x ≡ y)
if_some true x y e = (refl, cc)
if_some false x y e = absurd cc

pub form-below : (limit : ℕ) → IsForm (below limit)
unfolding below
form-below limit = record {
  again = λ n rest lt. rw (u8_again n rest, lt-ltb n limit lt) refl;
  takes = λ bytes n rest is e.
      let x = then_some (u8.read bytes) (λ n more. cond (ltb n limit) (Some (n, more)) None) (n, rest) e in
      let t = form-u8.takes bytes x.0 x.1 is x.2 in
      let g = if_some (ltb x.0 limit) (x.0, x.1) (n, rest) x.3 in
      subst (λ (q : ℕ × List ℕ). Takes (below limit) bytes q.0 q.1) g.1 (record { parts = t.parts ∙ u8_front x.0 x.1; left = t.left; fits = ltb-true x.0 limit g.0 });
}

abbrev Mark : Type 0
Mark = Unit {0}

pub form-mark : (byte : ℕ) → IsForm (mark byte)
unfolding mark
form-mark byte = record {
  again = λ n rest _. rw (u8_again byte rest, eq-eqb byte byte refl) refl;
  takes = λ bytes n rest is e.
      let x = then_some (u8.read bytes) (λ k more. cond (eqb k byte) (Some (tt, more)) None) (n, rest) e in
      let t = form-u8.takes bytes x.0 x.1 is x.2 in
      let g = if_some (eqb x.0 byte) (tt, x.1) (n, rest) x.3 in
      subst (λ (q : Mark × List ℕ). Takes (mark byte) bytes q.0 q.1) g.1
      (record { parts = t.parts ∙ u8_front x.0 x.1 ∙ ap (λ (k : ℕ). k ∷ x.1) (eqb-true x.0 byte g.0); left = t.left; fits = tt });
}

-- ---- texts

pub form-exactly : (n : ℕ) → IsForm (exactly n)
unfolding exactly
form-exactly n = record {
  again = λ text rest len.
      let long : ltb (length (text ++ rest)) n ≡ false = le-ltb _ _ (omega (arith, length-append text rest)) in
      rw (long, take_at text rest n len, drop_at text rest n len) refl;
  takes = λ bytes text rest is e.
      let g = guard_some (ltb (length bytes) n) (take n bytes, drop n bytes) (text, rest) e in
      let long : n ≤ length bytes = ltb-false _ _ g.0 in
      let len : length (take n bytes) ≡ n = omega (arith, length-take n bytes) in
      subst (λ (q : List ℕ × List ℕ). Takes (exactly n) bytes q.0 q.1) g.1
      (record { parts = sym (take-append-drop n bytes); left = AreBytes-drop n bytes is; fits = len });
}

form-counted : (count : Form ℕ) (limit : ℕ) → ((n : ℕ) → n < limit → count.Fits n) → ((n : ℕ) → count.Fits n → n < limit) → IsForm count → IsForm (counted count limit)
form-counted count limit fit small h = record {
  again = λ text rest lt.
      let long : ltb (length (text ++ rest)) (length text) ≡ false = le-ltb _ _ (omega (arith, length-append text rest)) in
      ap (λ (bytes : List ℕ). and_then (count.read bytes) text_after) (append_assoc (count.spell (length text)) text rest)
      ∙ rw (h.again (length text) (text ++ rest) (fit (length text) lt), long, take_at text rest (length text) refl, drop_at text rest (length text) refl) refl;
  takes = λ bytes text rest is e.
      let x = then_some (count.read bytes) text_after (text, rest) e in
      let t = h.takes bytes x.0 x.1 is x.2 in
      let g = guard_some (ltb (length x.1) x.0) (take x.0 x.1, drop x.0 x.1) (text, rest) x.3 in
      let long : x.0 ≤ length x.1 = ltb-false _ _ g.0 in
      let len : length (take x.0 x.1) ≡ x.0 = omega (arith, length-take x.0 x.1) in
      let whole : bytes ≡ (count.spell (length (take x.0 x.1)) ++ take x.0 x.1) ++ drop x.0 x.1 =
      t.parts ∙ ap (λ (w : List ℕ). count.spell x.0 ++ w) (sym (take-append-drop x.0 x.1)) ∙ sym (append_assoc (count.spell x.0) (take x.0 x.1) (drop x.0 x.1))
      ∙ ap (λ (k : ℕ). (count.spell k ++ take x.0 x.1) ++ drop x.0 x.1) (sym len) in
      subst (λ (q : List ℕ × List ℕ). Takes (counted count limit) bytes q.0 q.1) g.1
      (record { parts = whole; left = AreBytes-drop x.0 x.1 t.left; fits = subst (λ (k : ℕ). k < limit) (sym len) (small x.0 t.fits) });
}

u16_fits : (n : ℕ) → n < 2 ^ 16 → u16.Fits n
unfolding u16
u16_fits n h = h

u16_small : (n : ℕ) → u16.Fits n → n < 2 ^ 16
unfolding u16
u16_small n h = h

pub form-short : IsForm short
unfolding short
form-short = form-counted u16 (2 ^ 16) u16_fits u16_small form-u16

u32_fits : (n : ℕ) → n < 2 ^ 32 → u32.Fits n
unfolding u32
u32_fits n h = h

u32_small : (n : ℕ) → u32.Fits n → n < 2 ^ 32
unfolding u32
u32_small n h = h

pub form-long : IsForm long
unfolding long
form-long = form-counted u32 (2 ^ 32) u32_fits u32_small form-u32
