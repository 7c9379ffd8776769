-- Digits need no escape in a string, and plain bytes neither.
use Rattle.std.proofs.lemmas.Bool.{eqb-false}
use Rattle.std.proofs.lemmas.Bool.Decides.{nat_tests}
use Rattle.std.proofs.Common.{◌≡◌, ◌≢◌, ◌&&◌, ◌==◌, Bool, true, false, true≢false, not, nat_le, leb-true, take, ℕ, zero, suc, ◌+◌, ◌<◌, ◌≤◌, ◌/◌, ◌%◌, List, [], ◌∷◌, ◌++◌, refl, arith, sym, ap, ◌∙◌, append_assoc, drop, length, get_or, Result, Ok, Err, OnOk, IsOk}
use Rattle.std.specs.Prelude.{slice_index}
use Rattle.std.proofs.lemmas.Grind.{flat_map-append}
use Rattle.std.proofs.lemmas.List.{at_drop_more, take-append-drop, take_more}
use Rattle.hex.specs.Hex.{IsBytes, lower_digits, encode_lower, encode_with}
use Rattle.json.specs.Print.{escape, escape_byte}

digit_escape : (n : ℕ) → n < 16 → escape_byte (slice_index lower_digits n) ≡ slice_index lower_digits n ∷ []
unfolding escape_byte
digit_escape zero h = refl
digit_escape (suc zero) h = refl
digit_escape (suc (suc zero)) h = refl
digit_escape (suc (suc (suc zero))) h = refl
digit_escape (suc (suc (suc (suc zero)))) h = refl
digit_escape (suc (suc (suc (suc (suc zero))))) h = refl
digit_escape (suc (suc (suc (suc (suc (suc zero)))))) h = refl
digit_escape (suc (suc (suc (suc (suc (suc (suc zero))))))) h = refl
digit_escape (suc (suc (suc (suc (suc (suc (suc (suc zero)))))))) h = refl
digit_escape (suc (suc (suc (suc (suc (suc (suc (suc (suc zero))))))))) h = refl
digit_escape (suc (suc (suc (suc (suc (suc (suc (suc (suc (suc zero)))))))))) h = refl
digit_escape (suc (suc (suc (suc (suc (suc (suc (suc (suc (suc (suc zero))))))))))) h = refl
digit_escape (suc (suc (suc (suc (suc (suc (suc (suc (suc (suc (suc (suc zero)))))))))))) h = refl
digit_escape (suc (suc (suc (suc (suc (suc (suc (suc (suc (suc (suc (suc (suc zero))))))))))))) h = refl
digit_escape (suc (suc (suc (suc (suc (suc (suc (suc (suc (suc (suc (suc (suc (suc zero)))))))))))))) h = refl
digit_escape (suc (suc (suc (suc (suc (suc (suc (suc (suc (suc (suc (suc (suc (suc (suc zero))))))))))))))) h = refl
digit_escape (suc (suc (suc (suc (suc (suc (suc (suc (suc (suc (suc (suc (suc (suc (suc (suc n)))))))))))))))) h = absurd (omega arith)

-- the digits of bytes stand in a string as they are
pub digits_escape : (bytes : List ℕ) → IsBytes bytes → escape (encode_lower bytes) ≡ encode_lower bytes
unfolding encode_with
digits_escape [] small = refl
digits_escape (b ∷ bytes) small =
    let byte : b < 256 = small 0 in
    let rest = digits_escape bytes (λ i. small (suc i)) in
    rw (digit_escape (b / 16) (omega arith), digit_escape (b % 16) (omega arith), rest) refl

encode-append : (xs ys : List ℕ) → encode_lower (xs ++ ys) ≡ encode_lower xs ++ encode_lower ys
unfolding encode_with
encode-append [] ys = refl
encode-append (x ∷ xs) ys = ap (λ l. slice_index lower_digits (x / 16) ∷ slice_index lower_digits (x % 16) ∷ l) (encode-append xs ys)

-- the digits of a front of the bytes, and then those of the rest
digits_in_two : (n : ℕ) (bytes : List ℕ) → escape (encode_lower bytes) ≡ escape (encode_lower (take n bytes)) ++ escape (encode_lower (drop n bytes))
digits_in_two n bytes =
    ap (λ l. escape (encode_lower l)) (sym (take-append-drop n bytes))
    ∙ ap escape (encode-append (take n bytes) (drop n bytes))
    ∙ flat_map-append escape_byte (encode_lower (take n bytes)) (encode_lower (drop n bytes))

pub of_ok : {A E P : Type 0} (r : Result A E) → IsOk r → OnOk r P → P
of_ok (Ok a) is h = h
of_ok (Err e) is h = absurd cc

pub digits_more : {A E : Type 0} (r : Result A E) (out mid new bytes front rest : List ℕ) (n : ℕ) → front ≡ take n bytes → rest ≡ drop n bytes
    → mid ≡ out ++ escape (encode_lower front) → OnOk r (new ≡ mid ++ escape (encode_lower rest)) → OnOk r (new ≡ out ++ escape (encode_lower bytes))
digits_more (Ok a) out mid new bytes front rest n f b m h =
    let digits : List ℕ → List ℕ = λ l. escape (encode_lower l) in
    h ∙ rw (m, f, b) (append_assoc out (digits (take n bytes)) (digits (drop n bytes))) ∙ ap (λ l. out ++ l) (sym (digits_in_two n bytes))
digits_more (Err e) out mid new bytes front rest n f b m h = h

plain_byte : (x : ℕ) → 32 ≤ x → x ≢ 34 → x ≢ 92 → escape_byte x ≡ x ∷ []
unfolding escape_byte
plain_byte x low quote slash = grind (arith, nat_tests)

both_hold : (a b : Bool) → (a && b) ≡ true → (a ≡ true) × (b ≡ true)
both_hold true b h = (refl, h)
both_hold false b h = absurd (true≢false (sym h))

holds_not : (b : Bool) → not b ≡ true → b ≡ false
holds_not true h = absurd (true≢false (sym h))
holds_not false h = refl

differs : (x y : ℕ) → not (x == y) ≡ true → x ≢ y
differs x y h = eqb-false x y (holds_not (x == y) h)

pub plain_step : (text : List ℕ) (i : ℕ) → i < length text → 32 ≤ get_or text i 0 → get_or text i 0 ≢ 34 → get_or text i 0 ≢ 92
    → escape text ≡ take i text ++ escape (drop i text) → escape text ≡ take (i + 1) text ++ escape (drop (i + 1) text)
plain_step text i inside low quote slash h =
    let byte = get_or text i 0 in
    let rest = escape (drop (i + 1) text) in
    let split = at_drop_more escape text i 0 inside ∙ ap (λ l. l ++ rest) (plain_byte byte low quote slash) in
    h ∙ ap (λ l. take i text ++ l) split ∙ sym (append_assoc (take i text) (byte ∷ []) rest) ∙ ap (λ l. l ++ rest) (sym (take_more text i 0 inside))

-- a byte more is plain, where all before it are
pub plain_yet : (plain : Bool) (text : List ℕ) (i : ℕ) → i < length text → (plain ≡ true → escape text ≡ take i text ++ escape (drop i text))
    → (plain && ((nat_le 32 (get_or text i 0) && not (get_or text i 0 == 34)) && not (get_or text i 0 == 92))) ≡ true → escape text ≡ take (i + 1) text ++ escape (drop (i + 1) text)
plain_yet plain text i inside before h =
    let x = get_or text i 0 in
    let all = both_hold plain _ h in
    let ends = both_hold (nat_le 32 x && not (x == 34)) (not (x == 92)) all.1 in
    let starts = both_hold (nat_le 32 x) (not (x == 34)) ends.0 in
    plain_step text i inside (leb-true 32 x starts.0) (differs x 34 starts.1) (differs x 92 ends.1) (before all.0)
