-- What is read of a tables text.
use Rattle.std.proofs.Common.{◌≡◌, ◌<◌, ◌≤◌, ℕ, ◌+◌, List, [], ◌++◌, length, take, Option, Some, None, Result, Err, Bool, cond, codes, sym, ◌∙◌, ap, subst, arith, inl, inr}
use Rattle.std.proofs.lemmas.Bool.{cases_lt, lt-ltb}
use Rattle.std.proofs.lemmas.List.{take-append-le, take_all, append-nil, length-take}
use Rattle.std.specs.Io.KnownBytes.{Consumes, IsAtEnd}
use Rattle.agreements.specs.Walk.{Config, document_of, tables_at, tables_of}
use Rattle.agreements.specs.declared.fault.TablesFault.TheVariants.{TooMany}
use Rattle.agreements.specs.declared.fault.TablesFault.{TablesFault}
use Rattle.desk_top.specs.Text.{ReadsText, ReadsTables, text_room}
use Rattle.line_reader.proofs.Hearings.{Consumes_then}

take_front : (n : ℕ) (text rest : List ℕ) → length text ≡ n → take n (text ++ rest) ≡ text
take_front n text rest e = take-append-le n text rest (omega (arith, e)) ∙ take_all n text (omega (arith, e))

-- read to the end
pub text_at_end : (most : ℕ) (a b : Option (List ℕ)) (text : List ℕ) → Consumes a b text → IsAtEnd b → length text ≤ most → ReadsText most a text
text_at_end most None b text p e h = h
text_at_end most (Some a) None text p e h = absurd p
text_at_end most (Some a) (Some b) text p e h =
    let whole : a ≡ text = p ∙ ap (λ (s : List ℕ). text ++ s) e ∙ append-nil text in
    sym (ap (take most) whole ∙ take_all most text h)

-- read to as many bytes as are wanted
pub text_full : (most : ℕ) (a b : Option (List ℕ)) (text : List ℕ) → Consumes a b text → length text ≡ most → ReadsText most a text
text_full most None b text p h = omega (arith, h)
text_full most (Some a) None text p h = absurd p
text_full most (Some a) (Some b) text p h = sym (ap (take most) p ∙ take_front most text b h)

-- a read that gave nothing
pub read_none : (a b c : Option (List ℕ)) (text piece : List ℕ) (n : ℕ) → Consumes a b text → Consumes b c (take n piece) → n ≡ 0 → Consumes a c text
read_none a b c text piece n p q e = subst (λ (s : List ℕ). Consumes a c s) (append-nil text) (Consumes_then a b c text [] p (subst (λ (k : ℕ). Consumes b c (take k piece)) e q))

-- a front that is too long
still_long : (n : ℕ) (bytes : List ℕ) → n < length bytes → n < length (take (n + 1) bytes)
still_long n bytes l = rw length-take (omega (arith, l))

-- a text that is too long is refused for that
pub too_long : (text : List ℕ) → 4194304 < length text → tables_of text ≡ Err (TooMany (codes "text") 4194304)
unfolding tables_of
too_long text l = ap (λ (t : Bool). cond t (Err (TooMany (codes "text") 4194304)) (tables_at (document_of text))) (lt-ltb 4194304 (length text) l)

-- the front says the same as the whole
pub tables_of_front : (bytes : List ℕ) → tables_of (take 4194305 bytes) ≡ tables_of bytes
tables_of_front bytes = elim (cases_lt 4194304 (length bytes)) [ inl l ↦ too_long (take 4194305 bytes) (still_long 4194304 bytes l) ∙ sym (too_long bytes l) | inr l ↦ ap tables_of (take_all 4194305 bytes (omega (arith, l))) ]

pub tables_read : (a : Option (List ℕ)) (text : List ℕ) (said : Result Config TablesFault) → ReadsText text_room a text → tables_of text ≡ said → ReadsTables a said
tables_read None text said p e = (text, p, e)
tables_read (Some bytes) text said p e = sym (tables_of_front bytes) ∙ ap tables_of (sym p) ∙ e
