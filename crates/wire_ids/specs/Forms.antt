-- Forms of fields, of which records in bytes are made: how a value is spelled, how it is read from the front of bytes, and which
-- values have a spelling. Numbers have their highest byte first.
use Rattle.std.specs.Prelude.{◌≡◌, ℕ, ◌+◌, ◌*◌, ◌/◌, ◌%◌, ◌<◌, ◌^◌, ◌==◌, List, [], ◌∷◌, ◌++◌, length, take, drop, slice_index, Option, Some, None, Bool, true, false, nat_lt, if◌then◌else◌, IfSome}
use Rattle.std.specs.Int.{Width, w16, w32, w64, byte_len, from_be_bytes, to_be_bytes}

-- a value, and the bytes after it
abbrev pub Read : Type 0 → Type 0
Read A = Option (A × List ℕ)

pub record Form (A : Type 0) : Type 1 where
  pub spell : A → List ℕ
  pub read : List ℕ → Read A
  pub Fits : A → Type 0

abbrev pub and_then : {A B : Type 0} → Read A → (A → List ℕ → Read B) → Read B
and_then None f = None
and_then (Some x) f = f x.0 x.1

-- ---- what a form is to be

abbrev pub AreBytes : List ℕ → Type 0
AreBytes bytes = (i : ℕ) → slice_index bytes i < 256

-- what was read stands at the front, spelled as it is to be, and what is left are bytes
pub record Takes {A : Type 0} (f : Form A) (bytes : List ℕ) (a : A) (rest : List ℕ) : Type 0 where
  pub parts : bytes ≡ f.spell a ++ rest
  pub left : AreBytes rest
  pub fits : f.Fits a

-- a spelling is read again, whatever follows it, and nothing else is read as its value
pub record IsForm {A : Type 0} (f : Form A) : Type 0 where
  pub again : (a : A) (rest : List ℕ) → f.Fits a → f.read (f.spell a ++ rest) ≡ Some (a, rest)
  pub takes : (bytes : List ℕ) (a : A) (rest : List ℕ) → AreBytes bytes → f.read bytes ≡ Some (a, rest) → Takes f bytes a rest

-- ---- numbers

abbrev pub number : Width → ℕ → Form ℕ
number w limit = record {
  spell = to_be_bytes w;
  read = λ bytes. if nat_lt (length bytes) (byte_len w) then None else Some (from_be_bytes w (take (byte_len w) bytes), drop (byte_len w) bytes);
  Fits = λ n. n < limit;
}

unfoldable pub u16 : Form ℕ
u16 = number w16 (2 ^ 16)

unfoldable pub u32 : Form ℕ
u32 = number w32 (2 ^ 32)

unfoldable pub u64 : Form ℕ
u64 = number w64 (2 ^ 64)

abbrev pub byte_at : List ℕ → Read ℕ
byte_at [] = None
byte_at (b ∷ bytes) = Some (b, bytes)

unfoldable pub u8 : Form ℕ
u8 = record { spell = λ n. n ∷ []; read = byte_at; Fits = λ n. n < 256 }

abbrev pub three_at : List ℕ → Read ℕ
three_at (a ∷ b ∷ c ∷ bytes) = Some (a * 65536 + b * 256 + c, bytes)
three_at _ = None

unfoldable pub u24 : Form ℕ
u24 = record { spell = λ n. n / 65536 ∷ n / 256 % 256 ∷ n % 256 ∷ []; read = three_at; Fits = λ n. n < 2 ^ 24 }

-- a byte that is a number below a limit
unfoldable pub below : ℕ → Form ℕ
below limit = record {
  spell = λ n. n ∷ [];
  read = λ bytes. and_then (u8.read bytes) (λ n rest. if nat_lt n limit then Some (n, rest) else None);
  Fits = λ n. n < limit;
}

-- a byte that is always the same
unfoldable pub mark : ℕ → Form (Unit {0})
mark byte = record {
  spell = λ _. byte ∷ [];
  read = λ bytes. and_then (u8.read bytes) (λ n rest. if n == byte then Some (tt, rest) else None);
  Fits = λ _. Unit {0};
}

-- ---- cases

-- a case of something larger
abbrev pub arm : {A B : Type 0} → Form A → (A → B) → List ℕ → Read B
arm f make bytes = and_then (f.read bytes) (λ a rest. Some (make a, rest))

-- a value by cases: the byte that names its case, and the fields of that case
unfoldable pub sum : {A : Type 0} → (A → ℕ) → (A → List ℕ) → (ℕ → List ℕ → Read A) → (A → Type 0) → Form A
sum tag fields at Fits = record { spell = λ a. tag a ∷ fields a; read = λ bytes. and_then (u8.read bytes) at; Fits = Fits }

abbrev pub flag_tag : Bool → ℕ
flag_tag b = if b then 1 else 0

abbrev pub flag_at : ℕ → List ℕ → Read Bool
flag_at tag bytes = if tag == 0 then Some (false, bytes) else (if tag == 1 then Some (true, bytes) else None)

-- 0, or 1 for true
unfoldable pub flag : Form Bool
flag = sum flag_tag (λ b. []) flag_at (λ b. Unit {0})

abbrev pub option_tag : {A : Type 0} → Option A → ℕ
option_tag None = 0
option_tag (Some a) = 1

abbrev pub option_fields : {A : Type 0} → Form A → Option A → List ℕ
option_fields f None = []
option_fields f (Some a) = f.spell a

abbrev pub option_at : {A : Type 0} → Form A → ℕ → List ℕ → Read (Option A)
option_at f tag bytes = if tag == 0 then Some (None, bytes) else (if tag == 1 then arm f Some bytes else None)

-- 0, or 1 and the value
unfoldable pub optional : {A : Type 0} → Form A → Form (Option A)
optional f = sum option_tag (option_fields f) (option_at f) (λ o. IfSome o f.Fits)

-- ---- texts

abbrev pub text_after : ℕ → List ℕ → Read (List ℕ)
text_after n bytes = if nat_lt (length bytes) n then None else Some (take n bytes, drop n bytes)

-- so many bytes
unfoldable pub exactly : ℕ → Form (List ℕ)
exactly n = record { spell = λ text. text; read = text_after n; Fits = λ text. length text ≡ n }

-- a length, and so many bytes
abbrev pub counted : Form ℕ → ℕ → Form (List ℕ)
counted count limit = record {
  spell = λ text. count.spell (length text) ++ text;
  read = λ bytes. and_then (count.read bytes) text_after;
  Fits = λ text. length text < limit;
}

-- a text behind a length of two bytes
unfoldable pub short : Form (List ℕ)
short = counted u16 (2 ^ 16)

-- a text behind a length of four bytes
unfoldable pub long : Form (List ℕ)
long = counted u32 (2 ^ 32)

-- ---- one after another, and under another name

unfoldable pub both : {A B : Type 0} → Form A → Form B → Form (A × B)
both f g = record {
  spell = λ p. f.spell p.0 ++ g.spell p.1;
  read = λ bytes. and_then (f.read bytes) (λ a rest. and_then (g.read rest) (λ b more. Some ((a, b), more)));
  Fits = λ p. f.Fits p.0 × g.Fits p.1;
}

unfoldable pub named : {A B : Type 0} → Form A → (A → B) → (B → A) → Form B
named f to back = record {
  spell = λ b. f.spell (back b);
  read = λ bytes. and_then (f.read bytes) (λ a rest. Some (to a, rest));
  Fits = λ b. f.Fits (back b);
}
