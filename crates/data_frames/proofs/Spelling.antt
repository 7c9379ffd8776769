-- An uplink by the pieces of its bytes, and that it has one reading.
use Rattle.std.proofs.Common.{◌≡◌, ℕ, suc, add-one, ◌+◌, ◌-◌, ◌*◌, ◌/◌, ◌%◌, ◌<◌, ◌≤◌, ◌^◌, Bool, true, false, eqb, List, [], ◌∷◌, ◌++◌, length, take, drop, slice_index_or, Option, Some, None, refl, sym, subst, ◌∙◌, ap, arith, inl, inr, append_assoc, length-append}
use Rattle.std.proofs.lemmas.Bool.{cases_eq}
use Rattle.std.proofs.lemmas.Bool.Decides.{nat_tests}
use Rattle.std.proofs.lemmas.List.{take-append-drop, drop-drop, take_at, drop_at}
use Rattle.std.proofs.Math.Seq.{drop-cons}
use Rattle.std.proofs.lemmas.Nat.{from_le_bytes-to_le_bytes_2, from_le_bytes-to_le_bytes_4}
use Rattle.std.specs.Int.{w16, w32, to_le_bytes, from_le_bytes}
use Rattle.wire_ids.specs.declared.address.DevAddr.{DevAddr}
use Rattle.data_frames.specs.DataForms.{DataForm, Uplink, bit, data_fault, is_data_sized, is_data_up, message, port_and_payload, up_fctrl, up_message, up_mhdr}

-- ---- pieces

-- a list is its piece at a place, and the rest
piece : (i n k : ℕ) (s x : List ℕ) → k ≡ i + n → x ≡ take n (drop i s) → x ++ drop k s ≡ drop i s
piece i n k s x e h = rw (h, e, ← drop-drop) (take-append-drop n (drop i s))

byte_at : (s : List ℕ) (i k b : ℕ) → i < length s → k ≡ i + 1 → slice_index_or s i 0 ≡ b → b ∷ drop k s ≡ drop i s
byte_at s i k b h e is = rw (e, add-one i) (ap (λ (n : ℕ). n ∷ drop (suc i) s) (sym is) ∙ sym (drop-cons s i 0 h))

spelled_at : (s : List ℕ) (mhdr : ℕ) (addr : DevAddr) (fctrl wire : ℕ) (fopts : List ℕ) (port : Option ℕ) (payload mic : List ℕ) (at end : ℕ)
    → 8 ≤ at → at ≤ end → end + 4 ≡ length s
    → slice_index_or s 0 0 ≡ mhdr → to_le_bytes w32 addr.0 ≡ take 4 (drop 1 s) → slice_index_or s 5 0 ≡ fctrl → to_le_bytes w16 wire ≡ take 2 (drop 6 s)
    → fopts ≡ take (at - 8) (drop 8 s) → port_and_payload port payload ≡ take (end - at) (drop at s) → mic ≡ drop end s
    → s ≡ message mhdr addr fctrl wire fopts port payload ++ mic
spelled_at s mhdr addr fctrl wire fopts port payload mic at end low high len first ea fifth ew ef ep em =
    let rest : List ℕ = port_and_payload port payload in
    let tail : (fopts ++ rest) ++ mic ≡ drop 8 s =
    append_assoc fopts rest mic
    ∙ ap (λ (t : List ℕ). fopts ++ (rest ++ t)) em
    ∙ ap (λ (t : List ℕ). fopts ++ t) (piece at (end - at) end s rest (omega arith) ep)
    ∙ piece 8 (at - 8) at s fopts (omega arith) ef in
    sym (
    ap (λ (t : List ℕ). mhdr ∷ to_le_bytes w32 addr.0 ++ (fctrl ∷ to_le_bytes w16 wire ++ t)) tail
    ∙ ap (λ (t : List ℕ). mhdr ∷ to_le_bytes w32 addr.0 ++ (fctrl ∷ t)) (piece 6 2 8 s _ refl ew)
    ∙ ap (λ (t : List ℕ). mhdr ∷ to_le_bytes w32 addr.0 ++ t) (byte_at s 5 6 fctrl (omega arith) refl fifth)
    ∙ ap (λ (t : List ℕ). mhdr ∷ t) (piece 1 4 5 s _ refl ea)
    ∙ byte_at s 0 1 mhdr (omega arith) refl first
    )

-- ---- FCtrl

bit_low : (b : Bool) → bit b 1 ≤ 1
bit_low true = omega arith
bit_low false = omega arith

bit_weight : (b : Bool) (w : ℕ) → bit b w ≡ bit b 1 * w
bit_weight true w = omega arith
bit_weight false w = omega arith

bit_is : (b : Bool) → eqb (bit b 1) 1 ≡ b
bit_is true = refl
bit_is false = refl

-- a bit that was read
bit_read : (q w : ℕ) → q ≤ 1 → bit (eqb q 1) w ≡ q * w
bit_read q w h =
    elim (cases_eq q 1) [
      | inl one ↦ rw one (omega arith)
      | inr other ↦ let none : q ≡ 0 = omega arith in let zero : 0 ≡ 0 * w = omega arith in rw none zero
    ]

-- FCtrl is its bits, and FOptsLen
fctrl_read : (c : ℕ) → c < 256
    → bit (eqb (c / 128) 1) 128 + bit (eqb (c / 64 % 2) 1) 64 + bit (eqb (c / 32 % 2) 1) 32 + bit (eqb (c / 16 % 2) 1) 16 + c % 16 ≡ c
fctrl_read c h =
    let a : c / 128 ≤ 1 = omega arith in
    let r : c / 64 % 2 ≤ 1 = omega arith in
    let k : c / 32 % 2 ≤ 1 = omega arith in
    let b : c / 16 % 2 ≤ 1 = omega arith in
    rw (bit_read (c / 128) 128 a, bit_read (c / 64 % 2) 64 r, bit_read (c / 32 % 2) 32 k, bit_read (c / 16 % 2) 16 b) (omega arith)

pub fctrl_of : (c : ℕ) (fopts : List ℕ) → c < 256 → length fopts ≡ c % 16
    → c ≡ bit (eqb (c / 128) 1) 128 + bit (eqb (c / 64 % 2) 1) 64 + bit (eqb (c / 32 % 2) 1) 32 + bit (eqb (c / 16 % 2) 1) 16 + length fopts
fctrl_of c fopts h e = rw e (sym (fctrl_read c h))

-- what FCtrl shows
record Shows (a r k b : Bool) (n f : ℕ) : Type 0 where
  pub adr : eqb (f / 128) 1 ≡ a
  pub adr_ack_req : eqb (f / 64 % 2) 1 ≡ r
  pub ack : eqb (f / 32 % 2) 1 ≡ k
  pub class_b : eqb (f / 16 % 2) 1 ≡ b
  pub len : f % 16 ≡ n

shows : (a r k b : Bool) (n : ℕ) → n ≤ 15 → Shows a r k b n (bit a 128 + bit r 64 + bit k 32 + bit b 16 + n)
shows a r k b n h =
    let al = bit_low a in
    let rl = bit_low r in
    let kl = bit_low k in
    let bl = bit_low b in
    let f : ℕ = bit a 1 * 128 + bit r 1 * 64 + bit k 1 * 32 + bit b 1 * 16 + n in
    let ea : f / 128 ≡ bit a 1 = omega arith in
    let er : f / 64 % 2 ≡ bit r 1 = omega arith in
    let ek : f / 32 % 2 ≡ bit k 1 = omega arith in
    let eb : f / 16 % 2 ≡ bit b 1 = omega arith in
    let en : f % 16 ≡ n = omega arith in
    rw (bit_weight a 128, bit_weight r 64, bit_weight k 32, bit_weight b 16)
    (record {
      adr = ap (λ (x : ℕ). eqb x 1) ea ∙ bit_is a;
      adr_ack_req = ap (λ (x : ℕ). eqb x 1) er ∙ bit_is r;
      ack = ap (λ (x : ℕ). eqb x 1) ek ∙ bit_is k;
      class_b = ap (λ (x : ℕ). eqb x 1) eb ∙ bit_is b;
      len = en;
    })

-- ---- one reading

same_addr : (a b : DevAddr) → a.0 < 2 ^ 32 → b.0 < 2 ^ 32 → to_le_bytes w32 a.0 ≡ to_le_bytes w32 b.0 → a ≡ b
same_addr a b p q e =
    let same : a.0 ≡ b.0 = sym (from_le_bytes-to_le_bytes_4 a.0 p) ∙ ap (from_le_bytes w32) e ∙ from_le_bytes-to_le_bytes_4 b.0 q in
    ap (λ (n : ℕ). let addr : DevAddr = record { 0 = n } in addr) same

same_16 : (a b : ℕ) → a < 2 ^ 16 → b < 2 ^ 16 → to_le_bytes w16 a ≡ to_le_bytes w16 b → a ≡ b
same_16 a b p q e = sym (from_le_bytes-to_le_bytes_2 a p) ∙ ap (from_le_bytes w16) e ∙ from_le_bytes-to_le_bytes_2 b q

same_type : (a b : Bool) → up_mhdr a ≡ up_mhdr b → a ≡ b
same_type true true e = refl
same_type true false e = absurd (omega arith)
same_type false true e = absurd (omega arith)
same_type false false e = refl

same_port : (p q : Option ℕ) (s t : List ℕ) → (p ≡ None → s ≡ []) → (q ≡ None → t ≡ []) → port_and_payload p s ≡ port_and_payload q t → (p ≡ q) × (s ≡ t)
same_port None None s t ps qt e = (refl, e)
same_port None (Some b) s t ps qt e = let none = ps refl in absurd cc
same_port (Some a) None s t ps qt e = let none = qt refl in absurd cc
same_port (Some a) (Some b) s t ps qt e = (cc, cc)

-- the lists before and behind a seam are equal, where those behind it are of one length
at_seam : (a b s t : List ℕ) → length s ≡ length t → a ++ s ≡ b ++ t → (a ≡ b) × (s ≡ t)
at_seam a b s t same e =
    let len : length a ≡ length b = omega (arith, length-append a s, length-append b t, ap length e) in
    let front : a ≡ b = sym (take_at a s (length a) refl) ∙ ap (take (length a)) e ∙ take_at b t (length a) (sym len) in
    let back : s ≡ t = sym (drop_at a s (length a) refl) ∙ ap (drop (length a)) e ∙ drop_at b t (length a) (sym len) in
    (front, back)

made : Bool → DevAddr → Bool → Bool → Bool → Bool → ℕ → List ℕ → Option ℕ → List ℕ → List ℕ → Uplink
made confirmed addr adr req ack class_b wire fopts port payload mic = record {
  confirmed = confirmed;
  addr = addr;
  adr = adr;
  adr_ack_req = req;
  ack = ack;
  class_b = class_b;
  wire = wire;
  fopts = fopts;
  port = port;
  payload = payload;
  mic = mic;
}

eta : {u v : Uplink} → made u.confirmed u.addr u.adr u.adr_ack_req u.ack u.class_b u.wire u.fopts u.port u.payload u.mic
    ≡ made v.confirmed v.addr v.adr v.adr_ack_req v.ack v.class_b v.wire v.fopts v.port v.payload v.mic → u ≡ v
unfolding made
eta e = e

pub one_reading : (bytes : List ℕ) (u v : Uplink) → DataForm bytes u → DataForm bytes v → u ≡ v
unfolding up_message
one_reading bytes u v f g =
    let whole : up_message u ++ u.mic ≡ up_message v ++ v.mic = sym f.spelled ∙ g.spelled in
    let seam = at_seam (up_message u) (up_message v) u.mic v.mic (f.mic ∙ sym g.mic) whole in
    let e = seam.0 in
    let type_same : u.confirmed ≡ v.confirmed = same_type u.confirmed v.confirmed (ap (λ (s : List ℕ). slice_index_or s 0 0) e) in
    let addr_same : u.addr ≡ v.addr = same_addr u.addr v.addr f.addr g.addr (ap (λ (s : List ℕ). take 4 (drop 1 s)) e) in
    let fctrl_same : up_fctrl u ≡ up_fctrl v = ap (λ (s : List ℕ). slice_index_or s 5 0) e in
    let wire_same : u.wire ≡ v.wire = same_16 u.wire v.wire f.wire g.wire (ap (λ (s : List ℕ). take 2 (drop 6 s)) e) in
    let su = shows u.adr u.adr_ack_req u.ack u.class_b (length u.fopts) f.fopts in
    let sv = shows v.adr v.adr_ack_req v.ack v.class_b (length v.fopts) g.fopts in
    let adr_same : u.adr ≡ v.adr = sym su.adr ∙ ap (λ (n : ℕ). eqb (n / 128) 1) fctrl_same ∙ sv.adr in
    let req_same : u.adr_ack_req ≡ v.adr_ack_req = sym su.adr_ack_req ∙ ap (λ (n : ℕ). eqb (n / 64 % 2) 1) fctrl_same ∙ sv.adr_ack_req in
    let ack_same : u.ack ≡ v.ack = sym su.ack ∙ ap (λ (n : ℕ). eqb (n / 32 % 2) 1) fctrl_same ∙ sv.ack in
    let class_same : u.class_b ≡ v.class_b = sym su.class_b ∙ ap (λ (n : ℕ). eqb (n / 16 % 2) 1) fctrl_same ∙ sv.class_b in
    let len_same : length u.fopts ≡ length v.fopts = sym su.len ∙ ap (λ (n : ℕ). n % 16) fctrl_same ∙ sv.len in
    let tail : u.fopts ++ port_and_payload u.port u.payload ≡ v.fopts ++ port_and_payload v.port v.payload = ap (λ (s : List ℕ). drop 8 s) e in
    let fopts_same : u.fopts ≡ v.fopts = sym (take_at u.fopts _ _ refl) ∙ ap (take (length u.fopts)) tail ∙ take_at v.fopts _ (length u.fopts) (sym len_same) in
    let rest : port_and_payload u.port u.payload ≡ port_and_payload v.port v.payload =
    sym (drop_at u.fopts _ _ refl) ∙ ap (drop (length u.fopts)) tail ∙ drop_at v.fopts _ (length u.fopts) (sym len_same) in
    let pp = same_port u.port v.port u.payload v.payload f.bare g.bare rest in
    let port_same : u.port ≡ v.port = pp.0 in
    let payload_same : u.payload ≡ v.payload = pp.1 in
    let mic_same : u.mic ≡ v.mic = seam.1 in
    let made_same : made u.confirmed u.addr u.adr u.adr_ack_req u.ack u.class_b u.wire u.fopts u.port u.payload u.mic
    ≡ made v.confirmed v.addr v.adr v.adr_ack_req v.ack v.class_b v.wire v.fopts v.port v.payload v.mic = cc in
    eta made_same

pub spelled_by : (s : List ℕ) (u : Uplink) (at end : ℕ)
    → 8 ≤ at → at ≤ end → end + 4 ≡ length s
    → slice_index_or s 0 0 ≡ up_mhdr u.confirmed → to_le_bytes w32 u.addr.0 ≡ take 4 (drop 1 s) → slice_index_or s 5 0 ≡ up_fctrl u → to_le_bytes w16 u.wire ≡ take 2 (drop 6 s)
    → u.fopts ≡ take (at - 8) (drop 8 s) → port_and_payload u.port u.payload ≡ take (end - at) (drop at s) → u.mic ≡ drop end s
    → s ≡ up_message u ++ u.mic
unfolding up_message
spelled_by s u at end low high len first ea fifth ew ef ep em =
    spelled_at s (up_mhdr u.confirmed) u.addr (up_fctrl u) u.wire u.fopts u.port u.payload u.mic at end low high len first ea fifth ew ef ep em

-- ---- which bytes have a form

fopts_at : (u : Uplink) (mic : List ℕ) → slice_index_or (up_message u ++ mic) 5 0 ≡ up_fctrl u
unfolding up_message
fopts_at u mic = refl

first_at : (u : Uplink) (mic : List ℕ) → slice_index_or (up_message u ++ mic) 0 0 ≡ up_mhdr u.confirmed
unfolding up_message
first_at u mic = refl

length_at : (u : Uplink) (mic : List ℕ) → 8 + length u.fopts + length mic ≤ length (up_message u ++ mic)
unfolding up_message
length_at u mic = omega (arith, length-append (u.fopts ++ port_and_payload u.port u.payload) mic, length-append u.fopts (port_and_payload u.port u.payload))

is_up : (b : Bool) (n : ℕ) → n ≡ up_mhdr b → is_data_up (n ∷ []) ≡ true
is_up true n e = rw e refl
is_up false n e = rw e refl

pub form_has_no_fault : (bytes : List ℕ) (u : Uplink) → DataForm bytes u → data_fault bytes ≡ None
unfolding data_fault
form_has_no_fault bytes u f =
    let fctrl : slice_index_or bytes 5 0 ≡ up_fctrl u = ap (λ (s : List ℕ). slice_index_or s 5 0) f.spelled ∙ fopts_at u u.mic in
    let first : slice_index_or bytes 0 0 ≡ up_mhdr u.confirmed = ap (λ (s : List ℕ). slice_index_or s 0 0) f.spelled ∙ first_at u u.mic in
    let len : 8 + length u.fopts + length u.mic ≤ length bytes = subst (λ (s : List ℕ). 8 + length u.fopts + length u.mic ≤ length s) (sym f.spelled) (length_at u u.mic) in
    let short = (shows u.adr u.adr_ack_req u.ack u.class_b (length u.fopts) f.fopts).len in
    let opts : slice_index_or bytes 5 0 % 16 ≡ length u.fopts = ap (λ (n : ℕ). n % 16) fctrl ∙ short in
    let up : is_data_up bytes ≡ true = is_up u.confirmed (slice_index_or bytes 0 0) first in
    let four = f.mic in
    let most = f.most in
    let sized : is_data_sized bytes ≡ true = grind (arith, nat_tests) in
    rw (sized, up) refl
