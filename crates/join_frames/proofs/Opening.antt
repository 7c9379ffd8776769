-- What the blocks of a join-accept hold.
use Rattle.std.proofs.Common.{◌≡◌, ℕ, suc, ◌+◌, ◌<◌, ◌≤◌, ◌^◌, List, get_or, [], ◌∷◌, ◌++◌, length, take, drop, slice_index_or, refl, sym, ◌∙◌, ap, arith, Some, None, Option, ◌⊎◌, inl, inr, length-append, length-take, length-drop}
use Rattle.aes_cmac.specs.Aes.{encrypted, decrypted, IsBlock}
use Rattle.aes_cmac.proofs.Redo.{encrypted-decrypted}
use Rattle.aes_cmac.proofs.Undo.{bytes16-self, decrypted-encrypted}
use Rattle.key_vault.specs.Table.{accept_key}
use Rattle.join_frames.specs.Accepts.{accept_text, accept_mic, fixed_fields, is_rejoin, HasRanges, AnswersRequest}
use Rattle.join_frames.specs.declared.accept.Accept.{Accept}
use Rattle.join_frames.specs.declared.accept.AcceptKind.{AcceptKind}
use Rattle.wire_ids.specs.declared.eui.Eui.{Eui}
use Rattle.wire_ids.specs.Numbers.{wire_bytes}
use Rattle.std.specs.Int.{w32, from_le_bytes, to_le_bytes}
use Rattle.std.proofs.lemmas.Nat.{from_le_bytes-to_le_bytes_4, le_bytes_4}
use Rattle.join_frames.proofs.Forms.{same_24}
use Rattle.std.proofs.lemmas.List.{take_at, drop_at, drop-drop, take_all, append-nil, take-append-drop, length-take-le}
use Rattle.join_frames.proofs.AcceptFacts.{accept_one, accept_two}
use Rattle.join_frames.proofs.Bytes.{AreBytes, append_bytes, take_bytes, drop_bytes, four_bytes, accept_key_bytes, accept_mic_bytes, fixed_bytes, length-decrypted, length-encrypted}

abbrev key_of : List ℕ → Accept → List ℕ
key_of nwk a = accept_key nwk a.dev.0 (is_rejoin a.kind)

-- an accept by what its bytes tell and what it answers
pub one_accept : (a : Accept) (rest block : List ℕ) (kind : AcceptKind) (dev join_eui : Eui) (counter nonce net addr : ℕ) (cf : Option (List ℕ))
    → HasRanges a → AnswersRequest kind dev join_eui counter a → block ≡ fixed_fields a ++ rest → cf ≡ a.radio.cf
    → nonce < 2 ^ 24 → net < 2 ^ 24
    → wire_bytes nonce ≡ slice_index_or block 0 0 ∷ slice_index_or block 1 0 ∷ slice_index_or block 2 0 ∷ []
    → wire_bytes net ≡ slice_index_or block 3 0 ∷ slice_index_or block 4 0 ∷ slice_index_or block 5 0 ∷ []
    → addr ≡ from_le_bytes w32 (slice_index_or block 6 0 ∷ slice_index_or block 7 0 ∷ slice_index_or block 8 0 ∷ slice_index_or block 9 0 ∷ [])
    → (let read : Accept = record {
      kind = kind;
      dev = dev;
      seed = record { nonce = nonce; join_eui = join_eui; counter = counter };
      net = net;
      addr = record { 0 = addr };
      radio = record { dl = slice_index_or block 10 0; rx_delay = slice_index_or block 11 0; cf = cf };
    } in read ≡ a)
unfolding fixed_fields
one_accept a rest block kind dev join_eui counter nonce net addr cf h ans e ecf hn hw en ew ea =
    let nonce_same : nonce ≡ a.seed.nonce = same_24 nonce a.seed.nonce hn h.nonce (rw e at en) in
    let net_same : net ≡ a.net = same_24 net a.net hw h.net (rw e at ew) in
    let addr_read = rw e at ea in
    let addr_same : addr ≡ a.addr.0 = addr_read ∙ from_le_bytes-to_le_bytes_4 a.addr.0 h.addr in
    rw (nonce_same, net_same, addr_same, e, ecf, ← ans.same_kind, ← ans.same_dev, ← ans.same_join_eui, ← ans.same_counter) refl

-- the fields that are read are the block's first bytes
pub fields_read : (block : List ℕ) (nonce net addr : ℕ) → length block ≡ 16 → AreBytes block
    → wire_bytes nonce ≡ slice_index_or block 0 0 ∷ slice_index_or block 1 0 ∷ slice_index_or block 2 0 ∷ []
    → wire_bytes net ≡ slice_index_or block 3 0 ∷ slice_index_or block 4 0 ∷ slice_index_or block 5 0 ∷ []
    → addr ≡ from_le_bytes w32 (slice_index_or block 6 0 ∷ slice_index_or block 7 0 ∷ slice_index_or block 8 0 ∷ slice_index_or block 9 0 ∷ [])
    → wire_bytes nonce ++ (wire_bytes net ++ (to_le_bytes w32 addr ++ slice_index_or block 10 0 ∷ slice_index_or block 11 0 ∷ [])) ≡ take 12 block
fields_read block nonce net addr len below en ew ea =
    let at : ℕ → ℕ = λ i. get_or block i 0 in
    let four : to_le_bytes w32 addr ≡ at 6 ∷ at 7 ∷ at 8 ∷ at 9 ∷ [] =
    le_bytes_4 (at 6 ∷ at 7 ∷ at 8 ∷ at 9 ∷ []) addr refl (four_bytes (at 6) (at 7) (at 8) (at 9) (below 6) (below 7) (below 8) (below 9)) ea in
    ap (λ (t : List ℕ). t ++ (wire_bytes net ++ (to_le_bytes w32 addr ++ at 10 ∷ at 11 ∷ []))) en
    ∙ ap (λ (t : List ℕ). at 0 ∷ at 1 ∷ at 2 ∷ t ++ (to_le_bytes w32 addr ++ at 10 ∷ at 11 ∷ [])) ew
    ∙ ap (λ (t : List ℕ). at 0 ∷ at 1 ∷ at 2 ∷ at 3 ∷ at 4 ∷ at 5 ∷ t ++ at 10 ∷ at 11 ∷ []) four ∙ ap (take 12) (bytes16-self block len)

-- the text's blocks, without a CFList and with one
pub text_one : (nwk : List ℕ) (a : Accept) → AreBytes nwk → HasRanges a → a.radio.cf ≡ None
    → (t : List ℕ) × (accept_text nwk a ≡ 0x20 ∷ decrypted (key_of nwk a) t) × (t ≡ fixed_fields a ++ accept_mic nwk a) × IsBlock t
text_one nwk a hn h cf =
    let fixed = fixed_bytes a h in
    let m = accept_mic_bytes nwk a hn in
    let t = fixed_fields a ++ accept_mic nwk a in
    let len : length t ≡ 16 = simp length-append (omega (arith, fixed.0, m.0)) in
    (t, sym (accept_one nwk a _ t cf refl refl len), refl, (len, append_bytes _ _ fixed.1 m.1))

pub text_two : (nwk : List ℕ) (a : Accept) (cf : List ℕ) → AreBytes nwk → HasRanges a → a.radio.cf ≡ Some cf → IsBlock cf
    → (s : List ℕ) × (t : List ℕ) × (accept_text nwk a ≡ 0x20 ∷ decrypted (key_of nwk a) s ++ decrypted (key_of nwk a) t)
    × (s ≡ fixed_fields a ++ take 4 cf) × (t ≡ drop 4 cf ++ accept_mic nwk a) × IsBlock s × IsBlock t
text_two nwk a cf hn h is_cf block =
    let fixed = fixed_bytes a h in
    let m = accept_mic_bytes nwk a hn in
    let s = fixed_fields a ++ take 4 cf in
    let t = drop 4 cf ++ accept_mic nwk a in
    let hs : length s ≡ 16 = simp (length-append, length-take) (omega (arith, fixed.0, block.0)) in
    let ht : length t ≡ 16 = simp (length-append, length-drop) (omega (arith, m.0, block.0)) in (
      s,
      t,
      sym (accept_two nwk a cf _ s t is_cf refl refl refl hs ht),
      refl,
      refl,
      (hs, append_bytes _ _ fixed.1 (take_bytes 4 cf block.1)),
      (ht, append_bytes _ _ (drop_bytes 4 cf block.1) m.1),
    )

-- a block is opened by its encryption
opened : (key bytes t rest : List ℕ) → AreBytes key → IsBlock t → bytes ≡ decrypted key t ++ rest → encrypted key (take 16 bytes) ≡ t
opened key bytes t rest hk ht e =
    let first : take 16 bytes ≡ decrypted key t = rw e (take_at (decrypted key t) rest 16 (length-decrypted key t)) in
    rw first (encrypted-decrypted key t hk ht)

-- what a text of one block tells
one_block : (nwk bytes : List ℕ) (a : Accept) → AreBytes nwk → HasRanges a → bytes ≡ accept_text nwk a → a.radio.cf ≡ None
    → (length bytes ≡ 17) × (encrypted (key_of nwk a) (take 16 (drop 1 bytes)) ≡ fixed_fields a ++ accept_mic nwk a)
one_block nwk bytes a hn h e cf =
    let text = text_one nwk a hn h cf in
    let key = key_of nwk a in
    let whole : bytes ≡ 0x20 ∷ decrypted key text.0 = e ∙ text.1 in
    let behind : drop 1 bytes ≡ decrypted key text.0 ++ [] = ap (drop 1) whole ∙ sym (append-nil (decrypted key text.0)) in
    let size : length bytes ≡ 17 = ap length whole ∙ ap suc (length-decrypted key text.0) in
    (size, opened key (drop 1 bytes) text.0 [] (accept_key_bytes nwk a.dev.0 (is_rejoin a.kind) hn) text.3 behind ∙ text.2)

-- what a text of two blocks tells
two_blocks : (nwk bytes : List ℕ) (a : Accept) (cf : List ℕ) → AreBytes nwk → HasRanges a → bytes ≡ accept_text nwk a → a.radio.cf ≡ Some cf → IsBlock cf
    → (length bytes ≡ 33) × (encrypted (key_of nwk a) (take 16 (drop 1 bytes)) ≡ fixed_fields a ++ take 4 cf)
    × (encrypted (key_of nwk a) (take 16 (drop 17 bytes)) ≡ drop 4 cf ++ accept_mic nwk a)
two_blocks nwk bytes a cf hn h e is_cf block =
    let text = text_two nwk a cf hn h is_cf block in
    let key = key_of nwk a in
    let s = decrypted key text.0 in
    let t = decrypted key text.1 in
    let hk = accept_key_bytes nwk a.dev.0 (is_rejoin a.kind) hn in
    let whole : bytes ≡ 0x20 ∷ s ++ t = e ∙ text.2 in
    let first : drop 1 bytes ≡ s ++ t = ap (drop 1) whole in
    let second : drop 17 bytes ≡ t ++ [] =
    ap (drop 17) whole ∙ drop_at s t 16 (length-decrypted key text.0) ∙ sym (append-nil t) in
    let sum : length s + length t ≡ 32 = omega (arith, length-decrypted key text.0, length-decrypted key text.1) in
    let size : length bytes ≡ 33 = ap length whole ∙ ap suc (length-append s t ∙ sum) in
    (size, opened key (drop 1 bytes) text.0 t hk text.5 first ∙ text.3, opened key (drop 17 bytes) text.1 [] hk text.6 second ∙ text.4)

cf_block : (a : Accept) (cf : List ℕ) → HasRanges a → a.radio.cf ≡ Some cf → IsBlock cf
cf_block a cf h e = rw e at h.cf

-- a text of 17 bytes has no CFList
pub opens_short : (nwk bytes : List ℕ) (a : Accept) → AreBytes nwk → HasRanges a → bytes ≡ accept_text nwk a → length bytes ≡ 17
    → (a.radio.cf ≡ None) × (encrypted (key_of nwk a) (take 16 (drop 1 bytes)) ≡ fixed_fields a ++ accept_mic nwk a)
opens_short nwk bytes a hn h e len = by_cf a.radio.cf refl where
  by_cf : (o : Option (List ℕ)) → a.radio.cf ≡ o
      → (a.radio.cf ≡ None) × (encrypted (key_of nwk a) (take 16 (drop 1 bytes)) ≡ fixed_fields a ++ accept_mic nwk a)
  by_cf None is = (is, (one_block nwk bytes a hn h e is).1)
  by_cf (Some cf) is = absurd (omega (arith, (two_blocks nwk bytes a cf hn h e is (cf_block a cf h is)).0))

-- a text of 33 bytes has the CFList in its two blocks
pub opens_long : (nwk bytes first second : List ℕ) (a : Accept) → AreBytes nwk → HasRanges a → bytes ≡ accept_text nwk a → length bytes ≡ 33
    → first ≡ encrypted (key_of nwk a) (take 16 (drop 1 bytes)) → second ≡ encrypted (key_of nwk a) (take 16 (drop 17 bytes))
    → (a.radio.cf ≡ Some (drop 12 first ++ take 12 second)) × (rest : List ℕ) × (first ≡ fixed_fields a ++ rest) × (drop 12 second ≡ accept_mic nwk a)
opens_long nwk bytes first second a hn h e len ef es = by_cf a.radio.cf refl where
  by_cf : (o : Option (List ℕ)) → a.radio.cf ≡ o
      → (a.radio.cf ≡ Some (drop 12 first ++ take 12 second)) × (rest : List ℕ) × (first ≡ fixed_fields a ++ rest) × (drop 12 second ≡ accept_mic nwk a)
  by_cf None is = absurd (omega (arith, (one_block nwk bytes a hn h e is).0))
  by_cf (Some cf) is =
      let block = cf_block a cf h is in
      let told = two_blocks nwk bytes a cf hn h e is block in
      let head : drop 12 first ≡ take 4 cf =
      ap (drop 12) (ef ∙ told.1) ∙ drop_at (fixed_fields a) (take 4 cf) 12 (fixed_bytes a h).0 in
      let tail_length : length (drop 4 cf) ≡ 12 = omega (arith, length-drop 4 cf, block.0) in
      let tail : take 12 second ≡ drop 4 cf = ap (take 12) (es ∙ told.2) ∙ take_at (drop 4 cf) (accept_mic nwk a) 12 tail_length in
      let mic : drop 12 second ≡ accept_mic nwk a = ap (drop 12) (es ∙ told.2) ∙ drop_at (drop 4 cf) (accept_mic nwk a) 12 tail_length in
      let whole : cf ≡ drop 12 first ++ take 12 second = sym (rw (head, tail) (take-append-drop 4 cf)) in
      (is ∙ ap Some whole, take 4 cf, ef ∙ told.1, mic)

-- no text has another length
pub has_size : (nwk bytes : List ℕ) (a : Accept) → AreBytes nwk → HasRanges a → bytes ≡ accept_text nwk a → (length bytes ≡ 17) ⊎ (length bytes ≡ 33)
has_size nwk bytes a hn h e = by_cf a.radio.cf refl where
  by_cf : (o : Option (List ℕ)) → a.radio.cf ≡ o → (length bytes ≡ 17) ⊎ (length bytes ≡ 33)
  by_cf None is = inl ((one_block nwk bytes a hn h e is).0)
  by_cf (Some cf) is = inr ((two_blocks nwk bytes a cf hn h e is (cf_block a cf h is)).0)

-- the MIC behind the fields of one block, and behind the CFList's last part
pub mic_behind : (block f m : List ℕ) → block ≡ f ++ m → length f ≡ 12 → length m ≡ 4 → take 4 (drop 12 block) ≡ m
mic_behind block f m e hf hm = ap (λ (t : List ℕ). take 4 (drop 12 t)) e ∙ ap (take 4) (drop_at f m 12 hf) ∙ take_all 4 m (omega arith)

pub all_of_mic : (m n : List ℕ) → m ≡ n → length n ≡ 4 → take 4 m ≡ n
all_of_mic m n e h = ap (take 4) e ∙ take_all 4 n (omega arith)

-- bytes are their first, and the rest
headed : (bytes : List ℕ) → 0 < length bytes → slice_index_or bytes 0 0 ≡ 0x20 → bytes ≡ 0x20 ∷ drop 1 bytes
headed [] h e = absurd (omega arith)
headed (x ∷ xs) h e = ap (λ (n : ℕ). n ∷ xs) e

-- a sealed block is what its opening seals to
resealed : (key part block : List ℕ) → AreBytes key → IsBlock part → block ≡ encrypted key part → decrypted key block ≡ part
resealed key part block hk hp e = ap (decrypted key) e ∙ decrypted-encrypted key part hk hp

part_of : (bytes : List ℕ) (k : ℕ) → k + 16 ≤ length bytes → AreBytes bytes → IsBlock (take 16 (drop k bytes))
part_of bytes k fits below = (length-take-le 16 (drop k bytes) (omega (arith, length-drop k bytes)), take_bytes 16 (drop k bytes) (drop_bytes k bytes below))

-- what an accept's fields and its MIC were read from is its text
pub text_of_one : (nwk bytes block : List ℕ) (a : Accept) → AreBytes nwk → AreBytes bytes → length bytes ≡ 17 → slice_index_or bytes 0 0 ≡ 0x20
    → block ≡ encrypted (key_of nwk a) (take 16 (drop 1 bytes)) → fixed_fields a ≡ take 12 block → a.radio.cf ≡ None
    → take 4 (drop 12 block) ≡ accept_mic nwk a → bytes ≡ accept_text nwk a
text_of_one nwk bytes block a hn hb len first e fields cf mic =
    let key : List ℕ = key_of nwk a in
    let size : length block ≡ 16 = ap length e ∙ length-encrypted key (take 16 (drop 1 bytes)) in
    let rest : drop 12 block ≡ accept_mic nwk a = sym (take_all 4 (drop 12 block) (omega (arith, length-drop 12 block))) ∙ mic in
    let whole : block ≡ fixed_fields a ++ accept_mic nwk a = sym (rw (fields, ← rest) (take-append-drop 12 block)) in
    let back : decrypted key block ≡ take 16 (drop 1 bytes) =
    resealed key (take 16 (drop 1 bytes)) block (accept_key_bytes nwk a.dev.0 (is_rejoin a.kind) hn) (part_of bytes 1 (omega arith) hb) e in
    let sealed_part : decrypted key block ≡ drop 1 bytes = back ∙ take_all 16 (drop 1 bytes) (omega (arith, length-drop 1 bytes)) in
    headed bytes (omega arith) first ∙ ap (λ (t : List ℕ). 0x20 ∷ t) (sym sealed_part) ∙ accept_one nwk a (accept_mic nwk a) block cf refl whole size

pub text_of_two : (nwk bytes first second cf : List ℕ) (a : Accept) → AreBytes nwk → AreBytes bytes → length bytes ≡ 33 → slice_index_or bytes 0 0 ≡ 0x20
    → first ≡ encrypted (key_of nwk a) (take 16 (drop 1 bytes)) → second ≡ encrypted (key_of nwk a) (take 16 (drop 17 bytes))
    → fixed_fields a ≡ take 12 first → a.radio.cf ≡ Some cf → cf ≡ drop 12 first ++ take 12 second
    → take 4 (drop 12 second) ≡ accept_mic nwk a → bytes ≡ accept_text nwk a
text_of_two nwk bytes first second cf a hn hb len head ef es fields is_cf parts mic =
    let key : List ℕ = key_of nwk a in
    let hk : AreBytes key = accept_key_bytes nwk a.dev.0 (is_rejoin a.kind) hn in
    let size1 : length first ≡ 16 = ap length ef ∙ length-encrypted key (take 16 (drop 1 bytes)) in
    let size2 : length second ≡ 16 = ap length es ∙ length-encrypted key (take 16 (drop 17 bytes)) in
    let four : length (drop 12 first) ≡ 4 = omega (arith, length-drop 12 first) in
    let front : take 4 cf ≡ drop 12 first = ap (take 4) parts ∙ take_at (drop 12 first) (take 12 second) 4 four in
    let behind : drop 4 cf ≡ take 12 second = ap (drop 4) parts ∙ drop_at (drop 12 first) (take 12 second) 4 four in
    let rest : drop 12 second ≡ accept_mic nwk a = sym (take_all 4 (drop 12 second) (omega (arith, length-drop 12 second))) ∙ mic in
    let whole1 : first ≡ fixed_fields a ++ take 4 cf = sym (rw (fields, front) (take-append-drop 12 first)) in
    let whole2 : second ≡ drop 4 cf ++ accept_mic nwk a = sym (rw (behind, ← rest) (take-append-drop 12 second)) in
    let back1 : decrypted key first ≡ take 16 (drop 1 bytes) = resealed key (take 16 (drop 1 bytes)) first hk (part_of bytes 1 (omega arith) hb) ef in
    let back2 : decrypted key second ≡ drop 17 bytes =
    resealed key (take 16 (drop 17 bytes)) second hk (part_of bytes 17 (omega arith) hb) es ∙ take_all 16 (drop 17 bytes) (omega (arith, length-drop 17 bytes)) in
    let seam : drop 17 bytes ≡ drop 16 (drop 1 bytes) = sym (drop-drop 16 1 bytes) in
    let both : decrypted key first ++ decrypted key second ≡ drop 1 bytes = rw (back1, back2, seam) (take-append-drop 16 (drop 1 bytes)) in
    headed bytes (omega arith) head ∙ ap (λ (t : List ℕ). 0x20 ∷ t) (sym both)
    ∙ accept_two nwk a cf (accept_mic nwk a) first second is_cf refl whole1 whole2 size1 size2

-- and each text begins with its MHDR
pub headed_text : (nwk bytes : List ℕ) (a : Accept) → bytes ≡ accept_text nwk a → (0 < length bytes) × (slice_index_or bytes 0 0 ≡ 0x20)
unfolding accept_text
headed_text nwk bytes a e = rw e (omega arith, refl)
