-- The join-accept by its blocks.
use Rattle.std.proofs.Common.{◌≡◌, ℕ, List, ◌∷◌, ◌++◌, length, take, drop, refl, sym, ◌∙◌, ap, arith, append_assoc, length-append, append-nil, Some, None, Option}
use Rattle.std.proofs.lemmas.List.{take_at, take_all, drop_at, take-append-drop}
use Rattle.aes_cmac.specs.Aes.{decrypted}
use Rattle.key_vault.specs.Table.{accept_key}
use Rattle.key_vault.specs.Keys.{js_int_key}
use Rattle.join_frames.specs.Mics.{mic}
use Rattle.join_frames.specs.Accepts.{mic_text, sealed, accept_text, accept_mic, fixed_fields, is_rejoin, cf_list}
use Rattle.join_frames.specs.declared.accept.Accept.{Accept}

sealed_one : (key t : List ℕ) → length t ≡ 16 → sealed key t ≡ decrypted key t
unfolding sealed
sealed_one key t h = rw h (append-nil _ ∙ ap (decrypted key) (take_all 16 t (omega arith)))

sealed_two : (key s t : List ℕ) → length s ≡ 16 → length t ≡ 16 → sealed key (s ++ t) ≡ decrypted key s ++ decrypted key t
unfolding sealed
sealed_two key s t hs ht =
    let both : length (s ++ t) ≡ 32 = simp length-append (omega arith) in
    rw (both, append-nil (decrypted key (take 16 (drop 16 (s ++ t)))), take_at s t 16 hs, drop_at s t 16 hs, take_all 16 t (omega arith)) refl

-- the MIC, by a JSIntKey at hand
pub mic_under : (nwk k m : List ℕ) (a : Accept) → m ≡ mic k (mic_text a) → k ≡ js_int_key nwk a.dev.0 → m ≡ accept_mic nwk a
mic_under nwk k m a em ek = em ∙ ap (λ (u : List ℕ). mic u (mic_text a)) ek

-- without a CFList
pub accept_one : (nwk : List ℕ) (a : Accept) (m t : List ℕ) → a.radio.cf ≡ None → m ≡ accept_mic nwk a → t ≡ fixed_fields a ++ m → length t ≡ 16
    → 0x20 ∷ decrypted (accept_key nwk a.dev.0 (is_rejoin a.kind)) t ≡ accept_text nwk a
unfolding accept_text
accept_one nwk a m t cf em et len =
    let key = accept_key nwk a.dev.0 (is_rejoin a.kind) in
    let whole : t ≡ fixed_fields a ++ cf_list a.radio.cf ++ accept_mic nwk a =
    et ∙ ap (λ (u : List ℕ). fixed_fields a ++ u) em ∙ ap (λ (u : List ℕ). u ++ accept_mic nwk a) (sym (append-nil (fixed_fields a)))
    ∙ ap (λ (o : Option (List ℕ)). fixed_fields a ++ cf_list o ++ accept_mic nwk a) (sym cf) in
    ap (λ (u : List ℕ). 0x20 ∷ u) (sym (sealed_one key t len) ∙ ap (sealed key) whole)

regrouped : (f h t m : List ℕ) → (f ++ h) ++ (t ++ m) ≡ (f ++ (h ++ t)) ++ m
regrouped f h t m = simp append_assoc

-- with a CFList
pub accept_two : (nwk : List ℕ) (a : Accept) (cf m s t : List ℕ) → a.radio.cf ≡ Some cf → m ≡ accept_mic nwk a
    → s ≡ fixed_fields a ++ take 4 cf → t ≡ drop 4 cf ++ m → length s ≡ 16 → length t ≡ 16
    → 0x20 ∷ decrypted (accept_key nwk a.dev.0 (is_rejoin a.kind)) s ++ decrypted (accept_key nwk a.dev.0 (is_rejoin a.kind)) t ≡ accept_text nwk a
unfolding accept_text
accept_two nwk a cf m s t is_cf em es et hs ht =
    let key = accept_key nwk a.dev.0 (is_rejoin a.kind) in
    let fixed = fixed_fields a in
    let whole : s ++ t ≡ fixed ++ cf_list a.radio.cf ++ accept_mic nwk a =
    ap (λ (u : List ℕ). u ++ t) es ∙ ap (λ (u : List ℕ). fixed ++ take 4 cf ++ u) et ∙ regrouped fixed (take 4 cf) (drop 4 cf) m
    ∙ ap (λ (u : List ℕ). fixed ++ u ++ m) (take-append-drop 4 cf ∙ ap cf_list (sym is_cf))
    ∙ ap (λ (u : List ℕ). fixed ++ cf_list a.radio.cf ++ u) em in
    ap (λ (u : List ℕ). 0x20 ∷ u) (sym (sealed_two key s t hs ht) ∙ ap (sealed key) whole)
