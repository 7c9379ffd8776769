use Rattle.std.proofs.Common.{rules, ◌≡◌, ◌∙◌, inl, inr, sym, ap, refl, Some, Option, List, ℕ, drop, arith}
use Rattle.key_vault.specs.Table.{accept_key}
use Rattle.join_frames.specs.Accepts.{accept_mic, is_rejoin}
use Rattle.join_frames.specs.declared.accept.Accept.{Accept}
use Rattle.join_frames.proofs.Bytes.{AreBytes, accept_mic_bytes, fixed_bytes}
use Rattle.join_frames.proofs.Opening.{opens_short, opens_long, has_size, headed_text, mic_behind, all_of_mic, text_of_one, text_of_two}
use Rattle.join_frames.proofs.open.unsealed.Goals as goal
use Rattle.join_frames.proofs.open.unsealed.Goals.{then-is_empty-via-then-is_empty, then-is_empty-via-else-is_empty+then-bytes-ne32}

some_of : (u v : Accept) (m n : List ℕ) → u ≡ v → m ≡ n → ◌≡◌ {A = Option (Accept × List ℕ)} (Some (u, m)) (Some (v, n))
some_of u v m n e f =
    ap (λ (a : Accept). let o : Option (Accept × List ℕ) = Some (a, m) in o) e ∙ ap (λ (k : List ℕ). let o : Option (Accept × List ℕ) = Some (v, k) in o) f

pub returns-then-is_empty-clause-only : goal.returns-then-is_empty-clause-only
returns-then-is_empty-clause-only c = λ a ranges answers e.
    let told = headed_text c.args.nwk_key.now c.args.bytes.now a e in
    absurd (elim c.then-is_empty.branch [
      | then-is_empty-via-then-is_empty w ↦ let is = w.if-is_empty in let full = told.0 in search rules
      | then-is_empty-via-else-is_empty+then-bytes-ne32 w ↦ let other = w.if-bytes-ne32 in let head = told.1 in search rules
    ])

pub returns-in-17-clause-gives : goal.returns-in-17-clause-gives
returns-in-17-clause-gives c = λ mic.
    let nwk_bytes : AreBytes c.args.nwk_key.now = λ k. omega (arith, c.fits-nwk_key k) in
    let bytes : AreBytes c.args.bytes.now = search rules in
    let a : Accept = c.accept_of-accept.result in
    let key : c.accept_key-keys.result ≡ accept_key c.args.nwk_key.now a.dev.0 (is_rejoin a.kind) =
    rw (c.accept_of-accept.ensures.answers.same_kind, c.accept_of-accept.ensures.answers.same_dev) c.accept_key-keys.ensures in
    text_of_one c.args.nwk_key.now c.args.bytes.now c.encrypt-block.result a nwk_bytes bytes c.in-17.is (search rules)
    (rw (c.encrypt-block.ensures, c.array_at.ensures, key) refl) c.accept_of-accept.ensures.fields c.accept_of-accept.ensures.cf (sym c.array_at-in-17.ensures ∙ mic)

pub returns-in-17-clause-only : goal.returns-in-17-clause-only
returns-in-17-clause-only c = λ a ranges answers e.
    let nwk = c.args.nwk_key.now in
    let nwk_bytes : AreBytes nwk = λ k. omega (arith, c.fits-nwk_key k) in
    let key : c.accept_key-keys.result ≡ accept_key nwk a.dev.0 (is_rejoin a.kind) = rw (answers.same_kind, answers.same_dev) c.accept_key-keys.ensures in
    let told = opens_short nwk c.args.bytes.now a nwk_bytes ranges e c.in-17.is in
    let block : c.encrypt-block.result ≡ _ = rw (c.encrypt-block.ensures, c.array_at.ensures, key) told.1 in
    some_of _ a _ _ (c.accept_of-accept.ensures.only a (accept_mic nwk a) ranges answers block (sym told.0))
    (c.array_at-in-17.ensures ∙ mic_behind c.encrypt-block.result _ (accept_mic nwk a) block (fixed_bytes a ranges).0 (accept_mic_bytes nwk a nwk_bytes).0)

pub returns-in-33-clause-gives : goal.returns-in-33-clause-gives
returns-in-33-clause-gives c = λ mic.
    let nwk_bytes : AreBytes c.args.nwk_key.now = λ k. omega (arith, c.fits-nwk_key k) in
    let bytes : AreBytes c.args.bytes.now = search rules in
    let a : Accept = c.accept_of-accept-in-33.result in
    let key : c.accept_key-keys.result ≡ accept_key c.args.nwk_key.now a.dev.0 (is_rejoin a.kind) =
    rw (c.accept_of-accept-in-33.ensures.answers.same_kind, c.accept_of-accept-in-33.ensures.answers.same_dev) c.accept_key-keys.ensures in
    text_of_two c.args.nwk_key.now c.args.bytes.now c.encrypt-first.result c.encrypt-second.result c.cf_list.result a nwk_bytes bytes c.in-33.is (search rules)
    (rw (c.encrypt-first.ensures, c.array_at-in-33.ensures, key) refl) (rw (c.encrypt-second.ensures, c.array_at-in-33-2.ensures, key) refl)
    c.accept_of-accept-in-33.ensures.fields c.accept_of-accept-in-33.ensures.cf c.cf_list.ensures (sym c.array_at-in-33-3.ensures ∙ mic)

pub returns-in-33-clause-only : goal.returns-in-33-clause-only
returns-in-33-clause-only c = λ a ranges answers e.
    let nwk = c.args.nwk_key.now in
    let nwk_bytes : AreBytes nwk = λ k. omega (arith, c.fits-nwk_key k) in
    let key : c.accept_key-keys.result ≡ accept_key nwk a.dev.0 (is_rejoin a.kind) = rw (answers.same_kind, answers.same_dev) c.accept_key-keys.ensures in
    let told =
    opens_long nwk c.args.bytes.now c.encrypt-first.result c.encrypt-second.result a nwk_bytes ranges e c.in-33.is
    (rw (c.encrypt-first.ensures, c.array_at-in-33.ensures, key) refl) (rw (c.encrypt-second.ensures, c.array_at-in-33-2.ensures, key) refl) in
    some_of _ a _ _
    (c.accept_of-accept-in-33.ensures.only a told.1 ranges answers told.2 (ap (λ (s : List ℕ). let o : Option (List ℕ) = Some s in o) c.cf_list.ensures ∙ sym told.0))
    (c.array_at-in-33-3.ensures ∙ all_of_mic (drop 12 c.encrypt-second.result) (accept_mic nwk a) told.3 (accept_mic_bytes nwk a nwk_bytes).0)

pub returns-in_default-clause-only : goal.returns-in_default-clause-only
returns-in_default-clause-only c = λ a ranges answers e.
    let nwk_bytes : AreBytes c.args.nwk_key.now = λ k. omega (arith, c.fits-nwk_key k) in
    absurd (elim (has_size c.args.nwk_key.now c.args.bytes.now a nwk_bytes ranges e) [ inl l ↦ omega arith | inr l ↦ omega arith ])
