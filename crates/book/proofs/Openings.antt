-- The entries of an opening, behind a history.
use Rattle.std.proofs.Common.{◌≡◌, ℕ, ◌+◌, ◌<◌, ◌≤◌, List, [], ◌∷◌, ◌++◌, length, map, take, drop, Bool, true, false, Some, None, Result, Ok, Err, refl, sym, ap, subst, ◌∙◌, arith, append-nil, append_assoc, eqb-true}
use Rattle.std.specs.Prelude.{IsTrue, ◌==◌, option_map, nat_lt, if◌then◌else◌}
use Rattle.std.specs.List.{AllByRecursion}
use Rattle.std.proofs.lemmas.Bool.{ltb-false}
use Rattle.std.proofs.lemmas.List.{length-append}
use Rattle.std.proofs.lemmas.Option.{same_Some, none-some}
use Rattle.wire_ids.specs.Causes.{Rose}
use Rattle.wire_ids.specs.declared.keys.RootKeys.{RootKeys}
use Rattle.agreements.specs.Walk.{Config, tables_of}
use Rattle.disk_model.specs.Disk.{WhereTold}
use Rattle.entries.specs.Entries.{encode_of}
use Rattle.entries.specs.declared.entry.Entry.{Entry}
use Rattle.entry_codec.specs.Fits.{fits}
use Rattle.entry_codec.specs.Machine.{after}
use Rattle.entry_codec.specs.Replay.{AllFit}
use Rattle.keepers.specs.Keeper.{Image}
use Rattle.roam_core.specs.Desk.{Desk, moment_of}
use Rattle.roam_core.specs.Legal.{IsLegal, MayFollow, desk_at, desk_from}
use Rattle.book.specs.Histories.{IsLegalFrom, IsLegalSince, entries_of}
use Rattle.book.specs.Opening.{CountLeft, FailsToBegin, FailsToOpen, IsReadAgain, UnlessFailed, opened_entry, opening, opening_at, tables_entry}
use Rattle.book.specs.Pages.{Page, Stops, bytes_in}
use Rattle.book.specs.Replays.{IsRead}
use Rattle.book.specs.declared.faults.BookFault.{BookFault}
use Rattle.book.specs.declared.faults.BookFault.TheVariants as fault
use Rattle.book.proofs.Growing.{desk_now, spelled_more}
use Rattle.book.proofs.Legality.{counted, legal_then, long}

-- ---- the text

short_at : {A B : Type 0} (b : Bool) (n : ℕ) (e : B) (r : Result A B) (x : A) → nat_lt 4194304 n ≡ b → (if b then Err e else r) ≡ Ok x → n ≤ 4294967295
short_at true n e r x is ok = absurd cc
short_at false n e r x is ok = let few = ltb-false 4194304 n is in omega (arith, few)

pub short_text : (text : List ℕ) (c : Config) → tables_of text ≡ Ok c → length text ≤ 4294967295
unfolding tables_of
short_text text c is = short_at (nat_lt 4194304 (length text)) (length text) _ _ c refl is

-- ---- counts

pub rose_from : (a b c : ℕ) → a ≤ b → Rose b c → Rose a c
rose_from a b c le rose = omega (arith, le, rose)

pub some_opening : (is_new : Bool) (text : List ℕ) (at : ℕ) → 0 < length (opening_at is_new text at)
some_opening true text at = omega arith
some_opening false text at = omega arith

pub entries_then : (s : Desk) (es : List Entry) → (desk_from s es).now.entries ≡ s.now.entries + length es
entries_then s es = ap (λ m. m.entries) (desk_now s es) ∙ counted s.now es

-- ---- a legal beginning

spelled_all : (rs : List (List ℕ)) (es more : List Entry) → entries_of rs ≡ Some es → AllByRecursion IsReadAgain more → entries_of (rs ++ map encode_of more) ≡ Some (es ++ more)
spelled_all rs es [] is again = ap entries_of (append-nil rs) ∙ is ∙ ap Some (sym (append-nil es))
spelled_all rs es (e ∷ more) is again =
    ap entries_of (sym (append_assoc rs (encode_of e ∷ []) (map encode_of more)))
    ∙ spelled_all (rs ++ encode_of e ∷ []) (es ++ e ∷ []) more (spelled_more rs es (encode_of e) e is again.0) again.1
    ∙ ap Some (append_assoc es (e ∷ []) more)

nothing_more : (es : List Entry) → drop (length es) es ≡ []
nothing_more [] = refl
nothing_more (e ∷ es) = nothing_more es

follows_opened : (c : Config) (keys : List RootKeys) (s : Desk) (is_new : Bool) (text : List ℕ) (at : ℕ) → (is_new ≡ true → ⊥) → AllFit s.now (opening_at is_new text at) → MayFollow c keys s (opening_at is_new text at)
follows_opened c keys s true text at old fit = absurd (old refl)
follows_opened c keys s false text at old fit = (fit.0, tt, tt)

legal_opening : (c : Config) (keys : List RootKeys) (text : List ℕ) (now : ℕ) (es : List Entry) (s : Desk) → desk_at c es ≡ s → s.now.entries ≡ length es → tables_of text ≡ Ok c → AllFit s.now (opening text now s) → IsLegalFrom c keys (length es) (es ++ opening text now s)
legal_opening c keys text now [] s leads size tables fit =
    let at = moment_of now s.now in
    let is : opening text now s ≡ opening_at true text at = ap (λ (n : ℕ). opening_at (n == 0) text at) size in
    let fits_here = subst (AllFit s.now) is fit in
    subst (IsLegal c keys) (sym is) (
      subst (λ (d : Desk). IsTrue (fits d.now (tables_entry text at))) (sym leads) fits_here.0,
      tables,
      (subst (λ (d : Desk). IsTrue (fits (after d.now (tables_entry text at)) (opened_entry at))) (sym leads) fits_here.1.0, tt, tt),
    )
legal_opening c keys text now (x ∷ es) s leads size tables fit =
    let history = x ∷ es in
    let more = opening text now s in
    legal_then c keys (length history) history more (omega arith) (omega arith)
    (subst (MayFollow c keys (desk_at c (take (length history) history))) (sym (nothing_more history)) tt)
    (subst (λ (d : Desk). MayFollow c keys d more) (sym leads) (follows_opened c keys s (s.now.entries == 0) text (moment_of now s.now) (λ new. let none = eqb-true s.now.entries 0 new in absurd (omega (arith, none, size))) fit))

since_opening : (c : Config) (keys : List RootKeys) (text : List ℕ) (now : ℕ) (rs : List (List ℕ)) (s : Desk) → IsRead c text rs s → tables_of text ≡ Ok c → AllFit s.now (opening text now s) → AllByRecursion IsReadAgain (opening text now s)
    → IsLegalSince c keys s.now.entries (rs ++ map encode_of (opening text now s))
since_opening c keys text now rs s read tables fit again =
    let h = read.0 in
    let es = h.entries in
    let size : s.now.entries ≡ length es = sym (ap (λ (d : Desk). d.now.entries) h.leads) ∙ long c es in
    let more = opening text now s in
    record {
      entries = es ++ more;
      spelled = spelled_all rs es more h.spelled again;
      long = omega (arith, size, length-append es more);
      legal = subst (λ (n : ℕ). IsLegalFrom c keys n (es ++ more)) (sym size) (legal_opening c keys text now es s h.leads size tables fit);
    }

pub told_opening : (c : Config) (keys : List RootKeys) (text : List ℕ) (now : ℕ) (old new : Image) (s : Desk) → new ≡ option_map (λ (rs : List (List ℕ)). rs ++ map encode_of (opening text now s)) old → WhereTold old (λ rs. IsRead c text rs s)
    → tables_of text ≡ Ok c → AllFit s.now (opening text now s) → AllByRecursion IsReadAgain (opening text now s) → WhereTold new (IsLegalSince c keys s.now.entries)
told_opening c keys text now None new s added read tables fit again = λ rs told. absurd (none-some rs (sym added ∙ told))
told_opening c keys text now (Some old) new s added read tables fit again = λ rs told.
    subst (IsLegalSince c keys s.now.entries) (same_Some (old ++ map encode_of (opening text now s)) rs (sym added ∙ told)) (since_opening c keys text now old s (read old refl) tables fit again)

-- ---- refusals

pub fails_to_open : {K : Type 0} (full fills : ℕ → ℕ → Type 0) (c : Config) (text : List ℕ) (now : ℕ) (rs : List (List ℕ)) (s : Desk) (f : BookFault) (old new : Page K) → IsRead c text rs s → ((n bytes : ℕ) → full n bytes → fills n bytes)
    → FailsToBegin full (opening text now s) f old new → FailsToOpen fills c text now rs f
fails_to_open full fills c text now rs s fault.KeeperFault old new read gives h = tt
fails_to_open full fills c text now rs s (fault.BadEntry n) old new read gives h = absurd h
fails_to_open full fills c text now rs s fault.OtherTables old new read gives h = absurd h
fails_to_open full fills c text now rs s fault.Full old new read gives h = record { desk = s; read = read; full = gives (length (opening text now s)) (bytes_in (opening text now s)) h.1 }
fails_to_open full fills c text now rs s fault.Memory old new read gives h = tt

-- ---- what a fault leaves

pub unless : {P : Type 0} (f : BookFault) → P → UnlessFailed P f
unless fault.KeeperFault p = tt
unless (fault.BadEntry n) p = p
unless fault.OtherTables p = p
unless fault.Full p = p
unless fault.Memory p = p

pub unless_then : {P Q : Type 0} (f : BookFault) → (P → Q) → UnlessFailed P f → UnlessFailed Q f
unless_then fault.KeeperFault goes p = tt
unless_then (fault.BadEntry n) goes p = goes p
unless_then fault.OtherTables goes p = goes p
unless_then fault.Full goes p = goes p
unless_then fault.Memory goes p = goes p

pub count_same : (f : BookFault) (before now : ℕ) → now ≡ before → CountLeft before now f
count_same fault.KeeperFault before now is = (omega (arith, is), omega (arith, is))
count_same (fault.BadEntry n) before now is = is
count_same fault.OtherTables before now is = is
count_same fault.Full before now is = is
count_same fault.Memory before now is = is

-- it is whole after a fault that isn't the keeper's own
pub whole_after : {K : Type 0} {R : Type 0} (full : ℕ → ℕ → Type 0) (es : List Entry) (f : BookFault) (old new : Page K) → old.tried ≡ None → FailsToBegin full es f old new → (new.tried ≡ None → R) → UnlessFailed R f
whole_after full es fault.KeeperFault old new whole h rests = tt
whole_after full es (fault.BadEntry n) old new whole h rests = absurd h
whole_after full es fault.OtherTables old new whole h rests = absurd h
whole_after full es fault.Full old new whole h rests = rests (h.0.tried ∙ whole)
whole_after full es fault.Memory old new whole h rests = rests (h.tried ∙ whole)

few_openings : (is_new : Bool) (text : List ℕ) (at : ℕ) → length (opening_at is_new text at) ≤ 2
few_openings true text at = omega arith
few_openings false text at = omega arith

-- the keeper fails at one of at most two entries
pub count_stopped : {K : Type 0} (text : List ℕ) (now : ℕ) (es : List Entry) (old new : Page K) → es ≡ opening text now old.desk → Stops es old new → CountLeft old.desk.now.entries new.desk.now.entries fault.KeeperFault
count_stopped text now es old new is s =
    let few = few_openings (old.desk.now.entries == 0) text (moment_of now old.desk.now) in
    let all = ap (λ (l : List Entry). length l) (sym is ∙ s.cut) in
    let parts = length-append s.done (s.doubted ∷ s.more) in
    let size = ap (λ (d : Desk). d.now.entries) s.adds.desk ∙ entries_then old.desk s.done in
    (omega (arith, size), omega (arith, size, few, all, parts))
