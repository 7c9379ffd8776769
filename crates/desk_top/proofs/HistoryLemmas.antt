-- What keeps a journal from being opened doesn't hold of a history of the tables.
use Rattle.std.proofs.Common.{◌≡◌, ◌≢◌, ◌∙◌, ℕ, zero, suc, ◌<◌, List, [], ◌∷◌, length, take, get_or, Bool, cond, true, false, Option, Some, None, Ok, Err, refl, sym, ap, subst, arith, inl, inr}
use Rattle.std.specs.Prelude.{IsTrue}
use Rattle.std.specs.Str.{bytes_eq}
use Rattle.std.specs.Cmp.Lexicographic.{bytes_decides}
use Rattle.std.proofs.lemmas.Bool.{cases_lt, lt-leb}
use Rattle.std.proofs.lemmas.List.{take_all}
use Rattle.std.proofs.lemmas.Option.{same_Some, none-some}
use Rattle.agreements.specs.Walk.{Config, tables_of}
use Rattle.agreements.specs.declared.fault.TablesFault.{TablesFault}
use Rattle.disk_model.specs.Disk.{WhereTold}
use Rattle.disk_journal.specs.Format.{journal_of, mark, records_from}
use Rattle.disk_journal.specs.Walked.{IsForeign}
use Rattle.disk_journal.proofs.Recovered.{not_foreign}
use Rattle.entries.specs.Entries.{decode_of}
use Rattle.entries.specs.declared.entry.Entry.{Entry}
use Rattle.entry_codec.specs.Empty.{empty}
use Rattle.entry_codec.specs.Fits.{fits}
use Rattle.entry_codec.specs.Machine.{Machine, after}
use Rattle.entry_codec.specs.Replay.{AllFit, replay}
use Rattle.roam_core.specs.Desk.{Desk, empty_desk}
use Rattle.book.specs.Histories.{IsBad, IsHistory, entries_of, in_front, kept_text}
use Rattle.book.specs.Replays.{IsRead, KeepsOther, KeepsText}
use Rattle.book.proofs.Growing.{desk_now}
use Rattle.desk_top.specs.Journals.{IsForeignAs, records_in}
use Rattle.desk_top.specs.Promises.{HasJournal}
use Rattle.desk_top.specs.Text.{HasTables, ReadsTables, ReadsText, text_room}
use Rattle.desk_top.proofs.DiskLemmas.{journal_told}
use Rattle.desk_top.proofs.Texts.{tables_read, too_long}

-- ---- a journal isn't something else

marked_at : (b : Bool) (bytes : List ℕ) (rs : List (List ℕ)) → bytes_eq (take 16 bytes) mark ≡ b → cond b (Some (records_from 16 bytes)) None ≡ Some rs → take 16 bytes ≡ mark
marked_at true bytes rs test is = (bytes_decides (take 16 bytes) mark).0 test
marked_at false bytes rs test is = absurd (none-some rs is)

own_bytes : (bytes : List ℕ) (place : ℕ) (rs : List (List ℕ)) → journal_of bytes ≡ Some rs → IsForeign place bytes → ⊥
unfolding journal_of
own_bytes bytes place rs is foreign =
    let long = ap (λ (b : Bool). cond b (Some []) (cond (bytes_eq (take 16 bytes) mark) (Some (records_from 16 bytes)) None)) (lt-leb (length bytes) 17 foreign.long) in
    not_foreign bytes (marked_at (bytes_eq (take 16 bytes) mark) bytes rs refl (sym long ∙ is)) place foreign

pub not_other : (content : Option (List ℕ)) (line : List ℕ) (rs : List (List ℕ)) → records_in content ≡ Some rs → WhereTold content (IsForeignAs line) → ⊥
not_other content line rs is foreign =
    let from = journal_told content rs is in
    let other = foreign from.0 from.1 in
    own_bytes from.0 other.0 rs from.2 other.1

-- ---- each of its entries fits

split_front : (o : Option Entry) (rest : Option (List Entry)) (es : List Entry) → in_front o rest ≡ Some es → (e : Entry) × (tail : List Entry) × (o ≡ Some e) × (rest ≡ Some tail) × (e ∷ tail ≡ es)
split_front None rest es is = absurd (none-some es is)
split_front (Some e) None es is = absurd (none-some es is)
split_front (Some e) (Some tail) es is = (e, tail, refl, refl, same_Some (e ∷ tail) es is)

-- the entry of a number fits behind those before it
fits_at : (m : Machine) (rs : List (List ℕ)) (n : ℕ) (es front : List Entry) → entries_of rs ≡ Some es → AllFit m es → n < length rs → entries_of (take n rs) ≡ Some front → (e : Entry) × (decode_of (get_or rs n []) ≡ Some e) × IsTrue (fits (replay m front) e)
fits_at m [] n es front spelled fit within before = absurd (omega (arith, within))
fits_at m (r ∷ rs) zero es front spelled fit within before =
    let whole = split_front (decode_of r) (entries_of rs) es spelled in
    let first : AllFit m (whole.0 ∷ whole.1) = subst (λ (l : List Entry). AllFit m l) (sym whole.4) fit in
    (whole.0, whole.2, subst (λ (l : List Entry). IsTrue (fits (replay m l) whole.0)) (same_Some [] front before) first.0)
fits_at m (r ∷ rs) (suc n) es front spelled fit within before =
    let whole = split_front (decode_of r) (entries_of rs) es spelled in
    let part = split_front (decode_of r) (entries_of (take n rs)) front before in
    let same : whole.0 ≡ part.0 = same_Some whole.0 part.0 (sym whole.2 ∙ part.2) in
    let first : AllFit m (whole.0 ∷ whole.1) = subst (λ (l : List Entry). AllFit m l) (sym whole.4) fit in
    let later = fits_at (after m whole.0) rs n whole.1 part.1 whole.3 first.1 (omega (arith, within)) part.3 in
    let joined : whole.0 ∷ part.1 ≡ front = ap (λ (e : Entry). e ∷ part.1) same ∙ part.4 in
    (later.0, later.1, subst (λ (l : List Entry). IsTrue (fits (replay m l) later.0)) joined later.2)

false_not : (b : Bool) → IsTrue b → b ≡ false → ⊥
false_not b so not_so = cc (so, not_so)

pub not_bad : (c : Config) (rs : List (List ℕ)) (n : ℕ) (s : Desk) → IsHistory c rs s → IsBad c rs n → ⊥
not_bad c rs n s history bad =
    let at = fits_at (empty c) rs n history.entries bad.before.entries history.spelled history.fit bad.within bad.before.spelled in
    let now : bad.desk.now ≡ replay (empty c) bad.before.entries = ap (λ (d : Desk). d.now) (sym bad.before.leads) ∙ desk_now (empty_desk c) bad.before.entries in
    false_not (fits (replay (empty c) bad.before.entries) at.0) at.2 (ap (λ (m : Machine). fits m at.0) (sym now) ∙ bad.bad at.0 at.1)

-- ---- it keeps no other text

other_not : (text : List ℕ) (rs : List (List ℕ)) (other : List ℕ) → KeepsText text rs → kept_text rs ≡ Some other → other ≢ text → ⊥
other_not text rs other (inl none) keeps differs = absurd (none-some other (sym (ap kept_text none) ∙ keeps))
other_not text rs other (inr kept) keeps differs = differs (sym (same_Some text other (sym kept ∙ keeps)))

pub not_other_text : (c : Config) (text : List ℕ) (rs : List (List ℕ)) (s : Desk) → IsRead c text rs s → KeepsOther c text rs → ⊥
not_other_text c text rs s read other = other_not text rs other.other read.1 other.keeps other.differs

-- ---- the tables that were read are those of the whole text

pub refused_not : (bytes : Option (List ℕ)) (c : Config) (refusal : TablesFault) → HasTables bytes (Ok c) → ReadsTables bytes (Err refusal) → ⊥
refused_not None c refusal has reads = has
refused_not (Some bytes) c refusal has reads = let both : Ok c ≡ Err refusal = sym has ∙ reads in cc both

pub valid_not : (bytes : Option (List ℕ)) (text : List ℕ) (c : Config) (refusal : TablesFault) → HasTables bytes (Err refusal) → ReadsText text_room bytes text → tables_of text ≡ Ok c → ⊥
valid_not None text c refusal has reads valid = has
valid_not (Some bytes) text c refusal has reads valid =
    let both : Ok c ≡ Err refusal = sym (tables_read (Some bytes) text (Ok c) reads valid) ∙ has in
    cc both

whole_text : (bytes text : List ℕ) (c : Config) → text ≡ take text_room bytes → tables_of bytes ≡ Ok c → bytes ≡ text
whole_text bytes text c reads valid = elim (cases_lt 4194304 (length bytes)) [
  | inl long ↦ let both = sym valid ∙ too_long bytes long in absurd (cc both)
  | inr short ↦ sym (reads ∙ take_all text_room bytes (omega (arith, short)))
]

pub same_tables : (bytes : Option (List ℕ)) (text : List ℕ) (c d : Config) → HasTables bytes (Ok d) → ReadsText text_room bytes text → tables_of text ≡ Ok c → d ≡ c
same_tables None text c d has reads valid = absurd has
same_tables (Some bytes) text c d has reads valid =
    let both : Ok d ≡ Ok c = sym has ∙ tables_read (Some bytes) text (Ok c) reads valid in
    cc both

-- so the journal is theirs
pub journal_read : (bytes content : Option (List ℕ)) (text : List ℕ) (c d : Config) → HasTables bytes (Ok d) → HasJournal d bytes content → ReadsText text_room bytes text → tables_of text ≡ Ok c
    → (rs : List (List ℕ)) × (records_in content ≡ Some rs) × ((s : Desk) × IsRead c text rs s)
journal_read None content text c d has journal reads valid = absurd has
journal_read (Some bytes) content text c d has journal reads valid =
    let read = subst (λ (x : Config). IsRead x bytes journal.0 journal.2.0) (same_tables (Some bytes) text c d has reads valid) journal.2.1 in
    (journal.0, journal.1, (journal.2.0, subst (λ (t : List ℕ). IsRead c t journal.0 journal.2.0) (whole_text bytes text d reads has) read))
