-- A book with one entry more, or with one in doubt.
use Rattle.std.proofs.Common.{◌≡◌, ℕ, zero, suc, ◌+◌, ◌<◌, ◌≤◌, List, [], ◌∷◌, ◌++◌, length, take, drop, get_or, Option, Some, None, inl, inr, refl, sym, ap, subst, ◌∙◌, arith, append-nil}
use Rattle.std.specs.Prelude.{IsTrue, option_map}
use Rattle.std.proofs.lemmas.List.{length-append}
use Rattle.std.proofs.lemmas.Option.{same_Some, none-some}
use Rattle.wire_ids.specs.declared.keys.RootKeys.{RootKeys}
use Rattle.agreements.specs.Walk.{Config}
use Rattle.disk_model.specs.Disk.{WhereTold}
use Rattle.entries.specs.Entries.{decode_of, encode_of}
use Rattle.entries.specs.declared.entry.Entry.{Entry}
use Rattle.entry_codec.specs.Fits.{fits}
use Rattle.entry_codec.specs.Empty.{empty}
use Rattle.entry_codec.specs.Machine.{Machine, after}
use Rattle.entry_codec.specs.Replay.{replay}
use Rattle.keepers.specs.Keeper.{Image, OneMoreOrNot}
use Rattle.roam_core.specs.Desk.{Desk, desk_after, empty_desk}
use Rattle.roam_core.specs.Legal.{IsStep, MayFollow, desk_at, desk_from}
use Rattle.book.specs.Histories.{IsHistory, IsLegalFrom, IsLegalSince}
use Rattle.book.specs.Pages.{Adds, AddsSome, Doubts, IsPage, Mends, Page, Same, Stops, Writes, bytes_in}
use Rattle.book.specs.Results.{MadeOrNot, WritesOne}
use Rattle.book.specs.Sight.{Fixed, IsBook, Sight}
use Rattle.book.specs.declared.faults.Mended.{Mended}
use Rattle.book.specs.declared.faults.Mended.TheVariants as mended
use Rattle.book.specs.declared.pages.Written.{Written}
use Rattle.book.specs.declared.pages.Written.TheVariants as written
use Rattle.book.proofs.Growing.{desk_now, desk_then, spelled_more}
use Rattle.book.proofs.Paging.{entries_after, first_entries}

-- ---- histories

pub counted : (m : Machine) (es : List Entry) → (replay m es).entries ≡ m.entries + length es
counted m [] = omega arith
counted m (e ∷ es) = let more = counted (after m e) es in let one = entries_after m e in omega (arith, more, one)

pub long : (c : Config) (es : List Entry) → (desk_at c es).now.entries ≡ length es
long c es = ap (λ (m : Machine). m.entries) (desk_now (empty_desk c) es) ∙ counted (empty c) es ∙ (let none = first_entries c in omega (arith, none))

pub may_then : (c : Config) (keys : List RootKeys) (s : Desk) (es more : List Entry) → MayFollow c keys s es → MayFollow c keys (desk_from s es) more → MayFollow c keys s (es ++ more)
may_then c keys s [] more first then = then
may_then c keys s (e ∷ es) more first then = (first.0, first.1, may_then c keys (desk_after s e) es more first.2 then)

pub take_front : (n : ℕ) (es more : List Entry) → n ≤ length es → take n (es ++ more) ≡ take n es
take_front zero es more le = refl
take_front (suc n) [] more le = absurd (omega (arith, le))
take_front (suc n) (e ∷ es) more le = ap (λ (l : List Entry). e ∷ l) (take_front n es more (omega (arith, le)))

drop_front : (n : ℕ) (es more : List Entry) → n ≤ length es → drop n (es ++ more) ≡ drop n es ++ more
drop_front zero es more le = refl
drop_front (suc n) [] more le = absurd (omega (arith, le))
drop_front (suc n) (e ∷ es) more le = drop_front n es more (omega (arith, le))

pub joined : (n : ℕ) (es : List Entry) → take n es ++ drop n es ≡ es
joined zero es = refl
joined (suc n) [] = refl
joined (suc n) (e ∷ es) = ap (λ (l : List Entry). e ∷ l) (joined n es)

pub legal_then : (c : Config) (keys : List RootKeys) (n : ℕ) (es more : List Entry) → n ≤ length es → 0 < length es → IsLegalFrom c keys n es → MayFollow c keys (desk_at c es) more → IsLegalFrom c keys n (es ++ more)
legal_then c keys zero [] more le some legal then = absurd (omega (arith, some))
legal_then c keys zero (e ∷ es) more le some legal then = (legal.0, legal.1, may_then c keys (desk_after (empty_desk c) e) es more legal.2 then)
legal_then c keys (suc n) es more le some legal then =
    let front = take (suc n) es in
    let back = drop (suc n) es in
    let whole : desk_from (desk_at c front) back ≡ desk_at c es = sym (desk_then (empty_desk c) front back) ∙ ap (desk_at c) (joined (suc n) es) in
    subst (λ (l : List Entry). MayFollow c keys (desk_at c l) (drop (suc n) (es ++ more))) (sym (take_front (suc n) es more le))
    (subst (MayFollow c keys (desk_at c front)) (sym (drop_front (suc n) es more le))
    (may_then c keys (desk_at c front) back more legal (subst (λ (s : Desk). MayFollow c keys s more) (sym whole) then)))

pub since_more : (c : Config) (keys : List RootKeys) (n : ℕ) (rs : List (List ℕ)) (s : Desk) (e : Entry) → IsLegalSince c keys n rs → IsHistory c rs s → 0 < s.now.entries → decode_of (encode_of e) ≡ Some e → IsTrue (fits s.now e) → IsStep c keys s e e.event
    → IsLegalSince c keys n (rs ++ encode_of e ∷ [])
since_more c keys n rs s e l h begun again fit step =
    let same : h.entries ≡ l.entries = same_Some h.entries l.entries (sym h.spelled ∙ l.spelled) in
    let here : desk_at c l.entries ≡ s = ap (desk_at c) (sym same) ∙ h.leads in
    let size = long c l.entries in
    let at = ap (λ (d : Desk). d.now.entries) here in
    record {
      entries = l.entries ++ e ∷ [];
      spelled = spelled_more rs l.entries (encode_of e) e l.spelled again;
      long = omega (arith, l.long, length-append l.entries (e ∷ []));
      legal = legal_then c keys n l.entries (e ∷ []) l.long (omega (arith, begun, size, at)) l.legal (subst (λ (d : Desk). MayFollow c keys d (e ∷ [])) (sym here) (fit, step, tt));
    }

told_since : (c : Config) (keys : List RootKeys) (n : ℕ) (old new : Image) (s : Desk) (e : Entry) → new ≡ option_map (λ (rs : List (List ℕ)). rs ++ encode_of e ∷ []) old
    → WhereTold old (IsLegalSince c keys n) → WhereTold old (λ rs. IsHistory c rs s) → 0 < s.now.entries → decode_of (encode_of e) ≡ Some e → IsTrue (fits s.now e) → IsStep c keys s e e.event
    → WhereTold new (IsLegalSince c keys n)
told_since c keys n None new s e added legal history begun again fit step = λ rs told. absurd (none-some rs (sym added ∙ told))
told_since c keys n (Some old) new s e added legal history begun again fit step = λ rs told.
    subst (IsLegalSince c keys n) (same_Some (old ++ encode_of e ∷ []) rs (sym added ∙ told)) (since_more c keys n old s e (legal old refl) (history old refl) begun again fit step)

-- ---- lists of one entry

no_records : (old new : Image) → new ≡ option_map (λ (rs : List (List ℕ)). rs ++ []) old → new ≡ old
no_records None new is = is
no_records (Some x) new is = is ∙ ap Some (append-nil x)

single_cut : (e d : Entry) (done more : List Entry) → e ∷ [] ≡ done ++ d ∷ more → (done ≡ []) × (d ≡ e)
single_cut e d [] more is = (refl, ap (λ (l : List Entry). get_or l 0 e) (sym is))
single_cut e d (x ∷ done) more is = let n = ap length is in absurd (omega (arith, n, length-append done (d ∷ more)))

one_bytes : (e : Entry) → bytes_in (e ∷ []) ≡ length (encode_of e)
one_bytes e = omega arith

-- ---- books

module _ {K : Type 0} where
  pub book_more : (old new : Sight K) (e : Entry) → IsBook old → WhereTold old.page.records (λ rs. IsHistory old.page.config rs old.page.desk) → decode_of (encode_of e) ≡ Some e → IsTrue (fits old.page.desk.now e)
      → IsStep old.page.config old.fixed.keys old.page.desk e e.event → Adds (e ∷ []) None old.page new.page → new.fixed ≡ old.fixed → IsBook new
  book_more old new e b history again fit step adds fixed =
      let desk = adds.desk in
      let more = ap (λ (d : Desk). d.now.entries) desk ∙ entries_after old.page.desk.now e in
      record {
        begun = omega (arith, more);
        keys = ap (λ (f : Fixed). length f.keys) fixed ∙ b.keys ∙ ap (λ (c : Config). length c.devices) (sym adds.config);
        opened = let n = ap (λ (f : Fixed). f.opened) fixed in omega (arith, n, b.opened, more);
        faults = let n = ap (λ (f : Fixed). f.opening_faults) fixed in omega (arith, n, b.faults, adds.later);
        legal = subst (λ (c : Config). WhereTold new.page.records (IsLegalSince c new.fixed.keys new.fixed.opened)) (sym adds.config)
            (subst (λ (f : Fixed). WhereTold new.page.records (IsLegalSince old.page.config f.keys f.opened)) (sym fixed)
            (told_since old.page.config old.fixed.keys old.fixed.opened old.page.records new.page.records old.page.desk e adds.records b.legal history b.begun again fit step));
        tried = λ d is. absurd (none-some d (sym adds.tried ∙ is));
      }

  -- nothing is new but what is in doubt
  pub book_same : (old new : Sight K) (doubted : Option Entry) → IsBook old → Doubts doubted old.page new.page → new.fixed ≡ old.fixed
      → ((e : Entry) → doubted ≡ Some e → IsStep old.page.config old.fixed.keys old.page.desk e e.event) → IsBook new
  book_same old new doubted b same fixed step =
      let desk = same.desk in
      let count = ap (λ (d : Desk). d.now.entries) desk in
      record {
        begun = omega (arith, count, b.begun);
        keys = ap (λ (f : Fixed). length f.keys) fixed ∙ b.keys ∙ ap (λ (c : Config). length c.devices) (sym same.config);
        opened = let n = ap (λ (f : Fixed). f.opened) fixed in omega (arith, n, b.opened, count);
        faults = let n = ap (λ (f : Fixed). f.opening_faults) fixed in omega (arith, n, b.faults, same.later);
        legal = subst (λ (c : Config). WhereTold new.page.records (IsLegalSince c new.fixed.keys new.fixed.opened)) (sym same.config)
            (subst (λ (f : Fixed). WhereTold new.page.records (IsLegalSince old.page.config f.keys f.opened)) (sym fixed)
            (subst (λ (i : Image). WhereTold i (IsLegalSince old.page.config old.fixed.keys old.fixed.opened)) (sym same.records) b.legal));
        tried = λ d is. subst (λ (c : Config). IsStep c new.fixed.keys new.page.desk d d.event) (sym same.config)
            (subst (λ (f : Fixed). IsStep old.page.config f.keys new.page.desk d d.event) (sym fixed)
            (subst (λ (s : Desk). IsStep old.page.config old.fixed.keys s d d.event) (sym same.desk) (step d (sym same.tried ∙ is))));
      }

  -- a list of one entry stops at it
  pub stops_at : (e : Entry) (old new : Page K) → Stops (e ∷ []) old new → Doubts (Some e) old new
  stops_at e old new s =
      let cut = single_cut e s.doubted s.done s.more s.cut in
      let adds : Adds [] (Some s.doubted) old new = subst (λ (l : List Entry). Adds l (Some s.doubted) old new) cut.0 s.adds in
      record { records = no_records old.records new.records adds.records; desk = adds.desk; config = adds.config; tried = adds.tried ∙ ap Some cut.1; later = adds.later }

  pub same_doubts : (old new : Page K) → old.tried ≡ None → Same old new → Doubts None old new
  same_doubts old new whole s = record { records = s.records; desk = s.desk; config = s.config; tried = s.tried ∙ whole; later = omega (arith, s.faults) }

  writes_at : (full : ℕ → ℕ → Type 0) (result : Written) (e : Entry) (old new : Sight K) → new.fixed ≡ old.fixed → decode_of (encode_of e) ≡ Some e → Writes full result (e ∷ []) old.page new.page → WritesOne full result e old new
  writes_at full written.Done e old new fixed again h = record { adds = h.0; fixed = fixed; room = λ yes. h.1 (subst (full 1) (sym (one_bytes e)) yes); again = again }
  writes_at full written.NotKept e old new fixed again h = record { doubts = stops_at e old.page new.page h.0; rose = h.0.rose; fixed = fixed; room = λ yes. h.1 (subst (full 1) (sym (one_bytes e)) yes) }
  writes_at full written.NoRoom e old new fixed again h = (record { same = h.0; fixed = fixed }, subst (full 1) (one_bytes e) h.1)
  writes_at full written.NoMemory e old new fixed again h = record { same = h; fixed = fixed }

  pub writes_one : (full : ℕ → ℕ → Type 0) (result : Written) (es : List Entry) (e : Entry) (old new : Sight K) → es ≡ e ∷ [] → new.fixed ≡ old.fixed → decode_of (encode_of e) ≡ Some e → Writes full result es old.page new.page → WritesOne full result e old new
  writes_one full result es e old new is fixed again w = writes_at full result e old new fixed again (subst (λ (l : List Entry). Writes full result l old.page new.page) is w)

  pub book_written : (full : ℕ → ℕ → Type 0) (result : Written) (e : Entry) (old new : Sight K) → IsBook old → old.page.tried ≡ None → WhereTold old.page.records (λ rs. IsHistory old.page.config rs old.page.desk) → decode_of (encode_of e) ≡ Some e
      → IsTrue (fits old.page.desk.now e) → IsStep old.page.config old.fixed.keys old.page.desk e e.event → WritesOne full result e old new → IsBook new
  book_written full written.Done e old new b whole history again fit step w = book_more old new e b history again fit step w.adds w.fixed
  book_written full written.NotKept e old new b whole history again fit step w =
      book_same old new (Some e) b w.doubts w.fixed (λ d is. subst (λ (x : Entry). IsStep old.page.config old.fixed.keys old.page.desk x x.event) (same_Some e d is) step)
  book_written full written.NoRoom e old new b whole history again fit step w = book_same old new None b (same_doubts old.page new.page whole w.0.same) w.0.fixed (λ d is. absurd (none-some d is))
  book_written full written.NoMemory e old new b whole history again fit step w = book_same old new None b (same_doubts old.page new.page whole w.same) w.fixed (λ d is. absurd (none-some d is))

  pub book_mended : (records_in : K → Image) (counted_in : K → ℕ) (rests : K → Type 0) (doubts : K → List ℕ → Type 0) (result : Mended) (old new : Sight K) → IsBook old → IsPage records_in counted_in rests doubts old.page → Mends result old.page new.page → new.fixed ≡ old.fixed → IsBook new
  book_mended records_in counted_in rests doubts mended.Whole old new b p m fixed = book_same old new None b m fixed (λ d is. absurd (none-some d is))
  book_mended records_in counted_in rests doubts (mended.Found place) old new b p m fixed =
      let was = p.broken m.1.0 m.1.1 in
      book_more old new m.1.0 b p.history was.again was.fit (b.tried m.1.0 m.1.1) m.1.2 fixed
  book_mended records_in counted_in rests doubts mended.Fault old new b p m fixed =
      book_same old new (Some m.0.0) b m.0.2 fixed (λ d is. b.tried d (m.0.1 ∙ is))

-- ---- images

pub one_or_none : (x : List (List ℕ)) (e : Entry) (image : Image) → AddsSome x (e ∷ []) image → OneMoreOrNot x (encode_of e) image
one_or_none x e image (zero, le, is) = inl (is ∙ ap Some (append-nil x))
one_or_none x e image (suc zero, le, is) = inr is
one_or_none x e image (suc (suc n), le, is) = absurd (omega (arith, le))

pub made_or_not : (x : List (List ℕ)) (made : Option Entry) (image : Image) → image ≡ Some x → MadeOrNot x made image
made_or_not x None image is = is
made_or_not x (Some e) image is = inl is
