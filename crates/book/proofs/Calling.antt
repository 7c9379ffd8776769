-- A run of calls is a life.
use Rattle.std.proofs.Common.{◌≡◌, ◌⊎◌, ℕ, List, [], ◌∷◌, ◌++◌, length, map, Bool, Option, Some, None, inl, inr, refl, sym, ap, subst, ◌∙◌, append_assoc, append-nil}
use Rattle.std.specs.Prelude.{option_map}
use Rattle.std.specs.List.{AllByRecursion}
use Rattle.std.proofs.lemmas.Option.{same_Some}
use Rattle.wire_ids.specs.declared.keys.RootKeys.{RootKeys}
use Rattle.agreements.specs.Walk.{Config}
use Rattle.entries.specs.Entries.{encode_of}
use Rattle.entries.specs.declared.entry.Entry.{Entry}
use Rattle.keepers.specs.Keeper.{Image}
use Rattle.book.specs.Calls.{AreCalls, Call, CallsLive, IsAnswer, IsCall, IsMark, IsMending, MayHold, after_calls, given_out, receipts_of}
use Rattle.roam_core.specs.Lines.{one_more}
use Rattle.book.specs.Histories.{IsLegalSince, entries_of}
use Rattle.book.specs.Lives.{IsLife}
use Rattle.book.specs.Pages.{Adds, Doubts, IsPage, Mends, Same}
use Rattle.book.specs.Receipts.{GivesGood, IsGood, Receipt}
use Rattle.book.specs.Results.{AnswersSo, MarksSo, mark_of, moment_in, reaction_in}
use Rattle.book.specs.Sight.{Fixed, IsBook, Sight}
use Rattle.book.specs.declared.answered.Answered.{Answered}
use Rattle.book.specs.declared.answered.Answered.TheVariants as answered
use Rattle.book.specs.declared.answered.Marked.{Marked}
use Rattle.book.specs.declared.answered.Marked.TheVariants as marked
use Rattle.book.specs.declared.faults.Mended.{Mended}
use Rattle.book.specs.declared.faults.Mended.TheVariants as mended
use Rattle.book.proofs.Legality.{since_more}
use Rattle.book.proofs.Living.{all_on}

-- what one call leaves of what it was called on
record Goes {K : Type 0} (old new : Sight K) : Type 0 where
  pub es : List Entry
  pub records : new.page.records ≡ option_map (λ (rs : List (List ℕ)). rs ++ map encode_of es) old.page.records
  pub config : new.page.config ≡ old.page.config
  pub fixed : new.fixed ≡ old.fixed

-- what some calls leave of what was opened on these records
record Grown {K : Type 0} (c : Config) (keys : List RootKeys) (before : List (List ℕ)) (b : Sight K) (receipts : List Receipt) : Type 0 where
  pub more : List (List ℕ)
  pub records : b.page.records ≡ Some (before ++ more)
  pub config : b.page.config ≡ c
  pub keys_are : b.fixed.keys ≡ keys
  pub opened : b.fixed.opened ≡ length before
  pub good : AllByRecursion (IsGood c keys (before ++ more)) receipts

none_new : (o : Image) → o ≡ option_map (λ (rs : List (List ℕ)). rs ++ []) o
none_new None = refl
none_new (Some x) = ap Some (sym (append-nil x))

all_append : (P : Receipt → Type 0) (a b : List Receipt) → AllByRecursion P a → AllByRecursion P b → AllByRecursion P (a ++ b)
all_append P [] b first second = second
all_append P (r ∷ a) b first second = (first.0, all_append P a b first.1 second)

module _ {K : Type 0} where
  goes_by : (es : List Entry) (doubted : Option Entry) (old new : Sight K) → Adds es doubted old.page new.page → new.fixed ≡ old.fixed → Goes old new
  goes_by es doubted old new adds fixed = record { es = es; records = adds.records; config = adds.config; fixed = fixed }

  stays_by : (doubted : Option Entry) (old new : Sight K) → Doubts doubted old.page new.page → new.fixed ≡ old.fixed → Goes old new
  stays_by doubted old new same fixed = record { es = []; records = same.records ∙ none_new old.page.records; config = same.config; fixed = fixed }

  same_by : (old new : Sight K) → Same old.page new.page → new.fixed ≡ old.fixed → Goes old new
  same_by old new same fixed = record { es = []; records = same.records ∙ none_new old.page.records; config = same.config; fixed = fixed }

  answer_goes : (full : ℕ → ℕ → Type 0) (result : Answered) (body : List ℕ) (now : ℕ) (old new : Sight K) → AnswersSo full result body now old new → Goes old new
  answer_goes full (answered.Answer bytes point moment entered) body now old new a = goes_by (one_more (reaction_in old body (moment_in old now)).entry []) None old new a.adds a.fixed
  answer_goes full answered.Fault body now old new a = stays_by (Some a.0) old new a.2.doubts a.2.fixed
  answer_goes full answered.Full body now old new a = same_by old new a.2.same a.2.fixed
  answer_goes full answered.Memory body now old new a = same_by old new a.same a.fixed

  mark_goes : (full : ℕ → ℕ → Type 0) (result : Marked) (suspended : Bool) (device now : ℕ) (old new : Sight K) → MarksSo full result suspended device now old new → Goes old new
  mark_goes full marked.Done suspended device now old new m = goes_by (mark_of suspended device (moment_in old now) ∷ []) None old new m.1.adds m.1.fixed
  mark_goes full marked.Already suspended device now old new m = same_by old new m.1.same m.1.fixed
  mark_goes full marked.Fault suspended device now old new m = stays_by (Some (mark_of suspended device (moment_in old now))) old new m.1.doubts m.1.fixed
  mark_goes full marked.Full suspended device now old new m = same_by old new m.1.same m.1.fixed
  mark_goes full marked.Memory suspended device now old new m = same_by old new m.same m.fixed

  mending_goes : (result : Mended) (old new : Sight K) → Mends result old.page new.page → new.fixed ≡ old.fixed → Goes old new
  mending_goes mended.Whole old new m fixed = stays_by None old new m fixed
  mending_goes (mended.Found place) old new m fixed = goes_by (m.1.0 ∷ []) None old new m.1.2 fixed
  mending_goes mended.Fault old new m fixed = stays_by (Some m.0.0) old new m.0.2 fixed

  call_goes : (full : K → ℕ → ℕ → Type 0) (old : Sight K) (call : Call K) → IsAnswer full old call ⊎ IsMark full old call ⊎ IsMending old call → Goes old call.new
  call_goes full old call (inl a) = answer_goes (full old.page.keeper) a.result a.body a.now old call.new a.answers
  call_goes full old call (inr (inl m)) = mark_goes (full old.page.keeper) m.result m.suspended m.device m.now old call.new m.marks
  call_goes full old call (inr (inr m)) = mending_goes m.result old call.new m.mends m.fixed

  -- its receipts are good for what it leaves
  good_of : (c : Config) (keys : List RootKeys) (result : Answered) (body : List ℕ) (new : Sight K) (rs : List (List ℕ)) → new.page.config ≡ c → new.fixed.keys ≡ keys → new.page.records ≡ Some rs → GivesGood result body new → AllByRecursion (IsGood c keys rs) (receipts_of result body)
  good_of c keys (answered.Answer bytes point moment entered) body new rs config same told good =
      let r : Receipt = record { point = point; moment = moment.0; body = body; text = bytes; entered = entered } in
      (subst (λ (d : Config). IsGood d keys rs r) config (subst (λ (k : List RootKeys). IsGood new.page.config k rs r) same (good rs told)), tt)
  good_of c keys answered.Fault body new rs config same told good = tt
  good_of c keys answered.Full body new rs config same told good = tt
  good_of c keys answered.Memory body new rs config same told good = tt

  given_good : (full : K → ℕ → ℕ → Type 0) (c : Config) (keys : List RootKeys) (old : Sight K) (call : Call K) (rs : List (List ℕ)) → call.new.page.config ≡ c → call.new.fixed.keys ≡ keys → call.new.page.records ≡ Some rs
      → IsAnswer full old call ⊎ IsMark full old call ⊎ IsMending old call → AllByRecursion (IsGood c keys rs) call.receipts
  given_good full c keys old call rs config same told (inl a) = subst (AllByRecursion (IsGood c keys rs)) (sym a.given) (good_of c keys a.result a.body call.new rs config same told a.good)
  given_good full c keys old call rs config same told (inr (inl m)) = subst (AllByRecursion (IsGood c keys rs)) (sym m.given) tt
  given_good full c keys old call rs config same told (inr (inr m)) = subst (AllByRecursion (IsGood c keys rs)) (sym m.given) tt

  grows_by : (full : K → ℕ → ℕ → Type 0) (c : Config) (keys : List RootKeys) (before : List (List ℕ)) (old : Sight K) (call : Call K) (receipts : List Receipt) → Grown c keys before old receipts → IsCall full old call → Grown c keys before call.new (receipts ++ call.receipts)
  grows_by full c keys before old call receipts g is =
      let goes = call_goes full old call is.does in
      let new = map encode_of goes.es in
      let whole = before ++ (g.more ++ new) in
      let parts : (before ++ g.more) ++ new ≡ whole = append_assoc before g.more new in
      let told : call.new.page.records ≡ Some whole = goes.records ∙ ap (option_map (λ (rs : List (List ℕ)). rs ++ new)) g.records ∙ ap Some parts in
      let legal = is.book.legal whole told in
      let config = goes.config ∙ g.config in
      let same = ap (λ (f : Fixed). f.keys) goes.fixed ∙ g.keys_are in
      record {
        more = g.more ++ new;
        records = told;
        config = config;
        keys_are = same;
        opened = ap (λ (f : Fixed). f.opened) goes.fixed ∙ g.opened;
        good = all_append (IsGood c keys whole) receipts call.receipts
            (subst (λ (rs : List (List ℕ)). AllByRecursion (IsGood c keys rs) receipts) parts (all_on c keys (before ++ g.more) new legal.entries receipts (ap entries_of parts ∙ legal.spelled) g.good))
            (given_good full c keys old call whole config same told is.does);
      }

  grows_over : (full : K → ℕ → ℕ → Type 0) (c : Config) (keys : List RootKeys) (before : List (List ℕ)) (b : Sight K) (calls : List (Call K)) (receipts : List Receipt) → Grown c keys before b receipts → AreCalls full b calls → Grown c keys before (after_calls b calls) (receipts ++ given_out calls)
  grows_over full c keys before b [] receipts g are = subst (Grown c keys before b) (sym (append-nil receipts)) g
  grows_over full c keys before b (call ∷ calls) receipts g are =
      subst (Grown c keys before (after_calls call.new calls)) (append_assoc receipts call.receipts (given_out calls))
      (grows_over full c keys before call.new calls (receipts ++ call.receipts) (grows_by full c keys before b call receipts g are.0) are.1)

  book_over : (full : K → ℕ → ℕ → Type 0) (b : Sight K) (calls : List (Call K)) → IsBook b → AreCalls full b calls → IsBook (after_calls b calls)
  book_over full b [] is are = is
  book_over full b (call ∷ calls) is are = book_over full call.new calls are.0.book are.1

  since : (c : Config) (keys : List RootKeys) (before after : List (List ℕ)) (b : Sight K) → b.page.config ≡ c → b.fixed.keys ≡ keys → b.fixed.opened ≡ length before → IsLegalSince b.page.config b.fixed.keys b.fixed.opened after → IsLegalSince c keys (length before) after
  since c keys before after b config same opened legal =
      subst (λ (d : Config). IsLegalSince d keys (length before) after) config
      (subst (λ (k : List RootKeys). IsLegalSince b.page.config k (length before) after) same
      (subst (λ (n : ℕ). IsLegalSince b.page.config b.fixed.keys n after) opened legal))

  -- what an image holds of a book is what a life leaves
  life_of : (records_in : K → Image) (counted : K → ℕ) (rests : K → Type 0) (doubts : K → List ℕ → Type 0) (c : Config) (keys : List RootKeys) (before after : List (List ℕ)) (b : Sight K) (receipts : List Receipt) → IsBook b → IsPage records_in counted rests doubts b.page → Grown c keys before b receipts → MayHold b after
      → IsLife c keys (record { before = before; after = after; receipts = receipts })
  life_of records_in counted rests doubts c keys before after b receipts is p g (inl told) =
      let same : before ++ g.more ≡ after = same_Some (before ++ g.more) after (sym g.records ∙ told) in
      record {
        more = g.more;
        grows = sym same;
        legal = since c keys before after b g.config g.keys_are g.opened (is.legal after told);
        good = subst (λ (rs : List (List ℕ)). AllByRecursion (IsGood c keys rs) receipts) same g.good;
      }
  life_of records_in counted rests doubts c keys before after b receipts is p g (inr (e, doubted, rs, told, with_it)) =
      let same : before ++ g.more ≡ rs = same_Some (before ++ g.more) rs (sym g.records ∙ told) in
      let whole : after ≡ before ++ (g.more ++ encode_of e ∷ []) = with_it ∙ ap (λ (l : List (List ℕ)). l ++ encode_of e ∷ []) (sym same) ∙ append_assoc before g.more (encode_of e ∷ []) in
      let was = p.broken e doubted in
      let legal : IsLegalSince b.page.config b.fixed.keys b.fixed.opened after =
      subst (IsLegalSince b.page.config b.fixed.keys b.fixed.opened) (sym with_it) (since_more b.page.config b.fixed.keys b.fixed.opened rs b.page.desk e (is.legal rs told) (p.history rs told) is.begun was.again was.fit (is.tried e doubted)) in
      record {
        more = g.more ++ encode_of e ∷ [];
        grows = whole;
        legal = since c keys before after b g.config g.keys_are g.opened legal;
        good = subst (λ (l : List (List ℕ)). AllByRecursion (IsGood c keys l) receipts) (append_assoc before g.more (encode_of e ∷ []) ∙ sym whole)
            (all_on c keys (before ++ g.more) (encode_of e ∷ []) legal.entries receipts (ap entries_of (append_assoc before g.more (encode_of e ∷ []) ∙ sym whole) ∙ legal.spelled) g.good);
      }

pub calls_live : {K : Type 0} (records_in : K → Image) (counted : K → ℕ) (rests : K → Type 0) (doubts : K → List ℕ → Type 0) (full : K → ℕ → ℕ → Type 0) → CallsLive records_in counted rests doubts full
calls_live records_in counted rests doubts full before more after b calls told opened is are p holds =
    let first : Grown b.page.config b.fixed.keys before b [] = record { more = more; records = told; config = refl; keys_are = refl; opened = opened; good = tt } in
    life_of records_in counted rests doubts b.page.config b.fixed.keys before after (after_calls b calls) (given_out calls) (book_over full b calls is are) p (grows_over full b.page.config b.fixed.keys before b calls [] first are) holds
