-- An answer makes a good receipt, and it stays good.
use Rattle.std.proofs.Common.{◌≡◌, ℕ, zero, suc, ◌≤◌, ◌^◌, List, [], ◌∷◌, ◌++◌, length, map, take, Bool, Option, Some, None, refl, sym, ap, subst, ◌∙◌, arith, append-nil}
use Rattle.std.specs.Prelude.{option_map, slice_get, is_some}
use Rattle.std.proofs.lemmas.List.{length-append, take_at}
use Rattle.std.proofs.lemmas.Option.{same_Some, none-some}
use Rattle.wire_ids.specs.declared.keys.RootKeys.{RootKeys}
use Rattle.agreements.specs.Walk.{Config}
use Rattle.disk_model.specs.Disk.{WhereTold}
use Rattle.entries.specs.Entries.{decode_of, encode_of}
use Rattle.entries.specs.declared.entry.Entry.{Entry}
use Rattle.keepers.specs.Keeper.{Image}
use Rattle.roam_core.specs.Desk.{Desk}
use Rattle.roam_core.specs.Legal.{desk_at}
use Rattle.roam_core.specs.Lines.{one_more, reaction}
use Rattle.book.specs.Histories.{IsHistory, entries_of}
use Rattle.book.specs.Receipts.{GivesGood, IsGood, IsGoodFor, Receipt}
use Rattle.book.specs.Results.{Answers, DecidesSo, IsFullAnswer, LacksRoom, reaction_in}
use Rattle.book.specs.Sight.{Fixed, Sight}
use Rattle.book.specs.declared.answered.Answered.{Answered}
use Rattle.book.specs.declared.answered.Answered.TheVariants as answered
use Rattle.book.proofs.Growing.{spelled_more}
use Rattle.book.proofs.Legality.{long, take_front}

last_one : (es : List Entry) (e : Entry) → slice_get (es ++ e ∷ []) (length es) ≡ Some e
last_one [] e = refl
last_one (x ∷ es) e = last_one es e

good_here : (c : Config) (keys : List RootKeys) (es : List Entry) (s : Desk) (body : List ℕ) (at : ℕ) → desk_at c es ≡ s → s.now.moment ≤ at → at ≤ 2 ^ 53
    → IsGoodFor c keys (es ++ one_more (reaction c keys s body at).entry []) (record { point = length es; moment = at; body = body; text = (reaction c keys s body at).answer; entered = is_some (reaction c keys s body at).entry })
good_here c keys es s body at leads from to =
    let made = (reaction c keys s body at).entry in
    let more = one_more made [] in
    let same : desk_at c (take (length es) (es ++ more)) ≡ s = ap (desk_at c) (take_at es more (length es) refl) ∙ leads in
    record {
      within = omega (arith, length-append es more);
      from = subst (λ (d : Desk). d.now.moment ≤ at) (sym same) from;
      to = to;
      answered = ap (λ (d : Desk). (reaction c keys d body at).answer) (sym same);
      marked = ap (λ (d : Desk). is_some (reaction c keys d body at).entry) (sym same);
      kept = λ e makes.
          let is : made ≡ Some e = ap (λ (d : Desk). (reaction c keys d body at).entry) (sym same) ∙ makes in
          subst (λ (o : Option Entry). slice_get (es ++ one_more o []) (length es) ≡ Some e) (sym is) (last_one es e);
    }

spelled_made : (rs : List (List ℕ)) (es : List Entry) (made : Option Entry) → entries_of rs ≡ Some es → ((e : Entry) → made ≡ Some e → decode_of (encode_of e) ≡ Some e) → entries_of (rs ++ map encode_of (one_more made [])) ≡ Some (es ++ one_more made [])
spelled_made rs es None is again = ap entries_of (append-nil rs) ∙ is ∙ ap Some (sym (append-nil es))
spelled_made rs es (Some e) is again = spelled_more rs es (encode_of e) e is (again e refl)

module _ {K : Type 0} where
  good_at : (full : ℕ → ℕ → Type 0) (bytes : List ℕ) (point moment : ℕ) (entered : Bool) (body : List ℕ) (at : ℕ) (old new : Sight K) (before : Image) → before ≡ old.page.records
      → WhereTold old.page.records (λ rs. IsHistory old.page.config rs old.page.desk) → old.page.desk.now.moment ≤ at → at ≤ 2 ^ 53 → Answers full bytes point moment entered body at old new
      → (rs : List (List ℕ)) → new.page.records ≡ Some rs → IsGood new.page.config new.fixed.keys rs (record { point = point; moment = moment; body = body; text = bytes; entered = entered })
  good_at full bytes point moment entered body at old new None was history from to a rs told =
      let none = a.adds.records ∙ ap (option_map (λ (x : List (List ℕ)). x ++ map encode_of (one_more (reaction_in old body at).entry []))) (sym was) in
      absurd (none-some rs (sym none ∙ told))
  good_at full bytes point moment entered body at old new (Some x) was history from to a rs told =
      let c = old.page.config in
      let keys = old.fixed.keys in
      let s = old.page.desk in
      let made = (reaction_in old body at).entry in
      let h = history x (sym was) in
      let es = h.entries in
      let grown = a.adds.records ∙ ap (option_map (λ (y : List (List ℕ)). y ++ map encode_of (one_more made []))) (sym was) in
      let here : x ++ map encode_of (one_more made []) ≡ rs = same_Some (x ++ map encode_of (one_more made [])) rs (sym grown ∙ told) in
      let size : length es ≡ s.now.entries = sym (long c es) ∙ ap (λ (d : Desk). d.now.entries) h.leads in
      let text = a.bytes_are in
      let mark = a.marked in
      let r0 : Receipt = record { point = length es; moment = at; body = body; text = (reaction c keys s body at).answer; entered = is_some made } in
      let r : Receipt = record { point = point; moment = moment; body = body; text = bytes; entered = entered } in
      let same : r0 ≡ r = λ i. record { point = (size ∙ sym a.point_is) i; moment = sym a.moment_is i; body = body; text = sym text i; entered = sym mark i } in
      subst (λ (d : Config). IsGood d new.fixed.keys rs r) (sym a.adds.config) (subst (λ (f : Fixed). IsGood c f.keys rs r) (sym a.fixed)
      (record {
        entries = es ++ one_more made [];
        spelled = ap entries_of (sym here) ∙ spelled_made x es made h.spelled (λ e makes. (a.room e makes).1);
        good = subst (IsGoodFor c keys (es ++ one_more made [])) same (good_here c keys es s body at h.leads from to);
      }))

  pub gives_good : (full : ℕ → ℕ → Type 0) (result : Answered) (body : List ℕ) (at : ℕ) (old new : Sight K) → WhereTold old.page.records (λ rs. IsHistory old.page.config rs old.page.desk) → old.page.desk.now.moment ≤ at → at ≤ 2 ^ 53
      → DecidesSo full result body at old new → GivesGood result body new
  gives_good full (answered.Answer bytes point moment entered) body at old new history from to a = good_at full bytes point moment.0 entered body at old new old.page.records refl history from to a
  gives_good full answered.Fault body at old new history from to a = tt
  gives_good full answered.Full body at old new history from to a = tt
  gives_good full answered.Memory body at old new history from to a = tt

-- ---- a full keeper

module _ {K : Type 0} where
  pub lacks_room : (full fills : ℕ → ℕ → Type 0) (result : Answered) (body : List ℕ) (at : ℕ) (old new : Sight K) → ((n bytes : ℕ) → full n bytes → fills n bytes) → DecidesSo full result body at old new → IsFullAnswer result → LacksRoom fills body at old
  lacks_room full fills (answered.Answer bytes point moment entered) body at old new gives a is = absurd is
  lacks_room full fills answered.Fault body at old new gives a is = absurd is
  lacks_room full fills answered.Full body at old new gives a is = (a.0, a.1, gives 1 (length (encode_of a.0)) a.3)
  lacks_room full fills answered.Memory body at old new gives a is = absurd is

-- ---- a later list

slice_front : (es more : List Entry) (n : ℕ) (e : Entry) → slice_get es n ≡ Some e → slice_get (es ++ more) n ≡ Some e
slice_front [] more n e is = absurd (none-some e is)
slice_front (x ∷ es) more zero e is = is
slice_front (x ∷ es) more (suc n) e is = slice_front es more n e is

pub good_later : (c : Config) (keys : List RootKeys) (es more : List Entry) (r : Receipt) → IsGoodFor c keys es r → IsGoodFor c keys (es ++ more) r
good_later c keys es more r g =
    let same : desk_at c (take r.point (es ++ more)) ≡ desk_at c (take r.point es) = ap (desk_at c) (take_front r.point es more g.within) in
    record {
      within = omega (arith, g.within, length-append es more);
      from = subst (λ (d : Desk). d.now.moment ≤ r.moment) (sym same) g.from;
      to = g.to;
      answered = g.answered ∙ ap (λ (d : Desk). (reaction c keys d r.body r.moment).answer) (sym same);
      marked = g.marked ∙ ap (λ (d : Desk). is_some (reaction c keys d r.body r.moment).entry) (sym same);
      kept = λ e makes. slice_front es more r.point e (g.kept e (ap (λ (d : Desk). (reaction c keys d r.body r.moment).entry) (sym same) ∙ makes));
    }
