-- One life after another.
use Rattle.std.proofs.Common.{◌≡◌, ℕ, zero, suc, ◌≤◌, List, [], ◌∷◌, ◌++◌, length, take, drop, Option, Some, None, refl, sym, ap, subst, ◌∙◌, arith, append_assoc, append-nil}
use Rattle.std.specs.List.{AllByRecursion}
use Rattle.std.proofs.lemmas.Option.{same_Some, none-some}
use Rattle.wire_ids.specs.declared.keys.RootKeys.{RootKeys}
use Rattle.agreements.specs.Walk.{Config}
use Rattle.entries.specs.Entries.{decode_of}
use Rattle.entries.specs.declared.entry.Entry.{Entry}
use Rattle.roam_core.specs.Desk.{desk_after, empty_desk}
use Rattle.roam_core.specs.Legal.{IsLegal, MayFollow}
use Rattle.roam_core.proofs.Issuing.{histories_issue_once}
use Rattle.book.specs.Histories.{IsLegalFrom, entries_of, in_front}
use Rattle.book.specs.Lives.{AreLives, IsLegalHistory, IsLife, Life, Lives, left_by}
use Rattle.book.specs.Receipts.{IsGood, IsGoodFor, Receipt}
use Rattle.book.proofs.Legality.{joined, may_then}
use Rattle.book.proofs.Receipting.{good_later}

-- ---- the front of a history

front_at : (o : Option Entry) (whole front : Option (List Entry)) (n : ℕ) (es : List Entry) → in_front o whole ≡ Some es → ((tail : List Entry) → whole ≡ Some tail → front ≡ Some (take n tail)) → in_front o front ≡ Some (take (suc n) es)
front_at None whole front n es is more = absurd (none-some es is)
front_at (Some y) None front n es is more = absurd (none-some es is)
front_at (Some y) (Some tail) front n es is more = ap (in_front (Some y)) (more tail refl) ∙ ap (λ (l : List Entry). Some (take (suc n) l)) (same_Some (y ∷ tail) es is)

spelled_front : (rs more : List (List ℕ)) (es : List Entry) → entries_of (rs ++ more) ≡ Some es → entries_of rs ≡ Some (take (length rs) es)
spelled_front [] more es is = refl
spelled_front (r ∷ rs) more es is = front_at (decode_of r) (entries_of (rs ++ more)) (entries_of rs) (length rs) es is (λ tail same. spelled_front rs more tail same)

legal_whole : (c : Config) (keys : List RootKeys) (n : ℕ) (es : List Entry) → n ≤ length es → IsLegal c keys (take n es) → IsLegalFrom c keys n es → IsLegal c keys es
legal_whole c keys zero es le front legal = legal
legal_whole c keys (suc n) [] le front legal = absurd (omega (arith, le))
legal_whole c keys (suc n) (x ∷ es) le front legal =
    (front.0, front.1, subst (MayFollow c keys (desk_after (empty_desk c) x)) (joined n es) (may_then c keys (desk_after (empty_desk c) x) (take n es) (drop n es) front.2 legal))

good_on : (c : Config) (keys : List RootKeys) (rs more : List (List ℕ)) (es : List Entry) (r : Receipt) → entries_of (rs ++ more) ≡ Some es → IsGood c keys rs r → IsGood c keys (rs ++ more) r
good_on c keys rs more es r spelled g =
    let same : g.entries ≡ take (length rs) es = same_Some g.entries (take (length rs) es) (sym g.spelled ∙ spelled_front rs more es spelled) in
    record {
      entries = es;
      spelled = spelled;
      good = subst (λ (l : List Entry). IsGoodFor c keys l r) (joined (length rs) es) (good_later c keys (take (length rs) es) (drop (length rs) es) r (subst (λ (l : List Entry). IsGoodFor c keys l r) same g.good));
    }

pub all_on : (c : Config) (keys : List RootKeys) (rs more : List (List ℕ)) (es : List Entry) (receipts : List Receipt) → entries_of (rs ++ more) ≡ Some es → AllByRecursion (IsGood c keys rs) receipts → AllByRecursion (IsGood c keys (rs ++ more)) receipts
all_on c keys rs more es [] spelled all = tt
all_on c keys rs more es (r ∷ receipts) spelled all = (good_on c keys rs more es r spelled all.0, all_on c keys rs more es receipts spelled all.1)

-- ---- lives

next_legal : (c : Config) (keys : List RootKeys) (start : List (List ℕ)) (l : Life) → l.before ≡ start → IsLife c keys l → IsLegalHistory c keys start → IsLegalHistory c keys l.after
next_legal c keys start l begins life legal =
    let since = life.legal in
    let front = spelled_front l.before life.more since.entries (ap entries_of (sym life.grows) ∙ since.spelled) in
    let same : legal.entries ≡ take (length l.before) since.entries = same_Some legal.entries (take (length l.before) since.entries) (sym legal.spelled ∙ ap entries_of (sym begins) ∙ front) in
    record { entries = since.entries; spelled = since.spelled; legal = legal_whole c keys (length l.before) since.entries since.long (subst (IsLegal c keys) same legal.legal) since.legal }

pub record IsLonger (start new : List (List ℕ)) : Type 0 where
  pub more : List (List ℕ)
  pub is : new ≡ start ++ more

grows : (c : Config) (keys : List RootKeys) (start : List (List ℕ)) (ls : List Life) → AreLives c keys start ls → IsLonger start (left_by start ls)
grows c keys start [] all = record { more = []; is = sym (append-nil start) }
grows c keys start (l ∷ ls) all =
    let rest = grows c keys l.after ls all.2 in
    record { more = all.1.more ++ rest.more; is = rest.is ∙ ap (λ (x : List (List ℕ)). x ++ rest.more) (all.1.grows ∙ ap (λ (x : List (List ℕ)). x ++ all.1.more) all.0) ∙ append_assoc start all.1.more rest.more }

pub lives : Lives
lives c keys start [] legal all = record { legal = legal; good = tt; once = λ places. histories_issue_once c keys legal.entries places legal.legal }
lives c keys start (l ∷ ls) legal all =
    let rest = lives c keys l.after ls (next_legal c keys start l all.0 all.1 legal) all.2 in
    let grown = grows c keys l.after ls all.2 in
    record {
      legal = rest.legal;
      good = (
        subst (λ (rs : List (List ℕ)). AllByRecursion (IsGood c keys rs) l.receipts) (sym grown.is) (all_on c keys l.after grown.more rest.legal.entries l.receipts (ap entries_of (sym grown.is) ∙ rest.legal.spelled) all.1.good),
        rest.good,
      );
      once = rest.once;
    }
