-- What turns write.
use Rattle.std.proofs.Common.{◌≡◌, ℕ, ◌+◌, List, [], ◌∷◌, ◌++◌, length, take, true, false, Option, Some, None, sym, ◌∙◌, ap, refl, subst, append_assoc, arith, inl, inr}
use Rattle.std.proofs.lemmas.List.{append-nil, length-append}
use Rattle.std.specs.Io.KnownBytes.{Appends, Keeps, prepend_known}
use Rattle.disk_model.specs.Moments.{Told}
use Rattle.disk_model.specs.Written.{AppendsFront}
use Rattle.disk_model.proofs.WrittenLemmas.{Appends_kept, Appends_then, AppendsFront_more, AppendsFront_none, AppendsFront_then, Appends_none}
use Rattle.line_reader.specs.Lines.{HasNoBreak, lines_of, whole_lines}
use Rattle.line_reader.proofs.Breaks.{lines_of-append, lines_of-last, whole_lines-append}
use Rattle.agreements.specs.Walk.{Config}
use Rattle.wire_ids.specs.declared.keys.RootKeys.{RootKeys}
use Rattle.entries.specs.declared.entry.Entry.{Entry}
use Rattle.keepers.specs.Keeper.{Image}
use Rattle.roam_core.specs.Desk.{Desk}
use Rattle.roam_core.specs.Lines.{one_more}
use Rattle.desk_top.specs.Journals.{Grows, Outside}
use Rattle.desk_top.specs.Output.{answer_line, desk_after_all, desk_then, entries_to, entry_then, output_of}
use Rattle.desk_top.specs.Turns.{AreUsed, IsUnderWay, LineUsed, StopsAt, StopsIn, Turns, TurnStops, Writes, WritesAll, WritesFront, WritesSome}
use Rattle.desk_top.proofs.Growing.{grows_as, grows_none, grows_same, grows_then, take-add-front}
use Rattle.desk_top.proofs.Clock.{told_none, told_then}

-- ---- answers one after another

pub output-append : (c : Config) (keys : List RootKeys) (s : Desk) (lines more : List (List ℕ)) (readings later : List ℕ) → length readings ≡ length lines
    → output_of c keys s (lines ++ more) (readings ++ later) ≡ output_of c keys s lines readings ++ output_of c keys (desk_after_all c keys s lines readings) more later
output-append c keys s [] more [] later e = refl
output-append c keys s [] more (r ∷ rs) later e = cc
output-append c keys s (line ∷ lines) more [] later e = cc
output-append c keys s (line ∷ lines) more (r ∷ rs) later e =
    let now = desk_then c keys s line r in
    ap (λ (bs : List ℕ). answer_line c keys s line r ++ bs) (output-append c keys now lines more rs later (omega (arith, e)))
    ∙ sym (append_assoc (answer_line c keys s line r) (output_of c keys now lines rs) (output_of c keys (desk_after_all c keys now lines rs) more later))

desk-append : (c : Config) (keys : List RootKeys) (s : Desk) (lines : List (List ℕ)) (readings line : List ℕ) (reading : ℕ) → length readings ≡ length lines
    → desk_after_all c keys s (lines ++ line ∷ []) (readings ++ reading ∷ []) ≡ desk_then c keys (desk_after_all c keys s lines readings) line reading
desk-append c keys s [] [] line reading e = refl
desk-append c keys s [] (r ∷ rs) line reading e = cc
desk-append c keys s (l ∷ ls) [] line reading e = cc
desk-append c keys s (l ∷ ls) (r ∷ rs) line reading e = desk-append c keys (desk_then c keys s l r) ls rs line reading (omega (arith, e))

output-one : (c : Config) (keys : List RootKeys) (s : Desk) (lines : List (List ℕ)) (readings line : List ℕ) (reading : ℕ) → length readings ≡ length lines
    → output_of c keys s (lines ++ line ∷ []) (readings ++ reading ∷ []) ≡ output_of c keys s lines readings ++ answer_line c keys (desk_after_all c keys s lines readings) line reading
output-one c keys s lines readings line reading e =
    output-append c keys s lines (line ∷ []) readings (reading ∷ []) e
    ∙ ap (λ (bs : List ℕ). output_of c keys s lines readings ++ bs) (append-nil (answer_line c keys (desk_after_all c keys s lines readings) line reading))

one_more-append : (e : Option Entry) (xs ys : List Entry) → one_more e (xs ++ ys) ≡ one_more e xs ++ ys
one_more-append None xs ys = refl
one_more-append (Some e) xs ys = refl

pub entries-append : (c : Config) (keys : List RootKeys) (s : Desk) (lines more : List (List ℕ)) (readings later : List ℕ) → length readings ≡ length lines
    → entries_to c keys s (lines ++ more) (readings ++ later) ≡ entries_to c keys s lines readings ++ entries_to c keys (desk_after_all c keys s lines readings) more later
entries-append c keys s [] more [] later e = refl
entries-append c keys s [] more (r ∷ rs) later e = cc
entries-append c keys s (line ∷ lines) more [] later e = cc
entries-append c keys s (line ∷ lines) more (r ∷ rs) later e =
    let now = desk_then c keys s line r in
    ap (λ (es : List Entry). one_more (entry_then c keys s line r) es) (entries-append c keys now lines more rs later (omega (arith, e)))
    ∙ one_more-append (entry_then c keys s line r) (entries_to c keys now lines rs) (entries_to c keys (desk_after_all c keys now lines rs) more later)

-- ---- lines one after another

-- a line with its end in front of more
line_first : (line later : List ℕ) → HasNoBreak line → lines_of ((line ++ 10 ∷ []) ++ later) ≡ line ∷ lines_of later
line_first line later clear = ap lines_of (append_assoc line (10 ∷ []) later) ∙ lines_of-append line later clear

whole_first : (line later : List ℕ) → HasNoBreak line → whole_lines ((line ++ 10 ∷ []) ++ later) ≡ line ∷ whole_lines later
whole_first line later clear = ap whole_lines (append_assoc line (10 ∷ []) later) ∙ whole_lines-append line later clear

-- the lines of all bytes are those that were used up and those of the rest
pub lines_left : (used rest : List ℕ) (lines : List (List ℕ)) → AreUsed used lines rest → lines_of (used ++ rest) ≡ lines ++ lines_of rest
lines_left used rest lines (inl f) = (f rest).0
lines_left used rest lines (inr d) =
    ap (λ (r : List ℕ). lines_of (used ++ r)) d.0 ∙ ap lines_of (append-nil used) ∙ d.1 ∙ sym (append-nil lines)
    ∙ sym (ap (λ (r : List ℕ). lines ++ lines_of r) d.0)

pub not_none : {P : Type 0} (line rest : List ℕ) (b : ℕ) → [] ≡ (line ++ b ∷ []) ++ rest → P
not_none [] rest b e = cc
not_none (x ∷ xs) rest b e = cc

pub front_none : (line rest : List ℕ) → [] ≡ line ++ rest → line ≡ []
front_none [] rest e = refl
front_none (x ∷ xs) rest e = cc

-- one more line was used up
used_next : (used line a b b' : List ℕ) (lines : List (List ℕ)) → a ≡ used ++ b → AreUsed used lines b → HasNoBreak line → LineUsed (Some b) line (Some b')
    → (more : List ℕ) × (a ≡ more ++ b') × AreUsed more (lines ++ line ∷ []) b'
used_next used line a b b' lines e (inl f) clear (inl ends) = (
  used ++ (line ++ 10 ∷ []),
  e ∙ ap (λ (r : List ℕ). used ++ r) ends ∙ sym (append_assoc used (line ++ 10 ∷ []) b'),
  inl (λ later. (
    ap lines_of (append_assoc used (line ++ 10 ∷ []) later) ∙ (f ((line ++ 10 ∷ []) ++ later)).0
        ∙ ap (λ (ls : List (List ℕ)). lines ++ ls) (line_first line later clear) ∙ sym (append_assoc lines (line ∷ []) (lines_of later)),
    ap whole_lines (append_assoc used (line ++ 10 ∷ []) later) ∙ (f ((line ++ 10 ∷ []) ++ later)).1
        ∙ ap (λ (ls : List (List ℕ)). lines ++ ls) (whole_first line later clear) ∙ sym (append_assoc lines (line ∷ []) (whole_lines later)),
  )),
)
used_next used line a b b' lines e (inl f) clear (inr last) = (
  used ++ line,
  e ∙ ap (λ (r : List ℕ). used ++ r) last.0 ∙ sym (append_assoc used line b'),
  inr (last.2, (f line).0 ∙ ap (λ (ls : List (List ℕ)). lines ++ ls) (lines_of-last line last.1 clear)),
)
used_next used line a b b' lines e (inr d) clear (inl ends) = not_none line b' 10 (sym d.0 ∙ ends)
used_next used line a b b' lines e (inr d) clear (inr last) = absurd (last.1 (front_none line b' (sym d.0 ∙ last.0)))

-- ---- turns

grows_one : (c : Config) (keys : List RootKeys) (s now : Desk) (lines : List (List ℕ)) (readings line : List ℕ) (reading : ℕ) (o w w' : Outside) → length readings ≡ length lines → now ≡ desk_after_all c keys s lines readings
    → Grows o.records w.records (entries_to c keys s lines readings) → Grows w.records w'.records (one_more (entry_then c keys now line reading) [])
    → Grows o.records w'.records (entries_to c keys s (lines ++ line ∷ []) (readings ++ reading ∷ []))
grows_one c keys s now lines readings line reading o w w' many is grown one =
    let last : entries_to c keys s lines readings ++ one_more (entry_then c keys now line reading) [] ≡ entries_to c keys s (lines ++ line ∷ []) (readings ++ reading ∷ []) =
    ap (λ (d : Desk). entries_to c keys s lines readings ++ one_more (entry_then c keys d line reading) []) is ∙ sym (entries-append c keys s lines (line ∷ []) readings (reading ∷ []) many) in
    subst (λ (es : List Entry). Grows o.records w'.records es) last (grows_then o.records w.records w'.records _ _ grown one)

-- at the beginning nothing is used up
pub under_way_first : (c : Config) (keys : List RootKeys) (s : Desk) (left : Option (List ℕ)) (o : Outside) (pending : List ℕ) → pending ≡ [] → IsUnderWay c keys s left o (prepend_known pending left) s o
under_way_first c keys s None o pending e = tt
under_way_first c keys s (Some left) o pending e = ([], [], [], sym (ap (λ (p : List ℕ). p ++ left) e), inl (λ later. (refl, refl)), refl, refl, told_none o.clock, Appends_none o.written, grows_none o.records)

pub under_way_then : (c : Config) (keys : List RootKeys) (s now new : Desk) (a b b' : Option (List ℕ)) (o w w' : Outside) → IsUnderWay c keys s a o b now w → Turns c keys b now w true b' new w' → IsUnderWay c keys s a o b' new w'
under_way_then c keys s now new None b b' o w w' u t = tt
under_way_then c keys s now new (Some a) None b' o w w' u t = absurd u
under_way_then c keys s now new (Some a) (Some b) None o w w' u t = elim t.3 [ inl e ↦ absurd e | inr e ↦ absurd e.0 ]
under_way_then c keys s now new (Some a) (Some b) (Some b') o w w' u t =
    let lines = u.1 in
    let readings = u.2 in
    let next = used_next u.0 t.0 a b b' lines u.3 u.4 t.2 t.3 in
    let state : new ≡ desk_after_all c keys s (lines ++ t.0 ∷ []) (readings ++ t.1 ∷ []) = t.4 ∙ ap (λ (d : Desk). desk_then c keys d t.0 t.1) u.6 ∙ sym (desk-append c keys s lines readings t.0 t.1 u.5) in
    let one : output_of c keys s lines readings ++ answer_line c keys now t.0 t.1 ≡ output_of c keys s (lines ++ t.0 ∷ []) (readings ++ t.1 ∷ []) =
    ap (λ (d : Desk). output_of c keys s lines readings ++ answer_line c keys d t.0 t.1) u.6 ∙ sym (output-one c keys s lines readings t.0 t.1 u.5) in (
      next.0,
      lines ++ t.0 ∷ [],
      readings ++ t.1 ∷ [],
      next.1,
      next.2,
      omega (arith, u.5, length-append lines (t.0 ∷ []), length-append readings (t.1 ∷ [])),
      state,
      told_then o.clock w.clock w'.clock readings (t.1 ∷ []) u.7 t.5,
      subst (λ (bs : List ℕ). Appends o.written w'.written bs) one (Appends_then o.written w.written w'.written _ _ u.8 t.6),
      grows_one c keys s now lines readings t.0 t.1 o w w' u.5 u.6 u.9 t.7,
    )

-- the lines that were used up are these, and nothing more was read or written
pub writes_used : (c : Config) (keys : List RootKeys) (s : Desk) (lines all : List (List ℕ)) (readings : List ℕ) (o w w' : Outside) → all ≡ lines → length readings ≡ length lines
    → Told o.clock w.clock readings → Appends o.written w.written (output_of c keys s lines readings) → Grows o.records w.records (entries_to c keys s lines readings) → Told w.clock w'.clock [] → Keeps w.written w'.written → w'.records ≡ w.records → Writes c keys s all o w'
writes_used c keys s lines all readings o w w' e many told wrote grown still keeps same = (
  readings,
  many ∙ sym (ap length e),
  subst (λ (rs : List ℕ). Told o.clock w'.clock rs) (append-nil readings) (told_then o.clock w.clock w'.clock readings [] told still),
  subst (λ (ls : List (List ℕ)). Appends o.written w'.written (output_of c keys s ls readings)) (sym e) (Appends_kept o.written w.written w'.written _ wrote keeps),
  subst (λ (ls : List (List ℕ)). Grows o.records w'.records (entries_to c keys s ls readings)) (sym e) (grows_same o.records w.records w'.records _ grown same),
)

pub all_under_way : (c : Config) (keys : List RootKeys) (s now new : Desk) (a b b' : Option (List ℕ)) (o w w' : Outside) → IsUnderWay c keys s a o b now w → Turns c keys b now w false b' new w' → WritesAll c keys s a o w'
all_under_way c keys s now new None b b' o w w' u t = tt
all_under_way c keys s now new (Some a) None b' o w w' u t = absurd u
all_under_way c keys s now new (Some a) (Some b) None o w w' u t = absurd t.0
all_under_way c keys s now new (Some a) (Some b) (Some b') o w w' u t =
    let none : b ≡ [] = t.0 ∙ t.1 in
    let all : lines_of a ≡ u.1 = ap lines_of u.3 ∙ lines_left u.0 b u.1 u.4 ∙ ap (λ (r : List ℕ). u.1 ++ lines_of r) none ∙ append-nil u.1 in
    writes_used c keys s u.1 (lines_of a) u.2 o w w' all u.5 u.7 u.8 u.9 t.2 t.3 t.4

-- a front of what is left is one of all
pub front_under_way : (c : Config) (keys : List RootKeys) (s now : Desk) (a b : Option (List ℕ)) (o w w' : Outside) → IsUnderWay c keys s a o b now w → WritesFront c keys now b w w' → WritesFront c keys s a o w'
front_under_way c keys s now None b o w w' u p = tt
front_under_way c keys s now (Some a) None o w w' u p = absurd u
front_under_way c keys s now (Some a) (Some b) o w w' u p =
    let all : lines_of a ≡ u.1 ++ lines_of b = ap lines_of u.3 ∙ lines_left u.0 b u.1 u.4 in
    let text : output_of c keys s u.1 u.2 ++ output_of c keys now (lines_of b) p.0 ≡ output_of c keys s (lines_of a) (u.2 ++ p.0) =
    ap (λ (d : Desk). output_of c keys s u.1 u.2 ++ output_of c keys d (lines_of b) p.0) u.6
    ∙ sym (output-append c keys s u.1 (lines_of b) u.2 p.0 u.5) ∙ sym (ap (λ (ls : List (List ℕ)). output_of c keys s ls (u.2 ++ p.0)) all) in
    let kept : take (length u.2 + p.1) (u.2 ++ p.0) ≡ u.2 ++ take p.1 p.0 = take-add-front u.2 p.0 p.1 in
    let grown : entries_to c keys s u.1 u.2 ++ entries_to c keys now (lines_of b) (take p.1 p.0) ≡ entries_to c keys s (lines_of a) (take (length u.2 + p.1) (u.2 ++ p.0)) =
    ap (λ (d : Desk). entries_to c keys s u.1 u.2 ++ entries_to c keys d (lines_of b) (take p.1 p.0)) u.6
    ∙ sym (entries-append c keys s u.1 (lines_of b) u.2 (take p.1 p.0) u.5) ∙ sym (ap (λ (ls : List (List ℕ)). entries_to c keys s ls (u.2 ++ take p.1 p.0)) all)
    ∙ sym (ap (λ (rs : List ℕ). entries_to c keys s (lines_of a) rs) kept) in (
      u.2 ++ p.0,
      length u.2 + p.1,
      omega (arith, length-append u.2 p.0, length-append u.1 (lines_of b), ap length all, u.5, p.2),
      omega (arith, length-append u.2 p.0, p.3),
      omega (arith, length-append u.2 p.0, p.4),
      told_then o.clock w.clock w'.clock u.2 p.0 u.7 p.5,
      subst (λ (bs : List ℕ). AppendsFront o.written w'.written bs) text (AppendsFront_then o.written w.written w'.written _ _ u.8 p.6),
      subst (λ (es : List Entry). Grows o.records w'.records es) grown (grows_then o.records w.records w'.records _ _ u.9 p.7),
    )

-- the first line is this one
first_used : (a b line : List ℕ) → HasNoBreak line → LineUsed (Some a) line (Some b) → (more : List (List ℕ)) × (lines_of a ≡ line ∷ more)
first_used a b line clear (inl ends) = (lines_of b, ap lines_of ends ∙ line_first line b clear)
first_used a b line clear (inr last) = ([], ap lines_of (last.0 ∙ ap (λ (r : List ℕ). line ++ r) last.2 ∙ append-nil line) ∙ lines_of-last line last.1 clear)

first_entries : (c : Config) (keys : List RootKeys) (s : Desk) (line : List ℕ) (more : List (List ℕ)) (reading : ℕ) → one_more (entry_then c keys s line reading) [] ≡ entries_to c keys s (line ∷ more) (reading ∷ [])
first_entries c keys s line [] reading = refl
first_entries c keys s line (l ∷ ls) reading = refl

-- the first line of these was heard, and its entry written, and a front of its answer
some_of_first : (c : Config) (keys : List RootKeys) (s : Desk) (line : List ℕ) (lines more : List (List ℕ)) (reading : ℕ) (w w' : Outside) → lines ≡ line ∷ more
    → Told w.clock w'.clock (reading ∷ []) → AppendsFront w.written w'.written (answer_line c keys s line reading) → Grows w.records w'.records (one_more (entry_then c keys s line reading) []) → WritesSome c keys s lines w w'
some_of_first c keys s line lines more reading w w' e told p grown = (
  reading ∷ [],
  1,
  omega (arith, ap length e),
  omega arith,
  omega arith,
  told,
  subst (λ (ls : List (List ℕ)). AppendsFront w.written w'.written (output_of c keys s ls (reading ∷ []))) (sym e) (AppendsFront_more w.written w'.written (answer_line c keys s line reading) _ p),
  subst (λ (ls : List (List ℕ)). Grows w.records w'.records (entries_to c keys s ls (reading ∷ []))) (sym e) (grows_as w.records w'.records _ _ (first_entries c keys s line more reading) grown),
)

-- nothing was written for it: neither its entry nor a byte of its answer
some_of_none : (c : Config) (keys : List RootKeys) (s : Desk) (line : List ℕ) (lines more : List (List ℕ)) (reading : ℕ) (w w' : Outside) → lines ≡ line ∷ more
    → Told w.clock w'.clock (reading ∷ []) → Keeps w.written w'.written → w'.records ≡ w.records → WritesSome c keys s lines w w'
some_of_none c keys s line lines more reading w w' e told p same = (
  reading ∷ [],
  0,
  omega (arith, ap length e),
  omega arith,
  omega arith,
  told,
  AppendsFront_none w.written w'.written _ p,
  subst (λ (ls : List (List ℕ)). Grows w.records w'.records (entries_to c keys s ls [])) (sym e) (same ∙ grows_none w.records),
)

-- a front of one line's answer is one of all
pub front_of_line : (c : Config) (keys : List RootKeys) (s : Desk) (a b : Option (List ℕ)) (w w' : Outside) (line : List ℕ) (reading : ℕ) → HasNoBreak line → LineUsed a line b
    → Told w.clock w'.clock (reading ∷ []) → AppendsFront w.written w'.written (answer_line c keys s line reading) → Grows w.records w'.records (one_more (entry_then c keys s line reading) []) → WritesFront c keys s a w w'
front_of_line c keys s None b w w' line reading clear uses told p grown = tt
front_of_line c keys s (Some a) None w w' line reading clear uses told p grown = elim uses [ inl e ↦ absurd e | inr e ↦ absurd e.0 ]
front_of_line c keys s (Some a) (Some b) w w' line reading clear uses told p grown =
    let first = first_used a b line clear uses in
    some_of_first c keys s line (lines_of a) first.0 reading w w' first.1 told p grown

pub front_unmade : (c : Config) (keys : List RootKeys) (s : Desk) (a b : Option (List ℕ)) (w w' : Outside) (line : List ℕ) (reading : ℕ) → HasNoBreak line → LineUsed a line b
    → Told w.clock w'.clock (reading ∷ []) → Keeps w.written w'.written → w'.records ≡ w.records → WritesFront c keys s a w w'
front_unmade c keys s None b w w' line reading clear uses told p same = tt
front_unmade c keys s (Some a) None w w' line reading clear uses told p same = elim uses [ inl e ↦ absurd e | inr e ↦ absurd e.0 ]
front_unmade c keys s (Some a) (Some b) w w' line reading clear uses told p same =
    let first = first_used a b line clear uses in
    some_of_none c keys s line (lines_of a) first.0 reading w w' first.1 told p same

nothing_grows : (c : Config) (keys : List RootKeys) (s : Desk) (lines : List (List ℕ)) (records : Image) → Grows records records (entries_to c keys s lines [])
nothing_grows c keys s [] records = grows_none records
nothing_grows c keys s (l ∷ ls) records = grows_none records

pub front_of_none : (c : Config) (keys : List RootKeys) (s : Desk) (a : Option (List ℕ)) (w w' : Outside) → Told w.clock w'.clock [] → Keeps w.written w'.written → w'.records ≡ w.records → WritesFront c keys s a w w'
front_of_none c keys s None w w' told k same = tt
front_of_none c keys s (Some a) w w' told k same = ([], 0, omega arith, omega arith, omega arith, told, AppendsFront_none w.written w'.written _ k, same ∙ nothing_grows c keys s (lines_of a) w.records)

-- ---- where the journal isn't gone on with

stops_known : (c : Config) (keys : List RootKeys) (s now : Desk) (a b b' used : List ℕ) (lines : List (List ℕ)) (readings : List ℕ) (o w w' : Outside) (e : Entry) → a ≡ used ++ b → AreUsed used lines b → length readings ≡ length lines
    → now ≡ desk_after_all c keys s lines readings → Told o.clock w.clock readings → Appends o.written w.written (output_of c keys s lines readings) → Grows o.records w.records (entries_to c keys s lines readings)
    → TurnStops c keys (Some b) now w (Some b') w' e → StopsAt c keys s (lines_of a) o w' e
stops_known c keys s now a b b' used lines readings o w w' e split are many is told wrote grown t =
    let first = first_used b b' t.0 t.2 t.3 in record {
      done = lines;
      line = t.0;
      more = first.0;
      cut = ap lines_of split ∙ lines_left used b lines are ∙ ap (λ (ls : List (List ℕ)). lines ++ ls) first.1;
      readings = readings;
      reading = t.1;
      once = many;
      clock = told_then o.clock w.clock w'.clock readings (t.1 ∷ []) told t.5;
      written = Appends_kept o.written w.written w'.written _ wrote t.6;
      records = grows_same o.records w.records w'.records _ grown t.7;
      makes = sym (ap (λ (d : Desk). entry_then c keys d t.0 t.1) is) ∙ t.4;
    }

pub stops_under_way : (c : Config) (keys : List RootKeys) (s now : Desk) (a b b' : Option (List ℕ)) (o w w' : Outside) (e : Entry) → IsUnderWay c keys s a o b now w → TurnStops c keys b now w b' w' e → StopsIn c keys s a o w' e
stops_under_way c keys s now None b b' o w w' e u t = tt
stops_under_way c keys s now (Some a) None b' o w w' e u t = absurd u
stops_under_way c keys s now (Some a) (Some b) None o w w' e u t = elim t.3 [ inl h ↦ absurd h | inr h ↦ absurd h.0 ]
stops_under_way c keys s now (Some a) (Some b) (Some b') o w w' e u t = stops_known c keys s now a b b' u.0 u.1 u.2 o w w' e u.3 u.4 u.5 u.6 u.7 u.8 u.9 t
