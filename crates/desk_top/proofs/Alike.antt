-- A long line is answered by its front.
use Rattle.std.proofs.Common.{◌≡◌, ℕ, List, [], ◌∷◌, ◌++◌, length, take, true, Option, Some, None, refl, ap, subst, sym, ◌∙◌, arith, inl, inr}
use Rattle.std.proofs.lemmas.Bool.{cases_lt}
use Rattle.std.proofs.lemmas.List.{take_all}
use Rattle.std.specs.Io.KnownBytes.{Appends, Keeps}
use Rattle.wire_ids.specs.declared.keys.RootKeys.{RootKeys}
use Rattle.agreements.specs.Walk.{Config}
use Rattle.disk_model.specs.Moments.{Told}
use Rattle.disk_model.specs.Written.{AppendsFront}
use Rattle.line_reader.specs.Hearing.{UsesUp}
use Rattle.line_reader.specs.declared.reader.Heard.TheVariants.{Line}
use Rattle.entries.specs.declared.entry.Entry.{Entry}
use Rattle.roam_core.specs.Desk.{Desk, desk_with, moment_of}
use Rattle.roam_core.specs.Lines.{Reaction, answer_to, one_more, reaction}
use Rattle.roam_core.specs.Legal.{desk_from}
use Rattle.roam_core.proofs.Long.{too_long_alike}
use Rattle.desk_top.specs.Output.{desk_then, entry_then}
use Rattle.desk_top.specs.Journals.{Grows, Outside}
use Rattle.desk_top.specs.Turns.{Turns, TurnStops, WritesFront}
use Rattle.desk_top.proofs.TurnLemmas.{front_of_line, front_unmade}

alike : (c : Config) (keys : List RootKeys) (s : Desk) (line : List ℕ) (moment : ℕ) → reaction c keys s (take 8193 line) moment ≡ reaction c keys s line moment
alike c keys s line moment = elim (cases_lt 8192 (length line)) [ inl l ↦ (too_long_alike c keys s line moment l).0 | inr l ↦ ap (λ (t : List ℕ). reaction c keys s t moment) (take_all 8193 line (omega (arith, l))) ]

-- what a line comes to, from what its first bytes come to
same_reaction : (c : Config) (keys : List RootKeys) (s : Desk) (text line : List ℕ) (moment : ℕ) → text ≡ take 8193 line → reaction c keys s text moment ≡ reaction c keys s line moment
same_reaction c keys s text line moment e = ap (λ (t : List ℕ). reaction c keys s t moment) e ∙ alike c keys s line moment

-- a line was answered whole, from its first bytes
pub turned : (c : Config) (keys : List RootKeys) (s new : Desk) (a b : Option (List ℕ)) (w w' : Outside) (text answer : List ℕ) (reading : ℕ) → UsesUp a (Line text) b
    → answer ≡ answer_to c keys s text (moment_of reading s.now) → new ≡ desk_then c keys s text reading → Told w.clock w'.clock (reading ∷ []) → Appends w.written w'.written (answer ++ 10 ∷ [])
    → Grows w.records w'.records (one_more (entry_then c keys s text reading) []) → Turns c keys a s w true b new w'
turned c keys s new a b w w' text answer reading u t st told p grown =
    let same = same_reaction c keys s text u.0 (moment_of reading s.now) u.2 in
    let state : new ≡ desk_then c keys s u.0 reading = st ∙ ap (λ (r : Reaction). desk_with s r.entry) same in
    let said : answer ≡ answer_to c keys s u.0 (moment_of reading s.now) = t ∙ ap (λ (r : Reaction). r.answer) same in
    (u.0, reading, u.1, u.3, state, told, subst (λ (x : List ℕ). Appends w.written w'.written (x ++ 10 ∷ [])) said p, subst (λ (r : Reaction). Grows w.records w'.records (one_more r.entry [])) same grown)

pub front_turned : (c : Config) (keys : List RootKeys) (s : Desk) (a b : Option (List ℕ)) (w w' : Outside) (text answer : List ℕ) (reading : ℕ) → UsesUp a (Line text) b
    → answer ≡ answer_to c keys s text (moment_of reading s.now) → Told w.clock w'.clock (reading ∷ []) → AppendsFront w.written w'.written (answer ++ 10 ∷ [])
    → Grows w.records w'.records (one_more (entry_then c keys s text reading) []) → WritesFront c keys s a w w'
front_turned c keys s a b w w' text answer reading u t told p grown =
    let same = same_reaction c keys s text u.0 (moment_of reading s.now) u.2 in
    let said : answer ≡ answer_to c keys s u.0 (moment_of reading s.now) = t ∙ ap (λ (r : Reaction). r.answer) same in
    front_of_line c keys s a b w w' u.0 reading u.1 u.3 told (subst (λ (x : List ℕ). AppendsFront w.written w'.written (x ++ 10 ∷ [])) said p) (subst (λ (r : Reaction). Grows w.records w'.records (one_more r.entry [])) same grown)

-- no answer was made to a line
pub front_unturned : (c : Config) (keys : List RootKeys) (s : Desk) (a b : Option (List ℕ)) (w w' : Outside) (text : List ℕ) (reading : ℕ) → UsesUp a (Line text) b
    → Told w.clock w'.clock (reading ∷ []) → Keeps w.written w'.written → w'.records ≡ w.records → WritesFront c keys s a w w'
front_unturned c keys s a b w w' text reading u told k same = front_unmade c keys s a b w w' u.0 reading u.1 u.3 told k same

-- its entry wasn't written
pub turn_stops : (c : Config) (keys : List RootKeys) (s : Desk) (a b : Option (List ℕ)) (w w' : Outside) (text : List ℕ) (reading : ℕ) (e : Entry) → UsesUp a (Line text) b
    → entry_then c keys s text reading ≡ Some e → Told w.clock w'.clock (reading ∷ []) → Keeps w.written w'.written → w'.records ≡ w.records → TurnStops c keys a s w b w' e
turn_stops c keys s a b w w' text reading e u makes told k same =
    let alike = same_reaction c keys s text u.0 (moment_of reading s.now) u.2 in
    (u.0, reading, u.1, u.3, sym (ap (λ (r : Reaction). r.entry) alike) ∙ makes, told, k, same)

pub desk_one : (s : Desk) (e : Option Entry) → desk_from s (one_more e []) ≡ desk_with s e
desk_one s None = refl
desk_one s (Some e) = refl

pub same_entry : (o : Option Entry) (x y : Entry) → o ≡ Some x → o ≡ Some y → y ≡ x
same_entry o x y one other = cc (one, other)
