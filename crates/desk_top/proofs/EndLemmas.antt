-- What stands written where the input fails, or is too much.
use Rattle.std.proofs.Common.{◌≡◌, ◌≢◌, ◌↔◌, ◌<◌, ◌≤◌, ℕ, ◌+◌, List, [], ◌∷◌, ◌++◌, length, take, Option, Some, None, Result, Err, sym, ◌∙◌, ap, refl, subst, append_assoc, arith, inl, inr}
use Rattle.std.proofs.lemmas.List.{append-nil, length-append, take_all, take-append-le}
use Rattle.std.specs.Io.KnownBytes.{Appends, Keeps}
use Rattle.disk_model.specs.Moments.{Told}
use Rattle.line_reader.specs.Ahead.{TakesCount}
use Rattle.line_reader.specs.Hearing.{StopsBehind, StopsInLine}
use Rattle.line_reader.specs.Lines.{HasNoBreak, lines_of, whole_lines}
use Rattle.line_reader.proofs.Breaks.{whole_lines-none}
use Rattle.agreements.specs.Walk.{Config}
use Rattle.wire_ids.specs.declared.keys.RootKeys.{RootKeys}
use Rattle.roam_core.specs.Desk.{Desk}
use Rattle.entries.specs.declared.entry.Entry.{Entry}
use Rattle.desk_top.specs.Output.{entries_to, output_of}
use Rattle.desk_top.specs.Faults.{IsOfLines, StopsLines}
use Rattle.desk_top.specs.Journals.{Grows, Outside}
use Rattle.desk_top.specs.Tasks.{LinesAnswered, Unwritten}
use Rattle.desk_top.specs.Turns.{AreUsed, IsUnderWay, StopsIn, WritesFront, WritesTaken, WritesWhole}
use Rattle.desk_top.specs.declared.fault.Stop.{Stop}
use Rattle.desk_top.specs.declared.fault.Fault.{Fault}
use Rattle.desk_top.specs.declared.fault.Fault.TheVariants.{Usage, Refused, NoDevice, TablesRead, InputRead, Write, TooMuch, Journal, Memory}
use Rattle.desk_top.proofs.Clock.{told_none}
use Rattle.desk_top.proofs.Growing.{keeps_itself}
use Rattle.desk_top.proofs.TurnLemmas.{front_none, front_of_none, not_none, writes_used}

-- no line has its end in the front
whole_part : (used front : List ℕ) (lines : List (List ℕ)) → HasNoBreak front → ((later : List ℕ) → (lines_of (used ++ later) ≡ lines ++ lines_of later) × (whole_lines (used ++ later) ≡ lines ++ whole_lines later))
    → whole_lines (used ++ front) ≡ lines
whole_part used front lines clear f = (f front).1 ∙ ap (λ (ls : List (List ℕ)). lines ++ ls) (whole_lines-none front clear) ∙ append-nil lines

as_many : (xs ys rest : List ℕ) → xs ++ rest ≡ ys ++ rest → length xs ≡ length ys
as_many xs ys rest e = omega (arith, ap length e, length-append xs rest, length-append ys rest)

-- where a read failed within a line
read_known : (limit n : ℕ) (c : Config) (keys : List RootKeys) (s : Desk) (used front bs a b left readings : List ℕ) (lines : List (List ℕ)) (o w w' : Outside) → a ≡ used ++ b → AreUsed used lines b
    → length readings ≡ length lines → Told o.clock w.clock readings → Appends o.written w.written (output_of c keys s lines readings) → Grows o.records w.records (entries_to c keys s lines readings)
    → b ≡ front ++ left → HasNoBreak front → Told w.clock w'.clock [] → Keeps w.written w'.written → w'.records ≡ w.records → a ≡ bs ++ left → n ≡ 0 + length bs → n ≤ limit → WritesWhole limit c keys s (Some a) (Some left) o w'
read_known limit n c keys s used front bs a b left readings lines o w w' e (inl f) many told wrote grown stops clear still k same takes count within =
    let whole : a ≡ (used ++ front) ++ left = e ∙ ap (λ (r : List ℕ). used ++ r) stops ∙ sym (append_assoc used front left) in
    let few : length (used ++ front) ≤ limit = omega (arith, as_many (used ++ front) bs left (sym whole ∙ takes), count, within) in
    let done : whole_lines (take limit (used ++ front)) ≡ lines = ap whole_lines (take_all limit (used ++ front) few) ∙ whole_part used front lines clear f in
    inl (used ++ front, whole, writes_used c keys s lines _ readings o w w' done many told wrote grown still k same)
read_known limit n c keys s used front bs a b left readings lines o w w' e (inr d) many told wrote grown stops clear still k same takes count within =
    let gone : front ≡ [] = front_none front left (sym d.0 ∙ stops) in
    let end : left ≡ [] = ap (λ (r : List ℕ). r ++ left) (sym gone) ∙ sym stops ∙ d.0 in
    let all : lines_of a ≡ lines = ap lines_of (e ∙ ap (λ (r : List ℕ). used ++ r) d.0 ∙ append-nil used) ∙ d.1 in
    inr (end, writes_used c keys s lines _ readings o w w' all many told wrote grown still k same)

pub read_under_way : (limit n : ℕ) (c : Config) (keys : List RootKeys) (s now : Desk) (a b left : Option (List ℕ)) (o w w' : Outside) → IsUnderWay c keys s a o b now w → StopsInLine b left → Told w.clock w'.clock [] → Keeps w.written w'.written → w'.records ≡ w.records → TakesCount a left 0 n → n ≤ limit → WritesWhole limit c keys s a left o w'
read_under_way limit n c keys s now None b left o w w' u stops still k same takes within = tt
read_under_way limit n c keys s now (Some a) None left o w w' u stops still k same takes within = absurd u
read_under_way limit n c keys s now (Some a) (Some b) None o w w' u stops still k same takes within = absurd stops.1
read_under_way limit n c keys s now (Some a) (Some b) (Some left) o w w' u stops still k same takes within =
    read_known limit n c keys s u.0 stops.0 takes.0 a b left u.2 u.1 o w w' u.3 u.4 u.5 u.7 u.8 u.9 stops.1 stops.2 still k same takes.1 takes.2 within

-- where one byte too many was taken
much_known : (limit n byte : ℕ) (c : Config) (keys : List RootKeys) (s : Desk) (used front bs a b left readings : List ℕ) (lines : List (List ℕ)) (o w w' : Outside) → a ≡ used ++ b → AreUsed used lines b
    → length readings ≡ length lines → Told o.clock w.clock readings → Appends o.written w.written (output_of c keys s lines readings) → Grows o.records w.records (entries_to c keys s lines readings)
    → b ≡ (front ++ byte ∷ []) ++ left → HasNoBreak front → Told w.clock w'.clock [] → Keeps w.written w'.written → w'.records ≡ w.records → a ≡ bs ++ left → n ≡ 0 + length bs → n ≡ limit + 1 → WritesTaken limit c keys s (Some a) (Some left) o w'
much_known limit n byte c keys s used front bs a b left readings lines o w w' e (inl f) many told wrote grown stops clear still k same takes count over =
    let taken = (used ++ front) ++ byte ∷ [] in
    let whole : a ≡ taken ++ left = e ∙ ap (λ (r : List ℕ). used ++ r) stops ∙ sym (append_assoc used (front ++ byte ∷ []) left) ∙ ap (λ (r : List ℕ). r ++ left) (sym (append_assoc used front (byte ∷ []))) in
    let all : length (used ++ front) ≡ limit = omega (arith, as_many taken bs left (sym whole ∙ takes), count, over, length-append (used ++ front) (byte ∷ [])) in
    let first : take limit taken ≡ used ++ front = take-append-le limit (used ++ front) (byte ∷ []) (omega (arith, all)) ∙ take_all limit (used ++ front) (omega (arith, all)) in
    let done : whole_lines (take limit taken) ≡ lines = ap whole_lines first ∙ whole_part used front lines clear f in
    (taken, whole, writes_used c keys s lines _ readings o w w' done many told wrote grown still k same)
much_known limit n byte c keys s used front bs a b left readings lines o w w' e (inr d) many told wrote grown stops clear still k same takes count over = not_none front left byte (sym d.0 ∙ stops)

pub much_under_way : (limit n : ℕ) (c : Config) (keys : List RootKeys) (s now : Desk) (a b left : Option (List ℕ)) (o w w' : Outside) → IsUnderWay c keys s a o b now w → StopsBehind b left → Told w.clock w'.clock [] → Keeps w.written w'.written → w'.records ≡ w.records → TakesCount a left 0 n → n ≡ limit + 1 → WritesTaken limit c keys s a left o w'
much_under_way limit n c keys s now None b left o w w' u stops still k same takes over = tt
much_under_way limit n c keys s now (Some a) None left o w w' u stops still k same takes over = absurd u
much_under_way limit n c keys s now (Some a) (Some b) None o w w' u stops still k same takes over = absurd stops.2
much_under_way limit n c keys s now (Some a) (Some b) (Some left) o w w' u stops still k same takes over =
    much_known limit n stops.1 c keys s u.0 stops.0 takes.0 a b left u.2 u.1 o w w' u.3 u.4 u.5 u.7 u.8 u.9 stops.2 stops.3 still k same takes.1 takes.2 over

-- the fault says it exactly where more was taken
pub told_too_much : {T : Type 0} (r : Result T Fault) (e : Fault) (k n : ℕ) → r ≡ Err e → (e ≢ TooMuch → n ≤ k) → (e ≡ TooMuch → k < n) → (r ≡ Err TooMuch) ↔ (k < n)
told_too_much r Usage k n is other much = (λ h. cc (is, h), λ l. absurd (omega (arith, other (λ h. cc))))
told_too_much r (Refused line) k n is other much = (λ h. cc (is, h), λ l. absurd (omega (arith, other (λ h. cc))))
told_too_much r (NoDevice line) k n is other much = (λ h. cc (is, h), λ l. absurd (omega (arith, other (λ h. cc))))
told_too_much r TablesRead k n is other much = (λ h. cc (is, h), λ l. absurd (omega (arith, other (λ h. cc))))
told_too_much r InputRead k n is other much = (λ h. cc (is, h), λ l. absurd (omega (arith, other (λ h. cc))))
told_too_much r Write k n is other much = (λ h. cc (is, h), λ l. absurd (omega (arith, other (λ h. cc))))
told_too_much r (Journal why) k n is other much = (λ h. cc (is, h), λ l. absurd (omega (arith, other (λ h. cc))))
told_too_much r TooMuch k n is other much = (λ h. much refl, λ l. is)
told_too_much r Memory k n is other much = (λ h. cc (is, h), λ l. absurd (omega (arith, other (λ h. cc))))

-- what a fault within the lines leaves
pub answered_err : (fills : List (List ℕ) → ℕ → ℕ → Type 0) (limit : ℕ) (c : Config) (keys : List RootKeys) (s : Desk) (a b : Option (List ℕ)) (o w : Outside) (doubted : Option Entry) (r : Result (Unit {0}) Fault) (e : Fault) → r ≡ Err e → IsOfLines e
    → ((StopsLines e → ⊥) → WritesFront c keys s a o w × (doubted ≡ None)) → ((why : Stop) → e ≡ Journal why → (x : Entry) × StopsIn c keys s a o w x × Unwritten fills x w.records doubted why)
    → (e ≡ InputRead → WritesWhole limit c keys s a b o w) → (e ≡ TooMuch → WritesTaken limit c keys s a b o w) → LinesAnswered fills limit c keys s a b o w doubted r
answered_err fills limit c keys s a b o w doubted r Usage is kind front stops read much = absurd kind
answered_err fills limit c keys s a b o w doubted r (Refused line) is kind front stops read much = absurd kind
answered_err fills limit c keys s a b o w doubted r (NoDevice line) is kind front stops read much = absurd kind
answered_err fills limit c keys s a b o w doubted r TablesRead is kind front stops read much = absurd kind
answered_err fills limit c keys s a b o w doubted r InputRead is kind front stops read much = subst (λ (t : Result (Unit {0}) Fault). LinesAnswered fills limit c keys s a b o w doubted t) (sym is) (read refl, (front (λ h. h)).1)
answered_err fills limit c keys s a b o w doubted r Write is kind front stops read much = subst (λ (t : Result (Unit {0}) Fault). LinesAnswered fills limit c keys s a b o w doubted t) (sym is) (front (λ h. h))
answered_err fills limit c keys s a b o w doubted r TooMuch is kind front stops read much = subst (λ (t : Result (Unit {0}) Fault). LinesAnswered fills limit c keys s a b o w doubted t) (sym is) (much refl, (front (λ h. h)).1)
answered_err fills limit c keys s a b o w doubted r (Journal why) is kind front stops read much = subst (λ (t : Result (Unit {0}) Fault). LinesAnswered fills limit c keys s a b o w doubted t) (sym is) (stops why refl)
answered_err fills limit c keys s a b o w doubted r Memory is kind front stops read much = subst (λ (t : Result (Unit {0}) Fault). LinesAnswered fills limit c keys s a b o w doubted t) (sym is) (front (λ h. h))

-- no more is taken than one byte too many
pub told_most : (e : Fault) (k n : ℕ) → (e ≢ TooMuch → n ≤ k) → (e ≡ TooMuch → n ≡ k + 1) → n ≤ k + 1
told_most Usage k n other much = omega (arith, other (λ h. cc))
told_most (Refused line) k n other much = omega (arith, other (λ h. cc))
told_most (NoDevice line) k n other much = omega (arith, other (λ h. cc))
told_most TablesRead k n other much = omega (arith, other (λ h. cc))
told_most InputRead k n other much = omega (arith, other (λ h. cc))
told_most Write k n other much = omega (arith, other (λ h. cc))
told_most (Journal why) k n other much = omega (arith, other (λ h. cc))
told_most TooMuch k n other much = omega (arith, much refl)
told_most Memory k n other much = omega (arith, other (λ h. cc))

-- nothing was read or written for want of memory
pub answered_none : (fills : List (List ℕ) → ℕ → ℕ → Type 0) (limit : ℕ) (c : Config) (keys : List RootKeys) (s : Desk) (a : Option (List ℕ)) (o : Outside) (doubted : Option Entry) (r : Result (Unit {0}) Fault) → r ≡ Err Memory → doubted ≡ None → LinesAnswered fills limit c keys s a a o o doubted r
answered_none fills limit c keys s a o doubted r is whole = subst (λ (t : Result (Unit {0}) Fault). LinesAnswered fills limit c keys s a a o o doubted t) (sym is) (front_of_none c keys s a o o (told_none o.clock) (keeps_itself o.written) refl, whole)
