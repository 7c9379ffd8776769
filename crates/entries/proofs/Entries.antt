-- Each entry has one spelling.
use Rattle.std.proofs.Common.{◌≡◌, ℕ, eqb, List, [], ◌∷◌, ◌++◌, Some, None, refl, sym, ap, subst, ◌∙◌, append_assoc}
use Rattle.std.proofs.lemmas.List.{append-nil}
use Rattle.wire_ids.specs.Forms.{AreBytes, Read, IsForm, and_then, u8, u32, long, both}
use Rattle.wire_ids.proofs.Forms.{Taken, then_some, some_is, by_test, taken_arm, taken_bare, arm_again, u8_again, u8_front, form-both, form-named, form-u8, form-u16, form-u24, form-u32, form-optional, form-short, form-long}
use Rattle.wire_ids.specs.declared.moment.Moment.{Moment}
use Rattle.entries.specs.declared.entry.Entry.{Entry}
use Rattle.entries.specs.declared.entry.Event.{Event}
use Rattle.entries.specs.declared.entry.Event.TheVariants.{Opened, Tables, Kept, Asked, Told, Suspend, Resume}
use Rattle.entries.specs.declared.entry.Request.{Request}
use Rattle.entries.specs.declared.change.Change.{Change}
use Rattle.entries.specs.declared.change.Change.TheVariants.{Join, Rejoin, Lent, Up, Passive, Queue, Dropped}
use Rattle.entries.specs.Names.{moment}
use Rattle.entries.specs.Changes.{joined, rejoined, uplink, passive_uplink, queued, stopped}
use Rattle.entries.specs.Asks.{new_ask, ask_outcome}
use Rattle.entries.specs.Entries.{request, lending, change_tag, kept_fields, FitsKept, kept_at, event_tag, event_fields, FitsEvent, event_at, entry, where_ended, whole, decode_of, encode_of}
use Rattle.entries.proofs.Names.{form-moment, form-sender}
use Rattle.entries.proofs.Changes.{form-used_seed, form-joined, form-rejoined, form-uplink, form-passive_uplink, form-queued, form-stopped}
use Rattle.entries.proofs.Asks.{form-new_ask, form-ask_outcome}

-- ---- kept requests

form-request : IsForm request
form-request = form-named _ _ _ (λ p. refl) (λ x. refl) (form-both _ _ form-sender (form-both _ _ form-short form-short))

form-lending : IsForm lending
form-lending = form-named _ _ _ (λ p. refl) (λ x. refl) (form-both _ _ (form-optional _ form-used_seed) (form-both _ _ form-request (form-both _ _ form-u32 (form-both _ _ form-u16 (form-both _ _ form-u24 (form-both _ _ form-u24 form-moment))))))

form-join : IsForm (both request joined)
form-join = form-both _ _ form-request form-joined

form-rejoin : IsForm (both request rejoined)
form-rejoin = form-both _ _ form-request form-rejoined

form-up : IsForm (both request uplink)
form-up = form-both _ _ form-request form-uplink

form-passive : IsForm (both request passive_uplink)
form-passive = form-both _ _ form-request form-passive_uplink

form-queue : IsForm (both request queued)
form-queue = form-both _ _ form-request form-queued

form-dropped : IsForm (both request stopped)
form-dropped = form-both _ _ form-request form-stopped

kept_again : (r : Request) (c : Change) (rest : List ℕ) → FitsKept r c → kept_at (change_tag c) (kept_fields r c ++ rest) ≡ Some (Kept r c, rest)
unfolding kept_at
kept_again r (Join j) rest fits = arm_again (both request joined) (λ p. Kept p.0 (Join p.1)) form-join (r, j) rest fits
kept_again r (Rejoin j) rest fits = arm_again (both request rejoined) (λ p. Kept p.0 (Rejoin p.1)) form-rejoin (r, j) rest fits
kept_again r (Lent l) rest fits = arm_again lending (λ p. Kept p.0 (Lent p.1)) form-lending (r, l) rest fits
kept_again r (Up u) rest fits = arm_again (both request uplink) (λ p. Kept p.0 (Up p.1)) form-up (r, u) rest fits
kept_again r (Passive p) rest fits = arm_again (both request passive_uplink) (λ p. Kept p.0 (Passive p.1)) form-passive (r, p) rest fits
kept_again r (Queue q) rest fits = arm_again (both request queued) (λ p. Kept p.0 (Queue p.1)) form-queue (r, q) rest fits
kept_again r (Dropped d) rest fits = arm_again (both request stopped) (λ p. Kept p.0 (Dropped p.1)) form-dropped (r, d) rest fits

kept_takes : (tag : ℕ) (bytes : List ℕ) (e : Event) (rest : List ℕ) → AreBytes bytes → kept_at tag bytes ≡ Some (e, rest) → Taken event_tag event_fields FitsEvent tag bytes e rest
unfolding kept_at
kept_takes tag bytes e rest is =
    by_test (eqb tag 3) _ _ _ (taken_arm event_tag event_fields FitsEvent (both request joined) (λ p. Kept p.0 (Join p.1)) 3 (λ _. refl) (λ _. refl) (λ _ f. f) form-join tag bytes e rest is) (λ _.
    by_test (eqb tag 4) _ _ _ (taken_arm event_tag event_fields FitsEvent (both request rejoined) (λ p. Kept p.0 (Rejoin p.1)) 4 (λ _. refl) (λ _. refl) (λ _ f. f) form-rejoin tag bytes e rest is) (λ _.
    by_test (eqb tag 5) _ _ _ (taken_arm event_tag event_fields FitsEvent lending (λ p. Kept p.0 (Lent p.1)) 5 (λ _. refl) (λ _. refl) (λ _ f. f) form-lending tag bytes e rest is) (λ _.
    by_test (eqb tag 6) _ _ _ (taken_arm event_tag event_fields FitsEvent (both request uplink) (λ p. Kept p.0 (Up p.1)) 6 (λ _. refl) (λ _. refl) (λ _ f. f) form-up tag bytes e rest is) (λ _.
    by_test (eqb tag 7) _ _ _ (taken_arm event_tag event_fields FitsEvent (both request passive_uplink) (λ p. Kept p.0 (Passive p.1)) 7 (λ _. refl) (λ _. refl) (λ _ f. f) form-passive tag bytes e rest is) (λ _.
    by_test (eqb tag 8) _ _ _ (taken_arm event_tag event_fields FitsEvent (both request queued) (λ p. Kept p.0 (Queue p.1)) 8 (λ _. refl) (λ _. refl) (λ _ f. f) form-queue tag bytes e rest is) (λ _.
    by_test (eqb tag 11) _ _ _ (taken_arm event_tag event_fields FitsEvent (both request stopped) (λ p. Kept p.0 (Dropped p.1)) 11 (λ _. refl) (λ _. refl) (λ _ f. f) form-dropped tag bytes e rest is) (λ _ none. absurd cc)))))))

-- ---- events

event_kept : (r : Request) (c : Change) (rest : List ℕ) → event_at (change_tag c) (kept_fields r c ++ rest) ≡ kept_at (change_tag c) (kept_fields r c ++ rest)
unfolding event_at
event_kept r (Join j) rest = refl
event_kept r (Rejoin j) rest = refl
event_kept r (Lent l) rest = refl
event_kept r (Up u) rest = refl
event_kept r (Passive p) rest = refl
event_kept r (Queue q) rest = refl
event_kept r (Dropped d) rest = refl

event_again : (e : Event) (rest : List ℕ) → FitsEvent e → event_at (event_tag e) (event_fields e ++ rest) ≡ Some (e, rest)
unfolding event_at
event_again Opened rest fits = refl
event_again (Tables text) rest fits = arm_again long Tables form-long text rest fits
event_again (Kept r c) rest fits = event_kept r c rest ∙ kept_again r c rest fits
event_again (Asked a) rest fits = arm_again new_ask Asked form-new_ask a rest fits
event_again (Told o) rest fits = arm_again ask_outcome Told form-ask_outcome o rest fits
event_again (Suspend device) rest fits = arm_again u32 Suspend form-u32 device rest fits
event_again (Resume device) rest fits = arm_again u32 Resume form-u32 device rest fits

event_takes : (tag : ℕ) (bytes : List ℕ) (e : Event) (rest : List ℕ) → AreBytes bytes → event_at tag bytes ≡ Some (e, rest) → Taken event_tag event_fields FitsEvent tag bytes e rest
unfolding event_at
event_takes tag bytes e rest is =
    by_test (eqb tag 1) _ _ _ (taken_bare event_tag event_fields FitsEvent Opened 1 refl refl tt tag bytes e rest is) (λ _.
    by_test (eqb tag 2) _ _ _ (taken_arm event_tag event_fields FitsEvent long Tables 2 (λ _. refl) (λ _. refl) (λ _ f. f) form-long tag bytes e rest is) (λ _.
    by_test (eqb tag 9) _ _ _ (taken_arm event_tag event_fields FitsEvent new_ask Asked 9 (λ _. refl) (λ _. refl) (λ _ f. f) form-new_ask tag bytes e rest is) (λ _.
    by_test (eqb tag 10) _ _ _ (taken_arm event_tag event_fields FitsEvent ask_outcome Told 10 (λ _. refl) (λ _. refl) (λ _ f. f) form-ask_outcome tag bytes e rest is) (λ _.
    by_test (eqb tag 12) _ _ _ (taken_arm event_tag event_fields FitsEvent u32 Suspend 12 (λ _. refl) (λ _. refl) (λ _ f. f) form-u32 tag bytes e rest is) (λ _.
    by_test (eqb tag 13) _ _ _ (taken_arm event_tag event_fields FitsEvent u32 Resume 13 (λ _. refl) (λ _. refl) (λ _ f. f) form-u32 tag bytes e rest is) (λ _ same. kept_takes tag bytes e rest is same))))))

-- ---- entries

abbrev fields_read : ℕ → Moment → List ℕ → Read Entry
fields_read tag at fields = and_then (event_at tag fields) (λ event rest. Some (record { moment = at; event = event }, rest))

abbrev moment_read : ℕ → List ℕ → Read Entry
moment_read tag more = and_then (moment.read more) (fields_read tag)

-- what stands behind the tag
parts_of : (at : Moment) (event : Event) (more fields rest : List ℕ) → more ≡ moment.spell at ++ fields → fields ≡ event_fields event ++ rest → more ≡ (moment.spell at ++ event_fields event) ++ rest
parts_of at event more fields rest m f = m ∙ ap (λ (w : List ℕ). moment.spell at ++ w) f ∙ sym (append_assoc (moment.spell at) (event_fields event) rest)

takes_fields : (tag : ℕ) (at : Moment) (more fields : List ℕ) (e : Entry) (rest : List ℕ) → more ≡ moment.spell at ++ fields → moment.Fits at → AreBytes fields → fields_read tag at fields ≡ Some (e, rest)
    → (tag ≡ event_tag e.event) × (more ≡ (moment.spell e.moment ++ event_fields e.event) ++ rest) × AreBytes rest × (moment.Fits e.moment × FitsEvent e.event)
takes_fields tag at more fields e rest m fits is same =
    let x = then_some (event_at tag fields) (λ event left. Some (record { moment = at; event = event }, left)) (e, rest) same in
    let t = event_takes tag fields x.0 x.1 is x.2 in
    subst (λ (q : Entry × List ℕ). (tag ≡ event_tag q.0.event) × (more ≡ (moment.spell q.0.moment ++ event_fields q.0.event) ++ q.1) × AreBytes q.1 × (moment.Fits q.0.moment × FitsEvent q.0.event))
    (some_is (record { moment = at; event = x.0 }, x.1) (e, rest) x.3) (t.named_by, parts_of at x.0 more fields x.1 m t.parts, t.left, (fits, t.fits))

takes_moment : (tag : ℕ) (more : List ℕ) (e : Entry) (rest : List ℕ) → AreBytes more → moment_read tag more ≡ Some (e, rest)
    → (tag ≡ event_tag e.event) × (more ≡ (moment.spell e.moment ++ event_fields e.event) ++ rest) × AreBytes rest × (moment.Fits e.moment × FitsEvent e.event)
takes_moment tag more e rest is same =
    let x = then_some (moment.read more) (fields_read tag) (e, rest) same in
    let t = form-moment.takes more x.0 x.1 is x.2 in
    takes_fields tag x.0 more x.1 e rest t.parts t.fits t.left x.3

pub form-entry : IsForm entry
unfolding entry
form-entry = record {
  again = λ e rest fits.
      let tag = u8_again (event_tag e.event) ((moment.spell e.moment ++ event_fields e.event) ++ rest) in
      rw (tag, append_assoc (moment.spell e.moment) (event_fields e.event) rest, form-moment.again e.moment (event_fields e.event ++ rest) fits.0, event_again e.event rest fits.1) refl;
  takes = λ bytes e rest is same.
      let x = then_some (u8.read bytes) moment_read (e, rest) same in
      let t = form-u8.takes bytes x.0 x.1 is x.2 in
      let k = takes_moment x.0 x.1 e rest t.left x.3 in
      record { parts = t.parts ∙ u8_front x.0 x.1 ∙ ap (λ (w : List ℕ). x.0 ∷ w) k.1 ∙ ap (λ (n : ℕ). n ∷ ((moment.spell e.moment ++ event_fields e.event) ++ rest)) k.0; left = k.2; fits = k.3 };
}

-- ---- whole texts

pub decode-encode : (e : Entry) → entry.Fits e → decode_of (encode_of e) ≡ Some e
unfolding decode_of encode_of
decode-encode e fits = ap (λ (w : List ℕ). whole (entry.read w)) (sym (append-nil (entry.spell e))) ∙ rw (form-entry.again e [] fits) refl

abbrev taken : Entry → List ℕ → Read Entry
taken e left = Some (e, left)

ended_some : (x e : Entry) (left : List ℕ) → where_ended x left ≡ Some e → taken x left ≡ taken e []
ended_some x e [] h = ap (λ (y : Entry). taken y []) (some_is x e h)
ended_some x e (b ∷ bytes) h = absurd cc

whole_some : (r : Read Entry) (e : Entry) → whole r ≡ Some e → r ≡ taken e []
whole_some None e h = absurd cc
whole_some (Some x) e h = ended_some x.0 e x.1 h

pub encode-decode : (bytes : List ℕ) (e : Entry) → AreBytes bytes → decode_of bytes ≡ Some e → (bytes ≡ encode_of e) × entry.Fits e
unfolding decode_of encode_of
encode-decode bytes e is same =
    let t = form-entry.takes bytes e [] is (whole_some (entry.read bytes) e same) in
    (t.parts ∙ append-nil (entry.spell e), t.fits)
