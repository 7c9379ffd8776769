use Rattle.std.proofs.Common.{◌≡◌, ◌+◌, ℕ, List, length, ◌++◌, ◌∷◌, [], ◌%◌, set, refl, inl, inr, Some, sym, ◌∙◌, ap, subst, arith}
use Rattle.disk_journal.specs.Format.{kept}
use Rattle.disk_journal.specs.Journal.{AtRest, history}
use Rattle.disk_journal.proofs.Results.{on_err, mapped, map_of, told_or}
use Rattle.disk_journal.proofs.Append.{after_stage, after_gate, added, rests_again, doubt_of, kept_of, moments_of, staged_of, after_of}
use Rattle.std.proofs.lemmas.Option.{none-some}
use Rattle.disk_journal.proofs.journal.Journal.put.Goals as goal

pub returns-in_err-stage-clause-doubt : goal.returns-in_err-stage-clause-doubt
returns-in_err-stage-clause-doubt g c =
    let D = g.D.Disk in let s = c.args.self.now in
    on_err c.from_residual.result (doubt_of D.seen D.images D.moment D.images_since s.end s.count s.places.items c.args.bytes.now (omega (arith, c.requires.fits)) s.disk c.stage.new.disk c.stage.ensures.untold
    (λ d told. after_stage D.seen D.images D.moment D.images_since s.end s.count s.places.items c.args.bytes.now (omega (arith, c.requires.fits)) s.disk d told (c.requires.rests d told) c.stage.new.disk c.stage.ensures.keeps))

pub returns-in_err-stage-clause-kept : goal.returns-in_err-stage-clause-kept
returns-in_err-stage-clause-kept g c =
    let D = g.D.Disk in let s = c.args.self.now in
    on_err c.from_residual.result (kept_of D.seen D.images D.moment D.images_since s.end s.count s.places.items c.args.bytes.now (omega (arith, c.requires.fits)) s.disk c.stage.new.disk c.stage.ensures.untold
    (λ d told. after_stage D.seen D.images D.moment D.images_since s.end s.count s.places.items c.args.bytes.now (omega (arith, c.requires.fits)) s.disk d told (c.requires.rests d told) c.stage.new.disk c.stage.ensures.keeps))

pub returns-in_err-stage-clause-any_moment : goal.returns-in_err-stage-clause-any_moment
returns-in_err-stage-clause-any_moment g c =
    let D = g.D.Disk in let s = c.args.self.now in
    moments_of D.seen D.images D.moment D.images_since s.end s.count s.places.items c.args.bytes.now (omega (arith, c.requires.fits)) s.disk c.stage.new.disk c.stage.ensures.untold
    (λ d told. after_stage D.seen D.images D.moment D.images_since s.end s.count s.places.items c.args.bytes.now (omega (arith, c.requires.fits)) s.disk d told (c.requires.rests d told) c.stage.new.disk c.stage.ensures.keeps)

pub set_gate-requires : goal.set_gate-requires
set_gate-requires g c =
    let D = g.D.Disk in let s = c.args.self.now in
    record {
      within = λ x now. elim (told_or (D.seen s.disk)) [
        | inl none ↦ absurd (none-some x (sym (c.stage.ensures.untold none) ∙ now))
        | inr some ↦ ((after_stage D.seen D.images D.moment D.images_since s.end s.count s.places.items c.args.bytes.now (omega (arith, c.requires.fits)) s.disk some.0 some.1 (c.requires.rests some.0 some.1) c.stage.new.disk c.stage.ensures.keeps).in_doubt x now).has.within
      ];
    }

pub returns-in_err-set_gate-clause-doubt : goal.returns-in_err-set_gate-clause-doubt
returns-in_err-set_gate-clause-doubt g c =
    let D = g.D.Disk in let s = c.args.self.now in
    on_err c.from_residual-in_err-set_gate.result (doubt_of D.seen D.images D.moment D.images_since s.end s.count s.places.items c.args.bytes.now (omega (arith, c.requires.fits)) s.disk c.set_gate.new.disk (λ none. c.set_gate.ensures.untold (c.stage.ensures.untold none))
    (λ d told. after_gate D.seen D.images D.moment D.images_since s.end s.count s.places.items c.args.bytes.now (omega (arith, c.requires.fits)) s.disk d told (c.requires.rests d told) c.stage.new.disk c.stage.ensures.keeps c.set_gate.new.disk c.in_ok-stage.ensures.staged c.set_gate.ensures.keeps))

pub returns-in_err-set_gate-clause-kept : goal.returns-in_err-set_gate-clause-kept
returns-in_err-set_gate-clause-kept g c =
    let D = g.D.Disk in let s = c.args.self.now in
    on_err c.from_residual-in_err-set_gate.result (kept_of D.seen D.images D.moment D.images_since s.end s.count s.places.items c.args.bytes.now (omega (arith, c.requires.fits)) s.disk c.set_gate.new.disk (λ none. c.set_gate.ensures.untold (c.stage.ensures.untold none))
    (λ d told. after_gate D.seen D.images D.moment D.images_since s.end s.count s.places.items c.args.bytes.now (omega (arith, c.requires.fits)) s.disk d told (c.requires.rests d told) c.stage.new.disk c.stage.ensures.keeps c.set_gate.new.disk c.in_ok-stage.ensures.staged c.set_gate.ensures.keeps))

pub returns-in_err-set_gate-clause-any_moment : goal.returns-in_err-set_gate-clause-any_moment
returns-in_err-set_gate-clause-any_moment g c =
    let D = g.D.Disk in let s = c.args.self.now in
    moments_of D.seen D.images D.moment D.images_since s.end s.count s.places.items c.args.bytes.now (omega (arith, c.requires.fits)) s.disk c.set_gate.new.disk (λ none. c.set_gate.ensures.untold (c.stage.ensures.untold none))
    (λ d told. after_gate D.seen D.images D.moment D.images_since s.end s.count s.places.items c.args.bytes.now (omega (arith, c.requires.fits)) s.disk d told (c.requires.rests d told) c.stage.new.disk c.stage.ensures.keeps c.set_gate.new.disk c.in_ok-stage.ensures.staged c.set_gate.ensures.keeps)

pub returns-clause-any_moment : goal.returns-clause-any_moment
returns-clause-any_moment g c =
    let D = g.D.Disk in let s = c.args.self.now in
    moments_of D.seen D.images D.moment D.images_since s.end s.count s.places.items c.args.bytes.now (omega (arith, c.requires.fits)) s.disk c.set_gate.new.disk (λ none. c.set_gate.ensures.untold (c.stage.ensures.untold none))
    (λ d told. after_gate D.seen D.images D.moment D.images_since s.end s.count s.places.items c.args.bytes.now (omega (arith, c.requires.fits)) s.disk d told (c.requires.rests d told) c.stage.new.disk c.stage.ensures.keeps c.set_gate.new.disk c.in_ok-stage.ensures.staged c.set_gate.ensures.keeps)

pub returns-clause-added : goal.returns-clause-added
returns-clause-added g c =
    let D = g.D.Disk in let s = c.args.self.now in
    map_of (kept s.end) (λ (r : List (List ℕ)). r ++ c.args.bytes.now ∷ []) (kept (s.end + (length c.args.bytes.now + 5))) (D.seen s.disk) (D.seen c.set_gate.new.disk) (λ none. c.set_gate.ensures.untold (c.stage.ensures.untold none)) (λ records is.
    let from = mapped (kept s.end) (D.seen s.disk) records is in
    let end : s.end + length c.args.bytes.now + 5 ≡ s.end + (length c.args.bytes.now + 5) = omega arith in
    ap (λ (n : ℕ). history D.seen c.set_gate.new.disk n) (sym end)
    ∙ added D.seen D.images D.moment D.images_since s.end s.count s.places.items c.args.bytes.now (omega (arith, c.requires.fits)) s.disk from.0 from.1 (c.requires.rests from.0 from.1) c.stage.new.disk c.stage.ensures.keeps c.set_gate.new.disk c.in_ok-stage.ensures.staged c.set_gate.ensures.keeps c.in_ok-set_gate.ensures.set
    ∙ ap (λ (r : List (List ℕ)). Some (r ++ c.args.bytes.now ∷ [])) from.2)

pub returns-clause-rests : goal.returns-clause-rests
returns-clause-rests g c = λ x now.
    let D = g.D.Disk in let s = c.args.self.now in
    elim (told_or (D.seen s.disk)) [
      | inl none ↦ absurd (none-some x (sym (c.set_gate.ensures.untold (c.stage.ensures.untold none)) ∙ now))
      | inr some ↦
          let end : s.end + length c.args.bytes.now + 5 ≡ s.end + (length c.args.bytes.now + 5) = omega arith in
          subst (λ (n : ℕ). AtRest n (s.count + 1) (set s.places.items (s.count % 2048) s.end) (D.images c.set_gate.new.disk) x) end
          (rests_again D.seen D.images D.moment D.images_since s.end s.count s.places.items c.args.bytes.now (omega (arith, c.requires.fits)) s.disk some.0 some.1 (c.requires.rests some.0 some.1) c.stage.new.disk c.stage.ensures.keeps c.set_gate.new.disk c.in_ok-stage.ensures.staged c.set_gate.ensures.keeps c.in_ok-set_gate.ensures.set _ refl (sym s.places.ok.0 ∙ s.ring) x now)
    ]

pub returns-clause-four : goal.returns-clause-four
returns-clause-four g c = λ x told y left.
    let D = g.D.Disk in let s = c.args.self.now in
    staged_of D.seen D.images D.moment D.images_since s.end s.count s.places.items c.args.bytes.now (omega (arith, c.requires.fits)) s.disk x told (c.requires.rests x told) c.stage.new.disk c.stage.ensures.keeps c.set_gate.new.disk c.in_ok-stage.ensures.staged c.set_gate.ensures.keeps c.in_ok-stage.ensures.calls y left

pub returns-clause-after : goal.returns-clause-after
returns-clause-after g c = λ records is y now.
    let D = g.D.Disk in let s = c.args.self.now in
    let from = mapped (kept s.end) (D.seen s.disk) records is in
    after_of D.seen D.images D.moment D.images_since s.end s.count s.places.items c.args.bytes.now (omega (arith, c.requires.fits)) s.disk from.0 from.1 (c.requires.rests from.0 from.1) c.stage.new.disk c.stage.ensures.keeps c.set_gate.new.disk c.in_ok-stage.ensures.staged c.set_gate.ensures.keeps c.in_ok-set_gate.ensures.set y now
    ∙ ap (λ (r : List (List ℕ)). Some (r ++ c.args.bytes.now ∷ [])) from.2
