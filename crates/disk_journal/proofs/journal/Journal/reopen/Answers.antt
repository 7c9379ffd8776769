use Rattle.std.proofs.Common.{◌≡◌, ◌+◌, ◌%◌, ◌++◌, ◌∷◌, [], ℕ, List, length, set, Some, refl, sym, ◌∙◌, ap, subst, arith}
use Rattle.disk_journal.specs.Format.{kept}
use Rattle.disk_journal.specs.Journal.{AtRest, history}
use Rattle.std.specs.Option.{option_map}
use Rattle.disk_journal.specs.Behinds.{IsBehind}
use Rattle.disk_journal.specs.declared.behind.Behind.{Behind}
use Rattle.disk_journal.proofs.Results.{on_err, mapped, map_of}
use Rattle.disk_journal.proofs.Marks.{marked_more, marked_same}
use Rattle.disk_journal.proofs.Recovered.{rest_journal}
use Rattle.disk_journal.proofs.Reopen.{doubt_stays, moments, nothing, never_other, record_kept, record_rests}
use Rattle.disk_journal.proofs.journal.Journal.reopen.Goals as goal

pub returns-in_err-look_behind-clause-doubt : goal.returns-in_err-look_behind-clause-doubt
returns-in_err-look_behind-clause-doubt g c =
    let D = g.D.Disk in let s = c.args.self.now in
    on_err c.from_residual.result (doubt_stays D.seen D.images D.moment D.images_since s.end s.count s.places.items c.args.tried.now (omega (arith, c.requires.fits)) s.disk c.look_behind.new.disk c.look_behind.ensures.quiet c.requires.doubt.0, marked_same _ _ _ (ap (option_map (kept s.end)) c.look_behind.ensures.quiet.same) c.requires.doubt.1)

pub returns-in_err-look_behind-clause-any_moment : goal.returns-in_err-look_behind-clause-any_moment
returns-in_err-look_behind-clause-any_moment g c =
    let D = g.D.Disk in let s = c.args.self.now in
    moments D.seen D.images D.moment D.images_since s.end s.count s.places.items c.args.tried.now (omega (arith, c.requires.fits)) s.disk c.look_behind.new.disk c.look_behind.ensures.quiet c.requires.doubt.0 (g.met.D.Disk.since_is_now s.disk)

pub returns-in-Nothing-clause-any_moment : goal.returns-in-Nothing-clause-any_moment
returns-in-Nothing-clause-any_moment g c =
    let D = g.D.Disk in let s = c.args.self.now in
    moments D.seen D.images D.moment D.images_since s.end s.count s.places.items c.args.tried.now (omega (arith, c.requires.fits)) s.disk c.look_behind.new.disk c.look_behind.ensures.quiet c.requires.doubt.0 (g.met.D.Disk.since_is_now s.disk)

pub returns-in-Tried-clause-any_moment : goal.returns-in-Tried-clause-any_moment
returns-in-Tried-clause-any_moment g c =
    let D = g.D.Disk in let s = c.args.self.now in
    moments D.seen D.images D.moment D.images_since s.end s.count s.places.items c.args.tried.now (omega (arith, c.requires.fits)) s.disk c.look_behind.new.disk c.look_behind.ensures.quiet c.requires.doubt.0 (g.met.D.Disk.since_is_now s.disk)

pub returns-in-Other-clause-any_moment : goal.returns-in-Other-clause-any_moment
returns-in-Other-clause-any_moment g c =
    let D = g.D.Disk in let s = c.args.self.now in
    moments D.seen D.images D.moment D.images_since s.end s.count s.places.items c.args.tried.now (omega (arith, c.requires.fits)) s.disk c.look_behind.new.disk c.look_behind.ensures.quiet c.requires.doubt.0 (g.met.D.Disk.since_is_now s.disk)

pub returns-in-Other-clause-doubt : goal.returns-in-Other-clause-doubt
returns-in-Other-clause-doubt g c =
    let D = g.D.Disk in let s = c.args.self.now in
    (doubt_stays D.seen D.images D.moment D.images_since s.end s.count s.places.items c.args.tried.now (omega (arith, c.requires.fits)) s.disk c.look_behind.new.disk c.look_behind.ensures.quiet c.requires.doubt.0, marked_same _ _ _ (ap (option_map (kept s.end)) c.look_behind.ensures.quiet.same) c.requires.doubt.1)

pub returns-in-Other-clause-honest : goal.returns-in-Other-clause-honest
returns-in-Other-clause-honest g c = λ x told is.
    let D = g.D.Disk in let s = c.args.self.now in
    never_other D.seen D.images D.moment D.images_since s.end s.count s.places.items c.args.tried.now (omega (arith, c.requires.fits)) s.disk c.look_behind.new.disk c.look_behind.ensures.quiet c.requires.doubt.0 x told (let IsAt = λ (r : Behind). IsBehind r s.end c.args.tried.now x in subst IsAt c.in-Other.is (c.in_ok-look_behind.ensures.behind x told))

pub returns-in-Nothing-clause-rests : goal.returns-in-Nothing-clause-rests
returns-in-Nothing-clause-rests g c =
    let D = g.D.Disk in let s = c.args.self.now in (
      λ x now.
          let told = sym c.look_behind.ensures.quiet.same ∙ now in
          nothing D.seen D.images D.moment D.images_since s.end s.count s.places.items c.args.tried.now (omega (arith, c.requires.fits)) s.disk c.look_behind.new.disk c.look_behind.ensures.quiet c.requires.doubt.0 x told (let IsAt = λ (r : Behind). IsBehind r s.end c.args.tried.now x in subst IsAt c.in-Nothing.is (c.in_ok-look_behind.ensures.behind x told)) (c.in_ok-look_behind.ensures.synced x told),
      marked_same _ _ _ (ap (option_map (kept s.end)) c.look_behind.ensures.quiet.same) c.requires.doubt.1,
    )

pub returns-in-Tried-clause-found : goal.returns-in-Tried-clause-found
returns-in-Tried-clause-found g c =
    let D = g.D.Disk in let s = c.args.self.now in
    map_of (kept s.end) (λ (r : List (List ℕ)). r ++ c.args.tried.now ∷ []) (kept (s.end + (length c.args.tried.now + 5))) (D.seen s.disk) (D.seen c.look_behind.new.disk) (λ none. c.look_behind.ensures.quiet.same ∙ none) (λ records is.
    let from = mapped (kept s.end) (D.seen s.disk) records is in
    let end : s.end + length c.args.tried.now + 5 ≡ s.end + (length c.args.tried.now + 5) = omega arith in
    ap (λ (n : ℕ). history D.seen c.look_behind.new.disk n) (sym end)
    ∙ ap (option_map (kept (s.end + length c.args.tried.now + 5))) (c.look_behind.ensures.quiet.same ∙ from.1)
    ∙ ap Some (record_kept D.seen D.images D.moment D.images_since s.end s.count s.places.items c.args.tried.now (omega (arith, c.requires.fits)) s.disk c.look_behind.new.disk c.look_behind.ensures.quiet c.requires.doubt.0 from.0 from.1 (let IsAt = λ (r : Behind). IsBehind r s.end c.args.tried.now from.0 in subst IsAt c.in-Tried.is (c.in_ok-look_behind.ensures.behind from.0 from.1)))
    ∙ ap (λ (r : List (List ℕ)). Some (r ++ c.args.tried.now ∷ [])) from.2)

pub returns-in-Nothing-clause-found : goal.returns-in-Nothing-clause-found
returns-in-Nothing-clause-found g c =
    let D = g.D.Disk in let s = c.args.self.now in
    map_of (kept s.end) (λ (r : List (List ℕ)). r) (kept s.end) (D.seen s.disk) (D.seen c.look_behind.new.disk) (λ none. c.look_behind.ensures.quiet.same ∙ none) (λ records is. ap (option_map (kept s.end)) c.look_behind.ensures.quiet.same ∙ is)

pub returns-in-Tried-clause-rests : goal.returns-in-Tried-clause-rests
returns-in-Tried-clause-rests g c =
    let D = g.D.Disk in let s = c.args.self.now in (
      λ x now.
          let told = sym c.look_behind.ensures.quiet.same ∙ now in
          let end : s.end + length c.args.tried.now + 5 ≡ s.end + (length c.args.tried.now + 5) = omega arith in
          subst (λ (n : ℕ). AtRest n (s.count + 1) (set s.places.items (s.count % 2048) s.end) (D.images c.look_behind.new.disk) x) end
          (record_rests D.seen D.images D.moment D.images_since s.end s.count s.places.items c.args.tried.now (omega (arith, c.requires.fits)) s.disk c.look_behind.new.disk c.look_behind.ensures.quiet c.requires.doubt.0 x told (let IsAt = λ (r : Behind). IsBehind r s.end c.args.tried.now x in subst IsAt c.in-Tried.is (c.in_ok-look_behind.ensures.behind x told)) _ refl (sym s.places.ok.0 ∙ s.ring) (c.in_ok-look_behind.ensures.synced x told)),
      marked_more _ _ s.bookmark.number s.bookmark.place (c.args.tried.now ∷ []) (returns-in-Tried-clause-found g c) c.requires.doubt.1,
    )

pub returns-in-Nothing-clause-after : goal.returns-in-Nothing-clause-after
returns-in-Nothing-clause-after g c = λ records is y now.
    let D = g.D.Disk in let s = c.args.self.now in
    let from = mapped (kept s.end) (D.seen s.disk) records is in
    let rests = nothing D.seen D.images D.moment D.images_since s.end s.count s.places.items c.args.tried.now (omega (arith, c.requires.fits)) s.disk c.look_behind.new.disk c.look_behind.ensures.quiet c.requires.doubt.0 from.0 from.1 (let IsAt = λ (r : Behind). IsBehind r s.end c.args.tried.now from.0 in subst IsAt c.in-Nothing.is (c.in_ok-look_behind.ensures.behind from.0 from.1)) (c.in_ok-look_behind.ensures.synced from.0 from.1) in
    rest_journal s.end s.count s.places.items from.0 (D.images c.look_behind.new.disk) rests y now ∙ ap Some from.2

pub returns-in-Tried-clause-after : goal.returns-in-Tried-clause-after
returns-in-Tried-clause-after g c = λ records is y now.
    let D = g.D.Disk in let s = c.args.self.now in
    let from = mapped (kept s.end) (D.seen s.disk) records is in
    let here = (let IsAt = λ (r : Behind). IsBehind r s.end c.args.tried.now from.0 in subst IsAt c.in-Tried.is (c.in_ok-look_behind.ensures.behind from.0 from.1)) in
    let rests = record_rests D.seen D.images D.moment D.images_since s.end s.count s.places.items c.args.tried.now (omega (arith, c.requires.fits)) s.disk c.look_behind.new.disk c.look_behind.ensures.quiet c.requires.doubt.0 from.0 from.1 here (set s.places.items (s.count % 2048) s.end) refl (sym s.places.ok.0 ∙ s.ring) (c.in_ok-look_behind.ensures.synced from.0 from.1) in
    rest_journal (s.end + length c.args.tried.now + 5) (s.count + 1) _ from.0 (D.images c.look_behind.new.disk) rests y now
    ∙ ap Some (record_kept D.seen D.images D.moment D.images_since s.end s.count s.places.items c.args.tried.now (omega (arith, c.requires.fits)) s.disk c.look_behind.new.disk c.look_behind.ensures.quiet c.requires.doubt.0 from.0 from.1 here)
    ∙ ap (λ (r : List (List ℕ)). Some (r ++ c.args.tried.now ∷ [])) from.2
