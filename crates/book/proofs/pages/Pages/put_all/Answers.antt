use Rattle.std.proofs.Common.{rules, ◌≡◌, ◌++◌, ◌∷◌, [], List, ℕ, None, length, map, refl, sym, ap, subst, ◌∙◌, append_assoc, arith}
use Rattle.std.specs.Prelude.{option_map}
use Rattle.std.specs.Vec.Iter.{into_iter_items}
use Rattle.std.proofs.lemmas.List.{map-append}
use Rattle.disk_model.proofs.Moments.{weaker}
use Rattle.entries.specs.Entries.{encode_of}
use Rattle.entries.specs.declared.entry.Entry.{Entry}
use Rattle.entry_codec.specs.Replay.{AllFit}
use Rattle.book.specs.Pages.{Adds, HasRoom, bytes_in, entry_in}
use Rattle.book.specs.declared.draft.Draft.{Draft}
use Rattle.roam_core.specs.Desk.{Desk}
use Rattle.book.proofs.Running.{adds_then, moments_then, no_more, none_yet, room_for, stood}
use Rattle.book.proofs.pages.Pages.put_all.Goals as goal

pub loop-draft-init : goal.loop-draft-init
loop-draft-init g c =
    let K = g.K.Keeper in
    let self = c.args.self.now in
    let all = c.into_iter-draft-iterator.ensures.into_iter_gives in
    let rest = c.sound.ensures.page.whole c.requires.whole in
    record {
      all = all.0;
      count = search rules;
      adds = record { records = no_more self.records; desk = refl; config = refl; tried = c.requires.whole; later = omega arith };
      fit = subst (λ (ds : List Draft). AllFit self.desk.now (map entry_in ds)) (sym all.0) c.requires.fit;
      room = subst (λ (ds : List Draft). HasRoom self.spare (map entry_in ds)) (sym all.0) c.requires.room;
      changes = refl;
      records = rw all.0 c.requires.records;
      bytes = rw all.0 c.requires.bytes;
      moments = λ x told. weaker K.moment K.held_since self.keeper self.keeper _ _ (none_yet x (map entry_in c.args.drafts.items))
          (stood K.moment K.held_since (K.holds self.keeper) self.keeper x (g.met.K.Keeper.since_is_now self.keeper) (g.met.K.Keeper.rest_holds self.keeper rest x (sym c.sound.ensures.page.told ∙ told)));
    }

pub loop-draft-preserved : goal.loop-draft-preserved
loop-draft-preserved g c =
    let K = g.K.Keeper in
    let at = c.loop-draft in
    let draft = c.in-Some.draft in
    let was = at.invariant in
    let left = into_iter_items c.next.new.self in
    let steps : into_iter_items at.draft-iterator ≡ draft ∷ left = c.in-Some.ensures.steps.0 in
    let short = ap length steps in
    let gone = c.in-Some.ensures.steps.1 in
    let all : at.yielded ++ draft ∷ left ≡ c.args.drafts.items = rw (← steps) was.all in
    let named : map entry_in (at.yielded ++ draft ∷ []) ≡ map entry_in at.yielded ++ draft.entry ∷ [] = map-append entry_in at.yielded (draft ∷ []) in
    let added = c.in_ok-put.ensures.added in
    let fits : AllFit at.self.desk.now (draft.entry ∷ map entry_in left) = subst (λ (ds : List Draft). AllFit at.self.desk.now (map entry_in ds)) steps was.fit in
    let room : HasRoom at.self.spare (draft.entry ∷ map entry_in left) = subst (λ (ds : List Draft). HasRoom at.self.spare (map entry_in ds)) steps was.room in
    let bytes = ap (λ (ds : List Draft). bytes_in (map entry_in ds)) steps in
    record {
      all = append_assoc at.yielded (draft ∷ []) left ∙ all;
      count = let kept = was.count in omega arith;
      adds = subst (λ (es : List Entry). Adds es None c.args.self.now c.put.new.self) (sym named) (adds_then (map entry_in at.yielded) (draft.entry ∷ []) None c.args.self.now at.self c.put.new.self was.adds added);
      fit = subst (λ (s : Desk). AllFit s.now (map entry_in left)) (sym added.desk) fits.1;
      room = room_for c.put.new.self.spare (map entry_in left) room.1;
      changes = c.put.ensures.changes ∙ was.changes;
      records = omega (arith, was.records, c.in_ok-put.ensures.records);
      bytes = omega (arith, was.bytes, c.in_ok-put.ensures.bytes);
      moments = λ x told. moments_then K.moment K.held_since c.args.self.now.keeper at.self.keeper c.put.new.self.keeper x (map entry_in c.args.drafts.items) (map entry_in at.yielded) draft.entry (map entry_in left)
          (sym (ap (map entry_in) all) ∙ map-append entry_in at.yielded (draft ∷ left)) (was.moments x told)
          (c.in_ok-put.ensures.any_moment (x ++ map encode_of (map entry_in at.yielded)) (was.adds.records ∙ ap (option_map (λ (rs : List (List ℕ)). rs ++ map encode_of (map entry_in at.yielded))) told));
    }

pub returns-in_err-put-clause-any_moment : goal.returns-in_err-put-clause-any_moment
returns-in_err-put-clause-any_moment g c =
    let K = g.K.Keeper in
    let at = c.loop-draft in
    let draft = c.in-Some.draft in
    let was = at.invariant in
    let left = into_iter_items c.next.new.self in
    let all : at.yielded ++ draft ∷ left ≡ c.args.drafts.items = rw (← c.in-Some.ensures.steps.0) was.all in
    λ x told. moments_then K.moment K.held_since c.args.self.now.keeper at.self.keeper c.put.new.self.keeper x (map entry_in c.args.drafts.items) (map entry_in at.yielded) draft.entry (map entry_in left)
    (sym (ap (map entry_in) all) ∙ map-append entry_in at.yielded (draft ∷ left)) (was.moments x told)
    (c.in_err-put.ensures.any_moment (x ++ map encode_of (map entry_in at.yielded)) (was.adds.records ∙ ap (option_map (λ (rs : List (List ℕ)). rs ++ map encode_of (map entry_in at.yielded))) told))
