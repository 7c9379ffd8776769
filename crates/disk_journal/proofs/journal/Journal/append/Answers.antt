use Rattle.std.proofs.Common.{List, ℕ, [], ◌∷◌, sym, subst}
use Rattle.disk_model.specs.Disk.{LeavesOnly, WhereTold}
use Rattle.disk_journal.specs.Format.{kept}
use Rattle.disk_journal.specs.Journal.{IsMarked, WithOrWithout, history}
use Rattle.disk_journal.specs.declared.read.Bookmark.{Bookmark}
use Rattle.disk_journal.proofs.Marks.{marked_more, marked_same}
use Rattle.disk_journal.proofs.Results.{mapped}
use Rattle.disk_journal.proofs.Append.{at_start}
use Rattle.disk_journal.proofs.journal.Journal.append.Goals as goal

pub returns-then-not-has_room-clause-any_moment : goal.returns-then-not-has_room-clause-any_moment
returns-then-not-has_room-clause-any_moment g c = λ records is.
    let D = g.D.Disk in let s = c.args.self.now in
    let from = mapped (kept s.end) (D.seen s.disk) records is in
    subst (λ (r : List (List ℕ)). LeavesOnly D.moment D.images_since s.disk s.disk (WithOrWithout r c.args.bytes.now)) from.2
    (at_start D.images D.moment D.images_since s.end s.count s.places.items c.args.bytes.now from.0 s.disk (c.requires.0 from.0 from.1) (g.met.D.Disk.since_is_now s.disk))

pub put-requires-clause-rests : goal.put-requires-clause-rests
put-requires-clause-rests g c = c.requires.0

pub returns-clause-rests : goal.returns-clause-rests
returns-clause-rests g c =
    let s = c.args.self.now in
    let old = history g.D.Disk.seen s.disk s.end in
    let marked = marked_more old _ s.bookmark.number s.bookmark.place (c.args.bytes.now ∷ []) c.in_ok-put.ensures.added c.requires.1 in
    (c.in_ok-put.ensures.rests, subst (λ (b : Bookmark). WhereTold (history g.D.Disk.seen c.put.new.self.disk c.put.new.self.end) (IsMarked b.number b.place)) (sym c.put.ensures.bookmark) marked)

pub returns-in_err-put-clause-doubt : goal.returns-in_err-put-clause-doubt
returns-in_err-put-clause-doubt g c = λ is.
    let s = c.args.self.now in
    let marked = marked_same (history g.D.Disk.seen s.disk s.end) _ (IsMarked s.bookmark.number s.bookmark.place) c.in_err-put.ensures.kept c.requires.1 in
    (c.in_err-put.ensures.doubt, subst (λ (b : Bookmark). WhereTold (history g.D.Disk.seen c.put.new.self.disk c.put.new.self.end) (IsMarked b.number b.place)) (sym c.put.ensures.bookmark) marked)
