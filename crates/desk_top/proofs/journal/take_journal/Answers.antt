use Rattle.std.proofs.Common.{ap}
use Rattle.disk_model.specs.Disk.{LeavesOnly}
use Rattle.disk_journal.specs.Journal.{IsOneOf}
use Rattle.desk_top.proofs.OpeningLemmas.{leaves_disk, not_taken}
use Rattle.desk_top.proofs.journal.take_journal.Goals as goal

pub returns-in-Err-clause-fails : goal.returns-in-Err-clause-fails
returns-in-Err-clause-fails g c = not_taken _ _ _ c.in-Err.field-0.fault c.stop_of.result c.stop_of.ensures c.in-Err.ensures.cause (λ place is. (c.in-Err.ensures.foreign place is).0)

pub returns-in-Err-clause-left : goal.returns-in-Err-clause-left
returns-in-Err-clause-left g c =
    let D = g.D.Disk in
    let after = c.in-Err.field-0.object in
    leaves_disk _ _ _ c.in-Err.field-0.fault c.stop_of.result c.stop_of.ensures c.in-Err.ensures.faults
    (λ content told image holds.
    let l : LeavesOnly D.moment D.images_since c.args.disk after (IsOneOf (D.images c.args.disk)) = c.in-Err.ensures.any_moment content told in
    l.each image (g.met.D.Disk.now_is_since after (D.moment c.args.disk) image l.later holds))
    (λ place is. (c.in-Err.ensures.foreign place is).1)
    (λ is. ap D.seen (c.in-Err.ensures.memory is))
