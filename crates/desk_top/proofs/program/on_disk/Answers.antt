use Rattle.std.proofs.Common.{◌^◌, Err, refl, inl}
use Rattle.desk_top.proofs.DeskLemmas.{no_read, no_write, taken_failed, taken_kind, took_none}
use Rattle.desk_top.proofs.DiskLemmas.{IsTaken, desk_run}
use Rattle.desk_top.proofs.program.on_disk.Goals as goal

pub returns-in-Err : goal.returns-in-Err
returns-in-Err g c =
    let fault = c.in-Err.field-0.fault in
    let kind = taken_kind _ _ _ fault c.in-Err.ensures.fails in
    record {
      came = inl (record {
        fault = fault;
        end_is = refl;
        why = c.in-Err.ensures.fails;
        left = c.in-Err.ensures.left;
        rests = record { input = refl; out = refl; clock = refl; steps = refl };
      });
      read = λ is. absurd (no_read fault kind cc);
      write = λ is. absurd (no_write fault kind cc);
      failed = λ is. taken_failed _ _ _ fault c.in-Err.ensures.fails cc;
      takes = took_none (g.T.Source.left c.args.input.now) (2 ^ 30) (Err fault) fault refl kind;
    }

pub returns : goal.returns
returns g c =
    let D = g.D.Disk in
    let opened = c.args.opened in
    let taken : IsTaken D.seen D.images D.faults c.args.disk c.in-Ok.keeper = record {
      shown = g.met.D.Disk.seen_is_image;
      rests = c.in-Ok.ensures.rests;
      reads = c.in-Ok.ensures.reads;
      own = c.in-Ok.ensures.own;
      unchanged = c.in-Ok.ensures.changed;
      later = c.in-Ok.ensures.later;
    } in
    let end = c.run_desk-object.result.end in
    let left = c.run_desk-object.result.object in
    rw c.into_disk.ensures.disk (desk_run D.seen D.images D.faults c.args.disk c.in-Ok.keeper left taken _ _ _ _ _ _ _ _ c.args.task opened.tables opened.text end c.run_desk-object.ensures)
