use Rattle.std.proofs.Common.{◌≡◌, ap}
use Rattle.desk_top.proofs.WorkLemmas.{checked_on, tried_on, unready_on, untouched_more}
use Rattle.desk_top.specs.Runs.{seen}
use Rattle.desk_top.proofs.program.work.Goals as goal

pub returns-in-Some : goal.returns-in-Some
returns-in-Some g c =
    let opened = c.in-Ok.opened in
    let asks = rw c.in-Some.is at c.in-Ok.ensures.asks in
    tried_on g.D.Disk.images c.args.words.now _ _ _ c.on_disk.result.end asks.0 opened.tables opened.text c.in-Some.task asks.1 c.in-Ok.ensures.text c.in-Ok.ensures.valid c.in-Ok.ensures.agree asks.2 c.prepare.ensures.taken c.on_disk.ensures

pub returns-in-None : goal.returns-in-None
returns-in-None g c =
    let opened = c.in-Ok.opened in
    let asks = rw c.in-None.is at c.in-Ok.ensures.asks in
    checked_on g.D.Disk.images c.args.words.now _ _ _ _ _ _ _ _ c.print_counts.result asks.0 opened.tables opened.text asks.1 asks.2 c.in-Ok.ensures.text c.in-Ok.ensures.valid c.in-Ok.ensures.agree c.prepare.ensures.taken c.print_counts.ensures.counted c.print_counts.ensures.write

pub returns-in-Err : goal.returns-in-Err
returns-in-Err g c =
    let S = g.S.Source in
    let same : c.prepare.new.tables ≡ c.args.tables.now → seen S.left S.faults c.prepare.new.tables ≡ seen S.left S.faults c.args.tables.now = λ is. ap (seen S.left S.faults) is in
    unready_on g.D.Disk.images c.args.words.now _ _ _ _ _ _ _ c.in-Err.fault (untouched_more _ _ _ _ _ _ c.in-Err.fault same c.in-Err.ensures.unready) c.prepare.ensures.taken
