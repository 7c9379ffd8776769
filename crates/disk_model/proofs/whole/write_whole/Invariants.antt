use Rattle.std.proofs.Common.{◌≤◌, ◌-◌, length, take}
use Rattle.std.specs.Io.KnownBytes.{Appends}
use Rattle.disk_model.proofs.whole.write_whole.Given as goal

-- the part before `done` stands in the sink
abbrev pub invariant-loop-done : goal.invariant-loop-done
invariant-loop-done g l =
    let written = g.O.Sink.written in
    let faults = g.O.Sink.faults in
    record {
      within : l.done ≤ length l.piece;
      part : Appends (written l.fn.out) (written l.out) (take l.done l.piece);
      count : faults l.fn.out ≤ faults l.out;
    }

abbrev pub decreases-loop-done : goal.decreases-loop-done
decreases-loop-done g l = length l.piece - l.done
