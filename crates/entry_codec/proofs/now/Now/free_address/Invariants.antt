use Rattle.std.proofs.Common.{◌≡◌, ◌+◌, ◌-◌, ◌≤◌, ◌^◌}
use Rattle.wire_ids.specs.Addresses.{room_of}
use Rattle.entry_codec.specs.Free.{free_from, is_number_taken}
use Rattle.entry_codec.specs.Machine.{lapse, wake}
use Rattle.entry_codec.proofs.now.Now.free_address.Given as goal

abbrev pub invariant-loop-first : goal.invariant-loop-first
invariant-loop-first l = record {
  so_far : free_from (is_number_taken l.net (wake l.who (lapse l.at l.self.machine))) (room_of l.net) 0
      ≡ free_from (is_number_taken l.net (wake l.who (lapse l.at l.self.machine))) (room_of l.net - l.from) l.from;
  small : l.from ≤ 2 ^ 25 + 10368;
}

abbrev pub decreases-loop-first : goal.decreases-loop-first
decreases-loop-first l = room_of l.net - l.from
