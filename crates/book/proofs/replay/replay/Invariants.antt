use Rattle.std.proofs.Common.{◌≡◌, ◌+◌, ◌-◌, ◌≤◌, ◌^◌}
use Rattle.disk_model.specs.Disk.{WhereTold}
use Rattle.keepers.specs.Keeper.{Quiet}
use Rattle.roam_core.specs.Desk.{IsStateOf, desk_of}
use Rattle.book.specs.Replays.{IsReadTo}
use Rattle.book.proofs.replay.replay.Given as goal

-- so many records are read as the state has entries
abbrev pub invariant-records : goal.invariant-records
invariant-records g l =
    let K = g.K.Keeper in
    record {
      rests : K.rests l.keeper;
      quiet : Quiet K.records K.holds K.moment K.held_since l.fn.keeper l.keeper;
      later : K.faults l.fn.keeper ≤ K.faults l.keeper;
      changes : K.changes l.keeper ≡ K.changes l.fn.keeper;
      counted : K.counted l.keeper ≡ K.counted l.fn.keeper;
      count : l.count ≡ K.counted l.fn.keeper;
      within : l.state.now.entries ≤ l.count;
      time : l.state.now.moment ≤ 2 ^ 53;
      state : IsStateOf l.tables l.state.now;
      steps : l.steps ≡ l.fn.steps + l.state.now.entries;
      so_far : WhereTold (K.records l.fn.keeper) (λ rs. IsReadTo l.tables l.text l.state.now.entries rs (desk_of l.state));
    }

abbrev pub decreases-records : goal.decreases-records
decreases-records g l = l.count - l.state.now.entries
