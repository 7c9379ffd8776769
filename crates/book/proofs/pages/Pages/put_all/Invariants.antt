use Rattle.std.proofs.Common.{◌≡◌, ◌++◌, ◌≤◌, None, length, map}
use Rattle.std.specs.Vec.Iter.{into_iter_items, into_iter_len}
use Rattle.disk_model.specs.Disk.{LeavesOnly, WhereTold}
use Rattle.entry_codec.specs.Replay.{AllFit}
use Rattle.book.specs.Pages.{Adds, AddsSome, HasRoom, bytes_in, entry_in}
use Rattle.book.proofs.pages.Pages.put_all.Given as goal

-- so many drafts are written, and there is room for the rest
abbrev pub invariant-loop-draft : goal.invariant-loop-draft
invariant-loop-draft g l =
    let K = g.K.Keeper in
    let left = into_iter_items l.draft-iterator in
    record {
      all : l.yielded ++ left ≡ l.fn.drafts.items;
      count : into_iter_len l.draft-iterator ≡ length left;
      adds : Adds (map entry_in l.yielded) None l.fn.self l.self;
      fit : AllFit l.self.desk.now (map entry_in left);
      room : HasRoom l.self.spare (map entry_in left);
      changes : K.changes l.self.keeper ≡ K.changes l.fn.self.keeper;
      records : length left ≤ K.spare_records l.self.keeper;
      bytes : bytes_in (map entry_in left) ≤ K.spare_bytes l.self.keeper;
      moments : WhereTold l.fn.self.records (λ rs. LeavesOnly K.moment K.held_since l.fn.self.keeper l.self.keeper (AddsSome rs (map entry_in l.fn.drafts.items)));
    }
