use Rattle.std.proofs.Common.{List, ℕ, ap, ◌∙◌}
use Rattle.std.proofs.lemmas.Option.{same_Some}
use Rattle.std.proofs.lemmas.Result.{on_ok_weaker}
use Rattle.disk_model.specs.Calls.{content_at}
use Rattle.disk_model.specs.MemoryDisks.{disk_calls, disk_first}
use Rattle.disk_model.proofs.CallLemmas.{synced_only}
use Rattle.disk_model.proofs.memory_disk.MemoryDiskDisk.sync.Goals as goal

pub returns-clause-lasts : goal.returns-clause-lasts
returns-clause-lasts c =
    let calls = disk_calls c.args.self.now in
    let at_first = ap (λ (first : List ℕ). content_at calls first) c.note.ensures.first in
    on_ok_weaker c.note.result (λ ok. λ x is d now. synced_only (disk_first c.note.new.self) calls _ ok d now ∙ at_first ∙ c.args.self.now.recorded ∙ same_Some _ _ is) c.note.ensures.ok
