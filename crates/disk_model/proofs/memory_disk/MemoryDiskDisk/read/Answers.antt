use Rattle.std.proofs.Common.{◌≡◌, List, ℕ, ◌-◌, take, drop, ap, ◌∙◌}
use Rattle.std.proofs.lemmas.Option.{same_Some}
use Rattle.disk_model.proofs.CallLemmas.{read_is}
use Rattle.disk_model.specs.MemoryDisks.{disk_content}
use Rattle.disk_model.proofs.memory_disk.MemoryDiskDisk.read.Goals as goal

pub returns-clause-bytes : goal.returns-clause-bytes
returns-clause-bytes c = λ x is.
    let d = c.note.new.self in
    let same : disk_content d ≡ x = ap (λ (n : ℕ). take n d.room.items) c.note.ensures.used ∙ ap (λ room. take c.args.self.now.used room.items) c.note.ensures.room ∙ same_Some _ _ is in
    c.fill.ensures.front ∙ ap (λ (l : List ℕ). take c.fill.result l)
    (ap (λ (l : List ℕ). take (d.used - c.min-from.result) (drop c.min-from.result l)) c.deref.ensures.value ∙ read_is d.room.items x d.used c.args.at c.min-from.result d.within c.min-from.ensures same)
