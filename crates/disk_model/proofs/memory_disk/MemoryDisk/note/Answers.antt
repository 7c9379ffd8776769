use Rattle.std.proofs.Common.{◌≡◌, ◌⊎◌, inl, inr, List, ℕ, refl, ap, ◌∙◌}
use Rattle.disk_model.specs.Calls.{content_after, content_at}
use Rattle.disk_model.specs.MemoryDisks.{disk_content, disk_first}
use Rattle.disk_model.specs.CallLaws.{disk_seen_is_image}
use Rattle.disk_model.specs.declared.memory_disk.Call.{Call}
use Rattle.disk_model.specs.declared.memory_disk.Call.TheVariants.{Looked, Synced}
use Rattle.disk_model.proofs.CallLemmas.{content_of_last, elapses, elapses_push, looked, looked_content, quiet}
use Rattle.disk_model.proofs.memory_disk.MemoryDisk.note.Goals as goal

pub invariant_of-self : goal.invariant_of-self
invariant_of-self c = record {
  within = c.args.self.now.within;
  recorded = looked_content (disk_first c.args.self.now) c.args.self.now.calls c.record.new.calls.items c.record.ensures ∙ c.args.self.now.recorded;
}

nothing_written : (call : Call) (content : List ℕ) → (call ≡ Looked) ⊎ (call ≡ Synced) → content_after call content ≡ content
nothing_written call content (inl is) = ap (λ (k : Call). content_after k content) is
nothing_written call content (inr is) = ap (λ (k : Call). content_after k content) is

pub invariant_of-self-2 : goal.invariant_of-self-2
invariant_of-self-2 c =
    let first = disk_first c.args.self.now in
    record {
      within = c.args.self.now.within;
      recorded = content_of_last first c.args.self.now.calls.items _ c.args.call c.push_reserved.ensures.items ∙ nothing_written c.args.call (content_at c.args.self.now.calls.items first) c.requires.quiet ∙ c.args.self.now.recorded;
    }

pub returns-then-is_failing-clause-crash : goal.returns-then-is_failing-clause-crash
returns-then-is_failing-clause-crash c = looked (disk_first c.args.self.now) c.args.self.now.calls c.record.new.calls.items c.record.ensures

pub returns-then-is_failing-clause-time : goal.returns-then-is_failing-clause-time
returns-then-is_failing-clause-time c = elapses (disk_first c.args.self.now) c.args.self.now.calls c.record.new.calls.items Looked c.record.ensures

pub returns-clause-crash : goal.returns-clause-crash
returns-clause-crash c = quiet (disk_first c.args.self.now) (disk_content c.args.self.now) c.args.self.now.calls.items _ c.args.call c.requires.quiet (disk_seen_is_image c.args.self.now (disk_content c.args.self.now) refl) c.args.self.now.recorded c.push_reserved.ensures.items

pub returns-clause-time : goal.returns-clause-time
returns-clause-time c = elapses_push (disk_first c.args.self.now) c.args.self.now.calls.items _ c.args.call c.push_reserved.ensures.items
