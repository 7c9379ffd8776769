use Rattle.std.proofs.Common.{List, ℕ, take, refl, sym, ap, subst, ◌∙◌, arith, length-take}
use Rattle.disk_model.specs.CallLaws.{disk_seen_is_image}
use Rattle.disk_model.specs.Calls.{ImageNow}
use Rattle.disk_model.specs.Disk.{Torn}
use Rattle.disk_model.specs.MemoryDisks.{disk_calls, disk_content, disk_first}
use Rattle.disk_model.proofs.CallLemmas.{content_of_last, elapses_push, torn_front, wrote, wrote_all}
use Rattle.disk_model.proofs.memory_disk.MemoryDisk.put.Goals as goal

pub invariant_of-self : goal.invariant_of-self
invariant_of-self c = record {
  within = c.put-self.ensures.within;
  recorded = content_of_last (disk_first c.args.self.now) c.args.self.now.calls.items _ _ c.push_reserved.ensures.items ∙ ap (λ room. take c.put-self.result room.items) c.of.ensures;
}

pub returns-clause-torn : goal.returns-clause-torn
returns-clause-torn c = torn_front c.args.at c.args.count c.args.piece.now _ _ (omega (arith, c.requires.at, c.args.self.now.within, length-take c.args.self.now.used c.args.self.now.room.items)) c.requires.front c.put-self.ensures.content

pub returns-clause-crash : goal.returns-clause-crash
returns-clause-crash c =
    let before = c.args.self.now in
    let here : ImageNow (disk_first before) (disk_calls before) (disk_content before) = disk_seen_is_image before (disk_content before) refl in
    let at = c.args.at in
    let count = c.args.count in
    let torn = torn_front at count c.args.piece.now _ _ (omega (arith, c.requires.at, before.within, length-take before.used before.room.items)) c.requires.front c.put-self.ensures.content in
    wrote (disk_first before) (disk_calls before) _ at count c.of.result c.put-self.result c.push_reserved.ensures.items
    (subst (ImageNow (disk_first before) (disk_calls before)) (sym before.recorded) here)
    (subst (λ (x : List ℕ). Torn at count x (take c.put-self.result c.of.result.value.items)) (sym before.recorded) (subst (λ room. Torn at count (disk_content before) (take c.put-self.result room.items)) (sym c.of.ensures) torn))

pub returns-clause-time : goal.returns-clause-time
returns-clause-time c = elapses_push (disk_first c.args.self.now) (disk_calls c.args.self.now) _ _ c.push_reserved.ensures.items

pub returns-clause-all : goal.returns-clause-all
returns-clause-all c = wrote_all (disk_first c.args.self.now) (disk_calls c.args.self.now) _ c.args.at c.args.count c.of.result c.put-self.result c.push_reserved.ensures.items
