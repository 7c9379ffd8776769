use Rattle.std.proofs.Common.{◌≡◌, ℕ, List, ◌∷◌, ◌++◌, Some, sym, ◌∙◌, ap, subst, arith}
use Rattle.disk_journal.specs.Journal.{HasGate}
use Rattle.disk_journal.proofs.Runs.{begins, stays, torn, written}
use Rattle.disk_journal.proofs.Writes.{torn_gate, holds_gate}
use Rattle.std.proofs.lemmas.Result.{on_ok_weaker}
use Rattle.disk_journal.proofs.gate.set_gate.Goals as goal

pub returns-in_err-write_at-clause-keeps : goal.returns-in_err-write_at-clause-keeps
returns-in_err-write_at-clause-keeps g c = λ d told front rest is has only.
    let D = g.D.Disk in
    let P = HasGate front rest in
    let old = c.args.disk.now in
    let k0 = begins D.seen D.images D.moment D.images_since g.met.D.Disk.since_is_now P old d told has (λ x now. subst (λ (l : List ℕ). HasGate front rest l) (sym (only x now)) has) in
    torn D.seen D.images D.moment D.images_since g.met.D.Disk.since_is_now P _ _ old old c.write_at.new.self k0 (torn_gate front rest _ is) d told
    c.in_err-write_at.ensures.failed c.write_at.ensures.crash c.write_at.ensures.time

pub returns-clause-keeps : goal.returns-clause-keeps
returns-clause-keeps g c = λ d told front rest is has only.
    let D = g.D.Disk in
    let P = HasGate front rest in
    let old = c.args.disk.now in
    let k0 = begins D.seen D.images D.moment D.images_since g.met.D.Disk.since_is_now P old d told has (λ x now. subst (λ (l : List ℕ). HasGate front rest l) (sym (only x now)) has) in
    let k1 = written D.seen D.images D.moment D.images_since g.met.D.Disk.since_is_now P _ _ old old c.write_at.new.self k0 (torn_gate front rest _ is) d told (omega (arith, c.requires.within d told))
    c.in_ok-write_at.ensures.written c.write_at.ensures.crash c.write_at.ensures.time in
    stays D.seen D.images D.moment D.images_since g.met.D.Disk.since_is_now P old c.write_at.new.self c.sync.new.self k1 c.sync.ensures.seen c.sync.ensures.crash c.sync.ensures.time

pub returns-clause-set : goal.returns-clause-set
returns-clause-set g c =
    on_ok_weaker c.sync.result (λ durable. λ d told front rest is has.
    let step = c.in_ok-write_at.ensures.written.told d told in
    let content : step.0 ≡ front ++ c.args.gate ∷ rest = holds_gate front rest c.args.end is c.args.gate d step.0 has step.2 in
    (c.sync.ensures.seen ∙ step.1 ∙ ap Some content, λ x now. durable step.0 step.1 x now ∙ content)) c.sync.ensures.lasts
