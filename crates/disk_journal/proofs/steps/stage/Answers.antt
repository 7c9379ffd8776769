use Rattle.std.proofs.Common.{◌≡◌, ◌≤◌, ℕ, List, [], ◌∷◌, ◌++◌, length, sym, ◌∙◌, ap, subst, arith, length-append}
use Rattle.disk_journal.specs.Format.{Begins}
use Rattle.disk_journal.proofs.Records.{length-size_field}
use Rattle.disk_journal.proofs.Runs.{begins, stays, torn, written}
use Rattle.disk_journal.proofs.Writes.{behind, extends, begins_long}
use Rattle.disk_journal.proofs.steps.stage.Goals as goal

pub returns-in_err-write_at-clause-keeps : goal.returns-in_err-write_at-clause-keeps
returns-in_err-write_at-clause-keeps g c = λ d told front is has only.
    let D = g.D.Disk in
    let now = g.met.D.Disk.since_is_now in
    let P = Begins front in
    let old = c.args.disk.now in
    let k0 = begins D.seen D.images D.moment D.images_since now P old d told has (λ x here. subst (λ (l : List ℕ). Begins front l) (sym (only x here)) has) in
    torn D.seen D.images D.moment D.images_since now P _ _ old old c.write_at.new.self k0 (behind front _ _ (omega (arith, is))) d told c.in_err-write_at.ensures.failed c.write_at.ensures.crash c.write_at.ensures.time

pub returns-in_err-write_at-2-clause-keeps : goal.returns-in_err-write_at-2-clause-keeps
returns-in_err-write_at-2-clause-keeps g c = λ d told front is has only.
    let D = g.D.Disk in
    let now = g.met.D.Disk.since_is_now in
    let P = Begins front in
    let old = c.args.disk.now in
    let k0 = begins D.seen D.images D.moment D.images_since now P old d told has (λ x here. subst (λ (l : List ℕ). Begins front l) (sym (only x here)) has) in
    let size_is : length c.size_bytes-field.result ≡ 4 = ap length c.size_bytes-field.ensures ∙ length-size_field (length c.args.bytes.now) in
    let app1 = length-append front c.size_bytes-field.result in
    let app2 = length-append (front ++ c.size_bytes-field.result) c.args.bytes.now in
    let k1 = written D.seen D.images D.moment D.images_since now P _ _ old old c.write_at.new.self k0 (behind front _ _ (omega (arith, is))) d told (omega (arith, c.requires.within d told)) c.in_ok-write_at.ensures.written c.write_at.ensures.crash c.write_at.ensures.time in
    let s1 = c.in_ok-write_at.ensures.written.told d told in
    let b1 = extends front c.size_bytes-field.result _ (omega (arith, is)) d s1.0 has s1.2 in
    let long1 : length (front ++ c.size_bytes-field.result) ≤ length s1.0 = begins_long (front ++ c.size_bytes-field.result) s1.0 b1 in
    torn D.seen D.images D.moment D.images_since now P _ _ old c.write_at.new.self c.write_at-2.new.self k1 (behind front _ _ (omega (arith, is))) s1.0 s1.1 c.in_err-write_at-2.ensures.failed c.write_at-2.ensures.crash c.write_at-2.ensures.time

pub returns-in_err-write_at-3-clause-keeps : goal.returns-in_err-write_at-3-clause-keeps
returns-in_err-write_at-3-clause-keeps g c = λ d told front is has only.
    let D = g.D.Disk in
    let now = g.met.D.Disk.since_is_now in
    let P = Begins front in
    let old = c.args.disk.now in
    let k0 = begins D.seen D.images D.moment D.images_since now P old d told has (λ x here. subst (λ (l : List ℕ). Begins front l) (sym (only x here)) has) in
    let size_is : length c.size_bytes-field.result ≡ 4 = ap length c.size_bytes-field.ensures ∙ length-size_field (length c.args.bytes.now) in
    let app1 = length-append front c.size_bytes-field.result in
    let app2 = length-append (front ++ c.size_bytes-field.result) c.args.bytes.now in
    let k1 = written D.seen D.images D.moment D.images_since now P _ _ old old c.write_at.new.self k0 (behind front _ _ (omega (arith, is))) d told (omega (arith, c.requires.within d told)) c.in_ok-write_at.ensures.written c.write_at.ensures.crash c.write_at.ensures.time in
    let s1 = c.in_ok-write_at.ensures.written.told d told in
    let b1 = extends front c.size_bytes-field.result _ (omega (arith, is)) d s1.0 has s1.2 in
    let long1 : length (front ++ c.size_bytes-field.result) ≤ length s1.0 = begins_long (front ++ c.size_bytes-field.result) s1.0 b1 in
    let k2 = written D.seen D.images D.moment D.images_since now P _ _ old c.write_at.new.self c.write_at-2.new.self k1 (behind front _ _ (omega (arith, is))) s1.0 s1.1 (omega (arith, long1)) c.in_ok-write_at-2.ensures.written c.write_at-2.ensures.crash c.write_at-2.ensures.time in
    let s2 = c.in_ok-write_at-2.ensures.written.told s1.0 s1.1 in
    let b2 = extends (front ++ c.size_bytes-field.result) c.args.bytes.now _ (omega (arith, is, size_is, length-append front c.size_bytes-field.result)) s1.0 s2.0 b1 s2.2 in
    let long2 : length (front ++ c.size_bytes-field.result ++ c.args.bytes.now) ≤ length s2.0 = begins_long (front ++ c.size_bytes-field.result ++ c.args.bytes.now) s2.0 b2 in
    torn D.seen D.images D.moment D.images_since now P _ _ old c.write_at-2.new.self c.write_at-3.new.self k2 (behind front _ _ (omega (arith, is))) s2.0 s2.1 c.in_err-write_at-3.ensures.failed c.write_at-3.ensures.crash c.write_at-3.ensures.time

pub returns-clause-keeps : goal.returns-clause-keeps
returns-clause-keeps g c = λ d told front is has only.
    let D = g.D.Disk in
    let now = g.met.D.Disk.since_is_now in
    let P = Begins front in
    let old = c.args.disk.now in
    let k0 = begins D.seen D.images D.moment D.images_since now P old d told has (λ x here. subst (λ (l : List ℕ). Begins front l) (sym (only x here)) has) in
    let size_is : length c.size_bytes-field.result ≡ 4 = ap length c.size_bytes-field.ensures ∙ length-size_field (length c.args.bytes.now) in
    let app1 = length-append front c.size_bytes-field.result in
    let app2 = length-append (front ++ c.size_bytes-field.result) c.args.bytes.now in
    let k1 = written D.seen D.images D.moment D.images_since now P _ _ old old c.write_at.new.self k0 (behind front _ _ (omega (arith, is))) d told (omega (arith, c.requires.within d told)) c.in_ok-write_at.ensures.written c.write_at.ensures.crash c.write_at.ensures.time in
    let s1 = c.in_ok-write_at.ensures.written.told d told in
    let b1 = extends front c.size_bytes-field.result _ (omega (arith, is)) d s1.0 has s1.2 in
    let long1 : length (front ++ c.size_bytes-field.result) ≤ length s1.0 = begins_long (front ++ c.size_bytes-field.result) s1.0 b1 in
    let k2 = written D.seen D.images D.moment D.images_since now P _ _ old c.write_at.new.self c.write_at-2.new.self k1 (behind front _ _ (omega (arith, is))) s1.0 s1.1 (omega (arith, long1)) c.in_ok-write_at-2.ensures.written c.write_at-2.ensures.crash c.write_at-2.ensures.time in
    let s2 = c.in_ok-write_at-2.ensures.written.told s1.0 s1.1 in
    let b2 = extends (front ++ c.size_bytes-field.result) c.args.bytes.now _ (omega (arith, is, size_is, length-append front c.size_bytes-field.result)) s1.0 s2.0 b1 s2.2 in
    let long2 : length (front ++ c.size_bytes-field.result ++ c.args.bytes.now) ≤ length s2.0 = begins_long (front ++ c.size_bytes-field.result ++ c.args.bytes.now) s2.0 b2 in
    let k3 = written D.seen D.images D.moment D.images_since now P _ _ old c.write_at-2.new.self c.write_at-3.new.self k2 (behind front _ _ (omega (arith, is))) s2.0 s2.1 (omega (arith, long2)) c.in_ok-write_at-3.ensures.written c.write_at-3.ensures.crash c.write_at-3.ensures.time in
    let s3 = c.in_ok-write_at-3.ensures.written.told s2.0 s2.1 in
    let b3 = extends (front ++ c.size_bytes-field.result ++ c.args.bytes.now) (0 ∷ []) _ (omega (arith, is, size_is, length-append front c.size_bytes-field.result, length-append (front ++ c.size_bytes-field.result) c.args.bytes.now)) s2.0 s3.0 b2 s3.2 in
    stays D.seen D.images D.moment D.images_since now P old c.write_at-3.new.self c.sync.new.self k3 c.sync.ensures.seen c.sync.ensures.crash c.sync.ensures.time
