use Rattle.std.proofs.Common.{◌≡◌, ℕ, List, length, Some, refl, sym, ◌∙◌, ap, subst, arith}
use Rattle.std.specs.Prelude.{Err}
use Rattle.std.specs.Option.{option_map}
use Rattle.std.proofs.lemmas.List.{with_items_is}
use Rattle.disk_journal.specs.Journal.{AtRest}
use Rattle.disk_journal.proofs.Recovered.{rest_journal}
use Rattle.disk_journal.proofs.journal.Journal.open.Goals as goal

pub returns-in-Ok-recover-clause-rests : goal.returns-in-Ok-recover-clause-rests
returns-in-Ok-recover-clause-rests g c = (
  λ x now.
      let same : length c.recover.new.places ≡ c.in-Ok.places.len = omega (arith, c.recover.auto.places, c.as_mut_slice.ensures.len) in
      subst (λ (l : List ℕ). AtRest c.in-Ok-recover.found.end c.in-Ok-recover.found.count l (g.D.Disk.images c.recover.new.disk) x) (sym (with_items_is c.in-Ok.places c.recover.new.places same)) (c.in-Ok-recover.ensures.rests x now),
  λ records is. (omega arith, refl),
)

pub returns-in-Ok-recover-clause-count : goal.returns-in-Ok-recover-clause-count
returns-in-Ok-recover-clause-count g c = λ x told.
    let found = c.in-Ok-recover.ensures.reads x told in
    let rests = c.in-Ok-recover.ensures.rests found.0 found.1 in
    ap Some rests.has.counts ∙ sym (ap (option_map length) found.2)

pub returns-in-Ok-recover-clause-after : goal.returns-in-Ok-recover-clause-after
returns-in-Ok-recover-clause-after g c = λ x told y now.
    let found = c.in-Ok-recover.ensures.reads x told in
    let rests = c.in-Ok-recover.ensures.rests found.0 found.1 in
    rest_journal _ _ _ found.0 _ rests y now ∙ sym found.2

pub returns-in-Err-clause-foreign : goal.returns-in-Err-clause-foreign
returns-in-Err-clause-foreign g c = λ place is. c.recover.ensures.foreign place (c.in-Err.is ∙ ap Err is)
