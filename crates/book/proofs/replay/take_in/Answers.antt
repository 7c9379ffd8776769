use Rattle.std.proofs.Common.{Some, sym, ap, ◌∙◌}
use Rattle.entry_codec.specs.Machine.{Machine, after}
use Rattle.entry_codec.specs.State.{kept_after}
use Rattle.book.proofs.Firsts.{first_keeps}
use Rattle.book.proofs.replay.take_in.Goals as goal

pub returns-then-is_of_another-clause-next : goal.returns-then-is_of_another-clause-next
returns-then-is_of_another-clause-next c =
    let entry = c.in-Some.entry in
    let another = c.is_of_another.ensures.yes c.if-is_of_another.true in
    let fit = sym c.fits.ensures ∙ c.if-not-fits.false in
    let keeps = first_keeps c.args.state.now.now entry (c.requires ∙ another.0) fit in
    record {
      first = another.0;
      spells = record { entry = entry; spelled = sym c.in_ok-entry.ensures.exact ∙ c.in-Some.is; fit = fit };
      other = keeps.0;
      keeps = keeps.1;
      differs = λ same. another.1 (keeps.1 ∙ ap Some same);
    }

pub returns-clause-next : goal.returns-clause-next
returns-clause-next c = record {
  spells = record { entry = c.in-Some.entry; spelled = sym c.in_ok-entry.ensures.exact ∙ c.in-Some.is; fit = sym c.fits.ensures ∙ c.if-not-fits.false };
  first = c.is_of_another.ensures.no c.if-is_of_another.false;
  leads = λ i. record {
    now = (c.apply.ensures.now ∙ ap (λ (m : Machine). after m c.in-Some.entry) c.in_ok-reserve.ensures.now) i;
    kept = (c.apply.ensures.kept ∙ (λ j. kept_after (c.in_ok-reserve.ensures.now j) (c.in_ok-reserve.ensures.kept j) c.in-Some.entry)) i;
  };
}
