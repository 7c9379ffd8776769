use Rattle.std.proofs.Common.{subst}
use Rattle.std.specs.Prelude.{IsTrue}
use Rattle.entries.specs.declared.entry.Event.{Event}
use Rattle.entry_codec.specs.Fits.{fits_event}
use Rattle.entry_codec.proofs.Sound.{ask_has_place}
use Rattle.entry_codec.proofs.now.Now.enter.Goals as goal

pub ask-requires : goal.ask-requires
unfolding fits_event
ask-requires c =
    let m = c.args.self.now.machine in
    ask_has_place c.in-Asked.ask m (subst (λ (x : Event). IsTrue (fits_event x m)) c.in-Asked.is c.requires.fits)
