use Rattle.std.specs.Prelude.{IsTrue}
use Rattle.std.proofs.lemmas.Result.{IfOk-weaker}
use Rattle.entries.specs.declared.entry.Entry.{Entry}
use Rattle.entry_codec.specs.Fits.{fits}
use Rattle.roam_core.specs.Desk.{desk_of}
use Rattle.roam_core.proofs.Outcomes.{reaction_entry, some_such}
use Rattle.roam_core.proofs.reaction.react.Goals as goal

pub returns-clause-fits : goal.returns-clause-fits
returns-clause-fits g c =
    let config = c.args.tables.now in
    let keys = c.args.vault.now in
    let desk = desk_of c.args.state.now in
    let line = c.args.line.now in
    let now = c.args.now.0 in
    IfOk-weaker c.reaction_of.result _ _ (λ r made. some_such (λ (e : Entry). IsTrue (fits desk.now e)) r.entry (λ e some.
    c.entries_fit.ensures config keys desk line now e c.devices.ensures.places c.sound.ensures.sound c.requires.can (reaction_entry config keys desk line now c.in_ok-line_decided.field-0 r.entry e c.in_ok-line_decided.ensures.value made some))) c.reaction_of.ensures.entry
