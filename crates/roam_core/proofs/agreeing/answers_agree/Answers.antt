use Rattle.roam_core.proofs.agreeing.answers_agree.Goals as goal

pub returns : goal.returns
returns c =
    let config = c.args.tables.now in
    record {
      lines = λ keys s body now. c.lines_agree.ensures config keys s body now c.devices.ensures.belong;
      kept = λ keys history body now legal. c.kept_agree.ensures config keys history body now c.devices.ensures.belong legal;
    }
