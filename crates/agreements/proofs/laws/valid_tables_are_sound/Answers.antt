use Rattle.agreements.proofs.Soundness.{sound_tables_of}
use Rattle.agreements.proofs.laws.valid_tables_are_sound.Goals as goal

pub returns : goal.returns
returns c text config h = sound_tables_of text config h
