use Rattle.std.proofs.Common.{List, [], ◌∷◌}
use Rattle.entries.specs.declared.entry.Entry.{Entry}
use Rattle.entry_codec.specs.Machine.{Machine, after}
use Rattle.entry_codec.specs.Replay.{AllFit, replay}
use Rattle.entry_codec.specs.Sound.{IsSound}
use Rattle.entry_codec.proofs.Sound.{sound-after}
use Rattle.entry_codec.proofs.SoundEmpty.{sound-empty}
use Rattle.entry_codec.proofs.laws.sound_replays.Goals as goal

replayed : (m : Machine) (es : List Entry) → IsSound m → AllFit m es → IsSound (replay m es)
replayed m [] h fit = h
replayed m (e ∷ es) h fit = replayed (after m e) es (sound-after m e fit.0 h) fit.1

pub returns : goal.returns
returns c = record { first = sound-empty; later = replayed }
