use Rattle.std.proofs.Common.{◌<◌, ℕ}
use Rattle.data_frames.specs.Mics.{Fits}
use Rattle.data_frames.proofs.mic.mic_up_ok.Given as goal

abbrev pub invariant-channels : goal.invariant-channels
invariant-channels l = (k : ℕ) → k < l.channel → Fits l.keys l.up l.count l.conf l.rate l.channels k → ⊥
