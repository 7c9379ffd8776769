use Rattle.std.proofs.Common.{ℕ, List, ◌++◌, ap, ◌∙◌}
use Rattle.aes_cmac.specs.Mac.{mac}
use Rattle.data_frames.proofs.mic.mac_of.Goals as goal

pub returns : goal.returns
returns c = λ key begun.
    c.finish.ensures _ _ (c.update-2.ensures _ _ (c.update.ensures _ _ begun))
    ∙ ap (λ (block : List ℕ). mac key (block ++ c.args.message.now)) c.mic_block.ensures
