use Rattle.std.proofs.Common.{◌≡◌, ◌++◌, map, take, drop}
use Rattle.aes_cmac.specs.Aes.{decrypted}
use Rattle.key_vault.proofs.vault.decrypt_each.Given as goal

abbrev pub invariant-loop-block : goal.invariant-loop-block
invariant-loop-block g l =
    l.blocks ≡ map (decrypted (g.C.BlockCipher.key l.cipher)) (take l.block-index l.initial.blocks) ++ drop l.block-index l.initial.blocks
