use Rattle.aes_cmac.specs.Aes.{decrypted}
use Rattle.key_vault.proofs.Blocks.{changed_more}
use Rattle.key_vault.proofs.vault.decrypt_each.Goals as goal

pub loop-block-preserved : goal.loop-block-preserved
loop-block-preserved g c =
    changed_more (decrypted (g.C.BlockCipher.key c.args.cipher.now)) c.args.blocks.now c.loop-block.blocks c.loop-block.block-index c.decrypt_block.result
    c.loop-block.auto.blocks c.loop-block-test.true c.loop-block.invariant c.decrypt_block.ensures
