use Rattle.aes_cmac.proofs.MacFacts.{mac_from}
use Rattle.aes_cmac.proofs.cmac.cmac_of.Goals as goal

pub returns : goal.returns
returns g c =
    rw (c.encrypt_block.ensures, c.xor16.ensures)
    (mac_from (g.C.BlockCipher.key c.args.cipher.now) c.args.text.now c.chained-chain.result c.last_changed.result _ _ _ c.before_last.ensures c.split_at.ensures.front c.split_at.ensures.back
    c.chained-chain.ensures (c.last_changed.ensures (g.C.BlockCipher.key c.args.cipher.now) c.of.ensures.k1 c.of.ensures.k2))
