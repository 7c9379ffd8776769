use Rattle.entry_codec.proofs.Tabled.{put_touched}
use Rattle.entry_codec.proofs.now.Now.put_touched.Goals as goal

pub returns : goal.returns
returns c is =
    put_touched c.args.touched.now c.args.table.now c.put_own.new.table c.put_own-2.new.table c.put_own-3.new.table c.args.self.now.machine c.requires.sound.addresses c.requires.asks
    c.put_own.ensures c.put_own-2.ensures c.put_own-3.ensures is
