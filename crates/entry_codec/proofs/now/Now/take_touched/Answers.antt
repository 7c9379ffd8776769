use Rattle.entry_codec.proofs.Tabled.{taken_touched}
use Rattle.entry_codec.proofs.now.Now.take_touched.Goals as goal

pub returns : goal.returns
returns c is =
    taken_touched c.args.touched.now c.args.table.now c.take_own.new.table c.take_own-2.new.table c.take_own-3.new.table c.take_all_asks.new.table c.args.self.now.machine c.requires.addresses
    c.take_own.ensures c.take_own-2.ensures c.take_own-3.ensures c.take_all_asks.ensures is
