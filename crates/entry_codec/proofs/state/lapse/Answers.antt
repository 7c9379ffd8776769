use Rattle.std.proofs.Common.{arith, sym}
use Rattle.entry_codec.proofs.Lasting.{lapse_idle}
use Rattle.std.proofs.Common.{subst}
use Rattle.entry_codec.specs.Addresses.{IsTable}
use Rattle.entry_codec.specs.Machine.{Machine}
use Rattle.entry_codec.proofs.Tabled.{table_lapsed}
use Rattle.entry_codec.proofs.state.lapse.Goals as goal

pub returns-else-at-due-clause-machine : goal.returns-else-at-due-clause-machine
returns-else-at-due-clause-machine c = sym (lapse_idle c.args.at c.args.due.now c.args.now.now.machine (grind (arith, c.if-at-due.false)) c.requires.ends)

pub returns-then-at-due-clause-table : goal.returns-then-at-due-clause-table
returns-then-at-due-clause-table c = subst (λ (m : Machine). IsTable c.take_ended.new.table m) (sym c.lapse.ensures.machine) (table_lapsed c.args.at c.args.table.now c.take_ended.new.table c.args.now.now.machine c.requires.sound.addresses c.take_ended.ensures c.requires.table)
