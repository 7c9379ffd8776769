use Rattle.wire_ids.proofs.Reading.{addr_back, eui_back, net_digits_back}
use Rattle.wire_ids.proofs.laws.digits_are_read.Goals as goal

pub returns-clause-eui : goal.returns-clause-eui
returns-clause-eui c = eui_back

pub returns-clause-addr : goal.returns-clause-addr
returns-clause-addr c = addr_back

pub returns-clause-net : goal.returns-clause-net
returns-clause-net c = net_digits_back
