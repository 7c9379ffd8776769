use Rattle.roam_core.proofs.SenderRows.{knows_senders}
use Rattle.roam_core.proofs.senders.knows_senders.Goals as goal

pub returns : goal.returns
returns c = knows_senders c.args.tables.now (rw (← c.networks.ensures) c.have_net_ids.ensures)
