use Rattle.desk_top.proofs.counts.counts_text.Goals as goal

pub returns : goal.returns
returns c = rw (← c.devices.ensures.rows, ← c.networks.ensures, ← c.applications.ensures, ← c.gateways.ensures, ← c.agreements.ensures) c.format.ensures.ok
