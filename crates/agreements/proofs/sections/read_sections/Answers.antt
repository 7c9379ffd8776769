use Rattle.agreements.specs.Walk.{tables_in}
use Rattle.agreements.proofs.sections.read_sections.Goals as goal

pub returns : goal.returns
unfolding tables_in
returns c = rw (c.in_ok-desk.ensures, c.in_ok-networks.ensures, c.in_ok-agreements.ensures, c.in_ok-join_servers.ensures) c.parties_in.ensures
