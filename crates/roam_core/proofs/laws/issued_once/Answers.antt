use Rattle.roam_core.proofs.Issuing.{histories_issue_once}
use Rattle.roam_core.proofs.laws.issued_once.Goals as goal

pub returns : goal.returns
returns c = histories_issue_once
