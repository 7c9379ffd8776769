use Rattle.ns_core.proofs.Payloads.{payload_causes_ascend}
use Rattle.ns_core.proofs.laws.payload_causes_ascend.Goals as goal

pub returns : goal.returns
returns c = payload_causes_ascend
