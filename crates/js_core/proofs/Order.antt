-- The rules stand in the order of the table of refusals.
use Rattle.std.proofs.Common.{refl}
use Rattle.backend_json.specs.Refusals.{row_of}
use Rattle.backend_json.specs.declared.request.Request.TheVariants.{AppSKeyReq, HomeNSReq, JoinReq, RejoinReq, Unknown, UplinkReq, XmitDataReq, XmitUplink}
use Rattle.js_core.specs.Rules.{CausesAscend, join_rules}

pub causes_ascend : CausesAscend
unfolding row_of join_rules
causes_ascend c nwk m head (JoinReq request) = refl
causes_ascend c nwk m head (RejoinReq request) = refl
causes_ascend c nwk m head (AppSKeyReq request) = refl
causes_ascend c nwk m head (HomeNSReq request) = refl
causes_ascend c nwk m head (UplinkReq request) = refl
causes_ascend c nwk m head (XmitDataReq request) = refl
causes_ascend c nwk m head (XmitUplink request) = refl
causes_ascend c nwk m head Unknown = refl
