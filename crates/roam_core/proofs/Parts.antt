-- Each part's place in the order, and the order's numbers.
use Rattle.std.proofs.Common.{refl, arith}
use Rattle.backend_json.specs.Refusals.{row_of}
use Rattle.backend_json.specs.declared.request.Request.TheVariants.{AppSKeyReq, HomeNSReq, JoinReq, RejoinReq, UplinkReq, Unknown, XmitDataReq, XmitUplink}
use Rattle.js_core.specs.Replies.{js_decided}
use Rattle.js_core.specs.Rules.{join_rules}
use Rattle.ns_core.specs.Payloads.{payload_decided}
use Rattle.ns_core.specs.Replies.{ns_decided, uplink_decided, uplink_success}
use Rattle.ns_core.specs.Rules.{uplink_rules}
use Rattle.roam_core.specs.Decided.{PartsDecide}
use Rattle.roam_core.specs.Order.{NumbersRise, order}

pub parts_decide : PartsDecide
unfolding order js_decided join_rules ns_decided payload_decided uplink_decided uplink_rules uplink_success
parts_decide c nwk app m head (JoinReq request) known here may = rw (known, here, may) refl
parts_decide c nwk app m head (RejoinReq request) known here may = rw (known, here, may) refl
parts_decide c nwk app m head (AppSKeyReq request) known here may = rw (known, here, may) refl
parts_decide c nwk app m head (HomeNSReq request) known here may = rw (known, here, may) refl
parts_decide c nwk app m head (UplinkReq request) known here may = rw (known, here, may) refl
parts_decide c nwk app m head (XmitDataReq request) known here may = rw (known, here, may) refl
parts_decide c nwk app m head (XmitUplink request) known here may = rw (known, here, may) refl
parts_decide c nwk app m head Unknown known here may = rw (known, here, may) refl

pub numbers_rise : NumbersRise
unfolding order row_of
numbers_rise c nwk m head request kept asked =
    (omega arith, refl, (omega arith, refl, (omega arith, refl, (omega arith, refl, (omega arith, refl, (omega arith, refl, (omega arith, refl, (omega arith, refl, (omega arith, refl, (omega arith, refl, (omega arith, refl, (omega arith, refl, (omega arith, refl, (omega arith, refl, (omega arith, refl, (omega arith, refl, (omega arith, refl, (omega arith, refl, (omega arith, refl, (omega arith, refl, (omega arith, refl, tt)))))))))))))))))))))
