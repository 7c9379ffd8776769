-- What lapses isn't looked at where a payload is taken, and the rules stand in order.
use Rattle.std.proofs.Common.{◌≡◌, ℕ, Option, Some, None, option_map, refl, sym, ap, ◌∙◌}
use Rattle.wire_ids.specs.Rules.{first_rule}
use Rattle.agreements.specs.Walk.{Config}
use Rattle.backend_json.specs.Refusals.{row_of}
use Rattle.backend_json.specs.declared.head.Head.{Head}
use Rattle.backend_json.specs.declared.refusal.Refusal.{Refusal}
use Rattle.backend_json.specs.declared.request.XmitDataRequest.{XmitDataRequest}
use Rattle.entry_codec.specs.Devices.{lapsed}
use Rattle.entry_codec.specs.Machine.{Machine, lapse}
use Rattle.js_core.specs.Found.{Found, found_of}
use Rattle.js_core.specs.Replies.{JsDecision, refuses}
use Rattle.js_core.specs.Rules.{by_rules}
use Rattle.js_core.proofs.Causes.{first_said, none_said}
use Rattle.js_core.proofs.Lapsing.{found_lapsed, of_lapsed}
use Rattle.ns_core.specs.Payloads.{PayloadCausesAscend, payload_decided, payload_rules, payload_rules_at, payload_success, payload_success_at, queued_with}

-- what a payload comes to by its device
abbrev pub payload_at : Head → XmitDataRequest → Option Found → JsDecision
payload_at head request found = by_rules (refuses head) (payload_rules_at head request found) (payload_success_at head request found)

found_then : (head : Head) (request : XmitDataRequest) (at : ℕ) (found : Option Found) → payload_at head request (option_map (found_lapsed at) found) ≡ payload_at head request found
unfolding lapsed
found_then head request at None = refl
found_then head request at (Some f) = refl

pub lapse_unread : (c : Config) (m : Machine) (at : ℕ) (head : Head) (request : XmitDataRequest) → payload_decided c (lapse at m) head request ≡ payload_decided c m head request
unfolding payload_decided
lapse_unread c m at head request = ap (payload_at head request) (of_lapsed c m at request.dev_eui) ∙ found_then head request at _

pub refused_said : (c : Config) (m : Machine) (head : Head) (request : XmitDataRequest) (r : Refusal) → first_rule (payload_rules c m head request) ≡ Some r → refuses head r ≡ payload_decided c m head request
unfolding payload_decided
refused_said c m head request r e = sym (first_said (refuses head) (payload_rules c m head request) (payload_success c m head request) r e)

pub queued_said : (c : Config) (m : Machine) (head : Head) (request : XmitDataRequest) (f : Found) → first_rule (payload_rules c m head request) ≡ None → found_of c m request.dev_eui ≡ Some f
    → queued_with head request f.device ≡ payload_decided c m head request
unfolding payload_decided
queued_said c m head request f none is = sym (none_said (refuses head) (payload_rules c m head request) (payload_success c m head request) none ∙ ap (payload_success_at head request) is)

pub payload_causes_ascend : PayloadCausesAscend
unfolding row_of
payload_causes_ascend c m head request = refl
