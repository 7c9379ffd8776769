use Rattle.std.proofs.Common.{◌≡◌, ◌++◌, drop, map}
use Rattle.serde_json.specs.Written.{members_text}
use Rattle.backend_json.specs.Objects.{members_of, object_text}
use Rattle.backend_json.specs.Writing.{field_now}
use Rattle.backend_json.proofs.object.put_object.Given as goal

abbrev pub invariant-loop-member : goal.invariant-loop-member
invariant-loop-member g l = l.out.items ++ members_text l.later (members_of (map (field_now g.V.Written.json) (drop l.member-index l.members))) ≡ l.fn.out.items ++ object_text (map (field_now g.V.Written.json) l.members)
