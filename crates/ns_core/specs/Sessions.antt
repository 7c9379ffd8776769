-- The session that a context began with.
use Rattle.std.specs.Prelude.{◌==◌, ◌&&◌, Bool, Option, Some, None}
use Rattle.wire_ids.specs.Lists.{holds_of}
use Rattle.wire_ids.specs.declared.eui.Eui.{Eui}
use Rattle.backend_json.specs.declared.session.SessionKeyId.{SessionKeyId}
use Rattle.contexts.specs.declared.context.Origin.{Origin}
use Rattle.contexts.specs.declared.context.Origin.TheVariants.{Given, Seeded}

-- its SessionKeyID, where it began with a join- or rejoin-request to this desk
abbrev pub session_of : Eui → Origin → Option SessionKeyId
session_of dev (Seeded seed) = Some (record { dev_eui = dev; join_nonce = seed.nonce })
session_of dev (Given number keys) = None

abbrev pub is_same : SessionKeyId → SessionKeyId → Bool
is_same a b = a.dev_eui.0 == b.dev_eui.0 && a.join_nonce == b.join_nonce

-- a context of this device began with this session
abbrev pub is_session : SessionKeyId → Eui → Origin → Bool
is_session id dev origin = holds_of (is_same id) (session_of dev origin)
