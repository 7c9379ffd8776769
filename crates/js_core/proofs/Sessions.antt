-- The seed that a SessionKeyID names is the first one with its JoinNonce.
use Rattle.std.proofs.Common.{◌≡◌, ◌==◌, true, false, Option, Some, None, MatchOption, refl, sym}
use Rattle.std.specs.Borrow.{Bor}
use Rattle.std.specs.List.{find}
use Rattle.std.specs.Option.{option_copied}
use Rattle.agreements.proofs.Belonging.{is_some-find}
use Rattle.backend_json.specs.declared.request.AppSKeyRequest.{AppSKeyRequest}
use Rattle.entry_codec.specs.declared.device.Device.{Device}
use Rattle.entry_codec.specs.declared.device.KeptSeed.{KeptSeed}
use Rattle.js_core.specs.Replies.{seed_with}
use Rattle.js_core.specs.Rules.{has_nonce, is_no_session}

pub session_found : (request : AppSKeyRequest) (kept : Device) (found : Option (Bor KeptSeed))
    → (request.session_key_id.dev_eui.0 == request.dev_eui.0) ≡ true
    → option_copied found ≡ find (has_nonce request.session_key_id.join_nonce) kept.seeds.items
    → MatchOption found (is_no_session request kept ≡ true) (λ s. (is_no_session request kept ≡ false) × (seed_with request.session_key_id.join_nonce kept ≡ Some s.now))
session_found request kept None same is =
    rw (same, sym (is_some-find (has_nonce request.session_key_id.join_nonce) kept.seeds.items), sym is) refl
session_found request kept (Some s) same is =
    (rw (same, sym (is_some-find (has_nonce request.session_key_id.join_nonce) kept.seeds.items), sym is) refl, sym is)
