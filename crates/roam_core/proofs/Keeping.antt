-- What makes no entry changes nothing.
use Rattle.std.proofs.Common.{◌≡◌, ℕ, List, true, false, Result, Ok, Err, refl}
use Rattle.wire_ids.specs.Decisions.{entry_of}
use Rattle.wire_ids.specs.declared.decision.Decision.TheVariants as decision
use Rattle.wire_ids.specs.declared.keys.RootKeys.{RootKeys}
use Rattle.key_vault.specs.Table.{app_at, nwk_at}
use Rattle.agreements.specs.Walk.{Config}
use Rattle.backend_json.specs.Messages.{message_of}
use Rattle.backend_json.specs.declared.head.Head.{Head}
use Rattle.backend_json.specs.declared.message.Bad.{Bad}
use Rattle.backend_json.specs.declared.message.Message.{Message}
use Rattle.backend_json.specs.declared.request.JoinRequest.{JoinRequest}
use Rattle.backend_json.specs.declared.request.Request.{Request}
use Rattle.backend_json.specs.declared.request.Request.TheVariants.{AppSKeyReq, HomeNSReq, JoinReq, RejoinReq, UplinkReq, Unknown, XmitDataReq, XmitUplink}
use Rattle.entry_codec.specs.Kept.{kept_answer}
use Rattle.entry_codec.specs.LookUps.{is_asked}
use Rattle.entry_codec.specs.Machine.{Machine, lapse}
use Rattle.join_frames.specs.declared.join_up.JoinUp.{JoinUp}
use Rattle.js_core.specs.Found.{Found}
use Rattle.js_core.specs.Replies.{JsDecision, accepted, js_decided}
use Rattle.ns_core.specs.Replies.{ns_decided}
use Rattle.ns_core.proofs.Cases as ns
use Rattle.js_core.specs.declared.activation.Activation.{Activation}
use Rattle.js_core.specs.declared.activation.Activation.TheVariants as by
use Rattle.js_core.proofs.Cases.{by_cases}
use Rattle.roam_core.specs.Decided.{by_part, decided, judged_at, with_entry}
use Rattle.roam_core.specs.Desk.{Desk, desk_with}
use Rattle.roam_core.specs.Entering.{RepliesKeep, enters, tells_change}
use Rattle.roam_core.specs.Lines.{decided_of, line_decided, reaction}
use Rattle.roam_core.proofs.Outcomes.{judged_is}

-- an answer that comes with a change gives a session, counts an uplink, or takes a payload
abbrev TellsChange : JsDecision → Type 0
TellsChange (decision.Repeat text) = Unit {0}
TellsChange (decision.Reply answer) = Unit {0}
TellsChange (decision.Accept answer change) = tells_change answer ≡ true
TellsChange (decision.AskPeer peer question change) = Unit {0}

gives-accepted : (c : Config) (nwk app : ℕ → List ℕ) (activation : Activation) (head : Head) (request : JoinRequest) (up : JoinUp) (f : Found) → TellsChange (accepted c nwk app activation head request up f)
gives-accepted c nwk app by.Join head request up f = refl
gives-accepted c nwk app by.Rejoin head request up f = refl

gives-decided : (c : Config) (nwk app : ℕ → List ℕ) (m : Machine) (head : Head) (request : Request) → TellsChange (js_decided c nwk app m head request)
gives-decided c nwk app m head request = by_cases c nwk app app m head (λ left right. TellsChange left) (record {
  refusal = λ why. tt;
  join = λ activation join up f is. gives-accepted c nwk app activation head join up f;
  app_s_key = λ asked f seed is. tt;
  home_ns = λ f. tt;
}) request

gives-heard : (c : Config) (nwk : ℕ → List ℕ) (m : Machine) (head : Head) (request : Request) → TellsChange (ns_decided c nwk m head request)
gives-heard c nwk m head request = ns.by_cases c nwk m head TellsChange (record {
  refusal = λ why. tt;
  activation = λ request up f own is. refl;
  duplicate = λ s. tt;
  uplink = λ request s v is. refl;
}) (λ request f is. refl) request

gives-part : (c : Config) (nwk app : ℕ → List ℕ) (m : Machine) (head : Head) (request : Request) → TellsChange (by_part c nwk app m head request)
gives-part c nwk app m head (JoinReq request) = gives-decided c nwk app m head (JoinReq request)
gives-part c nwk app m head (RejoinReq request) = gives-decided c nwk app m head (RejoinReq request)
gives-part c nwk app m head (AppSKeyReq request) = gives-decided c nwk app m head (AppSKeyReq request)
gives-part c nwk app m head (HomeNSReq request) = gives-decided c nwk app m head (HomeNSReq request)
gives-part c nwk app m head (UplinkReq request) = gives-heard c nwk m head (UplinkReq request)
gives-part c nwk app m head (XmitDataReq request) = gives-heard c nwk m head (XmitDataReq request)
gives-part c nwk app m head (XmitUplink request) = gives-decided c nwk app m head (XmitUplink request)
gives-part c nwk app m head Unknown = gives-decided c nwk app m head Unknown

kept_by_entry : (head : Head) (body : List ℕ) (now : ℕ) (s : Desk) (d : JsDecision) → TellsChange d → enters (with_entry head body now d) ≡ false → desk_with s (entry_of (with_entry head body now d)) ≡ s
kept_by_entry head body now s (decision.Repeat text) g e = refl
kept_by_entry head body now s (decision.Reply answer) g e = refl
kept_by_entry head body now s (decision.Accept answer change) g e = cc
kept_by_entry head body now s (decision.AskPeer peer question change) g e = elim question [ ]

keeps : (c : Config) (keys : List RootKeys) (s : Desk) (body : List ℕ) (now : ℕ) (r : Result Message Bad) → enters (decided_of c (nwk_at keys) (app_at keys) s body now r) ≡ false → desk_with s (entry_of (decided_of c (nwk_at keys) (app_at keys) s body now r)) ≡ s
unfolding decided
keeps c keys s body now (Err fault) e = refl
keeps c keys s body now (Ok message) e =
    let head = message.head in
    let m = lapse now s.now in
    let nwk = nwk_at keys in
    let app = app_at keys in
    let kept = kept_answer head.sender body s.kept in
    let asked = is_asked body m in
    kept_by_entry head body now s (judged_at c nwk app m head message.request kept asked)
    (judged_is c nwk app m head message.request TellsChange kept asked (record {
      refusal = λ why. tt;
      repeat = λ text is. tt;
      decides = λ known. gives-part c nwk app m head message.request;
    }))
    e

pub replies_keep : RepliesKeep
unfolding reaction line_decided
replies_keep c keys s body now e = keeps c keys s body now (message_of body) e
