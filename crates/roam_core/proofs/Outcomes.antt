-- What a line comes to: a refusal, a kept answer, or what its part makes of it.
use Rattle.std.specs.Prelude.{IfSome}
use Rattle.std.proofs.Common.{◌≡◌, ℕ, List, ◌∷◌, Bool, true, false, not, is_some, Option, Some, None, Result, Ok, Err, refl, sym, ap, ◌∙◌, subst, drop}
use Rattle.wire_ids.specs.Decisions.{entry_of}
use Rattle.wire_ids.specs.declared.decision.Decision.TheVariants as decision
use Rattle.wire_ids.specs.declared.keys.RootKeys.{RootKeys}
use Rattle.key_vault.specs.Table.{app_at, nwk_at}
use Rattle.agreements.specs.Walk.{Config}
use Rattle.backend_json.specs.Messages.{message_of}
use Rattle.backend_json.specs.declared.answer.Answer.{Answer}
use Rattle.backend_json.specs.declared.head.Head.{Head}
use Rattle.backend_json.specs.declared.message.Bad.{Bad}
use Rattle.backend_json.specs.declared.message.Message.{Message}
use Rattle.backend_json.specs.declared.refusal.Refusal.{Refusal}
use Rattle.backend_json.specs.declared.refusal.Refusal.TheVariants.{Sender, Receiver, «Type», Asked}
use Rattle.backend_json.specs.declared.request.Request.{Request}
use Rattle.entries.specs.declared.change.Change.{Change}
use Rattle.entries.specs.declared.entry.Entry.{Entry}
use Rattle.entry_codec.specs.Kept.{kept_answer}
use Rattle.entry_codec.specs.LookUps.{is_asked}
use Rattle.entry_codec.specs.Machine.{Machine, lapse}
use Rattle.js_core.specs.Parties.{is_known}
use Rattle.js_core.specs.Replies.{JsDecision, refuses}
use Rattle.roam_core.specs.Decided.{RoamDecision, by_part, decided, entry_in, judged_at, said, success_of, with_entry}
use Rattle.roam_core.specs.Desk.{Desk}
use Rattle.roam_core.specs.Lines.{decided_of, line_decided, reaction}
use Rattle.roam_core.specs.Order.{Kept, Line, by_order, order, wrong_receiver, wrong_sender, wrong_type}
use Rattle.roam_core.specs.Order.{refuses as refuses_by}
use Rattle.roam_core.proofs.Parts.{parts_decide}
use Rattle.roam_core.proofs.Ranges.{InRange, message_read}

not_not : (b : Bool) → not b ≡ false → b ≡ true
not_not true h = refl
not_not false h = absurd cc

-- what holds of a refusal, of the kept answer, and of what its part makes of a known sender's request
pub record HoldsOfAll (c : Config) (nwk app : ℕ → List ℕ) (m : Machine) (head : Head) (request : Request) (kept : Option (List ℕ)) (P : JsDecision → Type 0) : Type 0 where
  pub refusal : (why : Refusal) → P (refuses head why)
  pub repeat : (text : List ℕ) → kept ≡ Some text → P (decision.Repeat text)
  pub decides : is_known c head.sender ≡ true → P (by_part c nwk app m head request)

-- the lines before the frame's size
abbrev pub front : Bool → Bool → Bool → Option (List ℕ) → Bool → List Line → List Line
front unknown away wrong kept asked rest =
    refuses_by 3 Sender unknown ∷ refuses_by 4 Receiver away ∷ refuses_by 5 «Type» wrong ∷ record { number = 6; verdict = Kept; holds = is_some kept } ∷ refuses_by 7 Asked asked ∷ rest

pub passed : (head : Head) (unknown away wrong : Bool) (rest : List Line) (success : JsDecision) → unknown ≡ false → away ≡ false → wrong ≡ false
    → by_order (said head None) (front unknown away wrong None false rest) success ≡ by_order (said head None) rest success
passed head true away wrong rest success a b c = absurd cc
passed head false true wrong rest success a b c = absurd cc
passed head false false true rest success a b c = absurd cc
passed head false false false rest success a b c = refl

front_is : (head : Head) (P : JsDecision → Type 0) (unknown away wrong : Bool) (kept : Option (List ℕ)) (asked : Bool) (rest : List Line) (success : JsDecision)
    → ((why : Refusal) → P (refuses head why)) → ((text : List ℕ) → kept ≡ Some text → P (decision.Repeat text)) → (unknown ≡ false → away ≡ false → wrong ≡ false → P (by_order (said head None) rest success))
    → P (by_order (said head kept) (front unknown away wrong kept asked rest) success)
front_is head P true away wrong kept asked rest success refusal repeat decides = refusal Sender
front_is head P false true wrong kept asked rest success refusal repeat decides = refusal Receiver
front_is head P false false true kept asked rest success refusal repeat decides = refusal «Type»
front_is head P false false false (Some text) asked rest success refusal repeat decides = repeat text refl
front_is head P false false false None true rest success refusal repeat decides = refusal Asked
front_is head P false false false None false rest success refusal repeat decides = decides refl refl refl

pub judged_is : (c : Config) (nwk app : ℕ → List ℕ) (m : Machine) (head : Head) (request : Request) (P : JsDecision → Type 0) (kept : Option (List ℕ)) (asked : Bool) → HoldsOfAll c nwk app m head request kept P → P (judged_at c nwk app m head request kept asked)
unfolding order
judged_is c nwk app m head request P kept asked holds =
    let rest = drop 5 (order c nwk m head request kept asked) in
    let success = success_of c nwk app m head request in
    front_is head P (wrong_sender c head) (wrong_receiver c head) (wrong_type c head request) kept asked rest success holds.refusal holds.repeat
    (λ known here may.
    let same = sym (parts_decide c nwk app m head request known here may) ∙ passed head (wrong_sender c head) (wrong_receiver c head) (wrong_type c head request) rest success known here may in
    subst P same (holds.decides (not_not (is_known c head.sender) known)))

-- where nothing stands before the frame's size, what its part makes of it
pub judged_part : (c : Config) (nwk app : ℕ → List ℕ) (m : Machine) (head : Head) (request : Request) (kept : Option (List ℕ)) (asked : Bool) → wrong_sender c head ≡ false → wrong_receiver c head ≡ false → wrong_type c head request ≡ false
    → kept ≡ None → asked ≡ false → judged_at c nwk app m head request kept asked ≡ by_part c nwk app m head request
judged_part c nwk app m head request None false known here may none free = parts_decide c nwk app m head request known here may
judged_part c nwk app m head request None true known here may none free = absurd cc
judged_part c nwk app m head request (Some text) asked known here may none free = absurd cc

-- ---- what makes an entry

-- the acceptance of a request makes the entry
pub record Made (head : Head) (body : List ℕ) (now : ℕ) (d : JsDecision) (e : Entry) : Type 0 where
  pub answer : Answer
  pub change : Change
  pub accepts : d ≡ decision.Accept answer change
  pub is : e ≡ entry_in head body now answer change

pub made : (head : Head) (body : List ℕ) (now : ℕ) (d : JsDecision) (e : Entry) → entry_of (with_entry head body now d) ≡ Some e → Made head body now d e
made head body now (decision.Repeat text) e h = absurd cc
made head body now (decision.Reply answer) e h = absurd cc
made head body now (decision.Accept answer change) e h = record { answer = answer; change = change; accepts = refl; is = cc }
made head body now (decision.AskPeer peer question change) e h = elim question [ ]

-- a line that makes an entry is a readable request that was accepted
pub record Accepted (c : Config) (keys : List RootKeys) (s : Desk) (body : List ℕ) (now : ℕ) (e : Entry) : Type 0 where
  pub head : Head
  pub request : Request
  pub answer : Answer
  pub change : Change
  pub is_entry : e ≡ entry_in head body now answer change
  pub is_decision : line_decided c keys s body now ≡ decision.Accept answer e
  pub in_range : InRange request
  pub accepts : judged_at c (nwk_at keys) (app_at keys) (lapse now s.now) head request (kept_answer head.sender body s.kept) (is_asked body (lapse now s.now)) ≡ decision.Accept answer change

accepted_from : (c : Config) (keys : List RootKeys) (s : Desk) (body : List ℕ) (now : ℕ) (e : Entry) (r : Result Message Bad) → message_of body ≡ r → line_decided c keys s body now ≡ decided_of c (nwk_at keys) (app_at keys) s body now r
    → entry_of (decided_of c (nwk_at keys) (app_at keys) s body now r) ≡ Some e → Accepted c keys s body now e
unfolding decided
accepted_from c keys s body now e (Err fault) reads is h = absurd cc
accepted_from c keys s body now e (Ok message) reads is h =
    let head = message.head in
    let m = lapse now s.now in
    let entry = made head body now (judged_at c (nwk_at keys) (app_at keys) m head message.request (kept_answer head.sender body s.kept) (is_asked body m)) e h in
    record {
      head = head;
      request = message.request;
      answer = entry.answer;
      change = entry.change;
      is_entry = entry.is;
      is_decision = is ∙ ap (with_entry head body now) entry.accepts ∙ ap (λ (x : Entry). let d : RoamDecision = decision.Accept entry.answer x in d) (sym entry.is);
      in_range = message_read body message reads;
      accepts = entry.accepts;
    }

pub accepted : (c : Config) (keys : List RootKeys) (s : Desk) (body : List ℕ) (now : ℕ) (e : Entry) → entry_of (line_decided c keys s body now) ≡ Some e → Accepted c keys s body now e
unfolding line_decided
accepted c keys s body now e h = accepted_from c keys s body now e (message_of body) refl refl h

-- what the entry that a decision makes is such as its reaction's
pub reaction_entry : (c : Config) (keys : List RootKeys) (s : Desk) (body : List ℕ) (now : ℕ) (d : RoamDecision) (o : Option Entry) (e : Entry) → d ≡ line_decided c keys s body now → o ≡ entry_of d → o ≡ Some e → (reaction c keys s body now).entry ≡ Some e
unfolding reaction
reaction_entry c keys s body now d o e is made some = sym (ap entry_of is) ∙ sym made ∙ some

pub some_such : {X : Type 0} (P : X → Type 0) (o : Option X) → ((x : X) → o ≡ Some x → P x) → IfSome o P
some_such P None f = tt
some_such P (Some x) f = f x refl
