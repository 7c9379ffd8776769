-- Two desks whose tables differ in one AppKey give alike answers, kept ones too.
use Rattle.std.proofs.Common.{◌≡◌, ℕ, zero, suc, List, [], ◌∷◌, map, take, drop, Bool, true, false, cond, not, Option, Some, None, option_map, Result, Ok, Err, refl, sym, ap, ◌∙◌, subst}
use Rattle.std.specs.List.{AllZip}
use Rattle.std.specs.Prelude.{find, option_and_then, position}
use Rattle.wire_ids.specs.Lists.{changed, changed_there}
use Rattle.wire_ids.proofs.Lists.{changed-cons}
use Rattle.wire_ids.specs.declared.decision.Decision.TheVariants as decision
use Rattle.wire_ids.specs.declared.keys.RootKeys.{RootKeys}
use Rattle.wire_ids.specs.declared.party.PeerId.{PeerId}
use Rattle.wire_ids.specs.declared.party.PeerId.TheVariants as peer
use Rattle.wire_ids.specs.declared.party.Sender.{Sender}
use Rattle.wire_ids.specs.declared.party.Sender.TheVariants.{Network, Party}
use Rattle.key_vault.specs.Table.{app_at, nwk_at}
use Rattle.agreements.specs.LookUps.{keys_of}
use Rattle.agreements.specs.Walk.{Config}
use Rattle.backend_json.specs.Answers.{text_of}
use Rattle.backend_json.specs.Messages.{message_of}
use Rattle.backend_json.specs.Types.{receiver_of, sender_of}
use Rattle.backend_json.specs.declared.message_type.ReceiverKind.{ReceiverKind}
use Rattle.backend_json.specs.declared.message_type.ReceiverKind.TheVariants as to
use Rattle.backend_json.specs.declared.message_type.SenderKind.{SenderKind}
use Rattle.backend_json.specs.declared.message_type.SenderKind.TheVariants as from
use Rattle.backend_json.specs.declared.answer.Answer.{Answer}
use Rattle.backend_json.specs.declared.head.Head.{Head}
use Rattle.backend_json.specs.declared.message.Bad.{Bad}
use Rattle.backend_json.specs.declared.message.Message.{Message}
use Rattle.backend_json.specs.declared.request.Request.{Request}
use Rattle.backend_json.specs.declared.request.Request.TheVariants.{AppSKeyReq, HomeNSReq, JoinReq, RejoinReq, UplinkReq, Unknown, XmitDataReq, XmitUplink}
use Rattle.entries.specs.declared.change.Change.{Change}
use Rattle.entries.specs.declared.entry.Entry.{Entry}
use Rattle.entry_codec.specs.Empty.{empty, empty_kept, new_device, no_answers, senders_of}
use Rattle.entry_codec.specs.Kept.{answer_among, has_body, is_of, keep, kept_answer, with_pair}
use Rattle.entry_codec.specs.LookUps.{is_asked, is_same_sender}
use Rattle.entry_codec.specs.Machine.{Machine, after, lapse, on_event, ready, wakes}
use Rattle.entry_codec.specs.declared.device.Device.{Device}
use Rattle.entry_codec.specs.declared.kept.KeptAnswers.{KeptAnswers}
use Rattle.entry_codec.specs.declared.kept.KeptPair.{KeptPair}
use Rattle.entry_codec.proofs.Names.{position-map}
use Rattle.js_core.specs.AppKey.{AnswersAlike, row_with_app_key, with_app_key}
use Rattle.js_core.specs.AppKey as js
use Rattle.js_core.specs.Parties.{is_known, may_send, reaches}
use Rattle.js_core.specs.Replies.{JsDecision, js_decided}
use Rattle.js_core.proofs.AppKeys as of_request
use Rattle.js_core.proofs.Changes.{map-changed}
use Rattle.js_core.proofs.Unread.{same_bare}
use Rattle.ns_core.specs.Replies.{ns_decided}
use Rattle.ns_core.proofs.Cases as ns
use Rattle.ns_core.proofs.Unread.{unread}
use Rattle.roam_core.specs.AppKey.{AppKeyStays, DesksAlike, KeptAlike, PairsAlike, RunsAlike, TextsAlike}
use Rattle.roam_core.specs.Decided.{by_part, decided, entry_in, judged_at, said, success_of, with_entry}
use Rattle.roam_core.specs.Desk.{Desk, desk_with, empty_desk}
use Rattle.roam_core.specs.Lines.{Heard, Reaction, bad_answer, decided_of, line_decided, reaction, reaction_of}
use Rattle.roam_core.specs.Order.{Line, by_order, order, wrong_receiver, wrong_sender, wrong_type}
use Rattle.roam_core.proofs.Outcomes.{front, passed}
use Rattle.roam_core.proofs.Parts.{parts_decide}

same_answer : (c : Config) (d : ℕ) (reply : Answer) → AnswersAlike c d reply reply
same_answer c d reply = record { others = λ none. refl; rest = refl }

texts_of : (c : Config) (d : ℕ) (left right : Answer) → AnswersAlike c d left right → TextsAlike c d (text_of left) (text_of right)
texts_of c d left right alike = record { left = left; right = right; is_left = refl; is_right = refl; alike = alike }

-- ---- kept answers

-- both are kept, and alike, or none is
abbrev BothKept : Config → ℕ → Option (List ℕ) → Option (List ℕ) → Type 0
BothKept c d None None = Unit {0}
BothKept c d None (Some right) = ⊥
BothKept c d (Some left) None = ⊥
BothKept c d (Some left) (Some right) = TextsAlike c d left right

abbrev answer_in : KeptPair → List ℕ
answer_in p = p.answer

among_alike : (c : Config) (d : ℕ) (body : List ℕ) (ps qs : List KeptPair) → AllZip (PairsAlike c d) ps qs → BothKept c d (answer_among body ps) (answer_among body qs)
among_alike c d body [] [] z = tt
among_alike c d body [] (q ∷ qs) z = absurd z
among_alike c d body (p ∷ ps) [] z = absurd z
among_alike c d body (p ∷ ps) (q ∷ qs) z = by (has_body body p) refl (among_alike c d body ps qs z.1)
  where
    same : has_body body p ≡ has_body body q
    same = ap (λ (b : List ℕ). has_body body (record { body = b; answer = p.answer })) z.0.body

    by : (b : Bool) → has_body body p ≡ b → BothKept c d (answer_among body ps) (answer_among body qs) → BothKept c d (option_map answer_in (cond (has_body body p) (Some p) (find (has_body body) ps))) (option_map answer_in (cond (has_body body q) (Some q) (find (has_body body) qs)))
    by true e rest = rw (e, sym same ∙ e) z.0.answer
    by false e rest = rw (e, sym same ∙ e) rest

kept_alike : (c : Config) (d : ℕ) (sender : Sender) (body : List ℕ) (ks ls : List KeptAnswers) → AllZip (KeptAlike c d) ks ls → BothKept c d (kept_answer sender body ks) (kept_answer sender body ls)
kept_alike c d sender body [] [] z = tt
kept_alike c d sender body [] (l ∷ ls) z = absurd z
kept_alike c d sender body (k ∷ ks) [] z = absurd z
kept_alike c d sender body (k ∷ ks) (l ∷ ls) z = by (is_of sender k) refl (kept_alike c d sender body ks ls z.1)
  where
    same : is_of sender k ≡ is_of sender l
    same = ap (λ (s : Sender). is_of sender (record { sender = s; pairs = k.pairs })) z.0.sender

    by : (b : Bool) → is_of sender k ≡ b → BothKept c d (kept_answer sender body ks) (kept_answer sender body ls)
        → BothKept c d (option_and_then (λ (x : KeptAnswers). answer_among body x.pairs) (cond (is_of sender k) (Some k) (find (is_of sender) ks))) (option_and_then (λ (x : KeptAnswers). answer_among body x.pairs) (cond (is_of sender l) (Some l) (find (is_of sender) ls)))
    by true e rest = rw (e, sym same ∙ e) (among_alike c d body k.pairs l.pairs z.0.pairs)
    by false e rest = rw (e, sym same ∙ e) rest

zip_take : {X : Type 0} (R : X → X → Type 0) (n : ℕ) (xs ys : List X) → AllZip R xs ys → AllZip R (take n xs) (take n ys)
zip_take R zero xs ys z = tt
zip_take R (suc n) [] [] z = tt
zip_take R (suc n) [] (y ∷ ys) z = absurd z
zip_take R (suc n) (x ∷ xs) [] z = absurd z
zip_take R (suc n) (x ∷ xs) (y ∷ ys) z = (z.0, zip_take R n xs ys z.1)

zip_changed : {X : Type 0} (R : X → X → Type 0) (i : ℕ) (f g : X → X) (xs ys : List X) → ((x y : X) → R x y → R (f x) (g y)) → AllZip R xs ys → AllZip R (changed i f xs) (changed i g ys)
zip_changed R i f g [] [] step z = tt
zip_changed R i f g [] (y ∷ ys) step z = absurd z
zip_changed R i f g (x ∷ xs) [] step z = absurd z
zip_changed R zero f g (x ∷ xs) (y ∷ ys) step z = (step x y z.0, z.1)
zip_changed R (suc i) f g (x ∷ xs) (y ∷ ys) step z = rw (changed-cons x xs i f, changed-cons y ys i g) (z.0, zip_changed R i f g xs ys step z.1)

zip_position : (c : Config) (d : ℕ) (sender : Sender) (ks ls : List KeptAnswers) → AllZip (KeptAlike c d) ks ls → position (is_of sender) ks ≡ position (is_of sender) ls
zip_position c d sender ks ls z =
    sym (position-map (is_same_sender sender) (λ (k : KeptAnswers). k.sender) ks) ∙ ap (position (is_same_sender sender)) (senders_same ks ls z)
    ∙ position-map (is_same_sender sender) (λ (k : KeptAnswers). k.sender) ls
  where
    senders_same : (ks ls : List KeptAnswers) → AllZip (KeptAlike c d) ks ls → map (λ (k : KeptAnswers). k.sender) ks ≡ map (λ (k : KeptAnswers). k.sender) ls
    senders_same [] [] z = refl
    senders_same [] (l ∷ ls) z = absurd z
    senders_same (k ∷ ks) [] z = absurd z
    senders_same (k ∷ ks) (l ∷ ls) z = rw (z.0.sender, senders_same ks ls z.1) refl

keep_alike : (c : Config) (d : ℕ) (sender : Sender) (body left right : List ℕ) (ks ls : List KeptAnswers) → TextsAlike c d left right → AllZip (KeptAlike c d) ks ls
    → AllZip (KeptAlike c d) (keep (Some (record { sender = sender; body = body; answer = left })) ks) (keep (Some (record { sender = sender; body = body; answer = right })) ls)
keep_alike c d sender body left right ks ls alike z =
    subst (λ (o : Option ℕ). AllZip (KeptAlike c d) (changed_there (with_pair (record { body = body; answer = left })) ks (position (is_of sender) ks)) (changed_there (with_pair (record { body = body; answer = right })) ls o))
    (zip_position c d sender ks ls z) (by (position (is_of sender) ks))
  where
    pair : PairsAlike c d (record { body = body; answer = left }) (record { body = body; answer = right })
    pair = record { body = refl; answer = alike }

    by : (o : Option ℕ) → AllZip (KeptAlike c d) (changed_there (with_pair (record { body = body; answer = left })) ks o) (changed_there (with_pair (record { body = body; answer = right })) ls o)
    by None = z
    by (Some i) = zip_changed (KeptAlike c d) i (with_pair (record { body = body; answer = left })) (with_pair (record { body = body; answer = right })) ks ls
        (λ k l h. record { sender = h.sender; pairs = zip_take (PairsAlike c d) 64 (record { body = body; answer = left } ∷ k.pairs) (record { body = body; answer = right } ∷ l.pairs) (pair, h.pairs) }) z

-- ---- decisions

abbrev JudgedAlike : Config → ℕ → JsDecision → JsDecision → Type 0
JudgedAlike c d (decision.Repeat left) (decision.Repeat right) = TextsAlike c d left right
JudgedAlike c d (decision.Reply left) (decision.Reply right) = AnswersAlike c d left right
JudgedAlike c d (decision.Accept left change) (decision.Accept right change') = AnswersAlike c d left right × (change ≡ change')
JudgedAlike c d _ _ = ⊥

from_request : (c : Config) (d : ℕ) (x y : JsDecision) → js.DecisionsAlike c d x y → JudgedAlike c d x y
from_request c d (decision.Repeat left) (decision.Repeat right) alike = absurd alike
from_request c d (decision.Repeat left) (decision.Reply right) alike = absurd alike
from_request c d (decision.Repeat left) (decision.Accept right changes) alike = absurd alike
from_request c d (decision.Repeat left) (decision.AskPeer right questions changes) alike = absurd alike
from_request c d (decision.Reply left) (decision.Repeat right) alike = absurd alike
from_request c d (decision.Reply left) (decision.Reply right) alike = alike
from_request c d (decision.Reply left) (decision.Accept right changes) alike = absurd alike
from_request c d (decision.Reply left) (decision.AskPeer right questions changes) alike = absurd alike
from_request c d (decision.Accept left change) (decision.Repeat right) alike = absurd alike
from_request c d (decision.Accept left change) (decision.Reply right) alike = absurd alike
from_request c d (decision.Accept left change) (decision.Accept right changes) alike = alike
from_request c d (decision.Accept left change) (decision.AskPeer right questions changes) alike = absurd alike
from_request c d (decision.AskPeer left question change) (decision.Repeat right) alike = absurd alike
from_request c d (decision.AskPeer left question change) (decision.Reply right) alike = absurd alike
from_request c d (decision.AskPeer left question change) (decision.Accept right changes) alike = absurd alike
from_request c d (decision.AskPeer left question change) (decision.AskPeer right questions changes) alike = absurd alike

front_alike : (c : Config) (d : ℕ) (head : Head) (unknown away wrong : Bool) (left right : Option (List ℕ)) (asked : Bool) (rest rest' : List Line) (success success' : JsDecision) → BothKept c d left right
    → (unknown ≡ false → away ≡ false → wrong ≡ false → JudgedAlike c d (by_order (said head None) rest success) (by_order (said head None) rest' success'))
    → JudgedAlike c d (by_order (said head left) (front unknown away wrong left asked rest) success) (by_order (said head right) (front unknown away wrong right asked rest') success')
front_alike c d head true away wrong left right asked rest rest' success success' both decides = same_answer c d _
front_alike c d head false true wrong left right asked rest rest' success success' both decides = same_answer c d _
front_alike c d head false false true left right asked rest rest' success success' both decides = same_answer c d _
front_alike c d head false false false None None true rest rest' success success' both decides = same_answer c d _
front_alike c d head false false false None None false rest rest' success success' both decides = decides refl refl refl
front_alike c d head false false false None (Some right) asked rest rest' success success' both decides = absurd both
front_alike c d head false false false (Some left) None asked rest rest' success success' both decides = absurd both
front_alike c d head false false false (Some left) (Some right) asked rest rest' success success' both decides = both

front_both : (c : Config) (d : ℕ) (head : Head) (unknown unknown' away away' wrong wrong' : Bool) (left right : Option (List ℕ)) (asked : Bool) (rest rest' : List Line) (success success' : JsDecision)
    → unknown' ≡ unknown → away' ≡ away → wrong' ≡ wrong → BothKept c d left right
    → (unknown ≡ false → away ≡ false → wrong ≡ false → JudgedAlike c d (by_order (said head None) rest success) (by_order (said head None) rest' success'))
    → JudgedAlike c d (by_order (said head left) (front unknown away wrong left asked rest) success) (by_order (said head right) (front unknown' away' wrong' right asked rest') success')
front_both c d head unknown unknown' away away' wrong wrong' left right asked rest rest' success success' a b e both decides =
    rw (a, b, e) (front_alike c d head unknown away wrong left right asked rest rest' success success' both decides)

-- ---- what a line comes to

-- the entries of one request with alike answers
pub record EntriesAlike (c : Config) (d : ℕ) (e e' : Entry) : Type 0 where
  pub head : Head
  pub body : List ℕ
  pub now : ℕ
  pub left : Answer
  pub right : Answer
  pub change : Change
  pub is_left : e ≡ entry_in head body now left change
  pub is_right : e' ≡ entry_in head body now right change
  pub alike : AnswersAlike c d left right

abbrev BothMade : Config → ℕ → Option Entry → Option Entry → Type 0
BothMade c d None None = Unit {0}
BothMade c d None (Some e) = ⊥
BothMade c d (Some e) None = ⊥
BothMade c d (Some e) (Some e') = EntriesAlike c d e e'

record ReactionsAlike (c : Config) (d : ℕ) (r r' : Reaction) : Type 0 where
  pub answer : TextsAlike c d r.answer r'.answer
  pub entry : BothMade c d r.entry r'.entry

with_alike : (c : Config) (d : ℕ) (head : Head) (body : List ℕ) (now : ℕ) (x y : JsDecision) → JudgedAlike c d x y → ReactionsAlike c d (reaction_of (with_entry head body now x)) (reaction_of (with_entry head body now y))
with_alike c d head body now (decision.Repeat left) (decision.Repeat right) alike = record { answer = alike; entry = tt }
with_alike c d head body now (decision.Repeat left) (decision.Reply right) alike = absurd alike
with_alike c d head body now (decision.Repeat left) (decision.Accept right changes) alike = absurd alike
with_alike c d head body now (decision.Repeat left) (decision.AskPeer right questions changes) alike = absurd alike
with_alike c d head body now (decision.Reply left) (decision.Repeat right) alike = absurd alike
with_alike c d head body now (decision.Reply left) (decision.Reply right) alike = record { answer = texts_of c d left right alike; entry = tt }
with_alike c d head body now (decision.Reply left) (decision.Accept right changes) alike = absurd alike
with_alike c d head body now (decision.Reply left) (decision.AskPeer right questions changes) alike = absurd alike
with_alike c d head body now (decision.Accept left change) (decision.Repeat right) alike = absurd alike
with_alike c d head body now (decision.Accept left change) (decision.Reply right) alike = absurd alike
with_alike c d head body now (decision.Accept left change) (decision.Accept right changes) alike = record {
  answer = texts_of c d left right alike.0;
  entry = record { head = head; body = body; now = now; left = left; right = right; change = change; is_left = refl; is_right = ap (entry_in head body now right) (sym alike.1); alike = alike.0 };
}
with_alike c d head body now (decision.Accept left change) (decision.AskPeer right questions changes) alike = absurd alike
with_alike c d head body now (decision.AskPeer left question change) (decision.Repeat right) alike = absurd alike
with_alike c d head body now (decision.AskPeer left question change) (decision.Reply right) alike = absurd alike
with_alike c d head body now (decision.AskPeer left question change) (decision.Accept right changes) alike = absurd alike
with_alike c d head body now (decision.AskPeer left question change) (decision.AskPeer right questions changes) alike = absurd alike

same_after : (m : Machine) (head : Head) (body : List ℕ) (now : ℕ) (left right : Answer) (change : Change) → after m (entry_in head body now left change) ≡ after m (entry_in head body now right change)
unfolding on_event ready wakes
same_after m head body now left right change = refl

desks_after : (c : Config) (d : ℕ) (s s' : Desk) (o o' : Option Entry) → DesksAlike c d s s' → BothMade c d o o' → DesksAlike c d (desk_with s o) (desk_with s' o')
desks_after c d s s' None None alike both = alike
desks_after c d s s' None (Some e) alike both = absurd both
desks_after c d s s' (Some e) None alike both = absurd both
desks_after c d s s' (Some e) (Some e') alike both = rw (both.is_left, both.is_right) (record {
  now = same_after s.now both.head both.body both.now both.left both.right both.change ∙ ap (λ (m : Machine). after m (entry_in both.head both.body both.now both.right both.change)) alike.now;
  kept = keep_alike c d both.head.sender both.body (text_of both.left) (text_of both.right) s.kept s'.kept (texts_of c d both.left both.right both.alike) alike.kept;
})

-- ---- tables that differ in one AppKey

module _ (c : Config) (d : ℕ) (key : List ℕ) where
  known_same : (sender : Sender) → is_known (with_app_key d key c) sender ≡ is_known c sender
  unfolding with_app_key is_known
  known_same (Network net) = refl
  known_same (Party id) = refl

  reaches_same : (kind : ReceiverKind) (receiver : PeerId) → reaches (with_app_key d key c) kind receiver ≡ reaches c kind receiver
  unfolding with_app_key reaches
  reaches_same to.JoinServer (peer.Network net) = refl
  reaches_same to.NetworkServer (peer.Network net) = refl
  reaches_same to.Any (peer.Network net) = refl
  reaches_same to.JoinServer (peer.JoinServer id) = refl
  reaches_same to.NetworkServer (peer.JoinServer id) = refl
  reaches_same to.Any (peer.JoinServer id) = refl

  may_send_same : (kind : SenderKind) (sender : Sender) → may_send (with_app_key d key c) kind sender ≡ may_send c kind sender
  unfolding with_app_key may_send
  may_send_same from.Network (Network net) = refl
  may_send_same from.Network (Party id) = refl
  may_send_same from.Application (Network net) = refl
  may_send_same from.Application (Party id) = refl
  may_send_same from.Gateway (Network net) = refl
  may_send_same from.Gateway (Party id) = refl
  may_send_same from.Nobody (Network net) = refl
  may_send_same from.Nobody (Party id) = refl

  abbrev keys : List RootKeys
  keys = map keys_of c.devices

  abbrev keys' : List RootKeys
  keys' = map keys_of (with_app_key d key c).devices

  -- what the home network decides comes to the same
  heard_alike : (m : Machine) (head : Head) (request : Request) → JudgedAlike c d (ns_decided c (nwk_at keys) m head request) (ns_decided (with_app_key d key c) (nwk_at keys') m head request)
  heard_alike m head request =
      let same = unread c (with_app_key d key c) (same_bare d key c) (nwk_at keys) m head request ∙ ap (λ (nwk : ℕ → List ℕ). ns_decided (with_app_key d key c) nwk m head request) (of_request.keys_with d key c).nwk in
      subst (λ (x : JsDecision). JudgedAlike c d (ns_decided c (nwk_at keys) m head request) x) same
      (ns.by_cases c (nwk_at keys) m head (λ (x : JsDecision). JudgedAlike c d x x) (record {
        refusal = λ why. same_answer c d _;
        activation = λ asked up f own is. (same_answer c d _, refl);
        duplicate = λ s. same_answer c d _;
        uplink = λ asked s v is. (same_answer c d _, refl);
      }) (λ asked f is. (same_answer c d _, refl)) request)

  asked_alike : (m : Machine) (head : Head) (request : Request)
      → JudgedAlike c d (js_decided c (nwk_at keys) (app_at keys) m head request) (js_decided (with_app_key d key c) (nwk_at keys') (app_at keys') m head request)
  asked_alike m head request = from_request c d _ _ (of_request.app_key_stays c d key m head request)

  part_alike : (m : Machine) (head : Head) (request : Request)
      → JudgedAlike c d (by_part c (nwk_at keys) (app_at keys) m head request) (by_part (with_app_key d key c) (nwk_at keys') (app_at keys') m head request)
  part_alike m head (JoinReq request) = asked_alike m head (JoinReq request)
  part_alike m head (RejoinReq request) = asked_alike m head (RejoinReq request)
  part_alike m head (AppSKeyReq request) = asked_alike m head (AppSKeyReq request)
  part_alike m head (HomeNSReq request) = asked_alike m head (HomeNSReq request)
  part_alike m head (UplinkReq request) = heard_alike m head (UplinkReq request)
  part_alike m head (XmitDataReq request) = heard_alike m head (XmitDataReq request)
  part_alike m head (XmitUplink request) = asked_alike m head (XmitUplink request)
  part_alike m head Unknown = asked_alike m head Unknown

  judged_alike : (m : Machine) (head : Head) (request : Request) (left right : Option (List ℕ)) (asked : Bool) → BothKept c d left right
      → JudgedAlike c d (judged_at c (nwk_at keys) (app_at keys) m head request left asked) (judged_at (with_app_key d key c) (nwk_at keys') (app_at keys') m head request right asked)
  unfolding order
  judged_alike m head request left right asked both =
      let c' = with_app_key d key c in
      let a = ap not (known_same head.sender) in
      let b = ap not (reaches_same (receiver_of head.message_type) head.receiver) in
      let e = ap not (may_send_same (sender_of request) head.sender) in
      let rest = drop 5 (order c (nwk_at keys) m head request left asked) in
      let rest' = drop 5 (order c' (nwk_at keys') m head request right asked) in
      front_both c d head (wrong_sender c head) (wrong_sender c' head) (wrong_receiver c head) (wrong_receiver c' head) (wrong_type c head request) (wrong_type c' head request) left right asked rest rest'
      (success_of c (nwk_at keys) (app_at keys) m head request) (success_of c' (nwk_at keys') (app_at keys') m head request) a b e both
      (λ known here may.
      let one = sym (parts_decide c (nwk_at keys) (app_at keys) m head request known here may) ∙ passed head (wrong_sender c head) (wrong_receiver c head) (wrong_type c head request) rest (success_of c (nwk_at keys) (app_at keys) m head request) known here may in
      let two = sym (parts_decide c' (nwk_at keys') (app_at keys') m head request (a ∙ known) (b ∙ here) (e ∙ may)) ∙ passed head (wrong_sender c' head) (wrong_receiver c' head) (wrong_type c' head request) rest' (success_of c' (nwk_at keys') (app_at keys') m head request) (a ∙ known) (b ∙ here) (e ∙ may) in
      let left_part = by_part c (nwk_at keys) (app_at keys) m head request in
      let right_rest = by_order (said head None) rest' (success_of c' (nwk_at keys') (app_at keys') m head request) in
      subst (λ (x : JsDecision). JudgedAlike c d x right_rest) one (subst (λ (y : JsDecision). JudgedAlike c d left_part y) two (part_alike m head request)))

  bad_alike : (r : Bad) → ReactionsAlike c d (reaction_of (decision.Reply (bad_answer r))) (reaction_of (decision.Reply (bad_answer r)))
  bad_alike r = record { answer = texts_of c d _ _ (same_answer c d (bad_answer r)); entry = tt }

  line_of : (s s' : Desk) (body : List ℕ) (now : ℕ) (r : Result Message Bad) → DesksAlike c d s s'
      → ReactionsAlike c d (reaction_of (decided_of c (nwk_at keys) (app_at keys) s body now r)) (reaction_of (decided_of (with_app_key d key c) (nwk_at keys') (app_at keys') s' body now r))
  unfolding decided
  line_of s s' body now (Err fault) alike = bad_alike fault
  line_of s s' body now (Ok message) alike =
      let head = message.head in
      let m = lapse now s.now in
      let both = kept_alike c d head.sender body s.kept s'.kept alike.kept in
      let judged = judged_alike m head message.request (kept_answer head.sender body s.kept) (kept_answer head.sender body s'.kept) (is_asked body m) both in
      with_alike c d head body now _ _ (subst (λ (k : Machine). JudgedAlike c d (judged_at c (nwk_at keys) (app_at keys) m head message.request (kept_answer head.sender body s.kept) (is_asked body m))
      (judged_at (with_app_key d key c) (nwk_at keys') (app_at keys') (lapse now k) head message.request (kept_answer head.sender body s'.kept) (is_asked body (lapse now k)))) alike.now judged)

  line_alike : (s s' : Desk) (body : List ℕ) (now : ℕ) → DesksAlike c d s s' → ReactionsAlike c d (reaction c keys s body now) (reaction (with_app_key d key c) keys' s' body now)
  unfolding reaction line_decided
  line_alike s s' body now alike = line_of s s' body now (message_of body) alike

  run_alike : (lines : List Heard) (s s' : Desk) → DesksAlike c d s s' → RunsAlike d c (with_app_key d key c) s s' lines
  run_alike [] s s' alike = record { desks = alike; replies = tt }
  run_alike (line ∷ lines) s s' alike =
      let one = line_alike s s' line.0 line.1 alike in
      let rest = run_alike lines _ _ (desks_after c d s s' (reaction c keys s line.0 line.1).entry (reaction (with_app_key d key c) keys' s' line.0 line.1).entry alike one.entry) in
      record { desks = rest.desks; replies = (one.answer, rest.replies) }

  empty_same : empty c ≡ empty (with_app_key d key c)
  unfolding empty with_app_key senders_of
  empty_same = ap (λ (ds : List Device). record (empty c) { devices = ds }) (sym (map-changed (new_device c.desk.net_id) d (row_with_app_key key) (λ row. refl) c.devices))

  senders_same : senders_of (with_app_key d key c) ≡ senders_of c
  unfolding senders_of with_app_key
  senders_same = refl

  none_alike : (senders : List Sender) → AllZip (KeptAlike c d) (map no_answers senders) (map no_answers senders)
  none_alike [] = tt
  none_alike (s ∷ senders) = (record { sender = refl; pairs = tt }, none_alike senders)

  first_alike : DesksAlike c d (empty_desk c) (empty_desk (with_app_key d key c))
  unfolding empty_kept
  first_alike = record { now = empty_same; kept = rw senders_same (none_alike (senders_of c)) }

pub app_key_stays : AppKeyStays
app_key_stays = record {
  first = λ c d key. first_alike c d key;
  later = λ c d key s s' lines alike. run_alike c d key lines s s' alike;
}
