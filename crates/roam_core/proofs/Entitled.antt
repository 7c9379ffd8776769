-- Each answer agrees with the entitlement table, and a kept one did when its entry was made.
use Rattle.std.proofs.Common.{◌≡◌, ℕ, List, [], ◌∷◌, ◌++◌, Bool, true, false, cond, Option, Some, None, option_map, Result, Ok, Err, refl, sym, ap, ◌∙◌, subst, append_assoc, append-nil}
use Rattle.std.specs.List.{AllByRecursion}
use Rattle.std.specs.Prelude.{find, map, option_and_then, position}
use Rattle.wire_ids.specs.Lists.{changed_there}
use Rattle.wire_ids.proofs.Lists.{all_changed, all_more, all_take}
use Rattle.wire_ids.specs.declared.decision.Decision.TheVariants as decision
use Rattle.wire_ids.specs.declared.keys.RootKeys.{RootKeys}
use Rattle.wire_ids.specs.declared.party.Sender.{Sender}
use Rattle.key_vault.specs.Table.{app_at, nwk_at}
use Rattle.agreements.specs.Walk.{Config}
use Rattle.backend_json.proofs.KeysWritten.{headless_written, none_written, uplink_written, xmit_data_written}
use Rattle.backend_json.specs.Answers.{text_of}
use Rattle.backend_json.specs.Messages.{message_of}
use Rattle.backend_json.specs.declared.answer.Answer.{Answer}
use Rattle.backend_json.specs.declared.answer.Answer.TheVariants.{Headed, Headless}
use Rattle.backend_json.specs.declared.answer.Outcome.{Outcome}
use Rattle.backend_json.specs.declared.answer.Outcome.TheVariants.{AppSKeyAns, HomeNSAns, JoinAns, Refused, RejoinAns, UplinkAns, XmitDataAns}
use Rattle.backend_json.specs.declared.head.Head.{Head}
use Rattle.backend_json.specs.declared.message.Bad.{Bad}
use Rattle.backend_json.specs.declared.message.Bad.TheVariants as bad
use Rattle.backend_json.specs.declared.message.Message.{Message}
use Rattle.backend_json.specs.declared.refusal.Refusal.TheVariants as cause
use Rattle.backend_json.specs.declared.request.Request.{Request}
use Rattle.backend_json.specs.declared.request.Request.TheVariants.{AppSKeyReq, HomeNSReq, JoinReq, RejoinReq, UplinkReq, Unknown, XmitDataReq, XmitUplink}
use Rattle.backend_json.specs.declared.session.SessionKeyId.{SessionKeyId}
use Rattle.entitlement.specs.declared.roles.AnswerKind.{AnswerKind}
use Rattle.entries.specs.declared.change.Change.{Change}
use Rattle.entries.specs.declared.entry.Entry.{Entry}
use Rattle.entries.specs.declared.entry.Event.{Event}
use Rattle.entries.specs.declared.entry.Event.TheVariants as event
use Rattle.entries.specs.declared.entry.Request as kept_request
use Rattle.entry_codec.specs.Empty.{empty_kept, no_answers, senders_of}
use Rattle.entry_codec.specs.Kept.{answer_among, has_body, is_of, keep, kept_answer, kept_by, with_pair}
use Rattle.entry_codec.specs.LookUps.{is_asked}
use Rattle.entry_codec.specs.Machine.{Machine, after, entered, lapse, on_change, on_event, ready, wake, wakes}
use Rattle.entry_codec.specs.declared.kept.KeptAnswers.{KeptAnswers}
use Rattle.entry_codec.specs.declared.kept.KeptPair.{KeptPair}
use Rattle.entry_codec.specs.declared.parties.Holder.{Holder}
use Rattle.js_core.specs.Agreement.{AnswerAgrees, KeysAgree}
use Rattle.js_core.specs.Agreement as js
use Rattle.js_core.specs.Found.{found_of}
use Rattle.js_core.specs.Parties.{is_known}
use Rattle.js_core.specs.Replies.{JsDecision, js_decided}
use Rattle.js_core.proofs.Agreeing.{answers_agree}
use Rattle.js_core.proofs.Cases.{by_cases}
use Rattle.roam_core.specs.Agreement.{Agrees, AreValid, IsKept, KeptAgree, LinesAgree, WasEntitled}
use Rattle.ns_core.specs.Replies.{ns_decided}
use Rattle.ns_core.proofs.Cases as ns
use Rattle.roam_core.specs.Decided.{by_part, decided, entry_in, judged_at, with_entry}
use Rattle.roam_core.specs.Desk.{Desk, desk_after, empty_desk}
use Rattle.roam_core.specs.Legal.{IsFirst, IsLegal, IsStep, MayFollow, desk_at, desk_from}
use Rattle.roam_core.specs.Lines.{bad_answer, decided_of, line_decided}
use Rattle.roam_core.specs.Texts.{kept_text}
use Rattle.roam_core.proofs.Outcomes.{accepted, judged_is}
use Rattle.roam_core.proofs.Waking.{wake_unread}

-- ---- what an entry counts and dates doesn't matter

keys_entered : (c : Config) (keys : List RootKeys) (m : Machine) (at now : ℕ) (asked : AnswerKind) (lifetime : ℕ) (head : Head) (outcome : Outcome) (id : SessionKeyId)
    → KeysAgree c keys m now asked lifetime head outcome id → KeysAgree c keys (entered at m) now asked lifetime head outcome id
unfolding found_of
keys_entered c keys m at now asked lifetime head outcome id k = record { device = k.device; seed = k.seed; is_found = k.is_found; is_seed = k.is_seed; fields = k.fields }

agrees_entered : (c : Config) (keys : List RootKeys) (m : Machine) (at now : ℕ) (reply : Answer) → AnswerAgrees c keys m now reply → AnswerAgrees c keys (entered at m) now reply
agrees_entered c keys m at now Headless k = k
agrees_entered c keys m at now (Headed head (Refused why)) k = k
agrees_entered c keys m at now (Headed head (JoinAns members)) k = keys_entered c keys m at now _ members.lifetime head (JoinAns members) members.session_key_id k
agrees_entered c keys m at now (Headed head (RejoinAns members)) k = keys_entered c keys m at now _ members.lifetime head (RejoinAns members) members.session_key_id k
agrees_entered c keys m at now (Headed head (AppSKeyAns members)) k = (keys_entered c keys m at now _ 0 head (AppSKeyAns members) members.session_key_id k.0, k.1)
agrees_entered c keys m at now (Headed head (HomeNSAns members)) k = k
agrees_entered c keys m at now (Headed head (UplinkAns members)) k = k
agrees_entered c keys m at now (Headed head (XmitDataAns members)) k = k

-- ---- what is decided anew

-- an answer agrees in the state that its change leaves, whatever contexts are active
abbrev AgreesAs : Config → List RootKeys → Sender → Machine → ℕ → JsDecision → Type 0
AgreesAs c keys sender m now (decision.Repeat text) = Unit {0}
AgreesAs c keys sender m now (decision.Reply reply) = AnswerAgrees c keys m now reply
AgreesAs c keys sender m now (decision.Accept reply change) = (who : Option Holder) → AnswerAgrees c keys (on_change sender change (wake who m)) now reply
AgreesAs c keys sender m now (decision.AskPeer peer question change) = Unit {0}

agrees_as : (c : Config) (keys : List RootKeys) (sender : Sender) (m : Machine) (now : ℕ) (d : JsDecision) → ((who : Option Holder) → js.Agrees c keys (wake who m) now sender d) → AgreesAs c keys sender m now d
agrees_as c keys sender m now (decision.Repeat text) f = tt
agrees_as c keys sender m now (decision.Reply reply) f = f None
agrees_as c keys sender m now (decision.Accept reply change) f = f
agrees_as c keys sender m now (decision.AskPeer peer question change) f = tt

-- an answer of the home network to a gateway or to a payload has no keys
heard_agrees : (c : Config) (keys : List RootKeys) (m : Machine) (now : ℕ) (head : Head) (request : Request) → AgreesAs c keys head.sender m now (ns_decided c (nwk_at keys) m head request)
heard_agrees c keys m now head request = ns.by_cases c (nwk_at keys) m head (AgreesAs c keys head.sender m now) (record {
  refusal = λ why. none_written head why;
  activation = λ request up f own is. λ who. uplink_written head _;
  duplicate = λ s. uplink_written head _;
  uplink = λ request s v is. λ who. uplink_written head _;
}) (λ request f is. λ who. xmit_data_written head _) request

part_agrees : (c : Config) (keys : List RootKeys) (m : Machine) (now : ℕ) (head : Head) (request : Request) → AreValid c → is_known c head.sender ≡ true → AgreesAs c keys head.sender m now (by_part c (nwk_at keys) (app_at keys) m head request)
part_agrees c keys m now head request valid known = by request
  where
    decided_agrees : (request : Request) → AgreesAs c keys head.sender m now (js_decided c (nwk_at keys) (app_at keys) m head request)
    decided_agrees request =
        agrees_as c keys head.sender m now (js_decided c (nwk_at keys) (app_at keys) m head request)
        (λ who. subst (λ (d : JsDecision). js.Agrees c keys (wake who m) now head.sender d) (wake_unread c (nwk_at keys) (app_at keys) who m head request) (answers_agree c keys (wake who m) now head request valid known))

    by : (request : Request) → AgreesAs c keys head.sender m now (by_part c (nwk_at keys) (app_at keys) m head request)
    by (JoinReq request) = decided_agrees (JoinReq request)
    by (RejoinReq request) = decided_agrees (RejoinReq request)
    by (AppSKeyReq request) = decided_agrees (AppSKeyReq request)
    by (HomeNSReq request) = decided_agrees (HomeNSReq request)
    by (UplinkReq request) = heard_agrees c keys m now head (UplinkReq request)
    by (XmitDataReq request) = heard_agrees c keys m now head (XmitDataReq request)
    by (XmitUplink request) = decided_agrees (XmitUplink request)
    by Unknown = decided_agrees Unknown

judged_agrees : (c : Config) (keys : List RootKeys) (m : Machine) (now : ℕ) (head : Head) (request : Request) (kept : Option (List ℕ)) (asked : Bool) → AreValid c → AgreesAs c keys head.sender m now (judged_at c (nwk_at keys) (app_at keys) m head request kept asked)
judged_agrees c keys m now head request kept asked valid =
    let nwk = nwk_at keys in
    let app = app_at keys in
    judged_is c nwk app m head request (AgreesAs c keys head.sender m now) kept asked (record {
      refusal = λ why. none_written head why;
      repeat = λ text is. tt;
      decides = λ known. part_agrees c keys m now head request valid known;
    })

entry_agrees : (c : Config) (keys : List RootKeys) (s : Desk) (head : Head) (body : List ℕ) (now : ℕ) (d : JsDecision) → AgreesAs c keys head.sender (lapse now s.now) now d → Agrees c keys s now (with_entry head body now d)
unfolding ready on_event
entry_agrees c keys s head body now (decision.Repeat text) a = tt
entry_agrees c keys s head body now (decision.Reply reply) a = a
entry_agrees c keys s head body now (decision.Accept reply change) a =
    let l = lapse now s.now in
    let who = wakes (entry_in head body now reply change).event l in
    agrees_entered c keys (on_change head.sender change (wake who l)) now now reply (a who)
entry_agrees c keys s head body now (decision.AskPeer peer question change) a = elim question [ ]

bad_agrees : (c : Config) (keys : List RootKeys) (m : Machine) (now : ℕ) (fault : Bad) → AnswerAgrees c keys m now (bad_answer fault)
bad_agrees c keys m now bad.NotJson = headless_written
bad_agrees c keys m now bad.TooLong = headless_written
bad_agrees c keys m now (bad.Member name None) = headless_written
bad_agrees c keys m now (bad.Member name (Some head)) = none_written head cause.Message
bad_agrees c keys m now (bad.Version head) = none_written head cause.Version

agrees_of : (c : Config) (keys : List RootKeys) (s : Desk) (body : List ℕ) (now : ℕ) (r : Result Message Bad) → AreValid c → Agrees c keys s now (decided_of c (nwk_at keys) (app_at keys) s body now r)
unfolding decided
agrees_of c keys s body now (Err fault) valid = bad_agrees c keys (lapse now s.now) now fault
agrees_of c keys s body now (Ok message) valid =
    let head = message.head in
    let m = lapse now s.now in
    entry_agrees c keys s head body now _ (judged_agrees c keys m now head message.request (kept_answer head.sender body s.kept) (is_asked body m) valid)

pub lines_agree : LinesAgree
unfolding line_decided
lines_agree c keys s body now valid = agrees_of c keys s body now (message_of body) valid

-- ---- what is kept

-- each kept answer's text is such
abbrev AllKept : (List ℕ → Type 0) → List KeptAnswers → Type 0
AllKept P kept = AllByRecursion (λ (k : KeptAnswers). AllByRecursion (λ (p : KeptPair). P p.answer) k.pairs) kept

find_all : {X : Type 0} (P : X → Type 0) (test : X → Bool) (xs : List X) (x : X) → AllByRecursion P xs → find test xs ≡ Some x → P x
find_all P test [] x all e = cc
find_all P test (y ∷ ys) x all e = by (test y) refl (find_all P test ys x all.1)
  where
    by : (b : Bool) → test y ≡ b → (find test ys ≡ Some x → P x) → P x
    by true is rest =
        let same : Some y ≡ Some x = sym (ap (λ (b : Bool). cond b (Some y) (find test ys)) is) ∙ e in
        let here : y ≡ x = cc in
        subst P here all.0
    by false is rest = rest (sym (ap (λ (b : Bool). cond b (Some y) (find test ys)) is) ∙ e)

kept_gives : (P : List ℕ → Type 0) (sender : Sender) (body text : List ℕ) (kept : List KeptAnswers) → AllKept P kept → kept_answer sender body kept ≡ Some text → P text
kept_gives P sender body text kept all e = by (find (is_of sender) kept) refl e
  where
    among : (k : KeptAnswers) (o : Option KeptPair) → AllByRecursion (λ (p : KeptPair). P p.answer) k.pairs → find (has_body body) k.pairs ≡ o → option_map (λ (p : KeptPair). p.answer) o ≡ Some text → P text
    among k None h is e = cc
    among k (Some p) h is e =
        let same : p.answer ≡ text = cc in
        subst P same (find_all (λ (p : KeptPair). P p.answer) (has_body body) k.pairs p h is)

    by : (o : Option KeptAnswers) → find (is_of sender) kept ≡ o → option_and_then (λ (k : KeptAnswers). answer_among body k.pairs) o ≡ Some text → P text
    by None is e = cc
    by (Some k) is e = among k (find (has_body body) k.pairs) (find_all (λ (k : KeptAnswers). AllByRecursion (λ (p : KeptPair). P p.answer) k.pairs) (is_of sender) kept k all is) refl e

kept_more : (P Q : List ℕ → Type 0) (kept : List KeptAnswers) → ((text : List ℕ) → P text → Q text) → AllKept P kept → AllKept Q kept
kept_more P Q kept f all =
    all_more (λ (k : KeptAnswers). AllByRecursion (λ (p : KeptPair). P p.answer) k.pairs) (λ (k : KeptAnswers). AllByRecursion (λ (p : KeptPair). Q p.answer) k.pairs) kept
    (λ k h. all_more (λ (p : KeptPair). P p.answer) (λ (p : KeptPair). Q p.answer) k.pairs (λ p x. f p.answer x) h) all

keep_all : (P : List ℕ → Type 0) (r : kept_request.Request) (kept : List KeptAnswers) → P r.answer → AllKept P kept → AllKept P (keep (Some r) kept)
keep_all P r kept new all = by (position (is_of r.sender) kept)
  where
    pair : KeptPair
    pair = record { body = r.body; answer = r.answer }

    by : (o : Option ℕ) → AllKept P (changed_there (with_pair pair) kept o)
    by None = all
    by (Some i) = all_changed (λ (k : KeptAnswers). AllByRecursion (λ (p : KeptPair). P p.answer) k.pairs) i (with_pair pair) kept
        (λ k is h. all_take (λ (p : KeptPair). P p.answer) 64 (pair ∷ k.pairs) (new, h)) all

none_kept : (P : List ℕ → Type 0) (senders : List Sender) → AllKept P (map no_answers senders)
none_kept P [] = tt
none_kept P (s ∷ senders) = (tt, none_kept P senders)

first_kept : (P : List ℕ → Type 0) (c : Config) → AllKept P (empty_kept c)
unfolding empty_kept
first_kept P c = none_kept P (senders_of c)

module _ (c : Config) (keys : List RootKeys) (valid : AreValid c) where
  entitled_later : (history rest : List Entry) (text : List ℕ) → WasEntitled c keys history text → WasEntitled c keys (history ++ rest) text
  entitled_later history rest text w = record {
    before = w.before;
    entry = w.entry;
    later = w.later ++ rest;
    answer = w.answer;
    is_history = ap (λ (h : List Entry). h ++ rest) w.is_history ∙ append_assoc w.before (w.entry ∷ w.later) rest;
    is_text = w.is_text;
    agrees = w.agrees;
  }

  entitled_now : (before : List Entry) (s : Desk) (e : Entry) (r : kept_request.Request) (change : Change) → s ≡ desk_at c before → e.event ≡ event.Kept r change → IsStep c keys s e (event.Kept r change) → WasEntitled c keys (before ++ e ∷ []) r.answer
  entitled_now before s e r change here is step =
      let a = accepted c keys s r.body e.moment.0 e step in
      let agrees = subst (Agrees c keys s e.moment.0) a.is_decision (lines_agree c keys s r.body e.moment.0 valid) in
      let texts : Some r.answer ≡ Some (text_of a.answer) = sym (ap kept_text is) ∙ ap (λ (x : Entry). kept_text x.event) a.is_entry in
      record {
        before = before;
        entry = e;
        later = [];
        answer = a.answer;
        is_history = refl;
        is_text = cc;
        agrees = subst (λ (d : Desk). AnswerAgrees c keys (after d.now e) e.moment.0 a.answer) here agrees;
      }

  kept_then : (before : List Entry) (s : Desk) (e : Entry) (x : Event) → s ≡ desk_at c before → e.event ≡ x → IsStep c keys s e x → AllKept (WasEntitled c keys before) s.kept → AllKept (WasEntitled c keys (before ++ e ∷ [])) (keep (kept_by x (ready s.now e)) s.kept)
  kept_then before s e event.Opened here is step all = kept_more (WasEntitled c keys before) (WasEntitled c keys (before ++ e ∷ [])) s.kept (entitled_later before (e ∷ [])) all
  kept_then before s e (event.Tables text) here is step all = absurd step
  kept_then before s e (event.Kept r change) here is step all =
      keep_all (WasEntitled c keys (before ++ e ∷ [])) r s.kept (entitled_now before s e r change here is step) (kept_more (WasEntitled c keys before) (WasEntitled c keys (before ++ e ∷ [])) s.kept (entitled_later before (e ∷ [])) all)
  kept_then before s e (event.Asked ask) here is step all = absurd step
  kept_then before s e (event.Told told) here is step all = absurd step
  kept_then before s e (event.Suspend device) here is step all = kept_more (WasEntitled c keys before) (WasEntitled c keys (before ++ e ∷ [])) s.kept (entitled_later before (e ∷ [])) all
  kept_then before s e (event.Resume device) here is step all = kept_more (WasEntitled c keys before) (WasEntitled c keys (before ++ e ∷ [])) s.kept (entitled_later before (e ∷ [])) all

  one_more : (s : Desk) (es : List Entry) (e : Entry) → desk_from s (es ++ e ∷ []) ≡ desk_after (desk_from s es) e
  one_more s [] e = refl
  one_more s (x ∷ es) e = one_more (desk_after s x) es e

  kept_all : (es before : List Entry) (s : Desk) → s ≡ desk_at c before → MayFollow c keys s es → AllKept (WasEntitled c keys before) s.kept → AllKept (WasEntitled c keys (before ++ es)) (desk_from s es).kept
  kept_all [] before s here may all = subst (λ (h : List Entry). AllKept (WasEntitled c keys h) s.kept) (sym (append-nil before)) all
  kept_all (e ∷ es) before s here may all =
      subst (λ (h : List Entry). AllKept (WasEntitled c keys h) (desk_from (desk_after s e) es).kept) (append_assoc before (e ∷ []) es)
      (kept_all es (before ++ e ∷ []) (desk_after s e) (ap (λ (d : Desk). desk_after d e) here ∙ sym (one_more (empty_desk c) before e)) may.2 (kept_then before s e e.event here refl may.1 all))

  kept_first : (e : Entry) (x : Event) → IsFirst c x → AllKept (WasEntitled c keys (e ∷ [])) (keep (kept_by x (ready (empty_desk c).now e)) (empty_kept c))
  kept_first e event.Opened first = absurd first
  kept_first e (event.Tables text) first = first_kept (WasEntitled c keys (e ∷ [])) c
  kept_first e (event.Kept r change) first = absurd first
  kept_first e (event.Asked ask) first = absurd first
  kept_first e (event.Told told) first = absurd first
  kept_first e (event.Suspend device) first = absurd first
  kept_first e (event.Resume device) first = absurd first

  all_kept : (history : List Entry) → IsLegal c keys history → AllKept (WasEntitled c keys history) (desk_at c history).kept
  all_kept [] legal = first_kept (WasEntitled c keys []) c
  all_kept (e ∷ es) legal = kept_all es (e ∷ []) (desk_after (empty_desk c) e) refl legal.2 (kept_first e e.event legal.1)

  -- the answer that is given again
  abbrev IsKeptAs : List Entry → JsDecision → Type 0
  IsKeptAs history (decision.Repeat text) = WasEntitled c keys history text
  IsKeptAs history (decision.Reply reply) = Unit {0}
  IsKeptAs history (decision.Accept reply change) = Unit {0}
  IsKeptAs history (decision.AskPeer peer question change) = Unit {0}

  kept_by_entry : (history : List Entry) (head : Head) (body : List ℕ) (now : ℕ) (d : JsDecision) → IsKeptAs history d → IsKept c keys history (with_entry head body now d)
  kept_by_entry history head body now (decision.Repeat text) k = k
  kept_by_entry history head body now (decision.Reply reply) k = tt
  kept_by_entry history head body now (decision.Accept reply change) k = tt
  kept_by_entry history head body now (decision.AskPeer peer question change) k = elim question [ ]

  -- no part gives a kept answer
  part_kept : (history : List Entry) (m : Machine) (head : Head) (request : Request) → IsKeptAs history (by_part c (nwk_at keys) (app_at keys) m head request)
  part_kept history m head request = by request
    where
      decided_kept : (request : Request) → IsKeptAs history (js_decided c (nwk_at keys) (app_at keys) m head request)
      decided_kept request = by_cases c (nwk_at keys) (app_at keys) (app_at keys) m head (λ left right. IsKeptAs history left) (record {
        refusal = λ why. tt;
        join = λ activation join up f is. tt;
        app_s_key = λ request f seed is. tt;
        home_ns = λ f. tt;
      }) request

      heard_kept : (request : Request) → IsKeptAs history (ns_decided c (nwk_at keys) m head request)
      heard_kept request = ns.by_cases c (nwk_at keys) m head (IsKeptAs history) (record {
        refusal = λ why. tt;
        activation = λ request up f own is. tt;
        duplicate = λ s. tt;
        uplink = λ request s v is. tt;
      }) (λ request f is. tt) request

      by : (request : Request) → IsKeptAs history (by_part c (nwk_at keys) (app_at keys) m head request)
      by (JoinReq request) = decided_kept (JoinReq request)
      by (RejoinReq request) = decided_kept (RejoinReq request)
      by (AppSKeyReq request) = decided_kept (AppSKeyReq request)
      by (HomeNSReq request) = decided_kept (HomeNSReq request)
      by (UplinkReq request) = heard_kept (UplinkReq request)
      by (XmitDataReq request) = heard_kept (XmitDataReq request)
      by (XmitUplink request) = decided_kept (XmitUplink request)
      by Unknown = decided_kept Unknown

  judged_kept : (history : List Entry) (m : Machine) (head : Head) (request : Request) (body : List ℕ) (kept : List KeptAnswers) (asked : Bool) → AllKept (WasEntitled c keys history) kept
      → IsKeptAs history (judged_at c (nwk_at keys) (app_at keys) m head request (kept_answer head.sender body kept) asked)
  judged_kept history m head request body kept asked all =
      let nwk = nwk_at keys in
      let app = app_at keys in
      judged_is c nwk app m head request (IsKeptAs history) (kept_answer head.sender body kept) asked (record {
        refusal = λ why. tt;
        repeat = λ text is. kept_gives (WasEntitled c keys history) head.sender body text kept all is;
        decides = λ known. part_kept history m head request;
      })

  kept_of : (history : List Entry) (s : Desk) (body : List ℕ) (now : ℕ) (r : Result Message Bad) → AllKept (WasEntitled c keys history) s.kept → IsKept c keys history (decided_of c (nwk_at keys) (app_at keys) s body now r)
  unfolding decided
  kept_of history s body now (Err fault) all = tt
  kept_of history s body now (Ok message) all =
      kept_by_entry history message.head body now _ (judged_kept history (lapse now s.now) message.head message.request body s.kept (is_asked body (lapse now s.now)) all)

pub kept_agree : KeptAgree
unfolding line_decided
kept_agree c keys history body now valid legal = kept_of c keys valid history (desk_at c history) body now (message_of body) (all_kept c keys valid history legal)
