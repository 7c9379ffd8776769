-- Of a request that is read, that its numbers are in their ranges.
use Rattle.std.proofs.Common.{◌≡◌, ℕ, ◌<◌, ◌^◌, Bool, true, false, cond, List, length, Option, Some, None, option_and_then, Result, Ok, Err, refl, ap, subst, ltb-true}
use Rattle.std.specs.Prelude.{nat_lt, unwrap_or}
use Rattle.serde_json.specs.Data.{Data, Members, object}
use Rattle.serde_json.specs.Find.{as_bool, as_number, as_object, as_u64}
use Rattle.backend_json.specs.Forms.{below, bytes_form, eui_form, session_form, whole_form}
use Rattle.backend_json.specs.Members.{◌>>=◌, found_at, in_form, needed, needed_at, optional, place_of}
use Rattle.backend_json.specs.Messages.{headed, json_of, message_in, message_of, with_head, with_request, is_served_version}
use Rattle.backend_json.specs.Requests.{app_s_key_req_in, head_in, home_ns_req_in, join_req_in, request_in, uplink_req_in, xmit_data_req_in, xmit_in, xmit_uplink_in}
use Rattle.backend_json.specs.declared.head.Head.{Head}
use Rattle.backend_json.specs.declared.message.Bad.{Bad}
use Rattle.backend_json.specs.declared.message.Bad.TheVariants as bad
use Rattle.backend_json.specs.declared.message.Message.{Message}
use Rattle.backend_json.specs.declared.message_type.MessageType.{MessageType}
use Rattle.backend_json.specs.declared.message_type.MessageType.TheVariants as kind
use Rattle.backend_json.specs.declared.request.Request.{Request}
use Rattle.backend_json.specs.declared.request.Request.TheVariants.{AppSKeyReq, HomeNSReq, JoinReq, RejoinReq, UplinkReq, Unknown, XmitDataReq, XmitUplink}
use Rattle.backend_json.specs.declared.request.XmitDataRequest.{XmitDataRequest}

-- the counter of a payload has 32 bits
abbrev pub InRange : Request → Type 0
InRange (JoinReq request) = Unit {0}
InRange (RejoinReq request) = Unit {0}
InRange (AppSKeyReq request) = Unit {0}
InRange (HomeNSReq request) = Unit {0}
InRange (UplinkReq request) = Unit {0}
InRange (XmitDataReq request) = request.f_cnt_down < 2 ^ 32
InRange (XmitUplink request) = Unit {0}
InRange Unknown = Unit {0}

-- ---- members

number_read : (limit : ℕ) (d : Data) (n : ℕ) → whole_form limit d ≡ Some n → n < limit
unfolding whole_form
number_read limit d n e = by (option_and_then as_u64 (as_number d)) e
  where
    at : (x : ℕ) (b : Bool) → nat_lt x limit ≡ b → cond b (Some x) None ≡ Some n → n < limit
    at x true is e = let same : x ≡ n = cc in subst (λ (k : ℕ). k < limit) same (ltb-true x limit is)
    at x false is e = absurd cc

    by : (o : Option ℕ) → option_and_then (below limit) o ≡ Some n → n < limit
    by None e = absurd cc
    by (Some x) e = at x (nat_lt x limit) refl e

record IsGiven {A : Type 0} (form : Data → Option A) (a : A) : Type 0 where
  value : Data
  is : form value ≡ Some a

given : {A : Type 0} (form : Data → Option A) (key : _) (o : Option Data) (a : A) → needed_at form key o ≡ Ok a → IsGiven form a
given form key None a e = absurd cc
given form key (Some d) a e = by (form d) refl e
  where
    by : (o : Option _) → form d ≡ o → in_form key o ≡ Ok a → IsGiven form a
    by None is e = absurd cc
    by (Some x) is e = record { value = d; is = cc }

-- what is read first, and what is made of it
record Bound {A B K : Type 0} (x : Result A K) (f : A → Result B K) (b : B) : Type 0 where
  first : A
  is : x ≡ Ok first
  rest : f first ≡ Ok b

bound : {A B : Type 0} (x : Result A _) (f : A → Result B _) (b : B) → (x >>= f) ≡ Ok b → Bound x f b
bound (Ok a) f b e = record { first = a; is = refl; rest = e }
bound (Err key) f b e = absurd cc

-- ---- requests

same_ok : {A K : Type 0} (a b : A) → (let x : Result A K = Ok a in x) ≡ Ok b → a ≡ b
same_ok a b e = cc

payload_by : (a b c p n q : _) (d : Data) (request : XmitDataRequest)
    → (do
      frm_payload ← needed bytes_form a d
      session_key_id ← needed session_form b d
      dev_eui ← needed eui_form c d
      f_port ← needed (whole_form 256) p d
      f_cnt_down ← needed (whole_form (2 ^ 32)) n d
      confirmed ← optional as_bool q d
      Ok (record { frm_payload = frm_payload; session_key_id = session_key_id; dev_eui = dev_eui; f_port = f_port; f_cnt_down = f_cnt_down; confirmed = unwrap_or confirmed false })) ≡ Ok request
    → request.f_cnt_down < 2 ^ 32
payload_by a b c p n q d request e =
    let payload = bound (needed bytes_form a d) _ request e in
    let session = bound (needed session_form b d) _ request payload.rest in
    let dev_eui = bound (needed eui_form c d) _ request session.rest in
    let port = bound (needed (whole_form 256) p d) _ request dev_eui.rest in
    let count = bound (needed (whole_form (2 ^ 32)) n d) _ request port.rest in
    let confirmed = bound (optional as_bool q d) _ request count.rest in
    let value = given (whole_form (2 ^ 32)) n (found_at (place_of n) d) count.first count.is in
    let same : count.first ≡ request.f_cnt_down = ap (λ (r : XmitDataRequest). r.f_cnt_down) (same_ok _ request confirmed.rest) in
    subst (λ (n : ℕ). n < 2 ^ 32) same (number_read (2 ^ 32) value.value count.first value.is)

payload_read : (d : Data) (request : XmitDataRequest) → xmit_data_req_in d ≡ Ok request → request.f_cnt_down < 2 ^ 32
unfolding xmit_data_req_in
payload_read d request e = payload_by _ _ _ _ _ _ d request e

made_read : {A : Type 0} (x : Result A _) (make : A → Request) (r : Request) → ((a : A) → x ≡ Ok a → InRange (make a)) → (x >>= λ a. Ok (make a)) ≡ Ok r → InRange r
made_read (Ok a) make r f e = let same : make a ≡ r = cc in subst InRange same (f a refl)
made_read (Err key) make r f e = absurd cc

xmit_read : (d : Data) (r : Request) → xmit_in d ≡ Ok r → InRange r
unfolding xmit_in
xmit_read d r e = by _ e
  where
    by : (b : Bool) → cond b (xmit_uplink_in d >>= λ request. Ok (XmitUplink request)) (xmit_data_req_in d >>= λ request. Ok (XmitDataReq request)) ≡ Ok r → InRange r
    by true e = made_read (xmit_uplink_in d) (λ request. XmitUplink request) r (λ a is. tt) e
    by false e = made_read (xmit_data_req_in d) (λ request. XmitDataReq request) r (payload_read d) e

request_read : (type : MessageType) (d : Data) (r : Request) → request_in type d ≡ Ok r → InRange r
unfolding request_in
request_read kind.JoinReq d r e = made_read (join_req_in d) (λ request. JoinReq request) r (λ a is. tt) e
request_read kind.RejoinReq d r e = made_read (join_req_in d) (λ request. RejoinReq request) r (λ a is. tt) e
request_read kind.AppSKeyReq d r e = made_read (app_s_key_req_in d) (λ request. AppSKeyReq request) r (λ a is. tt) e
request_read kind.HomeNSReq d r e = made_read (home_ns_req_in d) (λ request. HomeNSReq request) r (λ a is. tt) e
request_read kind.UplinkReq d r e = made_read (uplink_req_in d) (λ request. UplinkReq request) r (λ a is. tt) e
request_read kind.XmitDataReq d r e = xmit_read d r e
request_read kind.Unknown d r e = let same : Unknown ≡ r = cc in subst InRange same tt

-- ---- messages

with_request_read : (head : Head) (r : Result Request _) (message : Message) → ((request : Request) → r ≡ Ok request → InRange request) → with_request head r ≡ Ok message → InRange message.request
with_request_read head (Err key) message all e = absurd cc
with_request_read head (Ok request) message all e = by (is_served_version head.protocol_version) e
  where
    by : (b : Bool) → (let x : Result Message Bad = cond b (Ok (record { head = head; request = request })) (Err (bad.Version head)) in x) ≡ Ok message → InRange message.request
    by true e = let same : request ≡ message.request = cc in subst InRange same (all request refl)
    by false e = absurd cc

headed_read : (d : Data) (head : Result Head _) (message : Message) → headed d head ≡ Ok message → InRange message.request
unfolding with_head
headed_read d (Err key) message e = absurd cc
headed_read d (Ok head) message e = with_request_read head (request_in head.message_type d) message (request_read head.message_type d) e

in_read : (o : Option Members) (message : Message) → message_in o ≡ Ok message → InRange message.request
in_read None message e = absurd cc
in_read (Some members) message e = headed_read (object members) (head_in (object members)) message e

pub message_read : (body : List ℕ) (message : Message) → message_of body ≡ Ok message → InRange message.request
unfolding message_of
message_read body message e = by (nat_lt 8192 (length body)) e
  where
    by : (b : Bool) → cond b (Err bad.TooLong) (message_in (option_and_then as_object (json_of body))) ≡ Ok message → InRange message.request
    by true e = absurd cc
    by false e = in_read (option_and_then as_object (json_of body)) message e
