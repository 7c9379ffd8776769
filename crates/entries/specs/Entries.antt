-- The spelling of entries: the tag, the moment, and the fields of what happened.
use Rattle.std.specs.Prelude.{◌≡◌, ℕ, ◌==◌, List, [], ◌∷◌, ◌++◌, Option, Some, None, if◌then◌else◌}
use Rattle.wire_ids.specs.Forms.{AreBytes, Read, Form, and_then, u8, u16, u24, u32, arm, optional, short, long, both, named}
use Rattle.entries.specs.declared.entry.Entry.{Entry}
use Rattle.entries.specs.declared.entry.Event.{Event}
use Rattle.entries.specs.declared.entry.Event.TheVariants.{Opened, Tables, Kept, Asked, Told, Suspend, Resume}
use Rattle.entries.specs.declared.entry.Request.{Request}
use Rattle.entries.specs.declared.change.Change.{Change}
use Rattle.entries.specs.declared.change.Change.TheVariants.{Join, Rejoin, Lent, Up, Passive, Queue, Dropped}
use Rattle.entries.specs.declared.change.Lending.{Lending}
use Rattle.entries.specs.Names.{moment, sender}
use Rattle.entries.specs.Changes.{used_seed, joined, rejoined, uplink, passive_uplink, queued, stopped}
use Rattle.entries.specs.Asks.{new_ask, ask_outcome}

-- ---- kept requests, with what they changed

abbrev pub request : Form Request
request = named (both sender (both short short))
    (λ p. record { sender = p.0; body = p.1.0; answer = p.1.1 })
    (λ x. (x.sender, (x.body, x.answer)))

-- what was used stands before the request
abbrev pub lending : Form (Request × Lending)
lending = named (both (optional used_seed) (both request (both u32 (both u16 (both u24 (both u24 moment))))))
    (λ p. (p.1.0, record { used = p.0; device = p.1.1.0; counter = p.1.1.1.0; join_nonce = p.1.1.1.1.0; net = p.1.1.1.1.1.0; until = p.1.1.1.1.1.1 }))
    (λ x. (x.1.used, (x.0, (x.1.device, (x.1.counter, (x.1.join_nonce, (x.1.net, x.1.until)))))))

abbrev pub change_tag : Change → ℕ
change_tag (Join j) = 3
change_tag (Rejoin j) = 4
change_tag (Lent l) = 5
change_tag (Up u) = 6
change_tag (Passive p) = 7
change_tag (Queue q) = 8
change_tag (Dropped d) = 11

abbrev pub kept_fields : Request → Change → List ℕ
kept_fields r (Join j) = (both request joined).spell (r, j)
kept_fields r (Rejoin j) = (both request rejoined).spell (r, j)
kept_fields r (Lent l) = lending.spell (r, l)
kept_fields r (Up u) = (both request uplink).spell (r, u)
kept_fields r (Passive p) = (both request passive_uplink).spell (r, p)
kept_fields r (Queue q) = (both request queued).spell (r, q)
kept_fields r (Dropped d) = (both request stopped).spell (r, d)

abbrev pub FitsKept : Request → Change → Type 0
FitsKept r (Join j) = (both request joined).Fits (r, j)
FitsKept r (Rejoin j) = (both request rejoined).Fits (r, j)
FitsKept r (Lent l) = lending.Fits (r, l)
FitsKept r (Up u) = (both request uplink).Fits (r, u)
FitsKept r (Passive p) = (both request passive_uplink).Fits (r, p)
FitsKept r (Queue q) = (both request queued).Fits (r, q)
FitsKept r (Dropped d) = (both request stopped).Fits (r, d)

unfoldable pub kept_at : ℕ → List ℕ → Read Event
kept_at tag bytes =
    if tag == 3 then arm (both request joined) (λ p. Kept p.0 (Join p.1)) bytes else (
    if tag == 4 then arm (both request rejoined) (λ p. Kept p.0 (Rejoin p.1)) bytes else (
    if tag == 5 then arm lending (λ p. Kept p.0 (Lent p.1)) bytes else (
    if tag == 6 then arm (both request uplink) (λ p. Kept p.0 (Up p.1)) bytes else (
    if tag == 7 then arm (both request passive_uplink) (λ p. Kept p.0 (Passive p.1)) bytes else (
    if tag == 8 then arm (both request queued) (λ p. Kept p.0 (Queue p.1)) bytes else (
    if tag == 11 then arm (both request stopped) (λ p. Kept p.0 (Dropped p.1)) bytes else None))))))

-- ---- events

abbrev pub event_tag : Event → ℕ
event_tag Opened = 1
event_tag (Tables text) = 2
event_tag (Kept r c) = change_tag c
event_tag (Asked a) = 9
event_tag (Told o) = 10
event_tag (Suspend device) = 12
event_tag (Resume device) = 13

abbrev pub event_fields : Event → List ℕ
event_fields Opened = []
event_fields (Tables text) = long.spell text
event_fields (Kept r c) = kept_fields r c
event_fields (Asked a) = new_ask.spell a
event_fields (Told o) = ask_outcome.spell o
event_fields (Suspend device) = u32.spell device
event_fields (Resume device) = u32.spell device

abbrev pub FitsEvent : Event → Type 0
FitsEvent Opened = Unit {0}
FitsEvent (Tables text) = long.Fits text
FitsEvent (Kept r c) = FitsKept r c
FitsEvent (Asked a) = new_ask.Fits a
FitsEvent (Told o) = ask_outcome.Fits o
FitsEvent (Suspend device) = u32.Fits device
FitsEvent (Resume device) = u32.Fits device

unfoldable pub event_at : ℕ → List ℕ → Read Event
event_at tag bytes =
    if tag == 1 then Some (Opened, bytes) else (
    if tag == 2 then arm long Tables bytes else (
    if tag == 9 then arm new_ask Asked bytes else (
    if tag == 10 then arm ask_outcome Told bytes else (
    if tag == 12 then arm u32 Suspend bytes else (
    if tag == 13 then arm u32 Resume bytes else kept_at tag bytes)))))

-- ---- entries

unfoldable pub entry : Form Entry
entry = record {
  spell = λ e. event_tag e.event ∷ (moment.spell e.moment ++ event_fields e.event);
  read = λ bytes. and_then (u8.read bytes) (λ tag more. and_then (moment.read more) (λ at fields. and_then (event_at tag fields) (λ event rest. Some (record { moment = at; event = event }, rest))));
  Fits = λ e. moment.Fits e.moment × FitsEvent e.event;
}

abbrev pub where_ended : Entry → List ℕ → Option Entry
where_ended e [] = Some e
where_ended e (b ∷ bytes) = None

abbrev pub whole : Read Entry → Option Entry
whole None = None
whole (Some x) = where_ended x.0 x.1

-- the entry that the bytes spell, to their end
unfoldable pub decode_of : List ℕ → Option Entry
decode_of bytes = whole (entry.read bytes)

-- the one spelling of an entry
unfoldable pub encode_of : Entry → List ℕ
encode_of e = entry.spell e

-- ---- laws

-- its numbers and texts are within the ranges of their fields
abbrev pub HasSpelling : Entry → Type 0
HasSpelling e = entry.Fits e

abbrev pub ReadsAgain : Type 0
ReadsAgain = (e : Entry) → HasSpelling e → decode_of (encode_of e) ≡ Some e

abbrev pub HasOneSpelling : Type 0
HasOneSpelling = (a b : List ℕ) (e : Entry) → AreBytes a → AreBytes b → decode_of a ≡ Some e → decode_of b ≡ Some e → a ≡ b
