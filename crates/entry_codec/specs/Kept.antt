-- The answers that are kept, by sender.
use Rattle.std.specs.Prelude.{ℕ, ◌≤◌, List, ◌∷◌, length, take, find, Option, Some, None, option_map, option_and_then, Bool, if◌then◌else◌}
use Rattle.std.specs.List.{AllByRecursion}
use Rattle.std.specs.Str.{bytes_eq}
use Rattle.wire_ids.specs.Lists.{changed_first}
use Rattle.wire_ids.specs.declared.party.Sender.{Sender}
use Rattle.entries.specs.declared.ask.AskOutcome.{AskOutcome}
use Rattle.entries.specs.declared.entry.Event.{Event}
use Rattle.entries.specs.declared.entry.Event.TheVariants as event
use Rattle.entries.specs.declared.entry.Request.{Request}
use Rattle.entry_codec.specs.LookUps.{is_same_sender}
use Rattle.entry_codec.specs.Machine.{Machine, open_ask}
use Rattle.entry_codec.specs.declared.kept.KeptAnswers.{KeptAnswers}
use Rattle.entry_codec.specs.declared.kept.KeptPair.{KeptPair}
use Rattle.entry_codec.specs.declared.parties.OpenAsk.{OpenAsk}

-- the newest first, and a 65th is dropped
abbrev pub put_first : KeptPair → List KeptPair → List KeptPair
put_first pair pairs = take 64 (pair ∷ pairs)

abbrev pub is_of : Sender → KeptAnswers → Bool
is_of sender k = is_same_sender sender k.sender

abbrev pub with_pair : KeptPair → KeptAnswers → KeptAnswers
with_pair pair k = record k { pairs = put_first pair k.pairs }

-- a request's answer kept for its sender
abbrev pub keep : Option Request → List KeptAnswers → List KeptAnswers
keep None kept = kept
keep (Some r) kept = changed_first (is_of r.sender) (with_pair (record { body = r.body; answer = r.answer })) kept

-- the request that an ask's answer is kept for, where it is
abbrev pub told_request : Bool → List ℕ → Option OpenAsk → Option Request
told_request kept answer None = None
told_request kept answer (Some a) = if kept then Some (record { sender = a.sender; body = a.body; answer = answer }) else None

abbrev pub told_of : AskOutcome → Option OpenAsk → Option Request
told_of t a = told_request t.kept t.answer a

-- the request whose answer an event keeps; that of a told one is its ask's
abbrev pub kept_by : Event → Machine → Option Request
kept_by (event.Kept request c) m = Some request
kept_by (event.Told t) m = told_of t (open_ask t.ask m)
kept_by _ m = None

-- ---- look-ups

abbrev pub has_body : List ℕ → KeptPair → Bool
has_body body pair = bytes_eq pair.body body

abbrev pub answer_among : List ℕ → List KeptPair → Option (List ℕ)
answer_among body pairs = option_map (λ (p : KeptPair). p.answer) (find (has_body body) pairs)

-- the answer that is kept for a sender's body
abbrev pub kept_answer : Sender → List ℕ → List KeptAnswers → Option (List ℕ)
kept_answer sender body kept = option_and_then (λ (k : KeptAnswers). answer_among body k.pairs) (find (is_of sender) kept)

-- ---- what holds of them

abbrev pub HasFew : KeptAnswers → Type 0
HasFew k = length k.pairs ≤ 64

abbrev pub AllFew : List KeptAnswers → Type 0
AllFew kept = AllByRecursion HasFew kept
