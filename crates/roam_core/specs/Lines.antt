-- What a line comes to: one body, with one answer and at most one entry.
use Rattle.std.specs.Prelude.{◌≡◌, ℕ, ◌<◌, List, [], ◌∷◌, length, take, Option, Some, None, Result, Ok, Err}
use Rattle.wire_ids.specs.Decisions.{entry_of}
use Rattle.wire_ids.specs.declared.decision.Decision.TheVariants as decision
use Rattle.wire_ids.specs.declared.keys.RootKeys.{RootKeys}
use Rattle.key_vault.specs.Table.{app_at, nwk_at}
use Rattle.agreements.specs.Walk.{Config}
use Rattle.backend_json.specs.Answers.{text_of}
use Rattle.backend_json.specs.Messages.{message_of}
use Rattle.backend_json.specs.declared.answer.Answer.{Answer}
use Rattle.backend_json.specs.declared.answer.Answer.TheVariants.{Headless}
use Rattle.backend_json.specs.declared.head.Head.{Head}
use Rattle.backend_json.specs.declared.message.Bad.{Bad}
use Rattle.backend_json.specs.declared.message.Bad.TheVariants as bad
use Rattle.backend_json.specs.declared.message.Message.{Message}
use Rattle.backend_json.specs.declared.refusal.Refusal.TheVariants as cause
use Rattle.entries.specs.declared.entry.Entry.{Entry}
use Rattle.js_core.specs.Replies.{refused}
use Rattle.roam_core.specs.Decided.{RoamDecision, decided}
use Rattle.roam_core.specs.Desk.{Desk, desk_with}

-- ---- a body that is no readable message

abbrev pub bad_member : Option Head → Answer
bad_member None = Headless
bad_member (Some head) = refused head cause.Message

abbrev pub bad_answer : Bad → Answer
bad_answer bad.NotJson = Headless
bad_answer bad.TooLong = Headless
bad_answer (bad.Member name head) = bad_member head
bad_answer (bad.Version head) = refused head cause.Version

-- ---- a line at a moment

abbrev pub decided_of : Config → (ℕ → List ℕ) → (ℕ → List ℕ) → Desk → List ℕ → ℕ → Result Message Bad → RoamDecision
decided_of c nwk app s body now (Err fault) = decision.Reply (bad_answer fault)
decided_of c nwk app s body now (Ok message) = decided c nwk app s message.head message.request body now

unfoldable pub line_decided : Config → List RootKeys → Desk → List ℕ → ℕ → RoamDecision
line_decided c keys s body now = decided_of c (nwk_at keys) (app_at keys) s body now (message_of body)

-- the answer's bytes
abbrev pub text_in : RoamDecision → List ℕ
text_in (decision.Repeat text) = text
text_in (decision.Reply answer) = text_of answer
text_in (decision.Accept answer e) = text_of answer
text_in (decision.AskPeer peer question e) = elim question [ ]

-- the answer to a line, and the entry that it makes
pub record Reaction : Type 0 where
  pub answer : List ℕ
  pub entry : Option Entry

abbrev pub reaction_of : RoamDecision → Reaction
reaction_of d = record { answer = text_in d; entry = entry_of d }

unfoldable pub reaction : Config → List RootKeys → Desk → List ℕ → ℕ → Reaction
reaction c keys s body now = reaction_of (line_decided c keys s body now)

abbrev pub answer_to : Config → List RootKeys → Desk → List ℕ → ℕ → List ℕ
answer_to c keys s body now = (reaction c keys s body now).answer

abbrev pub state_after : Config → List RootKeys → Desk → List ℕ → ℕ → Desk
state_after c keys s body now = desk_with s (reaction c keys s body now).entry

-- ---- a run: lines with their moments, each at the desk that those before it leave

abbrev pub Heard : Type 0
Heard = List ℕ × ℕ

abbrev pub desk_after_lines : Config → List RootKeys → Desk → List Heard → Desk
desk_after_lines c keys s [] = s
desk_after_lines c keys s (line ∷ lines) = desk_after_lines c keys (state_after c keys s line.0 line.1) lines

-- their answers, in order
abbrev pub answers : Config → List RootKeys → Desk → List Heard → List (List ℕ)
answers c keys s [] = []
answers c keys s (line ∷ lines) = answer_to c keys s line.0 line.1 ∷ answers c keys (state_after c keys s line.0 line.1) lines

abbrev pub one_more : Option Entry → List Entry → List Entry
one_more None es = es
one_more (Some e) es = e ∷ es

-- their entries, in order
abbrev pub entries : Config → List RootKeys → Desk → List Heard → List Entry
entries c keys s [] = []
entries c keys s (line ∷ lines) = one_more (reaction c keys s line.0 line.1).entry (entries c keys (state_after c keys s line.0 line.1) lines)

-- ---- laws

-- a line above the limit of 8,192 bytes is answered as its first 8,193 bytes are, and makes no entry
abbrev pub TooLongAlike : Type 0
TooLongAlike = (c : Config) (keys : List RootKeys) (s : Desk) (line : List ℕ) (now : ℕ) → 8192 < length line
    → (reaction c keys s (take 8193 line) now ≡ reaction c keys s line now) × ((reaction c keys s line now).entry ≡ None)
