-- The text of an answer, which its entry keeps.
use Rattle.std.specs.Prelude.{◌≡◌, ℕ, List, Option, Some, None}
use Rattle.wire_ids.specs.declared.decision.Decision.TheVariants as decision
use Rattle.backend_json.specs.Answers.{text_of}
use Rattle.entries.specs.declared.entry.Event.{Event}
use Rattle.entries.specs.declared.entry.Event.TheVariants as event
use Rattle.roam_core.specs.Decided.{RoamDecision}

-- the text of the answer that an event keeps
abbrev pub kept_text : Event → Option (List ℕ)
kept_text (event.Kept request change) = Some request.answer
kept_text _ = None

-- an entry has the text of the answer that it comes with
abbrev pub HasText : RoamDecision → Type 0
HasText (decision.Repeat text) = Unit {0}
HasText (decision.Reply answer) = Unit {0}
HasText (decision.Accept answer e) = kept_text e.event ≡ Some (text_of answer)
HasText (decision.AskPeer peer question e) = Unit {0}
