-- The answer to each line agrees with the entitlement table in the state that its own entry leaves; a kept one did when its entry was made.
use Rattle.std.specs.Prelude.{◌≡◌, ℕ, List, ◌∷◌, ◌++◌, All}
use Rattle.wire_ids.specs.declared.decision.Decision.TheVariants as decision
use Rattle.wire_ids.specs.declared.keys.RootKeys.{RootKeys}
use Rattle.agreements.specs.LookUps.{Belongs}
use Rattle.agreements.specs.Walk.{Config}
use Rattle.backend_json.specs.Answers.{text_of}
use Rattle.backend_json.specs.declared.answer.Answer.{Answer}
use Rattle.entries.specs.declared.entry.Entry.{Entry}
use Rattle.entry_codec.specs.Machine.{after, lapse}
use Rattle.js_core.specs.Agreement.{AnswerAgrees}
use Rattle.roam_core.specs.Decided.{RoamDecision}
use Rattle.roam_core.specs.Desk.{Desk}
use Rattle.roam_core.specs.Legal.{IsLegal, desk_at}
use Rattle.roam_core.specs.Lines.{line_decided}

-- the tables of a valid text
abbrev pub AreValid : Config → Type 0
AreValid c = All (Belongs c.desk.net_id c.networks c.applications) c.devices

-- an entry of the history was made with this answer, which agreed in the state that it left
pub record WasEntitled (c : Config) (keys : List RootKeys) (history : List Entry) (text : List ℕ) : Type 0 where
  pub before : List Entry
  pub entry : Entry
  pub later : List Entry
  pub answer : Answer
  pub is_history : history ≡ before ++ entry ∷ later
  pub is_text : text ≡ text_of answer
  pub agrees : AnswerAgrees c keys (after (desk_at c before).now entry) entry.moment.0 answer

-- what of a decision is decided anew
abbrev pub Agrees : Config → List RootKeys → Desk → ℕ → RoamDecision → Type 0
Agrees c keys s now (decision.Repeat text) = Unit {0}
Agrees c keys s now (decision.Reply answer) = AnswerAgrees c keys (lapse now s.now) now answer
Agrees c keys s now (decision.Accept answer e) = AnswerAgrees c keys (after s.now e) now answer
Agrees c keys s now (decision.AskPeer peer question e) = Unit {0}

-- and what is kept
abbrev pub IsKept : Config → List RootKeys → List Entry → RoamDecision → Type 0
IsKept c keys history (decision.Repeat text) = WasEntitled c keys history text
IsKept c keys history (decision.Reply answer) = Unit {0}
IsKept c keys history (decision.Accept answer e) = Unit {0}
IsKept c keys history (decision.AskPeer peer question e) = Unit {0}

-- whatever the root keys, the desk and the line
abbrev pub LinesAgree : Type 0
LinesAgree = (c : Config) (keys : List RootKeys) (s : Desk) (body : List ℕ) (now : ℕ) → AreValid c → Agrees c keys s now (line_decided c keys s body now)

-- after every legal history
abbrev pub KeptAgree : Type 0
KeptAgree = (c : Config) (keys : List RootKeys) (history : List Entry) (body : List ℕ) (now : ℕ)
    → AreValid c → IsLegal c keys history → IsKept c keys history (line_decided c keys (desk_at c history) body now)

-- it is so over these tables
pub record AgreeOver (c : Config) : Type 0 where
  pub lines : (keys : List RootKeys) (s : Desk) (body : List ℕ) (now : ℕ) → Agrees c keys s now (line_decided c keys s body now)
  pub kept : (keys : List RootKeys) (history : List Entry) (body : List ℕ) (now : ℕ) → IsLegal c keys history → IsKept c keys history (line_decided c keys (desk_at c history) body now)
