-- The entry that a request makes fits; what makes none leaves all as it was.
use Rattle.std.specs.Prelude.{◌≡◌, ℕ, nat_lt, List, Some, Bool, true, false, IsTrue}
use Rattle.wire_ids.specs.declared.decision.Decision.TheVariants as decision
use Rattle.wire_ids.specs.declared.keys.RootKeys.{RootKeys}
use Rattle.wire_ids.specs.declared.party.Sender.{Sender}
use Rattle.agreements.specs.LookUps.{AreFound as HasPlaces}
use Rattle.agreements.specs.Walk.{Config}
use Rattle.backend_json.specs.declared.answer.Answer.{Answer}
use Rattle.backend_json.specs.declared.answer.Answer.TheVariants.{Headed, Headless}
use Rattle.backend_json.specs.declared.answer.Outcome.TheVariants.{AppSKeyAns, HomeNSAns, JoinAns, Refused, RejoinAns, UplinkAns, XmitDataAns}
use Rattle.entries.specs.declared.entry.Entry.{Entry}
use Rattle.entry_codec.specs.Empty.{empty}
use Rattle.entry_codec.specs.Fits.{fits, is_time}
use Rattle.entry_codec.specs.LookUps.{is_sender}
use Rattle.entry_codec.specs.Machine.{Machine, after}
use Rattle.entry_codec.specs.Sound.{IsSound}
use Rattle.js_core.specs.Parties.{is_known}
use Rattle.roam_core.specs.Decided.{RoamDecision}
use Rattle.roam_core.specs.Desk.{Desk, IsStateOf}
use Rattle.roam_core.specs.Lines.{line_decided, reaction, state_after}

-- ---- an entry fits

-- each sender that has a row is one of the state's
abbrev pub KnowsSenders : Config → Machine → Type 0
KnowsSenders c m = (sender : Sender) → is_known c sender ≡ true → IsTrue (is_sender sender m)

-- a state of these tables that has an entry, and a moment from its last one to 2^53
pub record CanEnter (c : Config) (m : Machine) (now : ℕ) : Type 0 where
  pub state : IsStateOf c m
  pub senders : KnowsSenders c m
  pub begun : IsTrue (nat_lt 0 m.entries)
  pub time : IsTrue (is_time now m)

-- over tables in which no DevEUI has two rows, in each state such as entries lead to
abbrev pub EntriesFit : Type 0
EntriesFit = (c : Config) (keys : List RootKeys) (s : Desk) (body : List ℕ) (now : ℕ) (e : Entry)
    → HasPlaces c.devices → IsSound s.now → CanEnter c s.now now → (reaction c keys s body now).entry ≡ Some e → IsTrue (fits s.now e)

-- the first state is one of its tables, and every entry leaves it so
pub record StatesStay : Type 0 where
  pub first : (c : Config) → IsStateOf c (empty c)
  pub later : (c : Config) (m : Machine) (e : Entry) → IsStateOf c m → IsStateOf c (after m e)

-- ---- what makes an entry

-- an answer that gives a device a session, counts its uplink, or takes a payload for it
abbrev pub tells_change : Answer → Bool
tells_change Headless = false
tells_change (Headed head (Refused cause)) = false
tells_change (Headed head (JoinAns members)) = true
tells_change (Headed head (RejoinAns members)) = true
tells_change (Headed head (AppSKeyAns members)) = false
tells_change (Headed head (HomeNSAns members)) = false
tells_change (Headed head (UplinkAns members)) = true
tells_change (Headed head (XmitDataAns members)) = true

abbrev pub enters : RoamDecision → Bool
enters (decision.Repeat text) = false
enters (decision.Reply answer) = false
enters (decision.Accept answer e) = tells_change answer
enters (decision.AskPeer peer question e) = true

-- a refusal, a kept answer, an AppSKeyAns, a HomeNSAns and the answer to a duplicate make no entry and change nothing
abbrev pub RepliesKeep : Type 0
RepliesKeep = (c : Config) (keys : List RootKeys) (s : Desk) (body : List ℕ) (now : ℕ) → enters (line_decided c keys s body now) ≡ false → state_after c keys s body now ≡ s
