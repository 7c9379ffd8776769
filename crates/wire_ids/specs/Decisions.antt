-- What a request is answered, and which entry it makes.
use Rattle.std.specs.Prelude.{ℕ, List, Option, Some, None, Bool, true, false}
use Rattle.wire_ids.specs.declared.decision.Decision.{Decision}
use Rattle.wire_ids.specs.declared.decision.Decision.TheVariants.{Repeat, Reply, Accept, AskPeer}

-- the entry that a decision makes: that of a success, or of an ask
abbrev pub entry_of : {A Q E : Type 0} → Decision A Q E → Option E
entry_of (Repeat text) = None
entry_of (Reply answer) = None
entry_of (Accept answer entry) = Some entry
entry_of (AskPeer peer question entry) = Some entry

-- the answer that a decision makes, where none was kept and no peer is asked
abbrev pub answer_of : {A Q E : Type 0} → Decision A Q E → Option A
answer_of (Repeat text) = None
answer_of (Reply answer) = Some answer
answer_of (Accept answer entry) = Some answer
answer_of (AskPeer peer question entry) = None

-- the order of a decision: the answer that was kept for the request, that an open ask has its body, the first cause against it,
-- success; a cause is answered by `refused`, and `waits` is the cause of an open ask
abbrev pub reply_by : {A Q E C : Type 0} → (C → A) → C → Option (List ℕ) → Bool → Option C → Decision A Q E → Decision A Q E
reply_by refused waits (Some kept) asked cause success = Repeat kept
reply_by refused waits None true cause success = Reply (refused waits)
reply_by refused waits None false (Some c) success = Reply (refused c)
reply_by refused waits None false None success = success
