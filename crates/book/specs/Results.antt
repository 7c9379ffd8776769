-- What the answers of a book say of it.
use Rattle.std.specs.Prelude.{◌≡◌, ℕ, List, [], ◌∷◌, length, slice_get, Option, Some, None, Bool, is_some, if◌then◌else◌}
use Rattle.wire_ids.specs.Causes.{Rose}
use Rattle.wire_ids.specs.Lists.{holds_of}
use Rattle.entries.specs.Entries.{decode_of, encode_of}
use Rattle.entries.specs.declared.entry.Entry.{Entry}
use Rattle.entries.specs.declared.entry.Event.TheVariants as event
use Rattle.entry_codec.specs.declared.device.Device.{Device}
use Rattle.keepers.specs.Keeper.{Image, OneMoreOrNot}
use Rattle.roam_core.specs.Desk.{moment_of}
use Rattle.roam_core.specs.Lines.{Reaction, one_more, reaction}
use Rattle.book.specs.Pages.{Adds, Doubts, Same}
use Rattle.book.specs.Sight.{Sight}
use Rattle.book.specs.declared.answered.Answered.{Answered}
use Rattle.book.specs.declared.answered.Answered.TheVariants as answered
use Rattle.book.specs.declared.answered.Marked.{Marked}
use Rattle.book.specs.declared.answered.Marked.TheVariants as marked
use Rattle.book.specs.declared.pages.Written.{Written}
use Rattle.book.specs.declared.pages.Written.TheVariants as written

-- the moment that an event uses
abbrev pub moment_in : {K : Type 0} → Sight K → ℕ → ℕ
moment_in b now = moment_of now b.page.desk.now

-- what a body comes to at a moment
abbrev pub reaction_in : {K : Type 0} → Sight K → List ℕ → ℕ → Reaction
reaction_in b body at = reaction b.page.config b.fixed.keys b.page.desk body at

-- ---- `full` says whether the keeper had no room for so many records of together so many bytes

-- the entry is new
pub record Enters {K : Type 0} (full : ℕ → ℕ → Type 0) (e : Entry) (old new : Sight K) : Type 0 where
  pub adds : Adds (e ∷ []) None old.page new.page
  pub fixed : new.fixed ≡ old.fixed
  pub room : full 1 (length (encode_of e)) → ⊥
  pub again : decode_of (encode_of e) ≡ Some e

-- the keeper failed, and may have the entry or not
pub record Breaks {K : Type 0} (full : ℕ → ℕ → Type 0) (e : Entry) (old new : Sight K) : Type 0 where
  pub doubts : Doubts (Some e) old.page new.page
  pub rose : Rose old.page.faults new.page.faults
  pub fixed : new.fixed ≡ old.fixed
  pub room : full 1 (length (encode_of e)) → ⊥

-- nothing has changed
pub record Stays {K : Type 0} (old new : Sight K) : Type 0 where
  pub same : Same old.page new.page
  pub fixed : new.fixed ≡ old.fixed

-- one entry
abbrev pub WritesOne : {K : Type 0} → (ℕ → ℕ → Type 0) → Written → Entry → Sight K → Sight K → Type 0
WritesOne full written.Done e old new = Enters full e old new
WritesOne full written.NotKept e old new = Breaks full e old new
WritesOne full written.NoRoom e old new = Stays old new × full 1 (length (encode_of e))
WritesOne full written.NoMemory e old new = Stays old new

-- ---- answers to bodies

-- the answer is the machine's at this point, from this moment, and the entry that it makes is new
pub record Answers {K : Type 0} (full : ℕ → ℕ → Type 0) (bytes : List ℕ) (point moment : ℕ) (entered : Bool) (body : List ℕ) (at : ℕ) (old new : Sight K) : Type 0 where
  pub moment_is : moment ≡ at
  pub point_is : point ≡ old.page.desk.now.entries
  pub bytes_are : bytes ≡ (reaction_in old body at).answer
  pub marked : entered ≡ is_some (reaction_in old body at).entry
  pub adds : Adds (one_more (reaction_in old body at).entry []) None old.page new.page
  pub fixed : new.fixed ≡ old.fixed
  pub room : (e : Entry) → (reaction_in old body at).entry ≡ Some e → (full 1 (length (encode_of e)) → ⊥) × (decode_of (encode_of e) ≡ Some e)

-- the entry that a body makes
abbrev pub Makes : {K : Type 0} → List ℕ → ℕ → Sight K → Entry → Type 0
Makes body at b e = (reaction_in b body at).entry ≡ Some e

-- a body at this moment
abbrev pub DecidesSo : {K : Type 0} → (ℕ → ℕ → Type 0) → Answered → List ℕ → ℕ → Sight K → Sight K → Type 0
DecidesSo full (answered.Answer bytes point moment entered) body at old new = Answers full bytes point moment.0 entered body at old new
DecidesSo full answered.Fault body at old new = (e : Entry) × Makes body at old e × Breaks full e old new
DecidesSo full answered.Full body at old new = (e : Entry) × Makes body at old e × Stays old new × full 1 (length (encode_of e))
DecidesSo full answered.Memory body at old new = Stays old new

-- the same, where the clock reads `now`
abbrev pub AnswersSo : {K : Type 0} → (ℕ → ℕ → Type 0) → Answered → List ℕ → ℕ → Sight K → Sight K → Type 0
AnswersSo full result body now old new = DecidesSo full result body (moment_in old now) old new

-- `fills` says that behind the records there is no room for so many more: there is none for the entry that the body makes
abbrev pub LacksRoom : {K : Type 0} → (ℕ → ℕ → Type 0) → List ℕ → ℕ → Sight K → Type 0
LacksRoom fills body at old = (e : Entry) × Makes body at old e × fills 1 (length (encode_of e))

abbrev pub IsFullAnswer : Answered → Type 0
IsFullAnswer (answered.Answer bytes point moment entered) = ⊥
IsFullAnswer answered.Fault = ⊥
IsFullAnswer answered.Full = Unit {0}
IsFullAnswer answered.Memory = ⊥

-- an image holds these records, with what was made or without it
abbrev pub MadeOrNot : List (List ℕ) → Option Entry → Image → Type 0
MadeOrNot records None image = image ≡ Some records
MadeOrNot records (Some e) image = OneMoreOrNot records (encode_of e) image

-- ---- marks

abbrev pub mark_of : Bool → ℕ → ℕ → Entry
mark_of suspended device at = record { moment = record { 0 = at }; event = if suspended then event.Suspend device else event.Resume device }

abbrev pub suspended_in : Option Device → Bool
suspended_in row = holds_of (λ (d : Device). d.suspended) row

-- the device is suspended, or isn't
abbrev pub IsMarked : {K : Type 0} → Bool → ℕ → Sight K → Type 0
IsMarked suspended device b = suspended_in (slice_get b.page.desk.now.devices device) ≡ suspended

abbrev pub MarksSo : {K : Type 0} → (ℕ → ℕ → Type 0) → Marked → Bool → ℕ → ℕ → Sight K → Sight K → Type 0
MarksSo full marked.Done suspended device now old new = (IsMarked suspended device old → ⊥) × Enters full (mark_of suspended device (moment_in old now)) old new
MarksSo full marked.Already suspended device now old new = IsMarked suspended device old × Stays old new
MarksSo full marked.Fault suspended device now old new = (IsMarked suspended device old → ⊥) × Breaks full (mark_of suspended device (moment_in old now)) old new
MarksSo full marked.Full suspended device now old new = (IsMarked suspended device old → ⊥) × Stays old new × full 1 (length (encode_of (mark_of suspended device (moment_in old now))))
MarksSo full marked.Memory suspended device now old new = Stays old new
