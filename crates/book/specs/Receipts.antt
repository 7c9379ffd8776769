-- Receipts: what an answer promises of the history.
use Rattle.std.specs.Prelude.{◌≡◌, ℕ, ◌≤◌, ◌^◌, List, ◌++◌, length, take, slice_get, Some, Bool, is_some}
use Rattle.wire_ids.specs.declared.keys.RootKeys.{RootKeys}
use Rattle.agreements.specs.Walk.{Config}
use Rattle.disk_model.specs.Disk.{WhereTold}
use Rattle.entries.specs.declared.entry.Entry.{Entry}
use Rattle.roam_core.specs.Legal.{desk_at}
use Rattle.roam_core.specs.Lines.{Reaction, reaction}
use Rattle.book.specs.Histories.{entries_of}
use Rattle.book.specs.Sight.{Sight}
use Rattle.book.specs.declared.answered.Answered.{Answered}
use Rattle.book.specs.declared.answered.Answered.TheVariants as answered

pub record Receipt : Type 0 where
  pub point : ℕ  -- how many entries there were before
  pub moment : ℕ
  pub body : List ℕ
  pub text : List ℕ  -- the answer's bytes
  pub entered : Bool  -- whether it has an entry

-- what its body came to behind the entries before its point
abbrev pub reaction_at : Config → List RootKeys → List Entry → Receipt → Reaction
reaction_at c keys history r = reaction c keys (desk_at c (take r.point history)) r.body r.moment

-- its answer and its mark are the machine's at its point, from its moment, and its entry stands there
pub record IsGoodFor (c : Config) (keys : List RootKeys) (history : List Entry) (r : Receipt) : Type 0 where
  pub within : r.point ≤ length history
  pub from : (desk_at c (take r.point history)).now.moment ≤ r.moment
  pub to : r.moment ≤ 2 ^ 53
  pub answered : r.text ≡ (reaction_at c keys history r).answer
  pub marked : r.entered ≡ is_some (reaction_at c keys history r).entry
  pub kept : (e : Entry) → (reaction_at c keys history r).entry ≡ Some e → slice_get history r.point ≡ Some e

-- a longer history keeps it good
abbrev pub GoodLater : Type 0
GoodLater = (c : Config) (keys : List RootKeys) (history more : List Entry) (r : Receipt) → IsGoodFor c keys history r → IsGoodFor c keys (history ++ more) r

-- of records
pub record IsGood (c : Config) (keys : List RootKeys) (records : List (List ℕ)) (r : Receipt) : Type 0 where
  pub entries : List Entry
  pub spelled : entries_of records ≡ Some entries
  pub good : IsGoodFor c keys entries r

-- an answer makes a receipt that is good for what the book has then
abbrev pub GivesGood : {K : Type 0} → Answered → List ℕ → Sight K → Type 0
GivesGood (answered.Answer bytes point moment entered) body new =
    WhereTold new.page.records (λ rs. IsGood new.page.config new.fixed.keys rs (record { point = point; moment = moment.0; body = body; text = bytes; entered = entered }))
GivesGood answered.Fault body new = Unit {0}
GivesGood answered.Full body new = Unit {0}
GivesGood answered.Memory body new = Unit {0}
