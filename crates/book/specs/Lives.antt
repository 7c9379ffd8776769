-- Lives of one desk: each opens its book on what a crash left of the one before.
use Rattle.std.specs.Prelude.{◌≡◌, ℕ, List, [], ◌∷◌, ◌++◌, length, Some}
use Rattle.std.specs.List.{AllByRecursion}
use Rattle.wire_ids.specs.declared.keys.RootKeys.{RootKeys}
use Rattle.agreements.specs.LookUps.{AreFound as HasPlaces}
use Rattle.agreements.specs.Walk.{Config}
use Rattle.entries.specs.declared.entry.Entry.{Entry}
use Rattle.roam_core.specs.Issues.{IssuedOnce}
use Rattle.roam_core.specs.Legal.{IsLegal}
use Rattle.book.specs.Histories.{IsLegalSince, entries_of}
use Rattle.book.specs.Receipts.{IsGood, Receipt}

pub record Life : Type 0 where
  pub before : List (List ℕ)  -- the records that its book was opened on
  pub after : List (List ℕ)  -- those that an image holds when it is stopped
  pub receipts : List Receipt  -- of what it answered

-- what a book's clauses say of a life
pub record IsLife (c : Config) (keys : List RootKeys) (l : Life) : Type 0 where
  pub more : List (List ℕ)
  pub grows : l.after ≡ l.before ++ more
  pub legal : IsLegalSince c keys (length l.before) l.after
  pub good : AllByRecursion (IsGood c keys l.after) l.receipts

-- one after another, from these records on
abbrev pub AreLives : Config → List RootKeys → List (List ℕ) → List Life → Type 0
AreLives c keys start [] = Unit {0}
AreLives c keys start (l ∷ ls) = (l.before ≡ start) × IsLife c keys l × AreLives c keys l.after ls

-- what the last one leaves
abbrev pub left_by : List (List ℕ) → List Life → List (List ℕ)
left_by start [] = start
left_by start (l ∷ ls) = left_by l.after ls

pub record IsLegalHistory (c : Config) (keys : List RootKeys) (records : List (List ℕ)) : Type 0 where
  pub entries : List Entry
  pub spelled : entries_of records ≡ Some entries
  pub legal : IsLegal c keys entries

-- from a legal history on: what is left is legal, each receipt of each life is good for it, and it gives out nothing twice
pub record LivesLast (c : Config) (keys : List RootKeys) (start : List (List ℕ)) (ls : List Life) : Type 0 where
  pub legal : IsLegalHistory c keys (left_by start ls)
  pub good : AllByRecursion (λ (l : Life). AllByRecursion (IsGood c keys (left_by start ls)) l.receipts) ls
  pub once : HasPlaces c.devices → IssuedOnce c legal.entries

abbrev pub Lives : Type 0
Lives = (c : Config) (keys : List RootKeys) (start : List (List ℕ)) (ls : List Life) → IsLegalHistory c keys start → AreLives c keys start ls → LivesLast c keys start ls
