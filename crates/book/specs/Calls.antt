-- A run of a book's calls, one after another, and what an image may hold of it then.
use Rattle.std.specs.Prelude.{◌≡◌, ◌⊎◌, ℕ, List, [], ◌∷◌, ◌++◌, length, Some, Bool}
use Rattle.entries.specs.Entries.{encode_of}
use Rattle.entries.specs.declared.entry.Entry.{Entry}
use Rattle.keepers.specs.Keeper.{Image}
use Rattle.book.specs.Lives.{IsLife}
use Rattle.book.specs.Pages.{IsPage, Mends}
use Rattle.book.specs.Receipts.{GivesGood, Receipt}
use Rattle.book.specs.Results.{AnswersSo, MarksSo}
use Rattle.book.specs.Sight.{IsBook, Sight}
use Rattle.book.specs.declared.answered.Answered.{Answered}
use Rattle.book.specs.declared.answered.Answered.TheVariants as answered
use Rattle.book.specs.declared.answered.Marked.{Marked}
use Rattle.book.specs.declared.faults.Mended.{Mended}

-- what a call leaves
pub record Call (K : Type 0) : Type 0 where
  pub new : Sight K
  pub receipts : List Receipt  -- of what it answered

-- what an answer gives out
abbrev pub receipts_of : Answered → List ℕ → List Receipt
receipts_of (answered.Answer bytes point moment entered) body = record { point = point; moment = moment.0; body = body; text = bytes; entered = entered } ∷ []
receipts_of answered.Fault body = []
receipts_of answered.Full body = []
receipts_of answered.Memory body = []

-- ---- what the clauses of each call say of it; `full` says of a keeper that it has no room for so many records of together so many bytes

pub record IsAnswer {K : Type 0} (full : K → ℕ → ℕ → Type 0) (old : Sight K) (call : Call K) : Type 0 where
  pub result : Answered
  pub body : List ℕ
  pub now : ℕ
  pub answers : AnswersSo (full old.page.keeper) result body now old call.new
  pub good : GivesGood result body call.new
  pub given : call.receipts ≡ receipts_of result body

pub record IsMark {K : Type 0} (full : K → ℕ → ℕ → Type 0) (old : Sight K) (call : Call K) : Type 0 where
  pub result : Marked
  pub suspended : Bool
  pub device : ℕ
  pub now : ℕ
  pub marks : MarksSo (full old.page.keeper) result suspended device now old call.new
  pub given : call.receipts ≡ []

pub record IsMending {K : Type 0} (old : Sight K) (call : Call K) : Type 0 where
  pub result : Mended
  pub mends : Mends result old.page call.new.page
  pub fixed : call.new.fixed ≡ old.fixed
  pub given : call.receipts ≡ []

-- what it leaves is a book
pub record IsCall {K : Type 0} (full : K → ℕ → ℕ → Type 0) (old : Sight K) (call : Call K) : Type 0 where
  pub book : IsBook call.new
  pub does : IsAnswer full old call ⊎ IsMark full old call ⊎ IsMending old call

-- ---- one after another

abbrev pub AreCalls : {K : Type 0} → (K → ℕ → ℕ → Type 0) → Sight K → List (Call K) → Type 0
AreCalls full b [] = Unit {0}
AreCalls full b (call ∷ calls) = IsCall full b call × AreCalls full call.new calls

-- what the last one leaves
abbrev pub after_calls : {K : Type 0} → Sight K → List (Call K) → Sight K
after_calls b [] = b
after_calls b (call ∷ calls) = after_calls call.new calls

abbrev pub given_out : {K : Type 0} → List (Call K) → List Receipt
given_out [] = []
given_out (call ∷ calls) = call.receipts ++ given_out calls

-- it holds these records of a book: all that it has, with the entry in doubt or without it
abbrev pub MayHold : {K : Type 0} → Sight K → List (List ℕ) → Type 0
MayHold b after = (b.page.records ≡ Some after) ⊎ ((e : Entry) × (b.page.tried ≡ Some e) × (rs : List (List ℕ)) × (b.page.records ≡ Some rs) × (after ≡ rs ++ encode_of e ∷ []))

-- a book that was opened on these records, and any calls of it: whatever an image holds then is what a life leaves
abbrev pub CallsLive : {K : Type 0} → (K → Image) → (K → ℕ) → (K → Type 0) → (K → List ℕ → Type 0) → (K → ℕ → ℕ → Type 0) → Type 0
CallsLive {K} records_in counted rests doubts full = (before more after : List (List ℕ)) (b : Sight K) (calls : List (Call K)) → b.page.records ≡ Some (before ++ more) → b.fixed.opened ≡ length before → IsBook b
    → AreCalls full b calls → IsPage records_in counted rests doubts (after_calls b calls).page → MayHold (after_calls b calls) after
    → IsLife b.page.config b.fixed.keys (record { before = before; after = after; receipts = given_out calls })
