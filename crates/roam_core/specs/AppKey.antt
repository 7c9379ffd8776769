-- Two desks whose tables differ in one AppKey give alike answers, kept ones too.
use Rattle.std.specs.Prelude.{◌≡◌, ℕ, List, map}
use Rattle.std.specs.List.{AllZip}
use Rattle.agreements.specs.LookUps.{keys_of}
use Rattle.agreements.specs.Walk.{Config}
use Rattle.backend_json.specs.Answers.{text_of}
use Rattle.backend_json.specs.declared.answer.Answer.{Answer}
use Rattle.entry_codec.specs.declared.kept.KeptAnswers.{KeptAnswers}
use Rattle.entry_codec.specs.declared.kept.KeptPair.{KeptPair}
use Rattle.js_core.specs.AppKey.{AnswersAlike, with_app_key}
use Rattle.roam_core.specs.Desk.{Desk, empty_desk}
use Rattle.roam_core.specs.Lines.{Heard, answers, desk_after_lines}

-- the texts of two answers that differ at most in the AESKey of an AppSKey to which their receiver is entitled
pub record TextsAlike (c : Config) (d : ℕ) (text text' : List ℕ) : Type 0 where
  pub left : Answer
  pub right : Answer
  pub is_left : text ≡ text_of left
  pub is_right : text' ≡ text_of right
  pub alike : AnswersAlike c d left right

pub record PairsAlike (c : Config) (d : ℕ) (pair pair' : KeptPair) : Type 0 where
  pub body : pair.body ≡ pair'.body
  pub answer : TextsAlike c d pair.answer pair'.answer

pub record KeptAlike (c : Config) (d : ℕ) (kept kept' : KeptAnswers) : Type 0 where
  pub sender : kept.sender ≡ kept'.sender
  pub pairs : AllZip (PairsAlike c d) kept.pairs kept'.pairs

-- two desks with the same state, whose kept answers are alike
pub record DesksAlike (c : Config) (d : ℕ) (s s' : Desk) : Type 0 where
  pub now : s.now ≡ s'.now
  pub kept : AllZip (KeptAlike c d) s.kept s'.kept

-- the same lines at the same moments, with tables that differ in the AppKey of row d
pub record RunsAlike (d : ℕ) (c c' : Config) (s s' : Desk) (lines : List Heard) : Type 0 where
  pub desks : DesksAlike c d (desk_after_lines c (map keys_of c.devices) s lines) (desk_after_lines c' (map keys_of c'.devices) s' lines)
  pub replies : AllZip (TextsAlike c d) (answers c (map keys_of c.devices) s lines) (answers c' (map keys_of c'.devices) s' lines)

pub record AppKeyStays : Type 0 where
  pub first : (c : Config) (d : ℕ) (key : List ℕ) → DesksAlike c d (empty_desk c) (empty_desk (with_app_key d key c))
  pub later : (c : Config) (d : ℕ) (key : List ℕ) (s s' : Desk) (lines : List Heard) → DesksAlike c d s s' → RunsAlike d c (with_app_key d key c) s s' lines
