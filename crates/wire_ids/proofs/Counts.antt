-- Counts that rise one after another.
use Rattle.std.proofs.Common.{ℕ, ◌+◌, ◌≤◌, arith}
use Rattle.wire_ids.specs.Causes.{Rose, RoseBy}

pub RoseBy-add : (m n a b c : ℕ) → RoseBy m a b → RoseBy n b c → RoseBy (m + n) a c
RoseBy-add m n a b c first second = omega arith

pub RoseBy-less : (m n a b : ℕ) → m ≤ n → RoseBy n a b → RoseBy m a b
RoseBy-less m n a b less rose = omega arith

pub RoseBy-zero : (a b : ℕ) → a ≤ b → RoseBy 0 a b
RoseBy-zero a b h = omega arith

pub RoseBy-one : (a b : ℕ) → Rose a b → RoseBy 1 a b
RoseBy-one a b h = h

pub RoseBy-later : (n a b c : ℕ) → RoseBy n a b → b ≤ c → RoseBy n a c
RoseBy-later n a b c rose later = omega arith
