-- A run: its words and its objects, before it and after it.
use Rattle.std.specs.Prelude.{ℕ, List, Option, Result, String}
use Rattle.std.specs.declared.alloc.Global.{Global}
use Rattle.keepers.specs.Keeper.{Image}
use Rattle.desk_top.specs.Journals.{Outside, records_in}
use Rattle.desk_top.specs.declared.fault.Fault.{Fault}

-- done, or why not
abbrev pub End : Type 0
End = Result (Unit {0}) Fault

-- An object of the outside, and what it tells.
pub record Seen (A : Type 0) : Type 0 where
  pub object : A
  -- the bytes that it has left, that were written to it, or that it holds
  pub bytes : Option (List ℕ)
  -- how often it has failed
  pub faults : ℕ

abbrev pub seen : {A : Type 0} → (A → Option (List ℕ)) → (A → ℕ) → A → Seen A
seen bytes faults x = record { object = x; bytes = bytes x; faults = faults x }

-- A clock, and the readings that it tells next.
pub record SeenClock (K : Type 0) : Type 0 where
  pub object : K
  pub readings : Option (ℕ → ℕ)

abbrev pub seen_clock : {K : Type 0} → (K → Option (ℕ → ℕ)) → K → SeenClock K
seen_clock readings x = record { object = x; readings = readings x }

-- A keeper of a journal's records, and what it tells.
pub record SeenKeeper (P : Type 0) : Type 0 where
  pub object : P
  pub records : Image
  -- how often it has failed, and how often for a cause of its own
  pub faults : ℕ
  pub changes : ℕ
  -- how many records it has, told or not
  pub count : ℕ

abbrev pub seen_keeper : {P : Type 0} → (P → Image) → (P → ℕ) → (P → ℕ) → (P → ℕ) → P → SeenKeeper P
seen_keeper records faults changes count x = record { object = x; records = records x; faults = faults x; changes = changes x; count = count x }

-- What is seen of a desk at work, on a disk or on a keeper.
pub record Work (T O B K : Type 0) : Type 0 where
  pub input : Seen T
  pub input_after : Seen T
  pub out : Seen O
  pub out_after : Seen O
  pub base : B
  pub base_after : B
  pub clock : SeenClock K
  pub clock_after : SeenClock K
  -- how many steps were taken
  pub steps : ℕ
  pub steps_after : ℕ

pub record Run (S T O D K : Type 0) : Type 0 where
  pub words : List (String Global)
  pub tables : Seen S
  pub tables_after : Seen S
  pub work : Work T O (Seen D) K

-- what is told of the outside
abbrev pub outside_at : {O K : Type 0} → SeenClock K → Seen O → Image → Outside
outside_at clock out records = record { clock = clock.readings; written = out.bytes; records = records }

-- and this before work on a disk and after it
abbrev pub disk_before : {T O D K : Type 0} → Work T O (Seen D) K → Outside
disk_before w = outside_at w.clock w.out (records_in w.base.bytes)

abbrev pub disk_after : {T O D K : Type 0} → Work T O (Seen D) K → Outside
disk_after w = outside_at w.clock_after w.out_after (records_in w.base_after.bytes)

-- before work on a keeper, and after it
abbrev pub keeper_before : {T O P K : Type 0} → Work T O (SeenKeeper P) K → Outside
keeper_before w = outside_at w.clock w.out w.base.records

abbrev pub keeper_after : {T O P K : Type 0} → Work T O (SeenKeeper P) K → Outside
keeper_after w = outside_at w.clock_after w.out_after w.base_after.records
