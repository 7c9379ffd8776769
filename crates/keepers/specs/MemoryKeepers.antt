-- A keeper in memory, as its callers see it.
use Rattle.std.specs.Prelude.{ℕ, List}
use Rattle.keepers.specs.Memory.{cut}
use Rattle.keepers.specs.declared.memory_keeper.MemoryKeeper.{MemoryKeeper}

-- what it keeps
abbrev pub memory_records : MemoryKeeper → List (List ℕ)
memory_records k = cut k.lengths.items k.text.items
