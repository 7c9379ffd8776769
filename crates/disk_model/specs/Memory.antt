-- What the sources and sinks in memory tell.
use Rattle.std.specs.Prelude.{ℕ, ◌-◌, List, length, take, drop}
use Rattle.disk_model.specs.declared.memory.MemorySource.{MemorySource}
use Rattle.disk_model.specs.declared.memory.MemorySink.{MemorySink}

-- the bytes from its place on
abbrev pub source_left : MemorySource → List ℕ
source_left s = drop s.at s.bytes.items

abbrev pub source_faults : MemorySource → ℕ
source_faults s = s.plan.faults

-- the used part of its room
abbrev pub sink_written : MemorySink → List ℕ
sink_written s = take s.used s.room.items

-- how many bytes it still takes
abbrev pub sink_room : MemorySink → ℕ
sink_room s = length s.room.items - s.used

abbrev pub sink_faults : MemorySink → ℕ
sink_faults s = s.faults
