-- What a disk in memory tells.
use Rattle.std.specs.Prelude.{◌==◌, ◌||◌, Bool, ℕ, List, take, length, vec_capacity}
use Rattle.std.specs.List.{list_any}
use Rattle.disk_model.specs.Calls.{ImageNow, ImageSince}
use Rattle.disk_model.specs.declared.memory_disk.MemoryDisk.{MemoryDisk}
use Rattle.disk_model.specs.declared.memory_disk.Call.{Call}

-- what a read gives: the used part of its room
abbrev pub disk_content : MemoryDisk → List ℕ
disk_content d = take d.used d.room.items

-- what it held at first
abbrev pub disk_first : MemoryDisk → List ℕ
disk_first d = take d.first_used d.first.value.items

-- the calls that it has had
abbrev pub disk_calls : MemoryDisk → List Call
disk_calls d = d.calls.items

-- how many bytes it has room for
abbrev pub disk_size : MemoryDisk → ℕ
disk_size d = length d.room.items

abbrev pub disk_faults : MemoryDisk → ℕ
disk_faults d = d.faults

-- what a crash may leave now, and what one might have left since a moment
abbrev pub disk_images : MemoryDisk → List ℕ → Type 0
disk_images d = ImageNow (disk_first d) (disk_calls d)

abbrev pub disk_images_since : MemoryDisk → ℕ → List ℕ → Type 0
disk_images_since d = ImageSince (disk_first d) (disk_calls d)

-- how many calls it has had
abbrev pub disk_moment : MemoryDisk → ℕ
disk_moment d = length (disk_calls d)

-- the record has no room for the call to come, or the number of the call is one of those that are to fail
abbrev pub call_fails : MemoryDisk → Bool
call_fails d = (length d.calls.items == vec_capacity d.calls) || list_any (λ k. k == length d.calls.items) d.failing.items
