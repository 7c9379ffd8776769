-- What a disk in memory holds, and what a crash may leave of it, from the record of its calls.
use Rattle.std.specs.Prelude.{◌≡◌, ◌⊎◌, ℕ, ◌≤◌, List, [], ◌∷◌, ◌++◌, length, take, Vec, vec_capacity}
use Rattle.std.specs.declared.alloc.Global.{Global}
use Rattle.disk_model.specs.Disk.{Torn}
use Rattle.disk_model.specs.declared.memory_disk.Call.{Call}
use Rattle.disk_model.specs.declared.memory_disk.Call.TheVariants.{Looked, Wrote, Synced}

-- what a read gives after a call
abbrev pub content_after : Call → List ℕ → List ℕ
content_after Looked content = content
content_after (Wrote at count room used) content = take used room.value.items
content_after Synced content = content

-- what a crash may leave after a call: of a write the whole of it, or a torn one
abbrev pub images_after : Call → List ℕ → (List ℕ → Type 0) → List ℕ → Type 0
images_after Looked content images c = images c
images_after (Wrote at count room used) content images c = (c ≡ take used room.value.items) ⊎ ((d : List ℕ) × images d × Torn at count d c)
images_after Synced content images c = c ≡ content

-- the same, after each of these calls in turn
abbrev pub content_at : List Call → List ℕ → List ℕ
content_at [] content = content
content_at (call ∷ calls) content = content_at calls (content_after call content)

abbrev pub images_at : List Call → List ℕ → (List ℕ → Type 0) → List ℕ → Type 0
images_at [] content images = images
images_at (call ∷ calls) content images = images_at calls (content_after call content) (images_after call content images)

-- of a disk that held these bytes and no other image at first
abbrev pub ImageNow : List ℕ → List Call → List ℕ → Type 0
ImageNow first calls = images_at calls first (λ d. d ≡ first)

-- the images after the first k calls, for some k from t on
abbrev pub ImageSince : List ℕ → List Call → ℕ → List ℕ → Type 0
ImageSince first calls t c = (k : ℕ) × (t ≤ k) × (k ≤ length calls) × ImageNow first (take k calls) c

-- a record has this call more, where it had room for it
abbrev pub IsRecorded : Vec Call Global → Call → List Call → Type 0
IsRecorded calls call new = ((length calls.items ≡ vec_capacity calls) × (new ≡ calls.items)) ⊎ (new ≡ calls.items ++ call ∷ [])
