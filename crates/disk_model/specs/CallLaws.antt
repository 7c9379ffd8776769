-- A disk in memory has the laws of a disk.
use Rattle.std.proofs.Common.{◌≡◌, inl, refl, ℕ, ◌≤◌, List, [], ◌∷◌, length, take, Some, subst, arith, sym, ◌∙◌}
use Rattle.std.proofs.lemmas.List.{take_all}
use Rattle.std.proofs.lemmas.Option.{same_Some}
use Rattle.disk_model.specs.MemoryDisks.{disk_calls, disk_content, disk_first}
use Rattle.disk_model.specs.declared.memory_disk.MemoryDisk.{MemoryDisk}
use Rattle.disk_model.specs.Calls.{content_after, images_after, content_at, images_at, ImageNow, ImageSince}
use Rattle.disk_model.specs.declared.memory_disk.Call.{Call}
use Rattle.disk_model.specs.declared.memory_disk.Call.TheVariants.{Looked, Wrote, Synced}

one_call : (call : Call) (content : List ℕ) (images : List ℕ → Type 0) → images content → images_after call content images (content_after call content)
one_call Looked content images here = here
one_call (Wrote at count room used) content images here = inl refl
one_call Synced content images here = refl

content_is_image : (calls : List Call) (content : List ℕ) (images : List ℕ → Type 0) → images content → images_at calls content images (content_at calls content)
content_is_image [] content images here = here
content_is_image (call ∷ calls) content images here = content_is_image calls (content_after call content) (images_after call content images) (one_call call content images here)

pub now_is_since : (first : List ℕ) (calls : List Call) (t : ℕ) (c : List ℕ) → t ≤ length calls → ImageNow first calls c → ImageSince first calls t c
now_is_since first calls t c le now =
    let all : take (length calls) calls ≡ calls = take_all (length calls) calls (omega arith) in
    (length calls, le, omega arith, subst (λ (l : List Call). ImageNow first l c) (sym all) now)

pub since_is_now : (first : List ℕ) (calls : List Call) (c : List ℕ) → ImageSince first calls (length calls) c → ImageNow first calls c
since_is_now first calls c since =
    let all : take since.0 calls ≡ calls = take_all since.0 calls since.1 in
    subst (λ (l : List Call). ImageNow first l c) all since.3

pub disk_seen_is_image : (d : MemoryDisk) (c : List ℕ) → Some (disk_content d) ≡ Some c → ImageNow (disk_first d) (disk_calls d) c
disk_seen_is_image d c told =
    let here : ImageNow (disk_first d) (disk_calls d) (content_at (disk_calls d) (disk_first d)) = content_is_image (disk_calls d) (disk_first d) (λ x. x ≡ disk_first d) refl in
    subst (ImageNow (disk_first d) (disk_calls d)) (d.recorded ∙ same_Some _ _ told) here
