-- The record of a disk in memory with one call more.
use Rattle.std.proofs.Common.{◌≡◌, ◌⊎◌, inl, inr, ℕ, ◌+◌, ◌≤◌, ◌-◌, min, max, List, [], ◌∷◌, ◌++◌, length, take, drop, refl, sym, ◌∙◌, ap, subst, arith, length-append, length-take, length-drop, Vec}
use Rattle.std.proofs.lemmas.List.{append-nil, drop_min, take_all, drop_all, take-append-le, take_at, take-take, drop-take, drop-drop, length_push}
use Rattle.std.proofs.lemmas.Slice.{between_is}
use Rattle.std.proofs.lemmas.Bool.{cases_lt}
use Rattle.std.proofs.Math.Seq.{take-append-add, drop-append-add}
use Rattle.std.specs.declared.alloc.Global.{Global}
use Rattle.std.specs.declared.snapshot.Snapshot.{Snapshot}
use Rattle.disk_model.specs.Disk.{Torn, Elapses, Follows, Includes, NoneNew, Only, Overwrites}
use Rattle.disk_model.specs.Calls.{content_after, images_after, content_at, images_at, ImageNow, ImageSince, IsRecorded}
use Rattle.disk_model.specs.declared.memory_disk.Call.{Call}
use Rattle.disk_model.specs.declared.memory_disk.Call.TheVariants.{Looked, Wrote, Synced}

content_last : (calls : List Call) (call : Call) (content : List ℕ) → content_at (calls ++ call ∷ []) content ≡ content_after call (content_at calls content)
content_last [] call content = refl
content_last (x ∷ calls) call content = content_last calls call (content_after x content)

images_last : (calls : List Call) (call : Call) (content : List ℕ) (images : List ℕ → Type 0) → images_at (calls ++ call ∷ []) content images ≡ images_after call (content_at calls content) (images_at calls content images)
images_last [] call content images = refl
images_last (x ∷ calls) call content images = images_last calls call (content_after x content) (images_after x content images)

-- the images after one call more
last_of : (first : List ℕ) (calls new : List Call) (call : Call) → new ≡ calls ++ call ∷ [] → (c : List ℕ) → ImageNow first new c → images_after call (content_at calls first) (ImageNow first calls) c
last_of first calls new call is c now =
    subst (λ (P : List ℕ → Type 0). P c) (images_last calls call first (λ d. d ≡ first)) (subst (λ (l : List Call). ImageNow first l c) is now)

pub content_of_last : (first : List ℕ) (calls new : List Call) (call : Call) → new ≡ calls ++ call ∷ [] → content_at new first ≡ content_after call (content_at calls first)
content_of_last first calls new call is = ap (λ (l : List Call). content_at l first) is ∙ content_last calls call first

since_push : (first : List ℕ) (calls : List Call) (call : Call) (t : ℕ) (c : List ℕ) → ImageSince first (calls ++ call ∷ []) t c → ImageSince first calls t c ⊎ ImageNow first (calls ++ call ∷ []) c
since_push first calls call t c since = elim (cases_lt (length calls) since.0) [
  | inl gt ↦
      let all : take since.0 (calls ++ call ∷ []) ≡ calls ++ call ∷ [] = take_all since.0 (calls ++ call ∷ []) (omega (arith, gt, length_push calls call)) in
      inr (subst (λ (l : List Call). ImageNow first l c) all since.3)
  | inr le ↦ inl (since.0, since.1, le, subst (λ (l : List Call). ImageNow first l c) (take-append-le since.0 calls (call ∷ []) le) since.3)
]

keeps_push : (first : List ℕ) (calls : List Call) (call : Call) (t : ℕ) (c : List ℕ) → ImageSince first calls t c → ImageSince first (calls ++ call ∷ []) t c
keeps_push first calls call t c since =
    let same : take since.0 (calls ++ call ∷ []) ≡ take since.0 calls = take-append-le since.0 calls (call ∷ []) since.2 in
    let within : since.0 ≤ length (calls ++ call ∷ []) = omega (arith, since.2, length_push calls call) in
    (since.0, since.1, within, subst (λ (l : List Call). ImageNow first l c) (sym same) since.3)

pub elapses_push : (first : List ℕ) (calls new : List Call) (call : Call) → new ≡ calls ++ call ∷ [] → Elapses (length calls) (length new) (ImageSince first calls) (ImageSince first new) (ImageNow first new)
elapses_push first calls new call is = subst (λ (l : List Call). Elapses (length calls) (length l) (ImageSince first calls) (ImageSince first l) (ImageNow first l)) (sym is) record {
  later = omega (arith, length_push calls call);
  nothing_else = λ t c le since. since_push first calls call t c since;
  keeps = λ t c le since. keeps_push first calls call t c since;
}

pub elapses_same : (first : List ℕ) (calls new : List Call) → new ≡ calls → Elapses (length calls) (length new) (ImageSince first calls) (ImageSince first new) (ImageNow first new)
elapses_same first calls new is = subst (λ (l : List Call). Elapses (length calls) (length l) (ImageSince first calls) (ImageSince first l) (ImageNow first l)) (sym is) record { later = omega arith; nothing_else = λ t c le since. inl since; keeps = λ t c le since. since }

pub elapses : (first : List ℕ) (calls : Vec Call Global) (new : List Call) (call : Call) → IsRecorded calls call new → Elapses (length calls.items) (length new) (ImageSince first calls.items) (ImageSince first new) (ImageNow first new)
elapses first calls new call (inl is) = elapses_same first calls.items new is.1
elapses first calls new call (inr is) = elapses_push first calls.items new call is

pub looked : (first : List ℕ) (calls : Vec Call Global) (new : List Call) → IsRecorded calls Looked new → NoneNew (ImageNow first calls.items) (ImageNow first new)
looked first calls new (inl is) = λ c now. subst (λ (l : List Call). ImageNow first l c) is.1 now
looked first calls new (inr is) = λ c now. last_of first calls.items new Looked is c now

pub looked_content : (first : List ℕ) (calls : Vec Call Global) (new : List Call) → IsRecorded calls Looked new → content_at new first ≡ content_at calls.items first
looked_content first calls new (inl is) = ap (λ (l : List Call). content_at l first) is.1
looked_content first calls new (inr is) = content_of_last first calls.items new Looked is

-- a call that writes nothing leaves no new image
pub quiet : (first content : List ℕ) (calls new : List Call) (call : Call) → (call ≡ Looked) ⊎ (call ≡ Synced) → ImageNow first calls content → content_at calls first ≡ content → new ≡ calls ++ call ∷ [] → NoneNew (ImageNow first calls) (ImageNow first new)
quiet first content calls new call (inl is) here same more = λ c now. last_of first calls new Looked (subst (λ (k : Call). new ≡ calls ++ k ∷ []) is more) c now
quiet first content calls new call (inr is) here same more = λ c now.
    let only : c ≡ content = last_of first calls new Synced (subst (λ (k : Call). new ≡ calls ++ k ∷ []) is more) c now ∙ same in
    subst (ImageNow first calls) (sym only) here

pub synced_only : (first : List ℕ) (calls new : List Call) → new ≡ calls ++ Synced ∷ [] → Only (ImageNow first new) (content_at calls first)
synced_only first calls new is = λ c now. last_of first calls new Synced is c now

-- a front of the bytes was put there, as it is recorded
pub wrote : (first : List ℕ) (calls new : List Call) (at count : ℕ) (room : Snapshot (Vec ℕ Global)) (used : ℕ) → new ≡ calls ++ Wrote at count room used ∷ []
    → ImageNow first calls (content_at calls first) → Torn at count (content_at calls first) (take used room.value.items) → Follows (Torn at count) (ImageNow first calls) (ImageNow first new)
wrote first calls new at count room used is here torn = λ c now. case (last_of first calls new (Wrote at count room used) is c now)
  where
    case : {c : List ℕ} → (c ≡ take used room.value.items) ⊎ ((d : List ℕ) × ImageNow first calls d × Torn at count d c) → (d : List ℕ) × ImageNow first calls d × Torn at count d c
    case (inl whole) = (content_at calls first, here, subst (λ (l : List ℕ). Torn at count (content_at calls first) l) (sym whole) torn)
    case (inr past) = past

-- each torn write is an image
pub wrote_all : (first : List ℕ) (calls new : List Call) (at count : ℕ) (room : Snapshot (Vec ℕ Global)) (used : ℕ) → new ≡ calls ++ Wrote at count room used ∷ [] → Includes (Torn at count) (ImageNow first calls) (ImageNow first new)
wrote_all first calls new at count room used is = λ c d old torn.
    let last = images_last calls (Wrote at count room used) first (λ x. x ≡ first) in
    let now : images_at (calls ++ Wrote at count room used ∷ []) first (λ x. x ≡ first) c = subst (λ (P : List ℕ → Type 0). P c) (sym last) (inr (d, old, torn)) in
    subst (λ (l : List Call). ImageNow first l c) (sym is) now

-- a front of the bytes at a place is a torn write of the bytes
pub torn_front : (at count : ℕ) (piece old new : List ℕ) → at ≤ length old → length piece ≤ count → Overwrites at piece old new → Torn at count old new
torn_front at count piece old new le fits is = subst (λ (l : List ℕ). Torn at count old l) (sym is) record {
  before = take-append-le at (take at old ++ piece) (drop (at + length piece) old) (omega (arith, length-front)) ∙ take-append-le at (take at old) piece (omega (arith, length-take at old, le)) ∙ take-take at at old (omega arith);
  after = after;
  no_shorter = omega (arith, longer, le);
  no_longer = omega (arith, longer, le, fits);
}
  where
    length-front : length (take at old ++ piece) ≡ at + length piece
    length-front = omega (arith, length-append (take at old) piece, length-take at old, le)

    longer : length (take at old ++ piece ++ drop (at + length piece) old) ≡ max (length old) (at + length piece)
    longer = omega (arith, length-append (take at old ++ piece) (drop (at + length piece) old), length-front, length-drop (at + length piece) old)

    after : drop (at + count) (take at old ++ piece ++ drop (at + length piece) old) ≡ drop (at + count) old
    after =
        let k = count - length piece in
        let sum : at + count ≡ length (take at old ++ piece) + k = omega (arith, length-front, fits) in
        ap (λ (n : ℕ). drop n (take at old ++ piece ++ drop (at + length piece) old)) sum ∙ drop-append-add (take at old ++ piece) (drop (at + length piece) old) k
        ∙ drop-drop k (at + length piece) old ∙ ap (λ (n : ℕ). drop n old) (omega (arith, fits))

-- what a write makes of the used part of a room
pub written : (room new bytes : List ℕ) (used at : ℕ) → used ≤ length room → at ≤ used → at + length bytes ≤ length room
    → new ≡ take at room ++ bytes ++ drop (at + length bytes) room
    → take (max used (at + length bytes)) new ≡ take at (take used room) ++ bytes ++ drop (at + length bytes) (take used room)
written room new bytes used at within le fits is = ap (λ (l : List ℕ). take (max used (at + length bytes)) l) is ∙ cut ∙ sym parts
  where
    front : List ℕ
    front = take at room ++ bytes

    length-front : length front ≡ at + length bytes
    length-front = omega (arith, length-append (take at room) bytes, length-take at room)

    first : take at (take used room) ≡ take at room
    first = take-take at used room le

    parts : take at (take used room) ++ bytes ++ drop (at + length bytes) (take used room) ≡ front ++ drop (at + length bytes) (take used room)
    parts = ap (λ (l : List ℕ). l ++ bytes ++ drop (at + length bytes) (take used room)) first

    cut : take (max used (at + length bytes)) (front ++ drop (at + length bytes) room) ≡ front ++ drop (at + length bytes) (take used room)
    cut = elim (cases_lt (at + length bytes) used) [
      | inl lt ↦
          let k = used - (at + length bytes) in
          let whole : max used (at + length bytes) ≡ length front + k = omega (arith, lt, length-front) in
          let inside : drop (at + length bytes) (take used room) ≡ take k (drop (at + length bytes) room) =
          ap (λ (m : ℕ). drop (at + length bytes) (take m room)) (let e : used ≡ (at + length bytes) + k = omega (arith, lt) in e) ∙ drop-take (at + length bytes) k room in
          ap (λ (m : ℕ). take m (front ++ drop (at + length bytes) room)) whole ∙ take-append-add front (drop (at + length bytes) room) k ∙ ap (λ (l : List ℕ). front ++ l) (sym inside)
      | inr ge ↦
          let none : drop (at + length bytes) (take used room) ≡ [] = drop_all (at + length bytes) (take used room) (omega (arith, ge, length-take used room)) in
          let same : length front ≡ max used (at + length bytes) = omega (arith, ge, length-front) in
          take_at front (drop (at + length bytes) room) (max used (at + length bytes)) same ∙ sym (append-nil front) ∙ ap (λ (l : List ℕ). front ++ l) (sym none)
    ]

-- what a read is handed
pub read_is : (room x : List ℕ) (used at from : ℕ) → used ≤ length room → from ≡ min at used → take used room ≡ x → take (used - from) (drop from room) ≡ drop at x
read_is room x used at from within is same =
    let known : length (take used room) ≡ used = omega (arith, length-take used room, within) in
    let from_is : from ≡ min at (length (take used room)) = is ∙ ap (λ (n : ℕ). min at n) (sym known) in
    between_is room from used ∙ ap (λ (n : ℕ). drop n (take used room)) from_is ∙ drop_min at (take used room) ∙ ap (λ (l : List ℕ). drop at l) same
