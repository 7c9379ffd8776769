-- What the images of a keeper hold while entries are written.
use Rattle.std.proofs.Common.{◌≡◌, ◌↔◌, inl, inr, ℕ, ◌≤◌, List, [], ◌∷◌, ◌++◌, length, map, take, Option, Some, None, refl, sym, ap, subst, ◌∙◌, arith, append_assoc, append-nil}
use Rattle.std.specs.Prelude.{option_map}
use Rattle.std.proofs.lemmas.List.{length-append, map-append, take_at}
use Rattle.disk_model.specs.Disk.{LeavesOnly}
use Rattle.disk_model.proofs.Moments.{started, then, weaker}
use Rattle.entries.specs.Entries.{encode_of}
use Rattle.entries.specs.declared.entry.Entry.{Entry}
use Rattle.keepers.specs.Keeper.{HoldsOnly, Image, OneMoreOrNot}
use Rattle.std.specs.List.{AllByRecursion}
use Rattle.roam_core.specs.Legal.{desk_from}
use Rattle.book.specs.Pages.{Adds, AddsSome, HasRoom, NeedsNone, Page}
use Rattle.book.proofs.Growing.{desk_then}

-- ---- images

one_of : (x : List (List ℕ)) (all done : List Entry) (e : Entry) (more : List Entry) → all ≡ done ++ e ∷ more → (image : Image) → OneMoreOrNot (x ++ map encode_of done) (encode_of e) image → AddsSome x all image
one_of x all done e more is image (inl h) = (
  length done,
  subst (λ (a : List Entry). length done ≤ length a) (sym is) (omega (arith, length-append done (e ∷ more))),
  h ∙ ap (λ (l : List Entry). Some (x ++ map encode_of l)) (sym (ap (take (length done)) is ∙ take_at done (e ∷ more) (length done) refl)),
)
one_of x all done e more is image (inr h) =
    let next = done ++ e ∷ [] in
    let cut : all ≡ next ++ more = is ∙ sym (append_assoc done (e ∷ []) more) in (
      length next,
      subst (λ (a : List Entry). length next ≤ length a) (sym cut) (omega (arith, length-append next more)),
      h ∙ ap Some (append_assoc x (map encode_of done) (encode_of e ∷ []))
          ∙ ap (λ (l : List (List ℕ)). Some (x ++ l)) (sym (map-append encode_of done (e ∷ [])))
          ∙ ap (λ (l : List Entry). Some (x ++ map encode_of l)) (sym (ap (take (length next)) cut ∙ take_at next more (length next) refl)),
    )

pub none_yet : (x : List (List ℕ)) (all : List Entry) (image : Image) → image ≡ Some x → AddsSome x all image
none_yet x all image is = (0, omega arith, is ∙ ap Some (sym (append-nil x)))

module _ {K : Type 0} (moment : K → ℕ) (since : K → ℕ → Image → Type 0) where
  -- before the first call, while they hold only these records
  pub stood : (holds : Image → Type 0) (k : K) (x : List (List ℕ)) → ((image : Image) → since k (moment k) image → holds image) → HoldsOnly holds x → LeavesOnly moment since k k (λ image. image ≡ Some x)
  stood holds k x now only = started moment since k (λ image. image ≡ Some x) (λ image left. only.each image (now image left))

  -- a call that writes nothing and takes no time
  pub passed : (old new : K) (P : Image → Type 0) → moment new ≡ moment old → ((t : ℕ) (image : Image) → since new t image ↔ since old t image) → LeavesOnly moment since old old P → LeavesOnly moment since old new P
  passed old new P at past here = record {
    later = omega (arith, at);
    each = λ image left. here.each image ((past (moment old) image).0 left);
    before = λ t image le left. inl ((past t image).0 left);
  }

  pub moments_then : (old mid new : K) (x : List (List ℕ)) (all done : List Entry) (e : Entry) (more : List Entry) → all ≡ done ++ e ∷ more
      → LeavesOnly moment since old mid (AddsSome x all) → LeavesOnly moment since mid new (OneMoreOrNot (x ++ map encode_of done) (encode_of e)) → LeavesOnly moment since old new (AddsSome x all)
  moments_then old mid new x all done e more is first second =
      then moment since old mid new (AddsSome x all) first (weaker moment since mid new (OneMoreOrNot (x ++ map encode_of done) (encode_of e)) (AddsSome x all) (one_of x all done e more is) second)

-- ---- what is added

records_then : (old mid new : Image) (a b : List (List ℕ)) → mid ≡ option_map (λ (rs : List (List ℕ)). rs ++ a) old → new ≡ option_map (λ (rs : List (List ℕ)). rs ++ b) mid → new ≡ option_map (λ (rs : List (List ℕ)). rs ++ (a ++ b)) old
records_then None mid new a b first second = second ∙ ap (option_map (λ (rs : List (List ℕ)). rs ++ b)) first
records_then (Some x) mid new a b first second = second ∙ ap (option_map (λ (rs : List (List ℕ)). rs ++ b)) first ∙ ap Some (append_assoc x a b)

pub no_more : (o : Image) → o ≡ option_map (λ (rs : List (List ℕ)). rs ++ []) o
no_more None = refl
no_more (Some x) = ap Some (sym (append-nil x))

pub adds_then : {K : Type 0} (es more : List Entry) (doubted : Option Entry) (old mid new : Page K) → Adds es None old mid → Adds more doubted mid new → Adds (es ++ more) doubted old new
adds_then es more doubted old mid new first second = record {
  records = records_then old.records mid.records new.records (map encode_of es) (map encode_of more) first.records second.records ∙ ap (λ (l : List (List ℕ)). option_map (λ (rs : List (List ℕ)). rs ++ l) old.records) (sym (map-append encode_of es more));
  desk = second.desk ∙ ap (λ d. desk_from d more) first.desk ∙ sym (desk_then old.desk es more);
  config = second.config ∙ first.config;
  tried = second.tried;
  later = omega (arith, first.later, second.later);
}

pub room_for : (spare : ℕ) (es : List Entry) → AllByRecursion NeedsNone es → HasRoom spare es
room_for spare [] none = tt
room_for spare (e ∷ es) none = (omega (arith, none.0), none.1)
