-- Each step of a queue keeps what holds of every context.
use Rattle.std.proofs.Common.{◌≡◌, ℕ, ◌+◌, ◌<◌, ◌≤◌, ◌^◌, List, [], ◌∷◌, ◌++◌, length, refl, sym, subst, arith}
use Rattle.std.specs.Prelude.{remove}
use Rattle.std.proofs.lemmas.List.{length-append}
use Rattle.contexts.specs.declared.context.Context.{Context}
use Rattle.contexts.specs.declared.context.Item.{Item}
use Rattle.contexts.specs.Queue.{pushed, taken, without_first}
use Rattle.contexts.specs.Sound.{Rises, IsSoundContext}

Rises-lower : (low lower : ℕ) (items : List Item) (next : ℕ) → lower ≤ low → Rises low items next → Rises lower items next
Rises-lower low lower [] next le h = omega arith
Rises-lower low lower (item ∷ items) next le h = (omega (arith, h.0), h.1)

Rises-push : (low : ℕ) (items : List Item) (next : ℕ) (item : Item) → next ≤ item.number → Rises low items next → Rises low (items ++ item ∷ []) (item.number + 1)
Rises-push low [] next item le h = (omega arith, omega arith)
Rises-push low (first ∷ items) next item le h = (h.0, Rises-push (first.number + 1) items next item le h.1)

pub sound-pushed : (item : Item) (c : Context) → c.next_a ≤ item.number → item.number < 2 ^ 32 → length c.queue.items < 8 → IsSoundContext c → IsSoundContext (pushed item c)
sound-pushed item c le small room h = record {
  few = omega (arith, length-append c.queue.items (item ∷ []));
  rising = Rises-push 0 c.queue.items c.next_a item le h.rising;
  next_n = h.next_n;
  next_a = omega arith;
}

pub Rises-remove : (items : List Item) (next : ℕ) → Rises 0 items next → Rises 0 (remove items 0) next
Rises-remove [] next h = h
Rises-remove (item ∷ items) next h = Rises-lower (item.number + 1) 0 items next (omega arith) h.1

sound-without_first : (items : List Item) (c : Context) → items ≡ c.queue.items → IsSoundContext c → IsSoundContext (without_first items c)
sound-without_first [] c e h = h
sound-without_first (item ∷ items) c e h =
    let few : length (item ∷ items) ≤ 8 = subst (λ (xs : List Item). length xs ≤ 8) (sym e) h.few in
    let rising : Rises 0 (item ∷ items) c.next_a = subst (λ (xs : List Item). Rises 0 xs c.next_a) (sym e) h.rising in
    record { few = omega arith; rising = Rises-lower (item.number + 1) 0 items c.next_a (omega arith) rising.1; next_n = h.next_n; next_a = h.next_a }

pub sound-taken : (c : Context) → IsSoundContext c → IsSoundContext (taken c)
sound-taken c h = sound-without_first c.queue.items c refl h
