-- What holds of every context.
use Rattle.std.specs.Prelude.{ℕ, ◌+◌, ◌≤◌, ◌^◌, List, [], ◌∷◌, length, Option, Some, None}
use Rattle.contexts.specs.declared.context.Context.{Context}
use Rattle.contexts.specs.declared.context.Item.{Item}
use Rattle.contexts.specs.declared.slots.Slots.{Slots}

-- the numbers rise from low on, and are below next
abbrev pub Rises : ℕ → List Item → ℕ → Type 0
Rises low [] next = low ≤ next
Rises low (item ∷ items) next = (low ≤ item.number) × Rises (item.number + 1) items next

pub record IsSoundContext (c : Context) : Type 0 where
  pub few : length c.queue.items ≤ 8
  pub rising : Rises 0 c.queue.items c.next_a
  pub next_n : c.next_n ≤ 2 ^ 32
  pub next_a : c.next_a ≤ 2 ^ 32

abbrev pub IsSoundSlot : Option Context → Type 0
IsSoundSlot None = Unit {0}
IsSoundSlot (Some c) = IsSoundContext c

pub record IsSoundSlots (s : Slots) : Type 0 where
  pub active : IsSoundSlot s.active
  pub pending : IsSoundSlot s.pending
