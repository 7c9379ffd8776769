-- What a context's downlinks leave: its queue, and its two next numbers.
use Rattle.std.specs.Prelude.{ℕ, ◌+◌, ◌%◌, ◌^◌, ◌==◌, nat_lt, List, [], ◌∷◌, ◌++◌, length, Option, Some, None, if◌then◌else◌}
use Rattle.wire_ids.specs.Rules.{Rule, first_rule}
use Rattle.contexts.specs.declared.context.Item.{Item}
use Rattle.contexts.specs.declared.context.Context.{Context}
use Rattle.contexts.specs.declared.queue.ItemFault.{ItemFault}
use Rattle.contexts.specs.declared.queue.ItemFault.TheVariants.{Counter, QueueFull}

-- ---- putting in

abbrev pub item_rules : Item → Context → List (Rule ItemFault)
item_rules item c =
    record { cause = Counter; holds = nat_lt item.number c.next_a }
    ∷ record { cause = QueueFull; holds = length c.queue.items == 8 }
    ∷ []

abbrev pub item_fault : Item → Context → Option ItemFault
item_fault item c = first_rule (item_rules item c)

-- the item goes last, and the next number is above its own
abbrev pub pushed : Item → Context → Context
pushed item c = record c { next_a = item.number + 1; queue = record { items = c.queue.items ++ item ∷ [] } }

-- ---- taking out

abbrev pub first_in : List Item → Option Item
first_in [] = None
first_in (item ∷ items) = Some item

abbrev pub first_of : Context → Option Item
first_of c = first_in c.queue.items

-- the last confirmed number, once the item was sent
abbrev pub confirmed_by : Item → Option ℕ → Option ℕ
confirmed_by item last = if item.confirmed then Some (item.number % 2 ^ 16) else last

abbrev pub without_first : List Item → Context → Context
without_first [] c = c
without_first (item ∷ items) c = record c { conf = confirmed_by item c.conf; queue = record { items = items } }

abbrev pub taken : Context → Context
taken c = without_first c.queue.items c

-- ---- the network's own numbers

abbrev pub next_of : Context → Option ℕ
next_of c = if nat_lt c.next_n (2 ^ 32) then Some c.next_n else None

abbrev pub drawn : Context → Context
drawn c = if nat_lt c.next_n (2 ^ 32) then record c { next_n = c.next_n + 1 } else c
