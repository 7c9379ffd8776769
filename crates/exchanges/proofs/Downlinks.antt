-- What a downlink leaves in the queue.
use Rattle.std.proofs.Common.{◌≡◌, suc, ◌+◌, ◌^◌, Bool, true, false, cond, List, [], ◌∷◌, length, Some, refl, sym, ◌∙◌, arith}
use Rattle.std.proofs.lemmas.Bool.{lt-ltb}
use Rattle.std.specs.Prelude.{nat_lt}
use Rattle.contexts.specs.Queue.{first_in, first_of, without_first}
use Rattle.contexts.specs.declared.context.Context.{Context}
use Rattle.contexts.specs.declared.context.Item.{Item}
use Rattle.entries.specs.declared.change.Downlink.TheVariants.{Empty, FirstItem}
use Rattle.exchanges.specs.Downlinks.{is_pending}

-- an empty downlink leaves all items
pub waits_yet : (c : Context) → is_pending Empty c ≡ nat_lt 0 (length c.queue.items)
waits_yet c = by (nat_lt c.next_n (2 ^ 32))
  where
    by : (b : Bool) → nat_lt 0 (length (cond b (record c { next_n = c.next_n + 1 }) c).queue.items) ≡ nat_lt 0 (length c.queue.items)
    by true = refl
    by false = refl

behind : (items : List Item) (c : Context) (item : Item) → first_in items ≡ Some item → nat_lt 0 (length (without_first items c).queue.items) ≡ nat_lt 1 (length items)
behind [] c item e = absurd cc
behind (first ∷ []) c item e = refl
behind (first ∷ (second ∷ rest)) c item e =
    lt-ltb 0 (suc (length rest)) (grind (arith)) ∙ sym (lt-ltb 1 (suc (suc (length rest))) (grind (arith)))

-- an item waits behind the first one where there are two
pub waits_behind : (c : Context) (item : Item) → first_of c ≡ Some item → is_pending FirstItem c ≡ nat_lt 1 (length c.queue.items)
waits_behind c item e = behind c.queue.items c item e
