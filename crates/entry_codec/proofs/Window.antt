-- Marks of a window of addresses, and the first that has none.
use Rattle.std.proofs.Common.{◌≡◌, ℕ, zero, suc, ◌+◌, ◌-◌, ◌<◌, ◌≤◌, ◌^◌, Bool, true, false, cond, List, [], ◌∷◌, length, get_or, Option, Some, None, option_map, refl, sym, ap, subst, ◌∙◌, arith}
use Rattle.std.specs.Prelude.{◌&&◌, ◌||◌, is_some, nat_lt, not, option_and_then, position}
use Rattle.std.specs.List.{filter, list_any, position_or_len}
use Rattle.std.proofs.lemmas.Bool.{ltb-false}
use borrow.Author.Tests.{ltb-true}
use Rattle.entry_codec.proofs.Ordered.{place_found, place_past, place_within}
use Rattle.wire_ids.specs.Addresses.{address_of, base_of, free_bits, room_of, type_of}
use Rattle.wire_ids.specs.Lists.{holds_of}
use Rattle.wire_ids.specs.declared.address.DevAddr.{DevAddr}
use Rattle.contexts.specs.declared.context.Context.{Context}
use Rattle.contexts.specs.declared.slots.Slots.{Slots}
use Rattle.entry_codec.specs.Free.{IsFirstFree, Marks, addr_of, ask_stays, free_address, free_from, is_number_taken, leaving, slots_leave, visitor_stays, window}
use Rattle.entry_codec.specs.LookUps.{asks_for, device_has, is_addr, is_taken, leaves, leaves_slots, lives, slot_has, slots_have, slots_of, visitor_has}
use Rattle.entry_codec.specs.Machine.{Machine, is_open, lapse, visits, wake}
use Rattle.entry_codec.specs.Sound.{IsSound}
use Rattle.entry_codec.specs.declared.parties.Holder.{Holder}
use Rattle.entry_codec.proofs.Ready.{any_lapsed, taken_awake}
use Rattle.entry_codec.proofs.Sound.{sound_lapsed}

or_none : (b : Bool) → (b || false) ≡ b
or_none true = refl
or_none false = refl

or_all : (b : Bool) → (b || true) ≡ true
or_all true = refl
or_all false = refl

or_three : (a b c : Bool) → ((a || b) || c) ≡ (a || (b || c))
or_three true b c = refl
or_three false b c = refl

-- ---- several marks

pub marks_then : (first : ℕ) (p q : DevAddr → Bool) (a b c : List Bool) → Marks first p a b → Marks first q b c → Marks first (λ x. p x || q x) a c
marks_then first p q a b c h k = (k.0 ∙ h.0, λ i within. k.1 i (omega (arith, within, h.0)) ∙ ap (λ (x : Bool). x || q (addr_of (first + i))) (h.1 i within) ∙ or_three (get_or a i false) (p (addr_of (first + i))) (q (addr_of (first + i))))

pub marks_same : (first : ℕ) (p q : DevAddr → Bool) (a b : List Bool) → ((x : DevAddr) → p x ≡ q x) → Marks first p a b → Marks first q a b
marks_same first p q a b same h = (h.0, λ i within. h.1 i within ∙ ap (λ (x : Bool). get_or a i false || x) (same (addr_of (first + i))))

pub marks_slots : (first : ℕ) (s : Slots) (a b c : List Bool) → Marks first (λ x. slot_has x s.active) a b → Marks first (λ x. slot_has x s.pending) b c → Marks first (λ x. slots_have x s) a c
unfolding slots_have
marks_slots first s a b c h k = marks_then first (λ x. slot_has x s.active) (λ x. slot_has x s.pending) a b c h k

-- ---- all that is taken

pub any_filter : {X : Type 0} (f p : X → Bool) (xs : List X) → list_any p (filter f xs) ≡ list_any (λ x. f x && p x) xs
any_filter f p [] = refl
any_filter f p (x ∷ xs) = elim (f x) as (λ b. list_any p (cond b (x ∷ filter f xs) (filter f xs)) ≡ ((b && p x) || list_any (λ y. f y && p y) xs)) [ true ↦ ap (λ (b : Bool). p x || b) (any_filter f p xs) | false ↦ any_filter f p xs ]

taken_parts : (at : ℕ) (m : Machine) (a : DevAddr) → ((list_any (device_has a) m.devices || list_any (visitor_stays at a) m.visitors) || list_any (ask_stays at a) m.asks) ≡ is_taken a (lapse at m)
unfolding is_taken lives lapse
taken_parts at m a = rw (any_lapsed a at m.devices, any_filter (visits at) (visitor_has a) m.visitors, any_filter (is_open at) (asks_for a) m.asks) refl

pub marks_taken : (first at : ℕ) (m : Machine) (a b c d : List Bool) → Marks first (λ x. list_any (device_has x) m.devices) a b → Marks first (λ x. list_any (visitor_stays at x) m.visitors) b c → Marks first (λ x. list_any (ask_stays at x) m.asks) c d
    → Marks first (λ x. is_taken x (lapse at m)) a d
marks_taken first at m a b c d h k l =
    marks_same first (λ x. (list_any (device_has x) m.devices || list_any (visitor_stays at x) m.visitors) || list_any (ask_stays at x) m.asks) (λ x. is_taken x (lapse at m)) a d (taken_parts at m)
    (marks_then first (λ x. list_any (device_has x) m.devices || list_any (visitor_stays at x) m.visitors) (λ x. list_any (ask_stays at x) m.asks) a c d
    (marks_then first (λ x. list_any (device_has x) m.devices) (λ x. list_any (visitor_stays at x) m.visitors) a b c h k) l)

-- ---- the address that goes

leaves_slots_is : (a : DevAddr) (s : Slots) → leaves_slots a s ≡ is_addr a (slots_leave s)
leaves_slots_is a s = elim (is_some s.pending) as (λ b. (b && slot_has a s.active) ≡ is_addr a (cond b (option_map (λ (c : Context). c.addr) s.active) None)) [ true ↦ by s.active | false ↦ refl ]
  where
    by : (o : Option Context) → slot_has a o ≡ is_addr a (option_map (λ (c : Context). c.addr) o)
    by None = refl
    by (Some c) = refl

leaves_by : (a : DevAddr) (o : Option Slots) → holds_of (leaves_slots a) o ≡ is_addr a (option_and_then slots_leave o)
leaves_by a None = refl
leaves_by a (Some s) = leaves_slots_is a s

leaves_is : (a : DevAddr) (who : Option Holder) (m : Machine) → leaves a who m ≡ is_addr a (leaving who m)
unfolding leaves
leaves_is a who m = leaves_by a (slots_of who m)

-- what is taken once the pending context is active
pub awake_taken : (a : DevAddr) (at : ℕ) (who : Option Holder) (m : Machine) → IsSound m → is_taken a (wake who (lapse at m)) ≡ (not (is_addr a (leaving who (lapse at m))) && is_taken a (lapse at m))
awake_taken a at who m h = taken_awake a who (lapse at m) (sound_lapsed at m h) ∙ ap (λ (b : Bool). not b && is_taken a (lapse at m)) (leaves_is a who (lapse at m))

pub awake_marks : (first at : ℕ) (who : Option Holder) (m : Machine) (new : List Bool) (old : List Bool) → IsSound m → length new ≡ length old
    → ((i : ℕ) → i < length old → get_or old i false ≡ is_taken (addr_of (first + i)) (lapse at m))
    → ((i : ℕ) → i < length old → get_or new i false ≡ (not (is_addr (addr_of (first + i)) (leaving who (lapse at m))) && get_or old i false))
    → (i : ℕ) → i < length new → get_or new i false ≡ is_taken (addr_of (first + i)) (wake who (lapse at m))
awake_marks first at who m new old h len taken gone i within =
    let a = addr_of (first + i) in
    let lt : i < length old = omega (arith, within, len) in
    gone i lt ∙ ap (λ (b : Bool). not (is_addr a (leaving who (lapse at m))) && b) (taken i lt) ∙ sym (awake_taken a at who m h)

-- ---- the first that is free

place_passes : (marks : List Bool) (i : ℕ) → i < position_or_len not marks → get_or marks i false ≡ true
place_passes [] i lt = absurd (omega (arith, lt))
place_passes (true ∷ bs) zero lt = refl
place_passes (true ∷ bs) (suc i) lt = place_passes bs i (omega (arith, lt))
place_passes (false ∷ bs) i lt = absurd (omega (arith, lt))

plus_one : (n : ℕ) → 1 + n ≡ suc n
plus_one n = omega arith

place_stops : (marks : List Bool) → position_or_len not marks < length marks → get_or marks (position_or_len not marks) false ≡ false
place_stops [] lt = absurd (omega (arith, lt))
place_stops (true ∷ bs) lt = ap (λ (k : ℕ). get_or (true ∷ bs) k false) (plus_one (position_or_len not bs)) ∙ place_stops bs (omega (arith, lt))
place_stops (false ∷ bs) lt = refl

pub first_free : (first : ℕ) (has : DevAddr → Bool) (marks : List Bool) (o : Option ℕ) → length marks ≡ window → position not marks ≡ o → ((i : ℕ) → i < length marks → get_or marks i false ≡ has (addr_of (first + i))) → IsFirstFree first has o
first_free first has marks None len e are = λ i within. sym (are i (omega (arith, within, len))) ∙ place_passes marks i (omega (arith, within, len, place_past not marks e))
first_free first has marks (Some n) len e are =
    let here : n ≡ position_or_len not marks = place_found not marks n e in
    let lt : n < length marks = place_within not marks n e in (
      omega (arith, lt, len),
      λ i within. sym (are i (omega (arith, within, lt))) ∙ place_passes marks i (omega (arith, within, here)),
      sym (are n lt) ∙ ap (λ (k : ℕ). get_or marks k false) here ∙ place_stops marks (omega (arith, lt, here)),
    )

-- ---- windows, one after the other

minus_none : (a : ℕ) → a - 0 ≡ a
minus_none a = omega arith

plus_none : (a : ℕ) → a + 0 ≡ a
plus_none a = omega arith

none_of : (taken : ℕ → Bool) (a b : ℕ) → a ≡ 0 → None ≡ free_from taken a b
unfolding free_from
none_of taken a b e = rw e refl

-- numbers that are taken are passed over
skip : (taken : ℕ → Bool) (k more n : ℕ) → ((i : ℕ) → i < k → taken (n + i) ≡ true) → free_from taken more n ≡ free_from taken (more - k) (n + k)
unfolding free_from
skip taken zero more n all = rw (minus_none more, plus_none n) refl
skip taken (suc k) zero n all = none_of taken (0 - suc k) (n + suc k) (omega arith)
skip taken (suc k) (suc more) n all =
    let here : taken n ≡ true = subst (λ (i : ℕ). taken i ≡ true) (plus_none n) (all 0 (omega arith)) in
    let rest : free_from taken more (suc n) ≡ free_from taken (more - k) (suc n + k) = skip taken k more (suc n) (λ i lt. subst (λ (j : ℕ). taken j ≡ true) (omega arith) (all (suc i) (omega (arith, lt)))) in
    let less : more - k ≡ suc more - suc k = omega arith in
    let far : suc n + k ≡ n + suc k = omega arith in
    rw here (rest ∙ ap (λ (a : ℕ). free_from taken a (suc n + k)) less ∙ ap (λ (b : ℕ). free_from taken (suc more - suc k) b) far)

-- none is free in a window: the search goes on after it
pub none_in_window : (net from : ℕ) (m : Machine) → ((i : ℕ) → i < window → is_taken (addr_of (base_of net + from + i)) m ≡ true) → free_from (is_number_taken net m) (room_of net - from) from ≡ free_from (is_number_taken net m) (room_of net - (from + window)) (from + window)
none_in_window net from m all =
    skip (is_number_taken net m) window (room_of net - from) from (λ i lt. subst (λ (n : ℕ). is_taken (addr_of n) m ≡ true) (omega arith) (all i lt))
    ∙ ap (λ (n : ℕ). free_from (is_number_taken net m) n (from + window)) (omega arith)

stop : (taken : ℕ → Bool) (more n : ℕ) → taken n ≡ false → free_from taken more n ≡ cond (nat_lt 0 more) (Some n) None
unfolding free_from
stop taken zero n free = refl
stop taken (suc more) n free = rw free (sym (ap (λ (b : Bool). cond b (Some n) None) (positive more)))
  where
    positive : (k : ℕ) → nat_lt 0 (suc k) ≡ true
    positive k = grind arith

in_room : (room from n : ℕ) → nat_lt 0 (room - from - n) ≡ nat_lt (from + n) room
in_room room from n = grind arith

-- the first free one of a window is the answer, where the network has so many addresses
pub free_found : (net from n : ℕ) (m : Machine) → ((i : ℕ) → i < n → is_taken (addr_of (base_of net + from + i)) m ≡ true) → is_taken (addr_of (base_of net + from + n)) m ≡ false
    → free_from (is_number_taken net m) (room_of net) 0 ≡ free_from (is_number_taken net m) (room_of net - from) from → address_of net (from + n) ≡ free_address net m
unfolding free_address
free_found net from n m all free so_far =
    let taken = is_number_taken net m in
    let found : free_from taken (room_of net) 0 ≡ cond (nat_lt (from + n) (room_of net)) (Some (from + n)) None =
    so_far ∙ skip taken n (room_of net - from) from (λ i lt. subst (λ (k : ℕ). is_taken (addr_of k) m ≡ true) (omega arith) (all i lt))
    ∙ stop taken (room_of net - from - n) (from + n) (subst (λ (k : ℕ). is_taken (addr_of k) m ≡ false) (omega arith) free)
    ∙ ap (λ (b : Bool). cond b (Some (from + n)) None) (in_room (room_of net) from n) in
    by (nat_lt (from + n) (room_of net)) ∙ ap (option_map (λ (k : ℕ). base_of net + k)) (sym found)
  where
    by : (b : Bool) → cond b (Some (base_of net + (from + n))) None ≡ option_map (λ (k : ℕ). base_of net + k) (cond b (Some (from + n)) None)
    by true = refl
    by false = refl

-- past the last address there is none
pub none_left : (net from : ℕ) (m : Machine) → room_of net ≤ from → free_from (is_number_taken net m) (room_of net) 0 ≡ free_from (is_number_taken net m) (room_of net - from) from → None ≡ free_address net m
unfolding free_address free_from
none_left net from m past so_far = ap (option_map (λ (k : ℕ). base_of net + k)) (sym (so_far ∙ ap (λ (n : ℕ). free_from (is_number_taken net m) n from) none))
  where
    none : room_of net - from ≡ 0
    none = omega (arith, past)

-- no network has more than 2^25 addresses
bits : (t : ℕ) → t < 8 → 2 ^ free_bits t ≤ 2 ^ 25
bits zero lt = omega arith
bits (suc zero) lt = omega arith
bits (suc (suc zero)) lt = omega arith
bits (suc (suc (suc zero))) lt = omega arith
bits (suc (suc (suc (suc zero)))) lt = omega arith
bits (suc (suc (suc (suc (suc zero))))) lt = omega arith
bits (suc (suc (suc (suc (suc (suc zero)))))) lt = omega arith
bits (suc (suc (suc (suc (suc (suc (suc zero))))))) lt = omega arith
bits (suc (suc (suc (suc (suc (suc (suc (suc t)))))))) lt = absurd (omega (arith, lt))

pub few_addresses : (net : ℕ) → net < 2 ^ 24 → room_of net ≤ 2 ^ 25
few_addresses net lt = bits (type_of net) (omega (arith, lt))

-- ---- the search, window by window

some_number : (b : Bool) (x y : ℕ) → Some y ≡ cond b (Some x) None → (b ≡ true) × (y ≡ x)
some_number true x y e = (refl, cc)
some_number false x y e = absurd cc

pub first_is : (net from first : ℕ) → Some first ≡ address_of net from → (from < room_of net) × (first ≡ base_of net + from)
first_is net from first e = let both = some_number (nat_lt from (room_of net)) (base_of net + from) first e in (ltb-true from (room_of net) both.0, both.1)

abbrev SoFar : ℕ → Machine → ℕ → Type 0
SoFar net m from = free_from (is_number_taken net m) (room_of net) 0 ≡ free_from (is_number_taken net m) (room_of net - from) from

pub found_here : (net from first n : ℕ) (m : Machine) → Some first ≡ address_of net from → IsFirstFree first (λ a. is_taken a m) (Some n) → SoFar net m from → address_of net (from + n) ≡ free_address net m
found_here net from first n m e free so_far =
    let at = (first_is net from first e).1 in
    free_found net from n m (λ i lt. subst (λ (k : ℕ). is_taken (addr_of (k + i)) m ≡ true) at (free.1 i lt)) (subst (λ (k : ℕ). is_taken (addr_of (k + n)) m ≡ false) at free.2) so_far

pub none_here : (net from first : ℕ) (m : Machine) → Some first ≡ address_of net from → IsFirstFree first (λ a. is_taken a m) None → SoFar net m from → SoFar net m (from + window)
none_here net from first m e all so_far =
    let at = (first_is net from first e).1 in
    so_far ∙ none_in_window net from m (λ i lt. subst (λ (k : ℕ). is_taken (addr_of (k + i)) m ≡ true) at (all i lt))

none_is : (b : Bool) (x : ℕ) → None ≡ cond b (Some x) None → b ≡ false
none_is true x e = absurd cc
none_is false x e = refl

pub past_here : (net from : ℕ) (m : Machine) → None ≡ address_of net from → SoFar net m from → None ≡ free_address net m
past_here net from m e so_far = none_left net from m (ltb-false from (room_of net) (none_is (nat_lt from (room_of net)) (base_of net + from) e)) so_far
