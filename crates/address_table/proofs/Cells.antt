-- A cell is changed.
use Rattle.std.proofs.Common.{inl, inr, ◌≡◌, ◌≢◌, ℕ, zero, suc, ◌∷◌, ◌+◌, ◌-◌, ◌<◌, ◌≤◌, Bool, true, false, cond, List, length, get_or, map, replicate, set, eq-eqb, eqb, Option, Some, None, refl, sym, ap, subst, ◌∙◌, arith}
use Rattle.std.specs.Prelude.{◌&&◌, ◌||◌, is_some, nat_lt, not}
use Rattle.std.proofs.lemmas.Bool.{cases_Bool, ltb-false}
use Rattle.std.proofs.lemmas.List.{get_or-map, get_or-replicate, get_or-set_same, get_or-set_other, length-map, length-replicate, length-set, map-set}
use borrow.Author.Tests.{eqb-true, ltb-true}
use Rattle.wire_ids.specs.declared.address.DevAddr.{DevAddr}
use Rattle.address_table.specs.Table.{IsFirstFree, Table, addr_at, cell_at, is_addr, is_held, knows, owner_of, place_left, place_of, sooner, window}
use Rattle.address_table.specs.Places.{IsFirst}
use Rattle.address_table.specs.declared.owner.Owner.{Owner}

abbrev nobody : Option Owner
nobody = None

abbrev pub with_cell : Table → ℕ → Option Owner → Table
with_cell t place o = record t { cells = set t.cells place o }

abbrev pub with_strays : Table → Table
with_strays t = record t { strays = true }

place_same : (t : Table) (own : DevAddr) (place : ℕ) (o : Option Owner) → place_of own (with_cell t place o) ≡ place_of own t
place_same t own place o = rw (length-set t.cells place o) refl

-- what a place says
pub place_is : (t : Table) (addr : DevAddr) (place : ℕ) → place_of addr t ≡ Some place → (t.first ≤ addr.0) × (place ≡ addr.0 - t.first) × (place < length t.cells)
place_is t addr place e = grind (arith, e)

apart : (t : Table) (addr own : DevAddr) (i j : ℕ) → place_of addr t ≡ Some i → place_of own t ≡ Some j → eqb addr.0 own.0 ≡ false → j ≢ i
apart t addr own i j e k f = let a = place_is t addr i e in let b = place_is t own j k in λ same. grind (arith, a, b, same, f)

-- the owner of each address, once a cell is changed
pub owner_set : (t : Table) (addr own : DevAddr) (place : ℕ) (o : Option Owner) → place_of addr t ≡ Some place → owner_of own (with_cell t place o) ≡ cond (eqb addr.0 own.0) o (owner_of own t)
unfolding owner_of
owner_set t addr own place o e = ap (cell_at (set t.cells place o)) (place_same t own place o) ∙ elim (cases_Bool (eqb addr.0 own.0)) [
  | inl same ↦
      let there : place_of own t ≡ Some place = subst (λ (n : ℕ). place_of (record { 0 = n }) t ≡ Some place) (eqb-true addr.0 own.0 same) e in
      ap (cell_at (set t.cells place o)) there ∙ get_or-set_same t.cells place o None (place_is t addr place e).2 ∙ sym (ap (λ (b : Bool). cond b o (cell_at t.cells (place_of own t))) same)
  | inr other ↦ by (place_of own t) refl other ∙ sym (ap (λ (b : Bool). cond b o (cell_at t.cells (place_of own t))) other)
]
  where
    by : (k : Option ℕ) → place_of own t ≡ k → eqb addr.0 own.0 ≡ false → cell_at (set t.cells place o) k ≡ cell_at t.cells k
    by None is other = refl
    by (Some j) is other = get_or-set_other t.cells place j o None (apart t addr own place j e is other)

pub knows_set : (t : Table) (own : DevAddr) (place : ℕ) (o : Option Owner) → knows own (with_cell t place o) ≡ knows own t
unfolding knows
knows_set t own place o = ap (λ (k : Option ℕ). is_some k || not t.strays) (place_same t own place o)

-- an address without a cell
pub owner_none : (t : Table) (addr own : DevAddr) → place_of addr t ≡ None → owner_of own t ≡ cond (eqb addr.0 own.0) None (owner_of own t)
unfolding owner_of
owner_none t addr own e = elim (cases_Bool (eqb addr.0 own.0)) [
  | inl same ↦
      let there : place_of own t ≡ None = subst (λ (n : ℕ). place_of (record { 0 = n }) t ≡ None) (eqb-true addr.0 own.0 same) e in
      ap (cell_at t.cells) there ∙ sym (ap (λ (b : Bool). cond b None (cell_at t.cells (place_of own t))) same)
  | inr other ↦ sym (ap (λ (b : Bool). cond b None (cell_at t.cells (place_of own t))) other)
]

pub knew_before : (t : Table) (own : DevAddr) → knows own (with_strays t) ≡ true → knows own t ≡ true
unfolding knows
knew_before t own e = by (is_some (place_of own t)) (not t.strays) e
  where
    by : (a b : Bool) → (a || false) ≡ true → (a || b) ≡ true
    by true b k = refl
    by false b k = absurd cc

-- of an address that is known once a stray one came, the stray one isn't it
pub owner_stray : (t : Table) (addr own : DevAddr) (o : Option Owner) → place_of addr t ≡ None → knows own (with_strays t) ≡ true → owner_of own (with_strays t) ≡ cond (eqb addr.0 own.0) o (owner_of own t)
unfolding owner_of knows
owner_stray t addr own o e k = elim (cases_Bool (eqb addr.0 own.0)) [
  | inl same ↦
      let there : place_of own t ≡ None = subst (λ (n : ℕ). place_of (record { 0 = n }) t ≡ None) (eqb-true addr.0 own.0 same) e in
      absurd (no (subst (λ (p : Option ℕ). (is_some p || false) ≡ true) there k))
  | inr other ↦ sym (ap (λ (b : Bool). cond b o (cell_at t.cells (place_of own t))) other)
]
  where
    no : false ≡ true → ⊥
    no q = absurd cc

-- ---- the first free address

place_in : (t : Table) (i : ℕ) → i < length t.cells → place_of (record { 0 = t.first + i }) t ≡ Some i
place_in t i lt = grind (arith, lt)

pub known_at : (t : Table) → length t.cells ≡ window → (i : ℕ) → i < window → knows (addr_at i t) t ≡ true
unfolding knows
known_at t len i lt = ap (λ (p : Option ℕ). is_some p || not t.strays) (place_in t i (omega (arith, lt, len)))

-- a place is taken where its address has an owner
taken_at : (t : Table) (taken : List Bool) → length t.cells ≡ window → taken ≡ map is_some t.cells → (i : ℕ) → i < window → get_or taken i false ≡ is_some (owner_of (addr_at i t) t)
unfolding owner_of
taken_at t taken len e i lt = ap (λ (l : List Bool). get_or l i false) e ∙ get_or-map is_some t.cells i None false (omega (arith, lt, len)) ∙ sym (ap (λ (p : Option ℕ). is_some (cell_at t.cells p)) (place_in t i (omega (arith, lt, len))))

-- the one that leaves isn't that of another place
stays_at : (t : Table) (leaving : Option DevAddr) → length t.cells ≡ window → (o : Option ℕ) → place_left leaving t ≡ o → (i : ℕ) → i < window → (o ≡ Some i → ⊥) → is_addr (addr_at i t) leaving ≡ false
stays_at t None len o e i lt other = refl
stays_at t (Some own) len o e i lt other = elim (cases_Bool (eqb own.0 (t.first + i))) [
  | inl same ↦ absurd (other (sym e ∙ ap (λ (n : ℕ). place_of (record { 0 = n }) t) (eqb-true own.0 (t.first + i) same) ∙ place_in t i (omega (arith, lt, len))))
  | inr apart ↦ apart
]

-- it is that of its own place
left_at : (t : Table) (leaving : Option DevAddr) (place : ℕ) → place_left leaving t ≡ Some place → is_addr (addr_at place t) leaving ≡ true
left_at t None place e = absurd cc
left_at t (Some own) place e = let is = place_is t own place e in eq-eqb own.0 (t.first + place) (omega (arith, is))

held_at : (t : Table) (taken : List Bool) (leaving : Option DevAddr) → length t.cells ≡ window → taken ≡ map is_some t.cells → (i : ℕ) → i < window → (place_left leaving t ≡ Some i → ⊥) → is_held leaving t i ≡ get_or taken i false
held_at t taken leaving len e i lt other = ap (λ (b : Bool). not b && is_some (owner_of (addr_at i t) t)) (stays_at t leaving len (place_left leaving t) refl i lt other) ∙ sym (taken_at t taken len e i lt)

some_place : (a b : ℕ) (o : Option ℕ) → o ≡ Some a → o ≡ Some b → a ≡ b
some_place a b o e f = cc

-- the address that leaves comes before the first free one
pub first_left : (t : Table) (taken : List Bool) (leaving : Option DevAddr) → length t.cells ≡ window → taken ≡ map is_some t.cells → (free place : ℕ) → IsFirst taken free → place_left leaving t ≡ Some place → place < free → IsFirstFree leaving t (Some place)
first_left t taken leaving len e free place f is before =
    let room : length taken ≡ window = ap (λ (l : List Bool). length l) e ∙ length-map t.cells is_some ∙ len in (
      omega (arith, before, f.0, room),
      λ i lt. held_at t taken leaving len e i (omega (arith, lt, before, f.0, room)) (λ same. absurd (omega (arith, lt, some_place i place (place_left leaving t) same is))) ∙ f.1 i (omega (arith, lt, before)),
      ap (λ (b : Bool). not b && is_some (owner_of (addr_at place t) t)) (left_at t leaving place is),
    )

-- it doesn't
pub first_other : (t : Table) (taken : List Bool) (leaving : Option DevAddr) → length t.cells ≡ window → taken ≡ map is_some t.cells → (free : ℕ) → IsFirst taken free → ((place : ℕ) → place_left leaving t ≡ Some place → free ≤ place) → free < window → IsFirstFree leaving t (Some free)
first_other t taken leaving len e free f after lt = (
  lt,
  λ i le. held_at t taken leaving len e i (omega (arith, le, lt)) (λ same. absurd (omega (arith, le, after i same))) ∙ f.1 i le,
  unheld (is_addr (addr_at free t) leaving) (is_some (owner_of (addr_at free t) t)) (sym (taken_at t taken len e free lt) ∙ f.2),
)
  where
    unheld : (a b : Bool) → b ≡ false → (not a && b) ≡ false
    unheld true b n = refl
    unheld false b n = n

pub first_none : (t : Table) (taken : List Bool) (leaving : Option DevAddr) → length t.cells ≡ window → taken ≡ map is_some t.cells → (free : ℕ) → IsFirst taken free → ((place : ℕ) → place_left leaving t ≡ Some place → free ≤ place) → window ≤ free → IsFirstFree leaving t None
first_none t taken leaving len e free f after le = λ i lt. held_at t taken leaving len e i lt (λ same. absurd (omega (arith, lt, le, after i same))) ∙ f.1 i (omega (arith, lt, le))

pub first_found : (t : Table) (taken : List Bool) (leaving : Option DevAddr) → length t.cells ≡ window → taken ≡ map is_some t.cells → (first free : ℕ) → IsFirst taken first → free ≡ sooner first (place_left leaving t) → free < window → IsFirstFree leaving t (Some free)
first_found t taken leaving len e first free f is lt = subst (λ (n : ℕ). IsFirstFree leaving t (Some n)) (sym is) (by (place_left leaving t) refl (subst (λ (n : ℕ). n < window) is lt))
  where
    by : (o : Option ℕ) → place_left leaving t ≡ o → sooner first o < window → IsFirstFree leaving t (Some (sooner first o))
    by None is lt = first_other t taken leaving len e first f (λ place k. absurd (no place (sym is ∙ k))) lt
      where
        no : (place : ℕ) → None ≡ Some place → ⊥
        no place k = absurd cc
    by (Some left) is lt = elim (cases_Bool (nat_lt left first)) [
      | inl before ↦ subst (λ (n : ℕ). IsFirstFree leaving t (Some n)) (sym (ap (λ (b : Bool). cond b left first) before)) (first_left t taken leaving len e first left f is (ltb-true left first before))
      | inr after ↦
          let same : cond (nat_lt left first) left first ≡ first = ap (λ (b : Bool). cond b left first) after in
          subst (λ (n : ℕ). IsFirstFree leaving t (Some n)) (sym same) (first_other t taken leaving len e first f (λ place k. omega (arith, some_place left place (place_left leaving t) is k, ltb-false left first after)) (omega (arith, lt, same)))
    ]

pub none_found : (t : Table) (taken : List Bool) (leaving : Option DevAddr) → length t.cells ≡ window → taken ≡ map is_some t.cells → (first free : ℕ) → IsFirst taken first → free ≡ sooner first (place_left leaving t) → window ≤ free → IsFirstFree leaving t None
none_found t taken leaving len e first free f is le = first_none t taken leaving len e first f (λ place k. after (place_left leaving t) place k is) (least (place_left leaving t) is)
  where
    least : (o : Option ℕ) → free ≡ sooner first o → window ≤ first
    least None s = omega (arith, s, le)
    least (Some left) s = grind (arith, s, le)

    after : (o : Option ℕ) (place : ℕ) → o ≡ Some place → free ≡ sooner first o → first ≤ place
    after None place k s = absurd cc
    after (Some left) place k s = let room : first ≤ window = omega (arith, f.0, ap (λ (l : List Bool). length l) e, length-map t.cells is_some, len) in grind (arith, some_place left place (Some left) refl k, s, le, room)

-- ---- the places that are taken

pub filled : (cells : List (Option Owner)) (taken left : List Bool) (place : ℕ) (o : Option Owner) → length cells ≡ window → taken ≡ map is_some cells → left ≡ set taken place (is_some o) → (length (set cells place o) ≡ window) × (left ≡ map is_some (set cells place o))
filled cells taken left place o len e is = (length-set cells place o ∙ len, is ∙ ap (λ (l : List Bool). set l place (is_some o)) e ∙ sym (map-set is_some cells place o))

pub none_owned : (first : ℕ) (cells : List (Option Owner)) (strays : Bool) (addr : DevAddr) → cells ≡ replicate window None → owner_of addr (record { first = first; cells = cells; strays = strays }) ≡ None
unfolding owner_of
none_owned first cells strays addr e = by (place_of addr t) refl
  where
    t : Table
    t = record { first = first; cells = cells; strays = strays }

    by : (k : Option ℕ) → place_of addr t ≡ k → cell_at cells k ≡ None
    by None is = refl
    by (Some j) is = ap (λ (l : List (Option Owner)). get_or l j None) e ∙ get_or-replicate window j nobody None (omega (arith, (place_is t addr j is).2, ap (λ (l : List (Option Owner)). length l) e, length-replicate window nobody))

pub none_there : length (replicate window nobody) ≡ window
none_there = length-replicate window nobody

pub none_marked : replicate window false ≡ map is_some (replicate window nobody)
none_marked = by window
  where
    by : (n : ℕ) → replicate n false ≡ map is_some (replicate n nobody)
    by zero = refl
    by (suc n) = ap (λ (l : List Bool). false ∷ l) (by n)
