-- Devices by their names, which no step changes.
use Rattle.std.proofs.Common.{◌≡◌, ℕ, zero, suc, Bool, true, false, cond, List, [], ◌∷◌, length, map, drop, get_or, add-one, ◌+◌, ◌-◌, ◌<◌, eqb, subst, Option, Some, None, option_map, refl, sym, ap, ◌∙◌, arith}
use Rattle.std.specs.Prelude.{nat_lt, not, position}
use Rattle.std.specs.BTreeMap.{BTreeMap, get}
use Rattle.std.specs.List.{position_or_len, prefix_len}
use Rattle.std.specs.Ordering.{nat_cmp}
use Rattle.std.proofs.lemmas.List.{get_or-map, length-map}
use Rattle.agreements.specs.declared.rows.DeviceRow.{DeviceRow}
use Rattle.wire_ids.specs.Lists.{changed}
use Rattle.wire_ids.specs.declared.eui.Eui.{Eui}
use Rattle.wire_ids.proofs.Lists.{changed-cons}
use Rattle.entry_codec.specs.Index.{IsIndex, device_number, is_number, names, row_number}
use Rattle.entry_codec.specs.Machine.{Machine, place_of}
use Rattle.entry_codec.specs.declared.index.Index.{Index}

module _ {X Y : Type 0} where
  prefix_len-map : (p : Y → Bool) (f : X → Y) (xs : List X) → prefix_len p (map f xs) ≡ prefix_len (λ x. p (f x)) xs
  prefix_len-map p f [] = refl
  prefix_len-map p f (x ∷ xs) = rw (prefix_len-map p f xs) refl

  pub position-map : (p : Y → Bool) (f : X → Y) (xs : List X) → position p (map f xs) ≡ position (λ x. p (f x)) xs
  position-map p f xs =
      ap (λ (n : ℕ). cond (nat_lt n (length (map f xs))) (Some n) None) (prefix_len-map (λ y. not (p y)) f xs)
      ∙ ap (λ (len : ℕ). cond (nat_lt (position_or_len (λ x. p (f x)) xs) len) (Some (position_or_len (λ x. p (f x)) xs)) None) (length-map xs f)

  pub map-changed : (g : X → Y) (i : ℕ) (f : X → X) (xs : List X) → ((x : X) → g (f x) ≡ g x) → map g (changed i f xs) ≡ map g xs
  map-changed g i f [] same = refl
  map-changed g zero f (x ∷ xs) same = ap (λ y. y ∷ map g xs) (same x)
  map-changed g (suc i) f (x ∷ xs) same = rw (changed-cons x xs i f) (ap (λ ys. g x ∷ ys) (map-changed g i f xs same))

pub place_by_name : (index : Index) (dev : Eui) (m : Machine) → IsIndex index (names m.devices) → get nat_cmp index.places dev.0 ≡ place_of dev m
place_by_name index dev m h = h dev.0 ∙ position-map (is_number dev.0) device_number m.devices

-- ---- the index, built from the last row to the first

abbrev pub place_from : ℕ → Option ℕ → Option ℕ
place_from left o = option_map (λ (n : ℕ). left + n) o

-- the map has the places of the names from this one on
abbrev pub IsIndexFrom : BTreeMap ℕ ℕ → ℕ → List ℕ → Type 0
IsIndexFrom places left ns = (key : ℕ) → get nat_cmp places key ≡ place_from left (position (is_number key) (drop left ns))

drop-cons : (ns : List ℕ) (left d : ℕ) → left < length ns → drop left ns ≡ get_or ns left d ∷ drop (suc left) ns
drop-cons [] left d lt = absurd (omega arith)
drop-cons (n ∷ ns) zero d lt = refl
drop-cons (n ∷ ns) (suc left) d lt = drop-cons ns left d (omega (arith, lt))

lt_suc : (a b : ℕ) → nat_lt (1 + a) (suc b) ≡ nat_lt a b
lt_suc a b = grind arith

lt_first : (b : ℕ) → nat_lt 0 (suc b) ≡ true
lt_first b = grind arith

position-cons : (p : ℕ → Bool) (n : ℕ) (ns : List ℕ) → position p (n ∷ ns) ≡ cond (p n) (Some 0) (option_map (λ (k : ℕ). 1 + k) (position p ns))
position-cons p n ns = elim (p n) as (λ b. cond (nat_lt (cond (not b) (1 + position_or_len p ns) 0) (suc (length ns))) (Some (cond (not b) (1 + position_or_len p ns) 0)) None ≡ cond b (Some 0) (option_map (λ (k : ℕ). 1 + k) (position p ns))) [
  | true ↦ rw (lt_first (length ns)) refl
  | false ↦ rw (lt_suc (position_or_len p ns) (length ns)) (elim (nat_lt (position_or_len p ns) (length ns)) as (λ b. cond b (Some (1 + position_or_len p ns)) None ≡ option_map (λ (k : ℕ). 1 + k) (cond b (Some (position_or_len p ns)) None)) [ true ↦ refl | false ↦ refl ])
]

next_place : (left : ℕ) (o : Option ℕ) → place_from (left + 1) o ≡ place_from left (option_map (λ (k : ℕ). 1 + k) o)
next_place left None = refl
next_place left (Some n) = ap (λ (k : ℕ). Some k) (omega arith)

pub index_step : (old new : BTreeMap ℕ ℕ) (ns : List ℕ) (left d : ℕ) → left < length ns → ((q : ℕ) → get nat_cmp new q ≡ cond (eqb (get_or ns left d) q) (Some left) (get nat_cmp old q)) → IsIndexFrom old (left + 1) ns → IsIndexFrom new left ns
index_step old new ns left d lt put h = λ key.
    let x = get_or ns left d in
    let rest = drop (suc left) ns in
    let before : get nat_cmp old key ≡ place_from left (option_map (λ (k : ℕ). 1 + k) (position (is_number key) rest)) =
    h key ∙ ap (λ (n : ℕ). place_from (left + 1) (position (is_number key) (drop n ns))) (add-one left) ∙ next_place left (position (is_number key) rest) in
    let there : position (is_number key) (drop left ns) ≡ cond (eqb x key) (Some 0) (option_map (λ (k : ℕ). 1 + k) (position (is_number key) rest)) =
    ap (λ (xs : List ℕ). position (is_number key) xs) (drop-cons ns left d lt) ∙ position-cons (is_number key) x rest in
    put key ∙ ap (λ (o : Option ℕ). cond (eqb x key) (Some left) o) before ∙ by (eqb x key) (option_map (λ (k : ℕ). 1 + k) (position (is_number key) rest)) ∙ sym (ap (place_from left) there)
  where
    by : (b : Bool) (o : Option ℕ) → cond b (Some left) (place_from left o) ≡ place_from left (cond b (Some 0) o)
    by true o = ap (λ (k : ℕ). Some k) (omega arith)
    by false o = refl

pub index_next : (old new : BTreeMap ℕ ℕ) (rows : List DeviceRow) (done at : ℕ) (d : DeviceRow) → done < length rows → at ≡ length rows - 1 - done
    → ((q : ℕ) → get nat_cmp new q ≡ cond (eqb (get_or rows at d).dev_eui.0 q) (Some at) (get nat_cmp old q)) → IsIndexFrom old (length rows - done) (map row_number rows) → IsIndexFrom new (length rows - (done + 1)) (map row_number rows)
index_next old new rows done at d lt is put h =
    let within : at < length rows = omega (arith, lt, is) in
    let within_names : at < length (map row_number rows) = omega (arith, within, length-map rows row_number) in
    let name : (get_or rows at d).dev_eui.0 ≡ get_or (map row_number rows) at 0 = sym (get_or-map row_number rows at d 0 within) in
    let start : length rows - done ≡ at + 1 = omega (arith, lt, is) in
    let end : at ≡ length rows - (done + 1) = omega (arith, lt, is) in
    subst (λ (n : ℕ). IsIndexFrom new n (map row_number rows)) end
    (index_step old new (map row_number rows) at 0 within_names (λ q. put q ∙ ap (λ (x : ℕ). cond (eqb x q) (Some at) (get nat_cmp old q)) name) (subst (λ (n : ℕ). IsIndexFrom old n (map row_number rows)) start h))
