-- Each step of a context, and of a device's two, leaves past what was past.
use Rattle.std.proofs.Common.{◌≡◌, ℕ, ◌+◌, ◌<◌, ◌≤◌, ◌^◌, Bool, true, false, cond, List, [], ◌∷◌, ◌++◌, Option, Some, None, option_map, refl, sym, subst, ◌∙◌, arith}
use Rattle.std.specs.Prelude.{IsTrue, nat_lt}
use Rattle.std.proofs.lemmas.Option.{some_pair_parts}
use Rattle.wire_ids.specs.declared.eui.Eui.{Eui}
use Rattle.contexts.specs.Queue.{drawn, first_in, pushed, without_first}
use Rattle.contexts.specs.Slots.{accepted, activated, activated_by, offered, on_active, woken}
use Rattle.contexts.specs.Slots as slots
use Rattle.contexts.specs.Sound.{IsSoundContext, IsSoundSlot, Rises}
use Rattle.contexts.specs.declared.context.Context.{Context}
use Rattle.contexts.specs.declared.context.Item.{Item}
use Rattle.contexts.specs.declared.context.Origin.{Origin}
use Rattle.contexts.specs.declared.slots.Slots.{Slots}
use Rattle.entries.specs.declared.change.Downlink.{Downlink}
use Rattle.entries.specs.declared.change.Downlink.TheVariants as down
use Rattle.entry_codec.specs.Devices.{answered, heard}
use Rattle.entry_codec.specs.Fits.{can_answer}
use Rattle.entry_codec.specs.Machine.{with_count}
use Rattle.entry_codec.specs.Sound.{AreSlots, Differ, OnSlot}
use Rattle.entry_codec.proofs.SoundDevices.{slots-activated}
use Rattle.histories.specs.Downlinks.{AFCntDown, ContextCounter, Counter, NFCntDown, counter_of, number_in}

-- ---- contexts

-- the counter is above this number
abbrev pub IsPast : Counter → ℕ → Context → Type 0
IsPast NFCntDown n c = n < c.next_n
IsPast AFCntDown n c = Rises (n + 1) c.queue.items c.next_a

abbrev pub PastIn : ContextCounter → ℕ → Context → Type 0
PastIn k n c = c.origin ≡ k.origin → IsPast k.counter n c

Rises-lower : (low lower : ℕ) (items : List Item) (next : ℕ) → lower ≤ low → Rises low items next → Rises lower items next
Rises-lower low lower [] next le h = omega (arith, le, h)
Rises-lower low lower (item ∷ items) next le h = (omega (arith, le, h.0), h.1)

Rises-push : (low : ℕ) (items : List Item) (next : ℕ) (item : Item) → next ≤ item.number → Rises low items next → Rises low (items ++ item ∷ []) (item.number + 1)
Rises-push low [] next item le h = (omega (arith, le, h), omega arith)
Rises-push low (first ∷ items) next item le h = (h.0, Rises-push (first.number + 1) items next item le h.1)

past-drawn : (k : Counter) (n : ℕ) (c : Context) → IsPast k n c → IsPast k n (drawn c)
past-drawn NFCntDown n c h = elim (nat_lt c.next_n (2 ^ 32)) as (λ b. n < (cond b (record c { next_n = c.next_n + 1 }) c).next_n) [ true ↦ omega (arith, h) | false ↦ h ]
past-drawn AFCntDown n c h = elim (nat_lt c.next_n (2 ^ 32)) as (λ b. IsPast AFCntDown n (cond b (record c { next_n = c.next_n + 1 }) c)) [ true ↦ h | false ↦ h ]

past-without_first : (k : Counter) (n : ℕ) (items : List Item) (c : Context) → items ≡ c.queue.items → IsPast k n c → IsPast k n (without_first items c)
past-without_first k n [] c e h = h
past-without_first NFCntDown n (item ∷ items) c e h = h
past-without_first AFCntDown n (item ∷ items) c e h =
    let rises : Rises (n + 1) (item ∷ items) c.next_a = subst (λ (xs : List Item). Rises (n + 1) xs c.next_a) (sym e) h in
    Rises-lower (item.number + 1) (n + 1) items c.next_a (omega (arith, rises.0)) rises.1

past-answered : (d : Downlink) (k : Counter) (n : ℕ) (c : Context) → IsPast k n c → IsPast k n (answered d c)
past-answered down.Nothing k n c h = h
past-answered down.Empty k n c h = past-drawn k n c h
past-answered down.FirstItem k n c h = past-without_first k n c.queue.items c refl h

past-heard_in : (count : ℕ) (frame : List ℕ) (k : Counter) (n : ℕ) (c : Context) → IsPast k n c → IsPast k n (slots.heard count frame c)
past-heard_in count frame NFCntDown n c h = h
past-heard_in count frame AFCntDown n c h = h

past-counted_in : (count : ℕ) (k : Counter) (n : ℕ) (c : Context) → IsPast k n c → IsPast k n (with_count count c)
past-counted_in count NFCntDown n c h = h
past-counted_in count AFCntDown n c h = h

pub past-pushed : (item : Item) (k : Counter) (n : ℕ) (c : Context) → c.next_a ≤ item.number → IsPast k n c → IsPast k n (pushed item c)
past-pushed item NFCntDown n c le h = h
past-pushed item AFCntDown n c le h = Rises-push (n + 1) c.queue.items c.next_a item le h

origin-drawn : (c : Context) → (drawn c).origin ≡ c.origin
origin-drawn c = elim (nat_lt c.next_n (2 ^ 32)) as (λ b. (cond b (record c { next_n = c.next_n + 1 }) c).origin ≡ c.origin) [ true ↦ refl | false ↦ refl ]

origin-without_first : (items : List Item) (c : Context) → (without_first items c).origin ≡ c.origin
origin-without_first [] c = refl
origin-without_first (item ∷ items) c = refl

pub origin-answered : (d : Downlink) (c : Context) → (answered d c).origin ≡ c.origin
origin-answered down.Nothing c = refl
origin-answered down.Empty c = origin-drawn c
origin-answered down.FirstItem c = origin-without_first c.queue.items c

-- ---- the two contexts of a holder

pub record PastSlots (k : ContextCounter) (n : ℕ) (s : Slots) : Type 0 where
  pub active : OnSlot (PastIn k n) s.active
  pub pending : OnSlot (PastIn k n) s.pending

past-slot : (k : ContextCounter) (n : ℕ) (f : Context → Context) (o : Option Context) → ((c : Context) → (f c).origin ≡ c.origin)
    → ((c : Context) → o ≡ Some c → IsPast k.counter n c → IsPast k.counter n (f c)) → OnSlot (PastIn k n) o → OnSlot (PastIn k n) (option_map f o)
past-slot k n f None same step h = tt
past-slot k n f (Some c) same step h = λ e. step c refl (h (sym (same c) ∙ e))

pub past-on_active : (k : ContextCounter) (n : ℕ) (f : Context → Context) (s : Slots) → ((c : Context) → (f c).origin ≡ c.origin)
    → ((c : Context) → s.active ≡ Some c → IsPast k.counter n c → IsPast k.counter n (f c)) → PastSlots k n s → PastSlots k n (on_active f s)
past-on_active k n f s same step h = record { active = past-slot k n f s.active same step h.active; pending = h.pending }

past-activated_by : (k : ContextCounter) (n : ℕ) (s : Slots) (o : Option Context) → o ≡ s.pending → PastSlots k n s → PastSlots k n (activated_by o s)
past-activated_by k n s None e h = h
past-activated_by k n s (Some c) e h = record { active = subst (λ (o : Option Context). OnSlot (PastIn k n) o) (sym e) h.pending; pending = tt }

pub past-activated : (k : ContextCounter) (n : ℕ) (s : Slots) → PastSlots k n s → PastSlots k n (activated s)
past-activated k n s h = past-activated_by k n s s.pending refl h

pub past-woken : (k : ContextCounter) (n : ℕ) (pending : Bool) (s : Slots) → PastSlots k n s → PastSlots k n (woken pending s)
past-woken k n true s h = past-activated k n s h
past-woken k n false s h = h

pub past-heard : (k : ContextCounter) (n : ℕ) (pending : Bool) (count : ℕ) (frame : List ℕ) (d : Downlink) (s : Slots) → PastSlots k n s → PastSlots k n (heard pending count frame d s)
unfolding heard
past-heard k n pending count frame d s h =
    let accept = past-on_active k n (slots.heard count frame) (woken pending s) (λ c. refl) (λ c _ p. past-heard_in count frame k.counter n c p) (past-woken k n pending s h) in
    past-on_active k n (answered d) (accepted pending count frame s) (origin-answered d) (λ c _ p. past-answered d k.counter n c p) accept

pub past-counted : (k : ContextCounter) (n count : ℕ) (s : Slots) → PastSlots k n s → PastSlots k n (on_active (with_count count) s)
past-counted k n count s h = past-on_active k n (with_count count) s (λ c. refl) (λ c _ p. past-counted_in count k.counter n c p) h

-- a new context has another origin
pub past-offered : (k : ContextCounter) (n : ℕ) (fresh : Context) (s : Slots) → (fresh.origin ≡ k.origin → ⊥) → PastSlots k n s → PastSlots k n (offered fresh s)
past-offered k n fresh s apart h = record { active = h.active; pending = λ e. absurd (apart e) }

-- contexts of other origins
other_slot : (P : Origin → Type 0) (k : ContextCounter) (n : ℕ) (o : Option Context) → ((x : Origin) → P x → x ≡ k.origin → ⊥) → OnSlot (λ (c : Context). P c.origin) o → OnSlot (PastIn k n) o
other_slot P k n None apart h = tt
other_slot P k n (Some c) apart h = λ e. absurd (apart c.origin h e)

pub past-others : (P : Origin → Type 0) (k : ContextCounter) (n : ℕ) (s : Slots) → ((x : Origin) → P x → x ≡ k.origin → ⊥) → AreSlots P s → PastSlots k n s
past-others P k n s apart h = record { active = other_slot P k n s.active apart h.active; pending = other_slot P k n s.pending apart h.pending }

-- ---- the number of a downlink

-- it is above what was past, and is past once the downlink was made
pub record IsNumber (d : Downlink) (dev : Eui) (c : Context) (k : ContextCounter) (n : ℕ) : Type 0 where
  pub name : dev ≡ k.dev_eui
  pub origin : c.origin ≡ k.origin
  pub above : (m : ℕ) → IsPast k.counter m c → m < n
  pub past : (count : ℕ) (frame : List ℕ) → IsSoundContext c → IsTrue (can_answer d c) → IsPast k.counter n (answered d (slots.heard count frame c))

past-new_drawn : (c : Context) → IsTrue (nat_lt c.next_n (2 ^ 32)) → IsPast NFCntDown c.next_n (drawn c)
past-new_drawn c can = elim (nat_lt c.next_n (2 ^ 32)) as (λ b. IsTrue b → c.next_n < (cond b (record c { next_n = c.next_n + 1 }) c).next_n) [ true ↦ λ t. omega arith | false ↦ λ f. absurd cc ] can

past-new_taken : (items : List Item) (c : Context) (item : Item) (rest : List Item) → item ∷ rest ≡ items → Rises 0 items c.next_a → IsPast AFCntDown item.number (without_first items c)
past-new_taken [] c item rest e h = absurd cc
past-new_taken (x ∷ xs) c item rest e h = subst (λ (y : Item). Rises (y.number + 1) xs c.next_a) (first x xs item rest e) h.1
  where
    first : (x : Item) (xs : List Item) (item : Item) (rest : List Item) → item ∷ rest ≡ x ∷ xs → x ≡ item
    first x xs item rest e = cc

as_number : (d : Downlink) (dev : Eui) (c : Context) (own k : ContextCounter) (number n : ℕ) → ◌≡◌ {A = Option (ContextCounter × ℕ)} (Some (own, number)) (Some (k, n)) → IsNumber d dev c own number → IsNumber d dev c k n
as_number d dev c own k number n e is =
    let both = some_pair_parts own k number n e in
    subst (λ (x : ContextCounter). IsNumber d dev c x n) both.0 (subst (λ (y : ℕ). IsNumber d dev c own y) both.1 is)

item_number : (dev : Eui) (c : Context) (k : ContextCounter) (n : ℕ) (items : List Item) → items ≡ c.queue.items
    → option_map {U = ContextCounter × ℕ} (λ (item : Item). (counter_of dev c AFCntDown, item.number)) (first_in items) ≡ Some (k, n) → IsNumber down.FirstItem dev c k n
item_number dev c k n [] is e = absurd cc
item_number dev c k n (item ∷ rest) is e = as_number down.FirstItem dev c (counter_of dev c AFCntDown) k item.number n e (record {
  name = refl;
  origin = refl;
  above = λ m h. let rises : Rises (m + 1) (item ∷ rest) c.next_a = subst (λ (xs : List Item). Rises (m + 1) xs c.next_a) (sym is) h in omega (arith, rises.0);
  past = λ count frame sound can. past-new_taken c.queue.items (slots.heard count frame c) item rest is sound.rising;
})

pub is_number : (d : Downlink) (dev : Eui) (c : Context) (k : ContextCounter) (n : ℕ) → ◌≡◌ {A = Option (ContextCounter × ℕ)} (number_in d dev c) (Some (k, n)) → IsNumber d dev c k n
is_number down.Nothing dev c k n e = absurd cc
is_number down.Empty dev c k n e = as_number down.Empty dev c (counter_of dev c NFCntDown) k c.next_n n e (record {
  name = refl;
  origin = refl;
  above = λ m h. h;
  past = λ count frame sound can. past-new_drawn (slots.heard count frame c) can;
})
is_number down.FirstItem dev c k n e = item_number dev c k n c.queue.items refl e

-- ---- the holder whose context a downlink has

slots-woken : (P : Origin → Type 0) (pending : Bool) (s : Slots) → AreSlots P s → AreSlots P (woken pending s)
slots-woken P true s h = slots-activated P s h
slots-woken P false s h = h

other_pending : (k : ContextCounter) (n : ℕ) (c : Context) (o : Option Context) → c.origin ≡ k.origin → Differ (Some c) o → OnSlot (PastIn k n) o
other_pending k n c None same differ = tt
other_pending k n c (Some b) same differ = λ e. absurd (differ (same ∙ sym e))

module _ (P : Origin → Type 0) (pending : Bool) (d : Downlink) (dev : Eui) (s : Slots) (c : Context) (k : ContextCounter) (n : ℕ) where
  pub origin_of : AreSlots P s → (woken pending s).active ≡ Some c → P c.origin
  origin_of h there = subst (λ (o : Option Context). OnSlot (λ (x : Context). P x.origin) o) there (slots-woken P pending s h).active

  pub past-own : (count : ℕ) (frame : List ℕ) → AreSlots P s → (woken pending s).active ≡ Some c → IsTrue (can_answer d c) → IsNumber d dev c k n → PastSlots k n (heard pending count frame d s)
  unfolding heard
  past-own count frame h there can is =
      let w = slots-woken P pending s h in
      let sound : IsSoundContext c = subst IsSoundSlot there w.sound.active in
      record {
        active = subst (λ (o : Option Context). OnSlot (PastIn k n) (option_map (answered d) (option_map (slots.heard count frame) o))) (sym there) (λ e. is.past count frame sound can);
        pending = other_pending k n c (woken pending s).pending is.origin (subst (λ (o : Option Context). Differ o (woken pending s).pending) there w.differ);
      }
