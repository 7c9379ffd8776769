-- Which networks share an address.
use Rattle.std.proofs.Common.{◌≡◌, ℕ, zero, suc, ◌+◌, ◌*◌, ◌/◌, ◌^◌, ◌<◌, cond, ltb, Some, None, sym, ap, subst, ◌∙◌, arith, lt-ltb, add-zero}
use Rattle.std.proofs.lemmas.Bool.{cond-true}
use Rattle.std.proofs.lemmas.Bool.Decides.{nat_tests}
use Rattle.std.proofs.lemmas.Nat.{div-mul-add, pow_pos}
use Rattle.wire_ids.specs.Addresses.{HasSameIdentifier, SharesAnAddress, address_of, base_of, free_bits, id_of, nwk_bits, prefix, room_of, type_of}

-- the type that an address shows
abbrev kind_at : ℕ → ℕ
kind_at addr =
    cond (ltb addr 0x80000000) 0
    (cond (ltb addr 0xc0000000) 1
    (cond (ltb addr 0xe0000000) 2
    (cond (ltb addr 0xf0000000) 3
    (cond (ltb addr 0xf8000000) 4
    (cond (ltb addr 0xfc000000) 5
    (cond (ltb addr 0xfe000000) 6 7))))))

kind_of_address : (t id n addr : ℕ) → t < 8 → id < 2 ^ nwk_bits t → n < 2 ^ free_bits t
    → prefix t + id * 2 ^ free_bits t + n ≡ addr → kind_at addr ≡ t
kind_of_address zero id n addr h hid hn e = grind (arith, nat_tests)
kind_of_address (suc zero) id n addr h hid hn e = grind (arith, nat_tests)
kind_of_address (suc (suc zero)) id n addr h hid hn e = grind (arith, nat_tests)
kind_of_address (suc (suc (suc zero))) id n addr h hid hn e = grind (arith, nat_tests)
kind_of_address (suc (suc (suc (suc zero)))) id n addr h hid hn e = grind (arith, nat_tests)
kind_of_address (suc (suc (suc (suc (suc zero))))) id n addr h hid hn e = grind (arith, nat_tests)
kind_of_address (suc (suc (suc (suc (suc (suc zero)))))) id n addr h hid hn e = grind (arith, nat_tests)
kind_of_address (suc (suc (suc (suc (suc (suc (suc zero))))))) id n addr h hid hn e = grind (arith, nat_tests)
kind_of_address (suc (suc (suc (suc (suc (suc (suc (suc t)))))))) id n addr h hid hn e = absurd (omega arith)

same_id : (room a b n m : ℕ) → n < room → m < room → a * room + n ≡ b * room + m → a ≡ b
same_id room a b n m hn hm e = sym (div-mul-add a room n hn) ∙ ap (λ x. x / room) e ∙ div-mul-add b room m hm

at_number : (base room n addr : ℕ) → cond (ltb n room) (Some (base + n)) None ≡ Some addr → (n < room) × (base + n ≡ addr)
at_number base room n addr e = grind (arith, nat_tests)

kind_of_match : (net n addr : ℕ) → net < 2 ^ 24 → address_of net n ≡ Some addr → kind_at addr ≡ type_of net
kind_of_match net n addr h e =
    let at = at_number (base_of net) (room_of net) n addr e in
    let kind : type_of net < 8 = omega arith in
    let some = pow_pos (nwk_bits (type_of net)) in
    let id : id_of net < 2 ^ nwk_bits (type_of net) = omega arith in
    kind_of_address (type_of net) (id_of net) n addr kind id at.0 at.1

same_id_at : (kind other ia ib n m addr : ℕ) → kind ≡ other
    → n < 2 ^ free_bits kind → prefix kind + ia * 2 ^ free_bits kind + n ≡ addr
    → m < 2 ^ free_bits other → prefix other + ib * 2 ^ free_bits other + m ≡ addr → ia ≡ ib
same_id_at kind other ia ib n m addr same hn en hm em =
    let P : ℕ → Type 0 = λ t. m < 2 ^ free_bits t → prefix t + ib * 2 ^ free_bits t + m ≡ addr → ia ≡ ib in
    subst P same (λ h e. same_id (2 ^ free_bits kind) ia ib n m hn h (omega arith)) hm em

pub same_from_shared : (a b : ℕ) → a < 2 ^ 24 → b < 2 ^ 24 → SharesAnAddress a b → HasSameIdentifier a b
same_from_shared a b ha hb s =
    let same : type_of a ≡ type_of b =
    sym (kind_of_match a s.1.0 s.0 ha s.1.1) ∙ kind_of_match b s.2.0 s.0 hb s.2.1 in
    let first = at_number (base_of a) (room_of a) s.1.0 s.0 s.1.1 in
    let second = at_number (base_of b) (room_of b) s.2.0 s.0 s.2.1 in
    (same, same_id_at (type_of a) (type_of b) (id_of a) (id_of b) s.1.0 s.2.0 s.0 same first.0 first.1 second.0 second.1)

first_address : (base room : ℕ) → 0 < room → cond (ltb 0 room) (Some (base + 0)) None ≡ Some base
first_address base room h = cond-true _ _ _ (lt-ltb _ _ h) ∙ ap Some (add-zero base)

pub shared_from_same : (a b : ℕ) → HasSameIdentifier a b → SharesAnAddress a b
shared_from_same a b same =
    let base : base_of b ≡ base_of a = let e = same.0 in let f = same.1 in cc in (
      base_of a,
      (0, first_address (base_of a) (room_of a) (pow_pos (free_bits (type_of a)))),
      (0, first_address (base_of b) (room_of b) (pow_pos (free_bits (type_of b))) ∙ ap Some base),
    )
