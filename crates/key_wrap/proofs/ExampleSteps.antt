-- The RFC's example (4.1), step by step.
use Rattle.std.proofs.Common.{◌≡◌, ℕ, suc, [], ◌∷◌, refl, ap, ◌∙◌}
use Rattle.aes_cmac.specs.Field.{times_bits, power, first_inverse, inverse, of_bits, affine, sub_byte}
use Rattle.aes_cmac.specs.Aes.{xor16, sub_bytes, shift_rows, mix_columns, word, key_change, next_word, expanded, round_key, rounds, encrypted}
use Rattle.key_wrap.specs.Wrap.{Registers, xor_step, start, step, after, registers_text, wrapped_key}
use Rattle.key_wrap.specs.Example.{kek, key, IsExample}

abbrev s1 : Registers
s1 = record {
  a = 0xf4 ∷ 0x74 ∷ 0x00 ∷ 0x52 ∷ 0xe8 ∷ 0x2a ∷ 0x22 ∷ 0x50 ∷ [];
  r1 = 0x88 ∷ 0x99 ∷ 0xaa ∷ 0xbb ∷ 0xcc ∷ 0xdd ∷ 0xee ∷ 0xff ∷ [];
  r2 = 0x74 ∷ 0xce ∷ 0x86 ∷ 0xfb ∷ 0xd7 ∷ 0xb8 ∷ 0x05 ∷ 0xe7 ∷ [];
}

abbrev s2 : Registers
s2 = record {
  a = 0x06 ∷ 0xba ∷ 0x4e ∷ 0xbd ∷ 0xe7 ∷ 0x76 ∷ 0x8d ∷ 0x09 ∷ [];
  r1 = 0x74 ∷ 0xce ∷ 0x86 ∷ 0xfb ∷ 0xd7 ∷ 0xb8 ∷ 0x05 ∷ 0xe7 ∷ [];
  r2 = 0xd1 ∷ 0x32 ∷ 0xee ∷ 0x38 ∷ 0x14 ∷ 0x7e ∷ 0x76 ∷ 0xf8 ∷ [];
}

abbrev s3 : Registers
s3 = record {
  a = 0xfc ∷ 0x96 ∷ 0x76 ∷ 0x27 ∷ 0xbe ∷ 0x93 ∷ 0x72 ∷ 0x0b ∷ [];
  r1 = 0xd1 ∷ 0x32 ∷ 0xee ∷ 0x38 ∷ 0x14 ∷ 0x7e ∷ 0x76 ∷ 0xf8 ∷ [];
  r2 = 0xfe ∷ 0x6e ∷ 0x8d ∷ 0x67 ∷ 0x9c ∷ 0x5d ∷ 0x34 ∷ 0x60 ∷ [];
}

abbrev s4 : Registers
s4 = record {
  a = 0x58 ∷ 0x96 ∷ 0xea ∷ 0x90 ∷ 0x28 ∷ 0xee ∷ 0x20 ∷ 0x3f ∷ [];
  r1 = 0xfe ∷ 0x6e ∷ 0x8d ∷ 0x67 ∷ 0x9c ∷ 0x5d ∷ 0x34 ∷ 0x60 ∷ [];
  r2 = 0x07 ∷ 0xb2 ∷ 0xbd ∷ 0x97 ∷ 0x3e ∷ 0x36 ∷ 0xa6 ∷ 0xfc ∷ [];
}

abbrev s5 : Registers
s5 = record {
  a = 0x93 ∷ 0xae ∷ 0xa7 ∷ 0x1b ∷ 0x25 ∷ 0x8d ∷ 0x90 ∷ 0xc6 ∷ [];
  r1 = 0x07 ∷ 0xb2 ∷ 0xbd ∷ 0x97 ∷ 0x3e ∷ 0x36 ∷ 0xa6 ∷ 0xfc ∷ [];
  r2 = 0x25 ∷ 0xf5 ∷ 0xa3 ∷ 0xad ∷ 0xc2 ∷ 0x19 ∷ 0x54 ∷ 0x01 ∷ [];
}

abbrev s6 : Registers
s6 = record {
  a = 0xe3 ∷ 0xee ∷ 0x98 ∷ 0x63 ∷ 0x44 ∷ 0xd8 ∷ 0x78 ∷ 0xf1 ∷ [];
  r1 = 0x25 ∷ 0xf5 ∷ 0xa3 ∷ 0xad ∷ 0xc2 ∷ 0x19 ∷ 0x54 ∷ 0x01 ∷ [];
  r2 = 0xf1 ∷ 0x48 ∷ 0x63 ∷ 0xbb ∷ 0x1e ∷ 0x9c ∷ 0xa9 ∷ 0x0a ∷ [];
}

abbrev s7 : Registers
s7 = record {
  a = 0x2b ∷ 0xfc ∷ 0x21 ∷ 0xb2 ∷ 0xc2 ∷ 0x0e ∷ 0x40 ∷ 0x01 ∷ [];
  r1 = 0xf1 ∷ 0x48 ∷ 0x63 ∷ 0xbb ∷ 0x1e ∷ 0x9c ∷ 0xa9 ∷ 0x0a ∷ [];
  r2 = 0xb5 ∷ 0x56 ∷ 0xd3 ∷ 0x5e ∷ 0xd8 ∷ 0xce ∷ 0xf0 ∷ 0x52 ∷ [];
}

abbrev s8 : Registers
s8 = record {
  a = 0x4b ∷ 0xe8 ∷ 0xce ∷ 0x99 ∷ 0xc0 ∷ 0xa4 ∷ 0x3a ∷ 0x75 ∷ [];
  r1 = 0xb5 ∷ 0x56 ∷ 0xd3 ∷ 0x5e ∷ 0xd8 ∷ 0xce ∷ 0xf0 ∷ 0x52 ∷ [];
  r2 = 0x64 ∷ 0xba ∷ 0xe5 ∷ 0x81 ∷ 0x8d ∷ 0x05 ∷ 0x70 ∷ 0xbb ∷ [];
}

abbrev s9 : Registers
s9 = record {
  a = 0xeb ∷ 0xe1 ∷ 0xce ∷ 0x91 ∷ 0x06 ∷ 0x70 ∷ 0x24 ∷ 0xfa ∷ [];
  r1 = 0x64 ∷ 0xba ∷ 0xe5 ∷ 0x81 ∷ 0x8d ∷ 0x05 ∷ 0x70 ∷ 0xbb ∷ [];
  r2 = 0xbe ∷ 0x11 ∷ 0x4b ∷ 0x34 ∷ 0x3e ∷ 0xb0 ∷ 0x09 ∷ 0x81 ∷ [];
}

abbrev s10 : Registers
s10 = record {
  a = 0x5a ∷ 0x9c ∷ 0x7b ∷ 0x1f ∷ 0x5b ∷ 0x1c ∷ 0x3b ∷ 0x4c ∷ [];
  r1 = 0xbe ∷ 0x11 ∷ 0x4b ∷ 0x34 ∷ 0x3e ∷ 0xb0 ∷ 0x09 ∷ 0x81 ∷ [];
  r2 = 0x4f ∷ 0xd3 ∷ 0xd2 ∷ 0xb7 ∷ 0xd7 ∷ 0x4f ∷ 0xbb ∷ 0x42 ∷ [];
}

abbrev s11 : Registers
s11 = record {
  a = 0x93 ∷ 0xb7 ∷ 0x19 ∷ 0x67 ∷ 0xee ∷ 0xd4 ∷ 0x1f ∷ 0xf7 ∷ [];
  r1 = 0x4f ∷ 0xd3 ∷ 0xd2 ∷ 0xb7 ∷ 0xd7 ∷ 0x4f ∷ 0xbb ∷ 0x42 ∷ [];
  r2 = 0xae ∷ 0xf3 ∷ 0x4b ∷ 0xd8 ∷ 0xfb ∷ 0x5a ∷ 0x7b ∷ 0x82 ∷ [];
}

abbrev s12 : Registers
s12 = record {
  a = 0x1f ∷ 0xa6 ∷ 0x8b ∷ 0x0a ∷ 0x81 ∷ 0x12 ∷ 0xb4 ∷ 0x47 ∷ [];
  r1 = 0xae ∷ 0xf3 ∷ 0x4b ∷ 0xd8 ∷ 0xfb ∷ 0x5a ∷ 0x7b ∷ 0x82 ∷ [];
  r2 = 0x9d ∷ 0x3e ∷ 0x86 ∷ 0x23 ∷ 0x71 ∷ 0xd2 ∷ 0xcf ∷ 0xe5 ∷ [];
}

step_1 : step kek 1 (start key) ≡ s1
unfolding times_bits power first_inverse inverse of_bits affine sub_byte xor16 sub_bytes shift_rows mix_columns word key_change next_word expanded round_key rounds encrypted xor_step step
step_1 = refl

step_2 : step kek 2 s1 ≡ s2
unfolding times_bits power first_inverse inverse of_bits affine sub_byte xor16 sub_bytes shift_rows mix_columns word key_change next_word expanded round_key rounds encrypted xor_step step
step_2 = refl

step_3 : step kek 3 s2 ≡ s3
unfolding times_bits power first_inverse inverse of_bits affine sub_byte xor16 sub_bytes shift_rows mix_columns word key_change next_word expanded round_key rounds encrypted xor_step step
step_3 = refl

step_4 : step kek 4 s3 ≡ s4
unfolding times_bits power first_inverse inverse of_bits affine sub_byte xor16 sub_bytes shift_rows mix_columns word key_change next_word expanded round_key rounds encrypted xor_step step
step_4 = refl

step_5 : step kek 5 s4 ≡ s5
unfolding times_bits power first_inverse inverse of_bits affine sub_byte xor16 sub_bytes shift_rows mix_columns word key_change next_word expanded round_key rounds encrypted xor_step step
step_5 = refl

step_6 : step kek 6 s5 ≡ s6
unfolding times_bits power first_inverse inverse of_bits affine sub_byte xor16 sub_bytes shift_rows mix_columns word key_change next_word expanded round_key rounds encrypted xor_step step
step_6 = refl

step_7 : step kek 7 s6 ≡ s7
unfolding times_bits power first_inverse inverse of_bits affine sub_byte xor16 sub_bytes shift_rows mix_columns word key_change next_word expanded round_key rounds encrypted xor_step step
step_7 = refl

step_8 : step kek 8 s7 ≡ s8
unfolding times_bits power first_inverse inverse of_bits affine sub_byte xor16 sub_bytes shift_rows mix_columns word key_change next_word expanded round_key rounds encrypted xor_step step
step_8 = refl

step_9 : step kek 9 s8 ≡ s9
unfolding times_bits power first_inverse inverse of_bits affine sub_byte xor16 sub_bytes shift_rows mix_columns word key_change next_word expanded round_key rounds encrypted xor_step step
step_9 = refl

step_10 : step kek 10 s9 ≡ s10
unfolding times_bits power first_inverse inverse of_bits affine sub_byte xor16 sub_bytes shift_rows mix_columns word key_change next_word expanded round_key rounds encrypted xor_step step
step_10 = refl

step_11 : step kek 11 s10 ≡ s11
unfolding times_bits power first_inverse inverse of_bits affine sub_byte xor16 sub_bytes shift_rows mix_columns word key_change next_word expanded round_key rounds encrypted xor_step step
step_11 = refl

step_12 : step kek 12 s11 ≡ s12
unfolding times_bits power first_inverse inverse of_bits affine sub_byte xor16 sub_bytes shift_rows mix_columns word key_change next_word expanded round_key rounds encrypted xor_step step
step_12 = refl

none : after kek (start key) 0 ≡ start key
unfolding after
none = refl

more : (s x y : Registers) (t : ℕ) → after kek s t ≡ x → step kek (suc t) x ≡ y → after kek s (suc t) ≡ y
unfolding after
more s x y t e f = ap (λ (r : Registers). step kek (suc t) r) e ∙ f

after_1 : after kek (start key) 1 ≡ s1
after_1 = more (start key) (start key) s1 0 none step_1

after_2 : after kek (start key) 2 ≡ s2
after_2 = more (start key) s1 s2 1 after_1 step_2

after_3 : after kek (start key) 3 ≡ s3
after_3 = more (start key) s2 s3 2 after_2 step_3

after_4 : after kek (start key) 4 ≡ s4
after_4 = more (start key) s3 s4 3 after_3 step_4

after_5 : after kek (start key) 5 ≡ s5
after_5 = more (start key) s4 s5 4 after_4 step_5

after_6 : after kek (start key) 6 ≡ s6
after_6 = more (start key) s5 s6 5 after_5 step_6

after_7 : after kek (start key) 7 ≡ s7
after_7 = more (start key) s6 s7 6 after_6 step_7

after_8 : after kek (start key) 8 ≡ s8
after_8 = more (start key) s7 s8 7 after_7 step_8

after_9 : after kek (start key) 9 ≡ s9
after_9 = more (start key) s8 s9 8 after_8 step_9

after_10 : after kek (start key) 10 ≡ s10
after_10 = more (start key) s9 s10 9 after_9 step_10

after_11 : after kek (start key) 11 ≡ s11
after_11 = more (start key) s10 s11 10 after_10 step_11

after_12 : after kek (start key) 12 ≡ s12
after_12 = more (start key) s11 s12 11 after_11 step_12

pub example : IsExample
unfolding wrapped_key
example = ap (λ (s : Registers). registers_text s) after_12
