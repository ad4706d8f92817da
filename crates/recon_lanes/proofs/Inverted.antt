-- Where the first four bytes are inverted, the register may start at 0 for all ones.
use Rattle.std.proofs.Common.{◌≡◌, ℕ, ◌≤◌, List, [], ◌∷◌, length, get_or, refl, sym, ap, ◌∙◌, arith}
use Rattle.std.proofs.lemmas.Nat.{xor_comm}
use Rattle.std.specs.Int.{w32, bit_not}
use Rattle.std.specs.Int.Bits.{bit_xor, xor_assoc, xor_self, xor_zero_r}
use Rattle.recon_crc.specs.Checksum.{halved_step, eight_steps, register_after, crc32c_of}
use Rattle.recon_crc.proofs.Slicing.{eight_steps-xor}
use Rattle.recon_crc.specs.ChecksumLaws.{register_after_byte}
use Rattle.recon_lanes.specs.Folded.{folded, laid, inverted}
use Rattle.recon_lanes.proofs.Folds.{length-laid}

-- ones in the register, over a byte, are ones over the register of the inverted byte, eight fewer
ones-byte : (ones high fewer e b : ℕ) → ones ≡ bit_xor high 255 → eight_steps high ≡ fewer
    → eight_steps (bit_xor (bit_xor ones e) b) ≡ bit_xor fewer (eight_steps (bit_xor e (bit_xor b 255)))
ones-byte ones high fewer e b are shifted =
    let moved : bit_xor 255 (bit_xor e b) ≡ bit_xor e (bit_xor b 255) = xor_comm 255 (bit_xor e b) ∙ xor_assoc e b 255 in
    ap eight_steps (xor_assoc ones e b ∙ ap (λ z. bit_xor z (bit_xor e b)) are ∙ xor_assoc high 255 (bit_xor e b) ∙ ap (bit_xor high) moved)
    ∙ eight_steps-xor high (bit_xor e (bit_xor b 255))
    ∙ ap (λ z. bit_xor z (eight_steps (bit_xor e (bit_xor b 255)))) shifted

shifted-1 : eight_steps 0xFFFFFF00 ≡ 0xFFFFFF
unfolding eight_steps halved_step
shifted-1 = refl

shifted-2 : eight_steps 0xFFFF00 ≡ 0xFFFF
unfolding eight_steps halved_step
shifted-2 = refl

shifted-3 : eight_steps 0xFF00 ≡ 0xFF
unfolding eight_steps halved_step
shifted-3 = refl

shifted-4 : eight_steps 0 ≡ 0
unfolding eight_steps halved_step
shifted-4 = refl

pub from_ones : (bytes : List ℕ) → 4 ≤ length bytes → register_after 0 (inverted bytes) ≡ register_after 0xFFFFFFFF bytes
unfolding inverted
from_ones [] four = absurd (omega arith)
from_ones (a ∷ []) four = absurd (omega arith)
from_ones (a ∷ b ∷ []) four = absurd (omega arith)
from_ones (a ∷ b ∷ c ∷ []) four = absurd (omega arith)
from_ones (a ∷ b ∷ c ∷ d ∷ s) four =
    let e1 : ℕ = eight_steps (bit_xor 0 (bit_xor a 255)) in
    let e2 : ℕ = eight_steps (bit_xor e1 (bit_xor b 255)) in
    let e3 : ℕ = eight_steps (bit_xor e2 (bit_xor c 255)) in
    let e4 : ℕ = eight_steps (bit_xor e3 (bit_xor d 255)) in
    register_after_byte 0 (bit_xor a 255) (bit_xor b 255 ∷ bit_xor c 255 ∷ bit_xor d 255 ∷ s)
    ∙ register_after_byte e1 (bit_xor b 255) (bit_xor c 255 ∷ bit_xor d 255 ∷ s)
    ∙ register_after_byte e2 (bit_xor c 255) (bit_xor d 255 ∷ s)
    ∙ register_after_byte e3 (bit_xor d 255) s
    ∙ sym (register_after_byte 0xFFFFFFFF a (b ∷ c ∷ d ∷ s)
    ∙ ap (λ z. register_after (eight_steps (bit_xor z a)) (b ∷ c ∷ d ∷ s)) (sym (xor_zero_r 0xFFFFFFFF))
    ∙ ap (λ z. register_after z (b ∷ c ∷ d ∷ s)) (ones-byte 0xFFFFFFFF 0xFFFFFF00 0xFFFFFF 0 a refl shifted-1)
    ∙ register_after_byte (bit_xor 0xFFFFFF e1) b (c ∷ d ∷ s)
    ∙ ap (λ z. register_after z (c ∷ d ∷ s)) (ones-byte 0xFFFFFF 0xFFFF00 0xFFFF e1 b refl shifted-2)
    ∙ register_after_byte (bit_xor 0xFFFF e2) c (d ∷ s)
    ∙ ap (λ z. register_after z (d ∷ s)) (ones-byte 0xFFFF 0xFF00 0xFF e2 c refl shifted-3)
    ∙ register_after_byte (bit_xor 0xFF e3) d s
    ∙ ap (λ z. register_after z s) (ones-byte 0xFF 0 0 e3 d refl shifted-4))

pub length-inverted : (bytes : List ℕ) → length (inverted bytes) ≡ length bytes
unfolding inverted
length-inverted [] = refl
length-inverted (a ∷ []) = refl
length-inverted (a ∷ b ∷ []) = refl
length-inverted (a ∷ b ∷ c ∷ []) = refl
length-inverted (a ∷ b ∷ c ∷ d ∷ s) = refl

-- inverted twice
pub twice-inverted : (bytes : List ℕ) → 4 ≤ length bytes → inverted (inverted bytes) ≡ bytes
unfolding inverted
twice-inverted [] four = absurd (omega arith)
twice-inverted (a ∷ []) four = absurd (omega arith)
twice-inverted (a ∷ b ∷ []) four = absurd (omega arith)
twice-inverted (a ∷ b ∷ c ∷ []) four = absurd (omega arith)
twice-inverted (a ∷ b ∷ c ∷ d ∷ s) four = λ i. back a i ∷ back b i ∷ back c i ∷ back d i ∷ s
  where
    back : (x : ℕ) → bit_xor (bit_xor x 255) 255 ≡ x
    back x = xor_assoc x 255 255 ∙ ap (bit_xor x) (xor_self 255) ∙ xor_zero_r x

abbrev five : List ℕ → ℕ → ℕ
five before byte = bit_xor (bit_xor (bit_xor (bit_xor byte (get_or before 288 0)) (get_or before 108 0)) (get_or before 78 0)) (get_or before 28 0)

-- to invert what stands before bytes inverts the bytes
pub laid-inverted : (before bytes : List ℕ) → 4 ≤ length before → 4 ≤ length bytes → laid (inverted before) bytes ≡ inverted (laid before bytes)
unfolding laid inverted folded
laid-inverted [] bytes p q = absurd (omega arith)
laid-inverted (a ∷ []) bytes p q = absurd (omega arith)
laid-inverted (a ∷ b ∷ []) bytes p q = absurd (omega arith)
laid-inverted (a ∷ b ∷ c ∷ []) bytes p q = absurd (omega arith)
laid-inverted (a ∷ b ∷ c ∷ d ∷ before) [] p q = absurd (omega arith)
laid-inverted (a ∷ b ∷ c ∷ d ∷ before) (w ∷ []) p q = absurd (omega arith)
laid-inverted (a ∷ b ∷ c ∷ d ∷ before) (w ∷ x ∷ []) p q = absurd (omega arith)
laid-inverted (a ∷ b ∷ c ∷ d ∷ before) (w ∷ x ∷ y ∷ []) p q = absurd (omega arith)
laid-inverted (a ∷ b ∷ c ∷ d ∷ before) (w ∷ x ∷ y ∷ z ∷ bytes) p q =
    λ i. last (five (a ∷ b ∷ c ∷ d ∷ before) w) a i ∷ last (five (b ∷ c ∷ d ∷ before) x) b i ∷ last (five (c ∷ d ∷ before) y) c i ∷ last (five (d ∷ before) z) d i ∷ laid before bytes
  where
    last : (sum x : ℕ) → bit_xor sum (bit_xor x 255) ≡ bit_xor (bit_xor sum x) 255
    last sum x = sym (xor_assoc sum x 255)

-- the sum of what is left, where what stands before it was inverted
pub sum-inverted : (before bytes : List ℕ) (all : List ℕ) → 4 ≤ length before → 4 ≤ length bytes
    → register_after 0 (laid before bytes) ≡ register_after 0xFFFFFFFF all → crc32c_of (laid (inverted before) bytes) ≡ crc32c_of all
unfolding crc32c_of
sum-inverted before bytes all p q same =
    let four : 4 ≤ length (inverted (laid before bytes)) = omega (arith, q, length-inverted (laid before bytes), length-laid before bytes) in
    ap (bit_not w32) (ap (register_after 0xFFFFFFFF) (laid-inverted before bytes p q)
    ∙ sym (from_ones (inverted (laid before bytes)) four)
    ∙ ap (register_after 0) (twice-inverted (laid before bytes) (omega (arith, q, length-laid before bytes)))
    ∙ same)
