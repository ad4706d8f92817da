-- Laws of the register that callers cite.
use Rattle.std.proofs.Common.{◌≡◌, ℕ, suc, ◌+◌, ◌/◌, ◌%◌, ◌^◌, ◌≤◌, ◌<◌, ◌==◌, true, false, cond, List, [], ◌∷◌, ◌++◌, length, get_or, drop, refl, sym, ap, ◌∙◌, drop-cons, add-one, lit<}
use Rattle.std.proofs.Math.Nat.{div-le_self, sub-le, lt_of_le_of_lt, lt_trans}
use Rattle.std.proofs.Math.Seq.{drop-append_seam}
use Rattle.std.proofs.lemmas.List.{drop_all}
use Rattle.std.proofs.lemmas.Nat.{xor_lt}
use Rattle.std.specs.Prelude.{bit_xor}
use Rattle.recon_crc.specs.Checksum.{halved_step, eight_steps, register_after, crc32c_of, name_hash_of}

-- no byte leaves the register as it is
pub register_after_none : (r : ℕ) → register_after r [] ≡ r
unfolding register_after
register_after_none r = refl

-- the first byte goes in first
pub register_after_byte : (r b : ℕ) (s : List ℕ) → register_after r (b ∷ s) ≡ register_after (eight_steps (bit_xor r b)) s
unfolding register_after
register_after_byte r b s = refl

-- the register over a joined list goes on where it stood after the first part
pub register_after_joined : (r : ℕ) (s t : List ℕ) → register_after r (s ++ t) ≡ register_after (register_after r s) t
unfolding register_after
register_after_joined r [] t = refl
register_after_joined r (b ∷ s) t = register_after_joined (eight_steps (bit_xor r b)) s t

-- the byte at a place goes in before those behind it
pub register_after_place : (r i : ℕ) (s : List ℕ) → i < length s →
    register_after r (drop i s) ≡ register_after (eight_steps (bit_xor r (get_or s i 0))) (drop (i + 1) s)
register_after_place r i s within =
    ap (register_after r) (drop-cons s i 0 within) ∙ register_after_byte r (get_or s i 0) (drop (suc i) s)
    ∙ ap (λ j. register_after (eight_steps (bit_xor r (get_or s i 0))) (drop j s)) (sym (add-one i))

-- past the last byte nothing goes in
pub register_after_all : (r i : ℕ) (s : List ℕ) → length s ≤ i → register_after r (drop i s) ≡ r
register_after_all r i s past = ap (register_after r) (drop_all i s past) ∙ register_after_none r

-- what stands before place 32 does not count: the sum from there on is the rest's alone
pub crc32c_past_first_32 : (a b rest : List ℕ) → length a ≡ 32 → length b ≡ 32 → crc32c_of (drop 32 (a ++ rest)) ≡ crc32c_of (drop 32 (b ++ rest))
crc32c_past_first_32 a b rest long_a long_b = ap crc32c_of (past a rest long_a ∙ sym (past b rest long_b))
  where
    past : (a rest : List ℕ) → length a ≡ 32 → drop 32 (a ++ rest) ≡ rest
    past a rest long = ap (λ n. drop n (a ++ rest)) (sym long) ∙ drop-append_seam a rest

-- a step keeps the register within 32 bits
halved_step_fits : (x : ℕ) → x < 2 ^ 32 → halved_step x < 2 ^ 32
unfolding halved_step
halved_step_fits x fits =
    let half : x / 2 < 2 ^ 32 = lt_of_le_of_lt (div-le_self x 2) fits in
    elim (x % 2 == 1) as (λ odd. cond odd (bit_xor (x / 2) 0x82F63B78) (x / 2) < 2 ^ 32) [
      | true ↦ xor_lt 32 (x / 2) 0x82F63B78 half (lit< tt)
      | false ↦ half
    ]

eight_steps_fits : (x : ℕ) → x < 2 ^ 32 → eight_steps x < 2 ^ 32
unfolding eight_steps
eight_steps_fits x fits =
    halved_step_fits _ (halved_step_fits _ (halved_step_fits _ (halved_step_fits _ (halved_step_fits _ (halved_step_fits _ (halved_step_fits _ (halved_step_fits x fits)))))))

-- bytes keep the register within 32 bits
pub register_after_fits : (r : ℕ) (s : List ℕ) → r < 2 ^ 32 → ((i : ℕ) → get_or s i 0 < 256) → register_after r s < 2 ^ 32
unfolding register_after
register_after_fits r [] fits bytes = fits
register_after_fits r (b ∷ s) fits bytes =
    register_after_fits (eight_steps (bit_xor r b)) s
    (eight_steps_fits (bit_xor r b) (xor_lt 32 r b fits (lt_trans (bytes 0) (lit< tt)))) (λ i. bytes (suc i))

-- a CRC-32C is a number of 32 bits
pub crc32c_of_fits : (s : List ℕ) → crc32c_of s < 2 ^ 32
unfolding crc32c_of
crc32c_of_fits s = lt_of_le_of_lt (sub-le 0xFFFFFFFF (register_after 0xFFFFFFFF s)) (lit< tt)

-- and so is the name hash of bytes
pub name_hash_of_fits : (s : List ℕ) → ((i : ℕ) → get_or s i 0 < 256) → name_hash_of s < 2 ^ 32
unfolding name_hash_of
name_hash_of_fits s bytes = register_after_fits 0xFFFFFFFE s (lit< tt) bytes
