-- CRC-32C and the name hash, over bytes, by the shift register of 32 bits that both are.
use Rattle.std.specs.Prelude.{ℕ, ◌==◌, ◌/◌, ◌%◌, List, [], ◌∷◌, bit_xor, if◌then◌else◌}
use Rattle.std.specs.Int.{w32, bit_not}

-- one step of the register: half of x, rounded down, with the polynomial 0x82F63B78 where x is odd
unfoldable pub halved_step : ℕ → ℕ
halved_step x = if x % 2 == 1 then bit_xor (x / 2) 0x82F63B78 else x / 2

-- eight steps, one for each bit of a byte
unfoldable pub eight_steps : ℕ → ℕ
eight_steps x =
    halved_step (halved_step (halved_step (halved_step (halved_step (halved_step (halved_step (halved_step x)))))))

-- the register after the bytes, where it was r before them: each byte goes in by xor, and eight steps follow
unfoldable pub register_after : ℕ → List ℕ → ℕ
register_after r [] = r
register_after r (b ∷ s) = register_after (eight_steps (bit_xor r b)) s

-- CRC-32C of the bytes: the register starts at all ones, and its complement in 32 bits is the sum
unfoldable pub crc32c_of : List ℕ → ℕ
crc32c_of s = bit_not w32 (register_after 0xFFFFFFFF s)

-- the name hash of the bytes: the register starts at 0xFFFFFFFE, and stands as it ends
unfoldable pub name_hash_of : List ℕ → ℕ
name_hash_of s = register_after 0xFFFFFFFE s
