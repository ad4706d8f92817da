-- A field that stands alone, and how a field is read where it stands in a longer structure.
use Rattle.std.proofs.Common.{◌≡◌, ℕ, ◌+◌, ◌^◌, ◌<◌, List, ◌++◌, length, drop, replicate, get_or, refl, sym, ap, ◌∙◌, arith}
use Rattle.std.proofs.lemmas.List.{append_assoc, drop-drop, drop_at, get_or-drop, length-replicate}
use Rattle.std.specs.Prelude.{slice_index}
use Rattle.byteorder.specs.Endian.{little_number}
use Rattle.byteorder.specs.Numbers.{little_number-reads_back}
use Rattle.recon_bytes.specs.Field.{field, with_field}
use Rattle.image_maker.specs.Numbers.{u8, u16, u32, u64, zeros}

-- a field that is put into as many zeros is its bytes
pub put_alone_two : (n : ℕ) → with_field 2 (replicate 2 0) 0 n ≡ u16 n
unfolding with_field u16
put_alone_two n = refl

pub put_alone_four : (n : ℕ) → with_field 4 (replicate 4 0) 0 n ≡ u32 n
unfolding with_field u32
put_alone_four n = refl

pub put_alone_eight : (n : ℕ) → with_field 8 (replicate 8 0) 0 n ≡ u64 n
unfolding with_field u64
put_alone_eight n = refl

pub ruleset fields_alone = (put_alone_two, put_alone_four, put_alone_eight)

pub length-u8 : (n : ℕ) → length (u8 n) ≡ 1
unfolding u8
length-u8 n = refl

pub length-u16 : (n : ℕ) → length (u16 n) ≡ 2
unfolding u16
length-u16 n = refl

pub length-u32 : (n : ℕ) → length (u32 n) ≡ 4
unfolding u32
length-u32 n = refl

pub length-u64 : (n : ℕ) → length (u64 n) ≡ 8
unfolding u64
length-u64 n = refl

pub length-zeros : (n : ℕ) → length (zeros n) ≡ n
unfolding zeros
length-zeros n = length-replicate n 0

pub ruleset field_lengths = (length-u8, length-u16, length-u32, length-u64, length-zeros)

-- what is left behind the next part of a structure
pub behind : (bytes part rest : List ℕ) (at n next : ℕ) → drop at bytes ≡ part ++ rest → length part ≡ n → at + n ≡ next → drop next bytes ≡ rest
behind bytes part rest at n next here long is =
    let joined : drop n (drop at bytes) ≡ rest = ap (drop n) here ∙ drop_at part rest n long in
    ap (λ k. drop k bytes) (sym is) ∙ sym (drop-drop n at bytes) ∙ joined

-- the number in a field that stands next
pub reads_u64 : (bytes rest : List ℕ) (at n : ℕ) → drop at bytes ≡ u64 n ++ rest → n < 2 ^ 64 → field 8 bytes at ≡ n
unfolding field u64
reads_u64 bytes rest at n here small = ap (little_number 8) here ∙ little_number-reads_back 8 n rest small

pub reads_u32 : (bytes rest : List ℕ) (at n : ℕ) → drop at bytes ≡ u32 n ++ rest → n < 2 ^ 32 → field 4 bytes at ≡ n
unfolding field u32
reads_u32 bytes rest at n here small = ap (little_number 4) here ∙ little_number-reads_back 4 n rest small

pub reads_u8 : (bytes rest : List ℕ) (at n : ℕ) → drop at bytes ≡ u8 n ++ rest → slice_index bytes at ≡ n
unfolding u8
reads_u8 bytes rest at n here =
    let same : at ≡ at + 0 = omega arith in
    ap (λ k. get_or bytes k 0) same ∙ sym (get_or-drop at bytes 0 0) ∙ ap (λ l. get_or l 0 0) here

-- three parts behind another
pub three_joined : (s a b c : List ℕ) → s ++ a ++ b ++ c ≡ s ++ (a ++ b ++ c)
three_joined s a b c = ap (λ t. t ++ c) (append_assoc s a b) ∙ append_assoc s (a ++ b) c

pub ruleset length_zeros = (length-zeros)
