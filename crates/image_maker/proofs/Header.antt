-- What the reader finds in the header of a made block.
use Rattle.std.proofs.Common.{◌≡◌, ℕ, ◌+◌, ◌^◌, ◌<◌, List, ◌++◌, length, take, drop, refl, sym, ap, ◌∙◌, arith}
use Rattle.std.proofs.lemmas.List.{append_assoc, drop_at, take_at, length-append}
use Rattle.std.specs.Prelude.{slice_index}
use Rattle.image_maker.proofs.Sizes.{length_chunk_tree}
use Rattle.recon_bytes.specs.Field.{field}
use Rattle.recon_crc.specs.Checksum.{crc32c_of}
use Rattle.recon_crc.specs.ChecksumLaws.{crc32c_of_fits}
use Rattle.verdict.specs.Image.{range}
use Rattle.image_maker.specs.Numbers.{u8, u32, u64, zeros}
use Rattle.image_maker.specs.Blocks.{header_bytes, with_sum}
use Rattle.image_maker.specs.Ids.{chunk_tree_uuid}
use Rattle.image_maker.specs.declared.block.BlockHeader.{BlockHeader}
use Rattle.image_maker.proofs.Numbers.{behind, reads_u8, reads_u32, reads_u64, length-u8, length-u32, length-u64, length-zeros}

-- a header whose fields have their sizes
pub record IsHeader (h : BlockHeader) : Type 0 where
  pub fsid : length h.fsid ≡ 16
  pub address : h.address < 2 ^ 64
  pub owner : h.owner < 2 ^ 64
  pub generation : h.generation < 2 ^ 64

-- a block of which the reader finds this header and number of entries, with these bytes behind it
pub record HeaderSays (h : BlockHeader) (number : ℕ) (rest bytes : List ℕ) : Type 0 where
  pub sum : crc32c_of (drop 0x20 bytes) ≡ field 4 bytes 0
  pub fsid : range 0x20 16 bytes ≡ h.fsid
  pub address : field 8 bytes 0x30 ≡ h.address
  pub flags : slice_index bytes 0x38 ≡ 1
  pub generation : field 8 bytes 0x50 ≡ h.generation
  pub owner : field 8 bytes 0x58 ≡ h.owner
  pub count : field 4 bytes 0x60 ≡ number
  pub level : slice_index bytes 0x64 ≡ h.level
  pub body : drop 101 bytes ≡ rest

header_right : (h : BlockHeader) (count : ℕ) (body : List ℕ) → header_bytes h count ++ body
    ≡ h.fsid ++ (u64 h.address ++ (u8 1 ++ (zeros 6 ++ (u8 1 ++ (chunk_tree_uuid ++ (u64 h.generation ++ (u64 h.owner ++ (u32 count ++ (u8 h.level ++ body)))))))))
unfolding header_bytes
header_right h count body = simp append_assoc refl

sum_right : (rest : List ℕ) → with_sum rest ≡ u32 (crc32c_of rest) ++ (zeros 28 ++ rest)
unfolding with_sum
sum_right rest = append_assoc (u32 (crc32c_of rest)) (zeros 28) rest

length_front : (rest : List ℕ) → length (u32 (crc32c_of rest) ++ zeros 28) ≡ 32
length_front rest = omega (arith, length-append (u32 (crc32c_of rest)) (zeros 28), length-u32 (crc32c_of rest), length-zeros 28)

pub drop_sum : (rest : List ℕ) → drop 0x20 (with_sum rest) ≡ rest
unfolding with_sum
drop_sum rest = drop_at (u32 (crc32c_of rest) ++ zeros 28) rest 32 (length_front rest)

pub length_sum : (rest : List ℕ) → length (with_sum rest) ≡ 32 + length rest
unfolding with_sum
length_sum rest = omega (arith, length_front rest, length-append (u32 (crc32c_of rest) ++ zeros 28) rest)

pub length-header : (h : BlockHeader) (count : ℕ) → IsHeader h → length (header_bytes h count) ≡ 69
unfolding header_bytes
length-header h count is =
    simp length-append (omega (arith, is.fsid, length-u64 h.address, length-u8 1, length-zeros 6, length_chunk_tree, length-u64 h.generation, length-u64 h.owner, length-u32 count, length-u8 h.level))

pub header_says : (h : BlockHeader) (count : ℕ) (body : List ℕ) → IsHeader h → count < 2 ^ 32 → HeaderSays h count body (with_sum (header_bytes h count ++ body))
header_says h count body is few =
    let rest : List ℕ = header_bytes h count ++ body in
    let bytes : List ℕ = with_sum rest in
    let r64 : List ℕ = u8 h.level ++ body in
    let r60 : List ℕ = u32 count ++ r64 in
    let r58 : List ℕ = u64 h.owner ++ r60 in
    let r50 : List ℕ = u64 h.generation ++ r58 in
    let r40 : List ℕ = chunk_tree_uuid ++ r50 in
    let r3f : List ℕ = u8 1 ++ r40 in
    let r39 : List ℕ = zeros 6 ++ r3f in
    let r38 : List ℕ = u8 1 ++ r39 in
    let r30 : List ℕ = u64 h.address ++ r38 in
    let at20 : drop 0x20 bytes ≡ h.fsid ++ r30 = drop_sum rest ∙ header_right h count body in
    let at30 : drop 0x30 bytes ≡ r30 = behind bytes h.fsid r30 0x20 16 0x30 at20 is.fsid refl in
    let at38 : drop 0x38 bytes ≡ r38 = behind bytes (u64 h.address) r38 0x30 8 0x38 at30 (length-u64 h.address) refl in
    let at39 : drop 0x39 bytes ≡ r39 = behind bytes (u8 1) r39 0x38 1 0x39 at38 (length-u8 1) refl in
    let at3f : drop 0x3f bytes ≡ r3f = behind bytes (zeros 6) r3f 0x39 6 0x3f at39 (length-zeros 6) refl in
    let at40 : drop 0x40 bytes ≡ r40 = behind bytes (u8 1) r40 0x3f 1 0x40 at3f (length-u8 1) refl in
    let at50 : drop 0x50 bytes ≡ r50 = behind bytes chunk_tree_uuid r50 0x40 16 0x50 at40 length_chunk_tree refl in
    let at58 : drop 0x58 bytes ≡ r58 = behind bytes (u64 h.generation) r58 0x50 8 0x58 at50 (length-u64 h.generation) refl in
    let at60 : drop 0x60 bytes ≡ r60 = behind bytes (u64 h.owner) r60 0x58 8 0x60 at58 (length-u64 h.owner) refl in
    let at64 : drop 0x64 bytes ≡ r64 = behind bytes (u32 count) r64 0x60 4 0x64 at60 (length-u32 count) refl in
    let at65 : drop 0x65 bytes ≡ body = behind bytes (u8 h.level) body 0x64 1 0x65 at64 (length-u8 h.level) refl in
    let sum0 : field 4 bytes 0 ≡ crc32c_of rest = reads_u32 bytes (zeros 28 ++ rest) 0 (crc32c_of rest) (sum_right rest) (crc32c_of_fits rest) in
    record {
      sum = ap crc32c_of (drop_sum rest) ∙ sym sum0;
      fsid = ap (take 16) at20 ∙ take_at h.fsid r30 16 is.fsid;
      address = reads_u64 bytes r38 0x30 h.address at30 is.address;
      flags = reads_u8 bytes r39 0x38 1 at38;
      generation = reads_u64 bytes r58 0x50 h.generation at50 is.generation;
      owner = reads_u64 bytes r60 0x58 h.owner at58 is.owner;
      count = reads_u32 bytes r64 0x60 count at60 few;
      level = reads_u8 bytes body 0x64 h.level at64;
      body = at65;
    }
