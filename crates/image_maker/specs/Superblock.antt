-- The superblock of the made images, as what stands at each offset. All else is zero.
use Rattle.std.specs.Prelude.{ℕ, List, [], ◌∷◌, drop}
use Rattle.recon_bytes.specs.Field.{with_field}
use Rattle.recon_crc.specs.Checksum.{crc32c_of}
use Rattle.verdict.specs.Image.{applied}
use Rattle.verdict.specs.declared.machine.HeldWrite.{HeldWrite}
use Rattle.image_maker.specs.Ids.{fsid, device_uuid}
use Rattle.image_maker.specs.Numbers.{u8, u16, u32, u64, zeros}
use Rattle.verdict.specs.declared.kinds.TheConstants.{CHUNK_ITEM}

-- the magic: _BHRfS_M
unfoldable pub magic : List ℕ
magic = 95 ∷ 66 ∷ 72 ∷ 82 ∷ 102 ∷ 83 ∷ 95 ∷ 77 ∷ []

-- bytes that stand at an offset
abbrev pub part : ℕ → List ℕ → HeldWrite
part at bytes = record { at = at; bytes = bytes }

-- the parts in front of the device's item, by the generation and the root tree's block: fsid, address, flags, magic,
-- generation, root, chunk root, size of the device, bytes used, root directory, number of devices, sizes of a sector and a
-- block, size of the system chunk array, generation of the chunk root, incompatible features
unfoldable pub front_parts : ℕ → ℕ → List HeldWrite
front_parts generation root =
    part 0x20 fsid
    ∷ part 0x30 (u64 65536)
    ∷ part 0x38 (u64 1)
    ∷ part 0x40 magic
    ∷ part 0x48 (u64 generation)
    ∷ part 0x50 (u64 root)
    ∷ part 0x58 (u64 1048576)
    ∷ part 0x70 (u64 33554432)
    ∷ part 0x78 (u64 98304)
    ∷ part 0x80 (u64 6)
    ∷ part 0x88 (u64 1)
    ∷ part 0x90 (u32 4096)
    ∷ part 0x94 (u32 16384)
    ∷ part 0xa0 (u32 97)
    ∷ part 0xa4 (u64 1)
    ∷ part 0xbc (u64 865)
    ∷ []

-- the device's item: its id, its size, its bytes in chunks, its uuid, the fsid
unfoldable pub device_parts : List HeldWrite
device_parts =
    part 0xc9 (u64 1)
    ∷ part 0xd1 (u64 33554432)
    ∷ part 0xd9 (u64 29360128)
    ∷ part 0x10b device_uuid
    ∷ part 0x11b fsid
    ∷ []

-- the system chunk array: the key and the item of the first chunk, which are its length, owner, stripe length, type, io
-- alignment, io width, sector size and number of stripes, and the stripe's device, offset and uuid
unfoldable pub system_parts : List HeldWrite
system_parts =
    part 0x32b (u64 256)
    ∷ part 0x333 (u8 CHUNK_ITEM)
    ∷ part 0x334 (u64 1048576)
    ∷ part 0x33c (u64 4194304)
    ∷ part 0x344 (u64 2)
    ∷ part 0x34c (u64 65536)
    ∷ part 0x354 (u64 2)
    ∷ part 0x35c (u32 65536)
    ∷ part 0x360 (u32 65536)
    ∷ part 0x364 (u32 4096)
    ∷ part 0x368 (u16 1)
    ∷ part 0x36c (u64 1)
    ∷ part 0x374 (u64 1048576)
    ∷ part 0x37c device_uuid
    ∷ []

-- bytes with the checksum of those from 0x20 on in their first four
unfoldable pub summed : List ℕ → List ℕ
summed bytes = with_field 4 bytes 0 (crc32c_of (drop 0x20 bytes))

-- the superblock, 4096 bytes, by its generation and the root tree's block
unfoldable pub superblock_bytes : ℕ → ℕ → List ℕ
superblock_bytes generation root =
    summed (applied (applied (applied (zeros 4096) (front_parts generation root)) device_parts) system_parts)
