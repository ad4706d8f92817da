-- How many bytes items have.
use Rattle.std.proofs.Common.{◌≡◌, ℕ, ◌+◌, ◌≤◌, List, length, refl, arith}
use Rattle.std.proofs.lemmas.List.{length-append}
use Rattle.std.specs.Prelude.{Option, Some, None}
use Rattle.verdict.specs.declared.key.Key.{Key}
use Rattle.image_maker.specs.Ids.{fsid, chunk_tree_uuid, device_uuid}
use Rattle.image_maker.specs.Items.{stripe_bytes, stripes_bytes, chunk_bytes, device_bytes, dev_extent_bytes, root_bytes, metadata_bytes, group_bytes, inode_bytes, inode_ref_bytes, dir_entry_bytes}
use Rattle.image_maker.specs.declared.items.ChunkAt.{ChunkAt}
use Rattle.image_maker.proofs.Numbers.{field_lengths}

length_fsid : length fsid ≡ 16
unfolding fsid
length_fsid = refl

pub length_chunk_tree : length chunk_tree_uuid ≡ 16
unfolding chunk_tree_uuid
length_chunk_tree = refl

length_device_uuid : length device_uuid ≡ 16
unfolding device_uuid
length_device_uuid = refl

ruleset parts = (length-append, field_lengths, length_fsid, length_chunk_tree, length_device_uuid)

length_stripe : (physical : ℕ) → length (stripe_bytes physical) ≡ 32
unfolding stripe_bytes
length_stripe physical = simp parts refl

pub length_stripes : (first : ℕ) (second : Option ℕ) → length (stripes_bytes first second) ≤ 68
unfolding stripes_bytes
length_stripes first None = simp (parts, length_stripe) (omega arith)
length_stripes first (Some second) = simp (parts, length_stripe) (omega arith)

pub length_chunk : (c : ChunkAt) → length (chunk_bytes c) ≤ 112
unfolding chunk_bytes
length_chunk c = simp parts (omega (arith, length_stripes c.first c.second))

pub length_device : (total used : ℕ) → length (device_bytes total used) ≡ 98
unfolding device_bytes
length_device total used = simp parts refl

pub length_dev_extent : (c : ChunkAt) → length (dev_extent_bytes c) ≡ 48
unfolding dev_extent_bytes
length_dev_extent c = simp parts refl

pub length_root : (generation dirid bytenr level : ℕ) → length (root_bytes generation dirid bytenr level) ≡ 439
unfolding root_bytes
length_root generation dirid bytenr level = simp parts refl

pub length_metadata : (generation tree : ℕ) → length (metadata_bytes generation tree) ≡ 33
unfolding metadata_bytes
length_metadata generation tree = simp parts refl

pub length_group : (used class : ℕ) → length (group_bytes used class) ≡ 24
unfolding group_bytes
length_group used class = simp parts refl

pub length_inode : (generation size nbytes mode : ℕ) → length (inode_bytes generation size nbytes mode) ≡ 160
unfolding inode_bytes
length_inode generation size nbytes mode = simp parts refl

pub length_inode_ref : (index : ℕ) (name : List ℕ) → length (inode_ref_bytes index name) ≡ 10 + length name
unfolding inode_ref_bytes
length_inode_ref index name = simp parts refl

pub length_dir_entry : (location : Key) (transid sort : ℕ) (name : List ℕ) → length (dir_entry_bytes location transid sort name) ≡ 30 + length name
unfolding dir_entry_bytes
length_dir_entry location transid sort name = simp parts refl

pub ruleset directory_sizes = (length_inode, length_inode_ref)

pub ruleset file_sizes = (length_inode, length_inode_ref, length_dir_entry)
