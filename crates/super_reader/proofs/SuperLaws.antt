-- What a superblock that breaks no rule keeps: its node size and the size of its system chunk array.
use Rattle.std.proofs.Common.{◌≡◌, ℕ, ◌≤◌, List, ◌++◌, Bool, true, false, not, arith}
use Rattle.std.proofs.lemmas.Grind.{common_steps}
use Rattle.std.specs.Prelude.{None}
use Rattle.verdict.proofs.Truth.{true_of_not}
use Rattle.recon_bytes.specs.Field.{field}
use Rattle.verdict.specs.Rules.{first_failing}
use Rattle.verdict.specs.Trees.{is_node_size}
use Rattle.verdict.proofs.Tables.{kept_at, joined_none}
use Rattle.super_reader.specs.Superblock.{identity_rules, feature_rules, limit_rules, superblock_rules, superblock_fields, IsReadable}

array_size_low : (bytes : List ℕ) → first_failing (limit_rules bytes) ≡ None → field 4 bytes 0xa0 ≤ 2048
unfolding limit_rules
array_size_low bytes kept = grind (arith, common_steps)

node_size_good : (bytes : List ℕ) → first_failing (feature_rules bytes) ≡ None → is_node_size (field 4 bytes 0x94) ≡ true
unfolding feature_rules
node_size_good bytes kept = true_of_not (is_node_size (field 4 bytes 0x94)) (kept_at 3 (feature_rules bytes) kept)

-- the fields of a superblock that breaks no rule
pub fields_readable : (bytes : List ℕ) → first_failing (superblock_rules bytes) ≡ None → IsReadable (superblock_fields bytes)
fields_readable bytes kept =
    let rest = (joined_none (identity_rules bytes) (feature_rules bytes ++ limit_rules bytes) kept).1 in
    let both = joined_none (feature_rules bytes) (limit_rules bytes) rest in
    record { nodesize = node_size_good bytes both.0; array = array_size_low bytes both.1 }
