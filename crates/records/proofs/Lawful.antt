-- What an item that keeps its rules has: its sectors begin at multiples of 4096 and end at addresses of 64 bits.
use Rattle.std.proofs.Common.{◌≡◌, ℕ, ◌+◌, ◌*◌, ◌/◌, ◌%◌, ◌<◌, ◌^◌, Bool, true, false, not, ◌&&◌, ◌||◌, ◌==◌, cond, List, ◌++◌, length, drop, refl, subst, arith}
use Rattle.std.specs.Prelude.{None, Ok, nat_lt}
use Rattle.std.proofs.lemmas.Bool.{eqb-true, eq-eqb, ltb-false, or_parts}
use Rattle.std.proofs.lemmas.Bool.Decides.{nat_tests}
use Rattle.verdict.specs.Rules.{TableRow, first_failing}
use Rattle.verdict.specs.Items.{is_multiple, passes_64}
use Rattle.verdict.specs.declared.key.Key.{Key}
use Rattle.verdict.specs.declared.place.At.{At}
use Rattle.verdict.proofs.Tables.{finding_or-ok, joined_none, kept_at}
use Rattle.extent_items.specs.ExtentRow.{ExtentFields, block_head_rows, data_head_rows, extent_fields, extent_row, extent_rows, head_rows}
use Rattle.extent_items.specs.ReferenceRows.{reference_rows}
use Rattle.fs_items.specs.declared.file_extent.FileExtent.{FileExtent}
use Rattle.fs_items.specs.FileExtentRow.{disk_bytenr, disk_rows, file_extent_fields, file_extent_row, file_extent_rows, inline_rows, num_bytes, offset_in_extent, range_rows, type_of}
use Rattle.fs_items.specs.FileExtentRow.{head_rows as file_head_rows}
use Rattle.fs_items.specs.SumsRow.{SumFields, sum_fields, sum_row, sum_rows}
use Rattle.records.specs.Part.{AreSectors}

-- a rule that wants a multiple of a sector is kept
multiple : (n : ℕ) → not (is_multiple n) ≡ false → is_multiple n ≡ true
multiple n kept = grind (arith, nat_tests)

-- checksums
pub sums_sectors : (at : At) (key : Key) (bytes : List ℕ) (fields : SumFields) → sum_row at key bytes ≡ Ok fields → AreSectors fields.key.offset (4096 * (length fields.sums / 4))
unfolding sum_row
sums_sectors at key bytes fields is =
    let both = finding_or-ok (first_failing (sum_rows at key bytes)) (sum_fields key bytes) fields is in
    let begin : not (is_multiple key.offset) ≡ false = kept_at 2 (sum_rows at key bytes) both.0 in
    let fits : passes_64 key.offset (4096 * (length bytes / 4)) ≡ false = kept_at 4 (sum_rows at key bytes) both.0 in
    rw (both.1) ((multiple key.offset begin, omega (arith, ltb-false _ _ fits)))

-- an extent
extent_begins : (of_data : Bool) (at : At) (key : Key) (bytes : List ℕ) → first_failing (cond of_data (data_head_rows at key bytes) (block_head_rows at key bytes)) ≡ None → is_multiple key.objectid ≡ true
unfolding data_head_rows block_head_rows
extent_begins true at key bytes kept =
    let whole = kept_at 1 (data_head_rows at key bytes) kept in
    let three = (or_parts (not (is_multiple key.objectid) || not (is_multiple key.offset) || key.offset == 0) (passes_64 key.objectid key.offset) whole).0 in
    let two = (or_parts (not (is_multiple key.objectid) || not (is_multiple key.offset)) (key.offset == 0) three).0 in
    multiple key.objectid (or_parts (not (is_multiple key.objectid)) (not (is_multiple key.offset)) two).0
extent_begins false at key bytes kept =
    let whole = kept_at 1 (block_head_rows at key bytes) kept in
    let two = (or_parts (not (is_multiple key.objectid) || nat_lt 7 key.offset) (passes_64 key.objectid at.nodesize) whole).0 in
    multiple key.objectid (or_parts (not (is_multiple key.objectid)) (nat_lt 7 key.offset) two).0

pub extent_begins_sector : (at : At) (key : Key) (bytes : List ℕ) (fields : ExtentFields) → extent_row at key bytes ≡ Ok fields → is_multiple fields.key.objectid ≡ true
unfolding extent_row
extent_begins_sector at key bytes fields is =
    let both = finding_or-ok (first_failing (extent_rows at key bytes)) (extent_fields key bytes) fields is in
    let head = (joined_none (head_rows at key bytes) (reference_rows at key 24 (drop 24 bytes)) both.0).0 in
    rw (both.1) (extent_begins (key.kind == 168) at key bytes head)

-- the tables of a range of a file, where the extent is none of address 0
range_kept : (inline : Bool) (head first disk range : List TableRow) (extent : ℕ) → first_failing (head ++ cond inline first (disk ++ range)) ≡ None → 0 < cond inline 0 extent → (first_failing disk ≡ None) × (first_failing range ≡ None) × (inline ≡ false)
range_kept true head first disk range extent kept some = absurd (omega arith)
range_kept false head first disk range extent kept some =
    let both = joined_none disk range (joined_none head (disk ++ range) kept).1 in
    (both.0, both.1, refl)

-- a rule that speaks of what is no hole
no_hole : (extent : ℕ) (fails : Bool) → 0 < extent → (not (extent == 0) && fails) ≡ false → fails ≡ false
no_hole extent fails some kept = grind (arith, nat_tests)

both_multiples : (a b : ℕ) → is_multiple a ≡ true → is_multiple b ≡ true → is_multiple (a + b) ≡ true
both_multiples a b first second =
    let x = eqb-true (a % 4096) 0 first in
    let y = eqb-true (b % 4096) 0 second in
    let sum : (a + b) % 4096 ≡ 0 = omega (arith, x, y) in
    eq-eqb ((a + b) % 4096) 0 sum

-- a range of a file
pub range_sectors : (at : At) (key : Key) (bytes : List ℕ) (range : FileExtent) → file_extent_row at key bytes ≡ Ok range → 0 < range.extent → AreSectors (range.extent + range.offset) range.length
unfolding file_extent_row disk_rows range_rows
range_sectors at key bytes range is some =
    let both = finding_or-ok (first_failing (file_extent_rows at key bytes)) (file_extent_fields key bytes) range is in
    let there : 0 < (file_extent_fields key bytes).extent = subst (λ f. 0 < f.extent) both.1 some in
    let rows = range_kept (type_of bytes == 0) (file_head_rows at key bytes) (inline_rows at key bytes) (disk_rows at key bytes) (range_rows at key bytes) (disk_bytenr bytes) both.0 there in
    let extent : 0 < disk_bytenr bytes = subst (λ b. 0 < cond b 0 (disk_bytenr bytes)) rows.2 there in
    let ends = ltb-false _ _ (no_hole _ _ extent (kept_at 2 (range_rows at key bytes) rows.1)) in
    let part = ltb-false _ _ (no_hole _ _ extent (kept_at 3 (range_rows at key bytes) rows.1)) in
    let begin = multiple (disk_bytenr bytes) (kept_at 2 (disk_rows at key bytes) rows.0) in
    let inside = multiple (offset_in_extent bytes) (kept_at 4 (disk_rows at key bytes) rows.0) in
    let sum : disk_bytenr bytes + offset_in_extent bytes + num_bytes bytes < 2 ^ 64 = omega arith in
    let whole : AreSectors (cond (type_of bytes == 0) 0 (disk_bytenr bytes) + cond (type_of bytes == 0) 0 (offset_in_extent bytes)) (cond (type_of bytes == 0) 0 (num_bytes bytes)) =
    rw (rows.2) ((both_multiples _ _ begin inside, sum)) in
    rw (both.1) whole
