-- The rules on a chunk map as a whole. Their findings are of tree 3 and name the key (256, 228, start) of a chunk.
use Rattle.std.specs.Prelude.{ℕ, ◌+◌, ◌-◌, min, max, Bool, false, not, ◌&&◌, ◌||◌, ◌==◌, nat_eq, nat_lt, List, [], ◌∷◌, ◌++◌, length, slice_get, Option, Some, None}
use Rattle.std.specs.Option.{option_eq}
use Rattle.std.specs.List.{list_any}
use Rattle.verdict.specs.declared.trees.TheConstants.{CHUNK_TREE}
use Rattle.verdict.specs.Rules.{TableRow, first_failing}
use Rattle.verdict.specs.declared.finding.Finding.{Finding}
use Rattle.verdict.specs.declared.finding.Family.{Family}
use Rattle.verdict.specs.declared.finding.Family.TheVariants.{S, M}
use Rattle.verdict.specs.declared.place.Chunk.{Chunk}
use Rattle.volume_items.specs.ChunkOrder.{by_start}
use Rattle.verdict.specs.declared.kinds.TheConstants.{CHUNK_ITEM}

-- a finding on a chunk of the map
abbrev pub chunk_finding : Family → ℕ → ℕ → ℕ → Finding
chunk_finding family number start detail = record {
  rule = record { family = family; number = number };
  tree = CHUNK_TREE;
  block = 0;
  key = record { objectid = 256; kind = CHUNK_ITEM; offset = start };
  detail = detail;
}

-- the row of a rule on a chunk
abbrev pub chunk_rule : Chunk → Bool → Family → ℕ → ℕ → TableRow
chunk_rule chunk fails family number detail = record { fails = fails; finding = chunk_finding family number chunk.start detail }

-- whether two chunks have the same start, length, type and physical offsets
abbrev pub same_chunk : Chunk → Chunk → Bool
same_chunk a b = a.start == b.start && a.length == b.length && a.class == b.class && a.first == b.first && option_eq nat_eq a.second b.second

-- S10: a chunk of the system array is not in the chunk tree
abbrev pub array_rows : List Chunk → List Chunk → List TableRow
array_rows chunks [] = []
array_rows chunks (chunk ∷ array) = chunk_rule chunk (not (list_any (same_chunk chunk) chunks)) S 10 0 ∷ array_rows chunks array

-- whether n bytes at an offset and m bytes at another have a byte in common
abbrev pub have_common : ℕ → ℕ → ℕ → ℕ → Bool
have_common p n q m = nat_lt (max p q) (min (p + n) (q + m))

-- whether n bytes at a physical offset meet the second copy of a chunk of m bytes, if there is one
abbrev pub meets_second : ℕ → ℕ → Option ℕ → ℕ → Bool
meets_second p n None m = false
meets_second p n (Some q) m = have_common p n q m

-- whether n bytes at a physical offset meet a copy of a chunk
abbrev pub meets_chunk : ℕ → ℕ → Chunk → Bool
meets_chunk p n chunk = have_common p n chunk.first chunk.length || meets_second p n chunk.second chunk.length

-- the last of the chunks before
abbrev pub last_before : List Chunk → Option Chunk
last_before before = slice_get before (length before - 1)

-- whether a chunk starts before the end of the one before it
abbrev pub starts_inside : Option Chunk → Chunk → Bool
starts_inside None chunk = false
starts_inside (Some last) chunk = nat_lt chunk.start (last.start + last.length)

-- where the chunk before begins
abbrev pub start_before : Option Chunk → ℕ
start_before None = 0
start_before (Some last) = last.start

-- M3 and M2 of the second copy: it passes the end, or meets a copy of an earlier chunk or the first of its own
abbrev pub second_rows : List Chunk → Chunk → Option ℕ → ℕ → List TableRow
second_rows before chunk None end = []
second_rows before chunk (Some second) end =
    chunk_rule chunk (nat_lt end (second + chunk.length)) M 3 second
    ∷ chunk_rule chunk (list_any (meets_chunk second chunk.length) before || have_common second chunk.length chunk.first chunk.length) M 2 second
    ∷ []

-- the rules on a chunk behind those that start before it: M1, then M3 and M2 of each copy
abbrev pub rows_of_chunk : List Chunk → Chunk → ℕ → List TableRow
rows_of_chunk before chunk end =
    chunk_rule chunk (starts_inside (last_before before) chunk) M 1 (start_before (last_before before))
    ∷ chunk_rule chunk (nat_lt end (chunk.first + chunk.length)) M 3 chunk.first
    ∷ chunk_rule chunk (list_any (meets_chunk chunk.first chunk.length) before) M 2 chunk.first
    ∷ second_rows before chunk chunk.second end

-- the rules on chunks by start, one chunk after the other
abbrev pub rows_by_start : List Chunk → List Chunk → ℕ → List TableRow
rows_by_start before [] end = []
rows_by_start before (chunk ∷ chunks) end = rows_of_chunk before chunk end ++ rows_by_start (before ++ chunk ∷ []) chunks end

-- the first finding on the chunks of the chunk tree, beside those of the system array, on a device of end bytes
abbrev pub map_finding : List Chunk → List Chunk → ℕ → Option Finding
map_finding chunks array end = first_failing (array_rows chunks array ++ rows_by_start [] (by_start chunks) end)
