-- How often a walk reads: once for each copy of each block that no pending writes cover.
use Rattle.std.proofs.Common.{◌≡◌, ℕ, ◌==◌, ◌+◌, ◌-◌, ◌^◌, ◌≤◌, Bool, true, false, cond, List, [], ◌∷◌, ap, refl, sym, ◌∙◌, IfSome, Option, Some, None, Ok, Err, Result, arith}
use Rattle.std.proofs.Math.Nat.{min-le_left}
use Rattle.std.specs.List.{fold}
use Rattle.std.specs.Ordering.{nat_cmp}
use Rattle.std.specs.FinMap.{FinMap}
use Rattle.verdict.specs.Rules.{and_then}
use Rattle.verdict.specs.declared.finding.Finding.{Finding}
use Rattle.verdict.specs.declared.place.At.{At}
use Rattle.verdict.specs.declared.place.Place.{Place}
use Rattle.verdict.specs.declared.place.Place.TheVariants.{Nowhere, One, Two}
use Rattle.recon_disk.specs.Outside.{counted}
use Rattle.write_cache.specs.Cache.{overlaid}
use Rattle.super_reader.specs.declared.Super.{Super}
use Rattle.super_reader.specs.Superblock.{item_place}
use Rattle.node_reader.specs.Layout.{LeafItem, items_of, pointer_of, pointers_of}
use Rattle.node_reader.specs.Places.{each_from}
use Rattle.node_reader.specs.Stored.{block_in, stored_in}
use Rattle.node_reader.specs.declared.expect.Expect.{Expect}
use Rattle.node_reader.specs.declared.expect.Pointer.{Pointer}
use Rattle.records.specs.Item.{item_record}
use Rattle.records.specs.Part.{Located, Part}
use Rattle.records.specs.Seen.{Seen}
use Rattle.records.specs.Seen.Seen.{BlockSeen, ItemSeen}
use Rattle.records.specs.Takes.{held_after}
use Rattle.records.specs.Walk.{Records, behind, below, block_and, block_at, children_of, each, entry_records, just, leaf_record, leaf_records, own_records, pointer_records, then_records, walk_in}
use Rattle.block_source.specs.declared.read.BlockSource.{BlockSource}
use Rattle.block_source.specs.Counts.{after_block, after_copies, after_copy, copies_of, cover, with_read}
use Rattle.block_source.specs.Private.{pointers_from}
use Rattle.block_source.proofs.Walking.{behind_held, below_leaf, below_node, then_held}

-- records, where there is no finding, and then a count
abbrev counts : Records → ℕ → Result ℕ Finding
counts records reads = and_then records (λ _. Ok reads)

behind_counts : (first : List Seen) (later : Records) (reads : ℕ) → counts (behind first later) reads ≡ counts later reads
unfolding behind
behind_counts first (Err finding) reads = refl
behind_counts first (Ok others) reads = refl

-- an item is no read
item_reads : (source : BlockSource) (reads : ℕ) (found : Result Part Finding) (located : Part → Located) (rest : Records) → held_after (with_read source) reads rest ≡ counts rest reads
    → held_after (with_read source) reads (then_records (just (and_then found (λ part. Ok (ItemSeen (located part))))) rest) ≡ counts (then_records (just (and_then found (λ part. Ok (ItemSeen (located part))))) rest) reads
item_reads source reads (Err finding) located rest is = refl
item_reads source reads (Ok part) located rest is =
    behind_held (with_read source) reads (ItemSeen (located part) ∷ []) rest ∙ is ∙ sym (behind_counts (ItemSeen (located part) ∷ []) rest reads)

leaf_reads : (source : BlockSource) (reads : ℕ) (at : At) (items : List LeafItem)
    → held_after (with_read source) reads (each (λ item. just (leaf_record at item)) items) ≡ counts (each (λ item. just (leaf_record at item)) items) reads
leaf_reads source reads at [] = refl
leaf_reads source reads at (item ∷ items) =
    item_reads source reads (item_record at item.key item.bytes) (λ part. record { tree = at.tree; block = at.block; key = item.key; part = part })
    (each (λ other. just (leaf_record at other)) items) (leaf_reads source reads at items)

-- nor is a pointer
pointer_reads : (source : BlockSource) (reads : ℕ) (e : Expect) (pointers : List Pointer) → fold (with_read source) reads (pointer_records e pointers) ≡ reads
pointer_reads source reads e [] = refl
pointer_reads source reads e (pointer ∷ pointers) = pointer_reads source reads e pointers

entry_reads : (source : BlockSource) (reads : ℕ) (sup : Super) (e : Expect) (bytes : List ℕ) → held_after (with_read source) reads (entry_records sup e bytes) ≡ counts (entry_records sup e bytes) reads
unfolding leaf_records
entry_reads source reads sup e bytes =
    let leaf = each (λ item. just (leaf_record (item_place sup e.tree e.address e.generation) item)) (items_of bytes) in
    let node = pointer_records e (pointers_of bytes) in
    elim (e.level == 0) as (λ b. held_after (with_read source) reads (cond b leaf (Ok node)) ≡ counts (cond b leaf (Ok node)) reads)
    [ true ↦ leaf_reads source reads (item_place sup e.tree e.address e.generation) (items_of bytes) | false ↦ ap Ok (pointer_reads source reads e (pointers_of bytes)) ]

-- a block is
pub own_reads : (source : BlockSource) (reads : ℕ) (sup : Super) (e : Expect) (bytes : List ℕ)
    → held_after (with_read source) reads (own_records sup e bytes) ≡ counts (own_records sup e bytes) (after_block source e.address reads)
unfolding own_records
own_reads source reads sup e bytes =
    behind_held (with_read source) reads (BlockSeen (block_at e bytes) ∷ []) (entry_records sup e bytes)
    ∙ entry_reads source (after_block source e.address reads) sup e bytes
    ∙ sym (behind_counts (BlockSeen (block_at e bytes) ∷ []) (entry_records sup e bytes) (after_block source e.address reads))

-- records that were taken have no finding
pub taken_counts : {H : Type 0} (with : H → Seen → H) (before after : H) (records : Records) (reads : ℕ) → held_after with before records ≡ Ok after → counts records reads ≡ Ok reads
taken_counts with before after (Err finding) reads is = absurd (cc)
taken_counts with before after (Ok records) reads is = refl

-- a block was read and its own records were taken: what is below it is left to count
block_counted : {H : Type 0} (source : BlockSource) (reads : ℕ) (e : Expect) (image bytes : List ℕ) (with : H → Seen → H) (before after : H)
    → block_in (stored_in image source.map.now source.sup.now.nodesize) source.sup.now.fsid e ≡ Ok bytes
    → held_after with before (own_records source.sup.now e bytes) ≡ Ok after
    → held_after (with_read source) reads (walk_in source.sup.now source.map.now e image)
    ≡ held_after (with_read source) (after_block source e.address reads) (below e.level source.sup.now (stored_in image source.map.now source.sup.now.nodesize) e bytes)
unfolding walk_in
block_counted source reads e image bytes with before after read taken =
    let sup = source.sup.now in
    let stored = stored_in image source.map.now sup.nodesize in
    let next = after_block source e.address reads in
    let under = below e.level sup stored e in
    let own : held_after (with_read source) reads (own_records sup e bytes) ≡ Ok next =
    own_reads source reads sup e bytes ∙ taken_counts with before after (own_records sup e bytes) next taken in
    ap (λ found. held_after (with_read source) reads (and_then found (λ b. then_records (own_records sup e b) (under b)))) read
    ∙ then_held (with_read source) reads (own_records sup e bytes) (under bytes)
    ∙ ap (λ found. and_then found (λ n. held_after (with_read source) n (under bytes))) own

-- a leaf was read
pub leaf_counted : {H : Type 0} (told : Option (List ℕ)) (source : BlockSource) (reads now : ℕ) (e : Expect) (bytes : List ℕ) (with : H → Seen → H) (before after : H) → e.level ≡ 0
    → IfSome told (λ image. block_in (stored_in (overlaid source.cache.now 0 image) source.map.now source.sup.now.nodesize) source.sup.now.fsid e ≡ Ok bytes)
    → held_after with before (own_records source.sup.now e bytes) ≡ Ok after → now ≡ after_block source e.address reads
    → IfSome told (λ image. held_after (with_read source) reads (walk_in source.sup.now source.map.now e (overlaid source.cache.now 0 image)) ≡ Ok now)
leaf_counted None source reads now e bytes with before after leaf read taken is = tt
leaf_counted (Some image) source reads now e bytes with before after leaf read taken is =
    let x = overlaid source.cache.now 0 image in
    block_counted source reads e x bytes with before after read taken
    ∙ ap (held_after (with_read source) (after_block source e.address reads)) (below_leaf e.level source.sup.now (stored_in x source.map.now source.sup.now.nodesize) e bytes leaf)
    ∙ ap Ok (sym is)

-- a node was read: its children are left
pub node_counted : {H : Type 0} (told : Option (List ℕ)) (source : BlockSource) (reads now : ℕ) (e : Expect) (bytes : List ℕ) (with : H → Seen → H) (before after : H) → (e.level ≡ 0 → ⊥)
    → IfSome told (λ image. block_in (stored_in (overlaid source.cache.now 0 image) source.map.now source.sup.now.nodesize) source.sup.now.fsid e ≡ Ok bytes)
    → held_after with before (own_records source.sup.now e bytes) ≡ Ok after → now ≡ after_block source e.address reads
    → IfSome told (λ image. (let stored = stored_in (overlaid source.cache.now 0 image) source.map.now source.sup.now.nodesize in
    held_after (with_read source) now (each (block_and (below (e.level - 1) source.sup.now stored) source.sup.now stored) (children_of (e.level - 1) e (pointers_from bytes 0)))
    ≡ held_after (with_read source) reads (walk_in source.sup.now source.map.now e (overlaid source.cache.now 0 image))))
node_counted None source reads now e bytes with before after node read taken is = tt
node_counted (Some image) source reads now e bytes with before after node read taken is =
    let x = overlaid source.cache.now 0 image in
    let stored = stored_in x source.map.now source.sup.now.nodesize in
    let of = λ (pointers : List Pointer). each (block_and (below (e.level - 1) source.sup.now stored) source.sup.now stored) (children_of (e.level - 1) e pointers) in
    let all : pointers_from bytes 0 ≡ pointers_of bytes = ap (each_from (pointer_of bytes) 0) (omega arith) in
    ap (λ n. held_after (with_read source) n (of (pointers_from bytes 0))) is
    ∙ ap (λ pointers. held_after (with_read source) (after_block source e.address reads) (of pointers)) all
    ∙ sym (ap (held_after (with_read source) (after_block source e.address reads)) (below_node e.level source.sup.now stored e bytes node))
    ∙ sym (block_counted source reads e x bytes with before after read taken)

-- a block is read at most twice
copy_one : (waiting : FinMap nat_cmp ℕ) (n at reads : ℕ) → after_copy waiting n at reads ≤ reads + 1
copy_one waiting n at reads = by (cover waiting at n)
  where
    by : (b : Bool) → cond b reads (counted reads) ≤ reads + 1
    by true = omega arith
    by false = min-le_left (reads + 1) (2 ^ 64 - 1)

copies_two : (waiting : FinMap nat_cmp ℕ) (n : ℕ) (at : Place) (reads : ℕ) → after_copies waiting n at reads ≤ reads + 2
copies_two waiting n Nowhere reads = omega arith
copies_two waiting n (One first) reads = omega (arith, copy_one waiting n first reads)
copies_two waiting n (Two first second) reads =
    let one = copy_one waiting n first reads in
    let two = copy_one waiting n second (after_copy waiting n first reads) in
    omega (arith, one, two)

pub block_two : (source : BlockSource) (address reads : ℕ) → after_block source address reads ≤ reads + 2
block_two source address reads = copies_two source.cache.now source.sup.now.nodesize (copies_of source address) reads
