-- How often a walk reads that keeps blocks: once for each copy of each block that it does not keep, where no pending writes cover it.
use Rattle.std.proofs.Common.{◌≡◌, ℕ, ◌-◌, List, ap, sym, ◌∙◌, IfSome, Option, Some, None, Ok, arith}
use Rattle.verdict.specs.Rules.{and_then}
use Rattle.write_cache.specs.Cache.{overlaid}
use Rattle.node_reader.specs.Layout.{pointer_of, pointers_of}
use Rattle.node_reader.specs.Places.{each_from}
use Rattle.node_reader.specs.Stored.{block_in, stored_in}
use Rattle.node_reader.specs.declared.expect.Expect.{Expect}
use Rattle.node_reader.specs.declared.expect.Pointer.{Pointer}
use Rattle.records.specs.Seen.{Seen}
use Rattle.records.specs.Takes.{held_after}
use Rattle.records.specs.Walk.{behind, block_and, children_of, each, own_records, then_records, walk_of}
use Rattle.block_source.specs.declared.read.BlockSource.{BlockSource}
use Rattle.block_source.specs.Counts.{after_block, with_read}
use Rattle.block_source.specs.Private.{pointers_from}
use Rattle.block_source.proofs.Counting.{own_reads, taken_counts}
use Rattle.block_source.proofs.Walking.{then_held}
use Rattle.tree_laws.specs.KeepingWalk.{skip_in}
use Rattle.tree_laws.specs.Skips.{Anew, Kept, next_of, nothing, skip_and, skip_below, skip_or}
use Rattle.tree_laws.proofs.Keepings.{skip_leaf, skip_node}

-- a block was read and its own records were taken: what is below it is left to count
block_counted : {H : Type 0} (kept : Kept) (anew : Anew) (source : BlockSource) (reads : ℕ) (e : Expect) (image bytes : List ℕ) (with : H → Seen → H) (before after : H)
    → kept e ≡ None
    → block_in (stored_in image source.map.now source.sup.now.nodesize) source.sup.now.fsid e ≡ Ok bytes
    → held_after with before (own_records source.sup.now e bytes) ≡ Ok after
    → held_after (with_read source) reads (skip_in kept anew source.sup.now source.map.now e image)
    ≡ held_after (with_read source) (after_block source e.address reads)
    (skip_below kept nothing anew e.level source.sup.now (stored_in image source.map.now source.sup.now.nodesize) (next_of e bytes))
unfolding skip_in
block_counted kept anew source reads e image bytes with before after new read taken =
    let sup = source.sup.now in
    let stored = stored_in image source.map.now sup.nodesize in
    let next = after_block source e.address reads in
    let under = λ (v : Expect) (b : List ℕ). skip_below kept nothing anew e.level sup stored (next_of v b) in
    let own : held_after (with_read source) reads (own_records sup e bytes) ≡ Ok next =
    own_reads source reads sup e bytes ∙ taken_counts with before after (own_records sup e bytes) next taken in
    ap (λ o. held_after (with_read source) reads (skip_or e (walk_of sup stored e) (behind (nothing e) (skip_below kept nothing anew e.level sup stored (anew e))) (block_and under sup stored e) o)) new
    ∙ ap (λ found. held_after (with_read source) reads (and_then found (λ b. then_records (own_records sup e b) (under e b)))) read
    ∙ then_held (with_read source) reads (own_records sup e bytes) (under e bytes)
    ∙ ap (λ found. and_then found (λ n. held_after (with_read source) n (under e bytes))) own

-- a leaf was read
pub keep_leaf_counted : {H : Type 0} (kept : Kept) (anew : Anew) (told : Option (List ℕ)) (source : BlockSource) (reads now : ℕ) (e : Expect) (bytes : List ℕ) (with : H → Seen → H) (before after : H)
    → kept e ≡ None → e.level ≡ 0
    → IfSome told (λ image. block_in (stored_in (overlaid source.cache.now 0 image) source.map.now source.sup.now.nodesize) source.sup.now.fsid e ≡ Ok bytes)
    → held_after with before (own_records source.sup.now e bytes) ≡ Ok after → now ≡ after_block source e.address reads
    → IfSome told (λ image. held_after (with_read source) reads (skip_in kept anew source.sup.now source.map.now e (overlaid source.cache.now 0 image)) ≡ Ok now)
keep_leaf_counted kept anew None source reads now e bytes with before after new leaf read taken is = tt
keep_leaf_counted kept anew (Some image) source reads now e bytes with before after new leaf read taken is =
    let x = overlaid source.cache.now 0 image in
    block_counted kept anew source reads e x bytes with before after new read taken
    ∙ ap (held_after (with_read source) (after_block source e.address reads))
    (skip_leaf kept nothing anew e.level source.sup.now (stored_in x source.map.now source.sup.now.nodesize) (next_of e bytes) leaf)
    ∙ ap Ok (sym is)

-- a node was read: its children are left
pub keep_node_counted : {H : Type 0} (kept : Kept) (anew : Anew) (told : Option (List ℕ)) (source : BlockSource) (reads now : ℕ) (e : Expect) (bytes : List ℕ) (with : H → Seen → H) (before after : H)
    → kept e ≡ None → (e.level ≡ 0 → ⊥)
    → IfSome told (λ image. block_in (stored_in (overlaid source.cache.now 0 image) source.map.now source.sup.now.nodesize) source.sup.now.fsid e ≡ Ok bytes)
    → held_after with before (own_records source.sup.now e bytes) ≡ Ok after → now ≡ after_block source e.address reads
    → IfSome told (λ image. (let stored = stored_in (overlaid source.cache.now 0 image) source.map.now source.sup.now.nodesize in
    held_after (with_read source) now (each (skip_and kept nothing anew (skip_below kept nothing anew (e.level - 1) source.sup.now stored) source.sup.now stored) (children_of (e.level - 1) e (pointers_from bytes 0)))
    ≡ held_after (with_read source) reads (skip_in kept anew source.sup.now source.map.now e (overlaid source.cache.now 0 image))))
keep_node_counted kept anew None source reads now e bytes with before after new node read taken is = tt
keep_node_counted kept anew (Some image) source reads now e bytes with before after new node read taken is =
    let x = overlaid source.cache.now 0 image in
    let stored = stored_in x source.map.now source.sup.now.nodesize in
    let of = λ (pointers : List Pointer). each (skip_and kept nothing anew (skip_below kept nothing anew (e.level - 1) source.sup.now stored) source.sup.now stored) (children_of (e.level - 1) e pointers) in
    let all : pointers_from bytes 0 ≡ pointers_of bytes = ap (each_from (pointer_of bytes) 0) (omega arith) in
    ap (λ n. held_after (with_read source) n (of (pointers_from bytes 0))) is
    ∙ ap (λ pointers. held_after (with_read source) (after_block source e.address reads) (of pointers)) all
    ∙ sym (ap (held_after (with_read source) (after_block source e.address reads)) (skip_node kept nothing anew e.level source.sup.now stored (next_of e bytes) node))
    ∙ sym (block_counted kept anew source reads e x bytes with before after new read taken)
