-- The steps of a walk that gives records to a taker.
use Rattle.std.proofs.Common.{◌≡◌, ℕ, zero, suc, ◌+◌, ◌-◌, ◌<◌, ◌≤◌, List, [], ◌∷◌, ap, refl, sym, ◌∙◌, arith, IfSome, Option, Some, None, Ok, Err, false}
use Rattle.std.specs.List.{fold}
use Rattle.std.specs.Ordering.{nat_cmp}
use Rattle.std.specs.FinMap.{FinMap}
use Rattle.std.proofs.lemmas.List.Sums.{fold-append}
use Rattle.verdict.specs.Rules.{and_then}
use Rattle.recon_disk.specs.Keeping.{Kept}
use Rattle.recon_disk.specs.declared.disk.Disk.{Ghosts as DiskGhosts}
use Rattle.super_reader.specs.declared.Super.{Super}
use Rattle.node_reader.specs.Layout.{count_of, item_of, pointer_of, pointers_of}
use Rattle.node_reader.specs.Stored.{Stored}
use Rattle.node_reader.specs.declared.expect.Expect.{Expect}
use Rattle.node_reader.proofs.BlockLaws.{each_left, each_left_none}
use Rattle.write_cache.specs.Cache.{overlaid}
use Rattle.block_source.specs.Private.{items_from, pointers_from}
use Rattle.records.specs.Seen.{Seen}
use Rattle.records.specs.Takes.{held_after}
use Rattle.records.specs.Walk.{Records, behind, then_records, each, block_and, below, children_of}
use Rattle.records.specs.declared.take.Taker.{Ghosts as TakerGhosts}
use Rattle.block_source.specs.declared.read.BlockSource.{BlockSource}
use Rattle.block_source.specs.Counts.{with_read}

pub items_more : (bytes : List ℕ) (i : ℕ) → i < count_of bytes → items_from bytes i ≡ item_of bytes i ∷ items_from bytes (i + 1)
items_more bytes i inside = each_left (item_of bytes) i (count_of bytes) inside

pub items_none : (bytes : List ℕ) (i : ℕ) → count_of bytes ≤ i → items_from bytes i ≡ []
items_none bytes i past = each_left_none (item_of bytes) i (count_of bytes) past

pub pointers_more : (bytes : List ℕ) (i : ℕ) → i < count_of bytes → pointers_from bytes i ≡ pointer_of bytes i ∷ pointers_from bytes (i + 1)
pointers_more bytes i inside = each_left (pointer_of bytes) i (count_of bytes) inside

pub pointers_none : (bytes : List ℕ) (i : ℕ) → count_of bytes ≤ i → pointers_from bytes i ≡ []
pointers_none bytes i past = each_left_none (pointer_of bytes) i (count_of bytes) past

pub ruleset pointers_left = (pointers_more, pointers_none)

pub ruleset children_left = (pointers_more, pointers_none)

-- a loop kept the disk so far, and gave so much to a taker that what is left gives what the whole gives
pub record SoFar {D T : Type 0} (disk : DiskGhosts D) (taker : TakerGhosts T) (waiting : FinMap nat_cmp ℕ) (first now : D) (old new : T) (rest whole : List ℕ → Records) : Type 0 where
  pub kept : Kept disk first now false
  pub same : IfSome (disk.bytes first) (λ image. held_after taker.with (taker.held new) (rest (overlaid waiting 0 image)) ≡ held_after taker.with (taker.held old) (whole (overlaid waiting 0 image)))

-- it read so often that what is left makes of the counter what the whole makes
pub record ReadSoFar {D : Type 0} (disk : DiskGhosts D) (source : BlockSource) (first now : D) (rest whole : List ℕ → Records) : Type 0 where
  pub reads : IfSome (disk.bytes first) (λ image. held_after (with_read source) (disk.reads now) (rest (overlaid source.cache.now 0 image)) ≡ held_after (with_read source) (disk.reads first) (whole (overlaid source.cache.now 0 image)))

-- records are taken before those that follow
pub behind_held : {H : Type 0} (with : H → Seen → H) (held : H) (records : List Seen) (later : Records)
    → held_after with held (behind records later) ≡ held_after with (fold with held records) later
unfolding behind
behind_held with held records (Err finding) = refl
behind_held with held records (Ok others) = ap Ok (fold-append with held records others)

-- the same, where the first may have a finding
pub then_held : {H : Type 0} (with : H → Seen → H) (held : H) (first later : Records)
    → held_after with held (then_records first later) ≡ and_then (held_after with held first) (λ after. held_after with after later)
then_held with held (Err finding) later = refl
then_held with held (Ok records) later = behind_held with held records later

-- where these records and the rest give what the whole gives, the rest does behind them
pub then_same : {H : Type 0} (told : Option (List ℕ)) (waiting : FinMap nat_cmp ℕ) (with : H → Seen → H) (start before after : H) (these rest whole : List ℕ → Records)
    → IfSome told (λ image. held_after with before (then_records (these (overlaid waiting 0 image)) (rest (overlaid waiting 0 image))) ≡ held_after with start (whole (overlaid waiting 0 image)))
    → IfSome told (λ image. held_after with before (these (overlaid waiting 0 image)) ≡ Ok after)
    → IfSome told (λ image. held_after with after (rest (overlaid waiting 0 image)) ≡ held_after with start (whole (overlaid waiting 0 image)))
then_same None waiting with start before after these rest whole same here = tt
then_same (Some image) waiting with start before after these rest whole same here =
    let x = overlaid waiting 0 image in
    sym (ap (λ held. and_then held (λ one. held_after with one (rest x))) here) ∙ sym (then_held with before (these x) (rest x)) ∙ same

-- nothing is below a leaf
pub below_leaf : (level : ℕ) (sup : Super) (stored : Stored) (e : Expect) (bytes : List ℕ) → level ≡ 0 → below level sup stored e bytes ≡ Ok []
unfolding below
below_leaf zero sup stored e bytes leaf = refl
below_leaf (suc level) sup stored e bytes leaf = absurd (cc)

-- below a node are its children
pub below_node : (level : ℕ) (sup : Super) (stored : Stored) (e : Expect) (bytes : List ℕ) → (level ≡ 0 → ⊥)
    → below level sup stored e bytes ≡ each (block_and (below (level - 1) sup stored) sup stored) (children_of (level - 1) e (pointers_of bytes))
unfolding below
below_node zero sup stored e bytes node = absurd (node refl)
below_node (suc level) sup stored e bytes node =
    let same : level ≡ suc level - 1 = omega arith in
    ap (λ n. each (block_and (below n sup stored) sup stored) (children_of n e (pointers_of bytes))) same

-- what the loops and calls of a walk stand on
pub ruleset steps = (behind_held, then_held, below_leaf, below_node, items_more, items_none, pointers_more, pointers_none)
