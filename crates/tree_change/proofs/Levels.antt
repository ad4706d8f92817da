-- The levels of an image's live pairs are below 8, since those of the roots are.
use Rattle.std.proofs.Common.{◌≡◌, ℕ, zero, suc, ◌<◌, ◌≤◌, ◌==◌, Bool, true, false, ◌||◌, List, [], ◌∷◌, ◌++◌, length, refl, ap, sym, subst, ◌∙◌, arith, if◌then◌else◌}
use Rattle.std.proofs.lemmas.Bool.{ltb-false}
use Rattle.std.specs.Prelude.{Result, Ok, Err, map, nat_lt, slice_index}
use Rattle.std.specs.List.{AllByRecursion, filter_map, flat_map}
use Rattle.tree_laws.proofs.FewVisits.{children_at}
use Rattle.tree_laws.proofs.OldStops.{all_append as append_all}
use Rattle.walk_laws.proofs.Trees.{step_ok}
use Rattle.verdict.specs.Image.{range}
use Rattle.verdict.specs.Rules.{and_then, finding_or, first_failing, image_finding}
use Rattle.verdict.specs.declared.finding.Family.TheVariants.{S}
use Rattle.verdict.specs.declared.finding.Finding.{Finding}
use Rattle.verdict.specs.declared.key.Key.{Key}
use Rattle.verdict.specs.declared.kinds.TheConstants.{DIR_ITEM, INODE_ITEM, INODE_REF, ROOT_BACKREF, ROOT_ITEM, ROOT_REF}
use Rattle.verdict.specs.declared.place.At.{At}
use Rattle.verdict.specs.declared.place.Chunk.{Chunk}
use Rattle.verdict.specs.declared.place.TreeSort.TheVariants.{Root}
use Rattle.verdict.proofs.Tables.{finding_or-ok, joined_none, kept_at}
use Rattle.super_reader.specs.Superblock.{feature_rules, identity_rules, limit_rules, superblock_fields, superblock_of, superblock_rules}
use Rattle.super_reader.specs.declared.Super.{Super}
use Rattle.volume_items.specs.RootLinkRow.{RootLinkFields, root_link_row}
use Rattle.volume_items.specs.RootRow.{root_fields, root_row, root_rows}
use Rattle.node_reader.specs.Layout.{pointers_of}
use Rattle.node_reader.specs.Stored.{Stored, block_in, stored_in}
use Rattle.node_reader.specs.declared.expect.Expect.{Expect}
use Rattle.node_reader.specs.declared.expect.Pointer.{Pointer}
use Rattle.records.specs.Contents.{chunk_tree_root, named_root, root_items_in, root_records, root_tree_root, roots_fault, superblock_in}
use Rattle.records.specs.Item.{item_record, record_in, root_tree_record, unlisted}
use Rattle.records.specs.Part.{Located, Part}
use Rattle.records.specs.Part.Part.{LinkPart, RootPart, UnreadPart}
use Rattle.records.specs.Walk.{children_of, walk_in}
use Rattle.records.specs.WalkLaw.{children_in, visited, visited_from}
use Rattle.tree_laws.specs.LivePairs.{Walked}
use Rattle.tree_laws.specs.MergedLaw.{items, root_in, roots_seen}
use Rattle.tree_laws.specs.SharedLaw.{HasTrees}
use Rattle.tree_laws.specs.TableLaw.{Tree}
use Rattle.tree_laws.proofs.MergedLists.{roots_are_seen, walk_fits}
use Rattle.tree_laws.proofs.Treed.{steps_of}
use Rattle.tree_change.proofs.Olds.{same_ok}
use Rattle.volume_items.specs.declared.root_at.RootAt.{RootAt}
use Rattle.volume_items.specs.RootPlace.{root_at}

low_of : (n : ℕ) → nat_lt 7 n ≡ false → n < 8
low_of n is = let most = ltb-false 7 n is in omega (arith, most)

-- ---- the roots of the root tree and of the chunk tree

pub supers_low : (image : List ℕ) (sup : Super) → superblock_in image ≡ Ok sup → (sup.root_level < 8) × (sup.chunk_root_level < 8)
unfolding superblock_in superblock_of limit_rules
supers_low image sup is = by (nat_lt (length image) 69632) is
  where
    by : (b : Bool) → (if b then Err (image_finding S 1 (length image)) else finding_or (first_failing (superblock_rules (range 65536 4096 image)))
        (superblock_fields (range 65536 4096 image))) ≡ Ok sup → (sup.root_level < 8) × (sup.chunk_root_level < 8)
    by true is = absurd (cc)
    by false is =
        let bytes = range 65536 4096 image in
        let fine = finding_or-ok (first_failing (superblock_rules bytes)) (superblock_fields bytes) sup is in
        let rest = (joined_none (identity_rules bytes) (feature_rules bytes ++ limit_rules bytes) fine.0).1 in
        let limits = (joined_none (feature_rules bytes) (limit_rules bytes) rest).1 in
        subst (λ (s : Super). (s.root_level < 8) × (s.chunk_root_level < 8)) (sym fine.1) (
          low_of (slice_index bytes 0xc6) (kept_at 0 (limit_rules bytes) limits),
          low_of (slice_index bytes 0xc7) (kept_at 1 (limit_rules bytes) limits),
        )

-- ---- the roots that root items name

abbrev pub IsLow : RootAt → Type 0
IsLow root = root.level < 8

abbrev FitsLevel : Key → Part → Type 0
FitsLevel key (RootPart root) = IsLow (root_at root)
FitsLevel key other = Unit {0}

level_fits : (at : At) (key : Key) (bytes : List ℕ) (part : Part) → at.sort ≡ Root → item_record at key bytes ≡ Ok part → FitsLevel key part
unfolding item_record root_tree_record root_row root_rows
level_fits at key bytes part sort is =
    by (key.kind == ROOT_ITEM) (key.kind == ROOT_REF || key.kind == ROOT_BACKREF)
    (key.kind == INODE_ITEM || key.kind == INODE_REF || key.kind == DIR_ITEM)
    (ap (λ s. record_in s at key bytes) (sym sort) ∙ is)
  where
    link : (row : Result RootLinkFields Finding) → and_then row (λ fields. Ok (LinkPart fields)) ≡ Ok part → FitsLevel key part
    link (Err finding) is = absurd (cc)
    link (Ok fields) is = let same : LinkPart fields ≡ part = cc in subst (FitsLevel key) same tt

    by : (a b c : Bool)
        → (if a then and_then (finding_or (first_failing (root_rows at key bytes)) (root_fields key bytes)) (λ fields. Ok (RootPart fields)) else
        (if b then and_then (root_link_row at key bytes) (λ fields. Ok (LinkPart fields)) else
        (if c then Ok (UnreadPart bytes) else unlisted at key))) ≡ Ok part → FitsLevel key part
    by true b c is =
        let made = step_ok (finding_or (first_failing (root_rows at key bytes)) (root_fields key bytes)) (λ fields. Ok (RootPart fields)) part is in
        let fine = finding_or-ok (first_failing (root_rows at key bytes)) (root_fields key bytes) made.0 made.1 in
        let same : RootPart made.0 ≡ part = cc (made.2) in
        subst (FitsLevel key) same (rw fine.1 (low_of (slice_index bytes 238) (kept_at 5 (root_rows at key bytes) fine.0)))
    by false true c is = link (root_link_row at key bytes) is
    by false false true is = let same : UnreadPart bytes ≡ part = cc in subst (FitsLevel key) same tt
    by false false false is = absurd (cc)

all_low : (ones : List Located) → AllByRecursion (λ (one : Located). FitsLevel one.key one.part) ones
    → AllByRecursion IsLow (filter_map (λ (one : Located). root_in one.part) ones)
all_low [] all = tt
all_low (one ∷ ones) all = by one.part all.0 (all_low ones all.1)
  where
    by : (part : Part) → FitsLevel one.key part → AllByRecursion IsLow (filter_map (λ (one : Located). root_in one.part) ones)
        → AllByRecursion IsLow (filter_map (λ (one : Located). root_in one.part) (record one { part = part } ∷ ones))
    by (RootPart root) low rest = (low, rest)
    by other low rest = rest

pub roots_low : (sup : Super) (chunks : List Chunk) (image : List ℕ) (roots : List RootAt) → root_items_in sup chunks image ≡ Ok roots
    → AllByRecursion IsLow roots
unfolding walk_in
roots_low sup chunks image roots is =
    let walk =
    step_ok (root_records sup chunks image)
    (λ records. and_then (finding_or (roots_fault sup.compat_ro (roots_seen records)) (tt {0})) (λ _. Ok (roots_seen records)))
    roots (sym (roots_are_seen sup chunks image) ∙ is) in
    let rules =
    step_ok (finding_or (roots_fault sup.compat_ro (roots_seen walk.0)) (tt {0})) (λ _. Ok (roots_seen walk.0)) roots walk.2 in
    subst (AllByRecursion IsLow) (same_ok (roots_seen walk.0) roots rules.2)
    (all_low (items walk.0)
    (walk_fits Root FitsLevel level_fits sup (stored_in image chunks sup.nodesize) (root_tree_root sup) walk.0 refl walk.1))

-- ---- all blocks

abbrev pub IsUpTo : ℕ → Expect → Type 0
IsUpTo level v = v.level ≤ level

more_all : (level : ℕ) (es : List Expect) → AllByRecursion (IsUpTo level) es → AllByRecursion (IsUpTo (suc level)) es
more_all level [] all = tt
more_all level (e ∷ es) all = let here : e.level ≤ level = all.0 in (omega (arith, here), more_all level es all.1)

children_of_block : (level : ℕ) (e : Expect) (block : Result (List ℕ) Finding) → AllByRecursion (λ c. c.level ≡ level) (children_in level e block)
children_of_block level e (Err finding) = tt
children_of_block level e (Ok bytes) = children_at level e (pointers_of bytes)

below_all : (level : ℕ) (of : Expect → List Expect) → ((c : Expect) → c.level ≡ level → AllByRecursion (IsUpTo level) (of c))
    → (cs : List Expect) → AllByRecursion (λ c. c.level ≡ level) cs → AllByRecursion (IsUpTo (suc level)) (flat_map of cs)
below_all level of each [] all = tt
below_all level of each (c ∷ cs) all =
    append_all (IsUpTo (suc level)) (of c) (flat_map of cs) (more_all level (of c) (each c all.0)) (below_all level of each cs all.1)

pub up_to : (level : ℕ) (sup : Super) (stored : Stored) (e : Expect) → e.level ≡ level
    → AllByRecursion (IsUpTo level) (visited_from level sup stored e)
unfolding visited_from
up_to zero sup stored e is = (omega (arith, is), tt)
up_to (suc level) sup stored e is = (
  omega (arith, is),
  below_all level (visited_from level sup stored) (up_to level sup stored) (children_in level e (block_in stored sup.fsid e))
      (children_of_block level e (block_in stored sup.fsid e)),
)

tree_low : (sup : Super) (stored : Stored) (root : Expect) → root.level < 8 → AllByRecursion (λ v. v.level < 8) (visited sup stored root)
tree_low sup stored root low = by (visited sup stored root) (up_to root.level sup stored root refl)
  where
    by : (es : List Expect) → AllByRecursion (IsUpTo root.level) es → AllByRecursion (λ v. v.level < 8) es
    by [] all = tt
    by (e ∷ es) all = let here : e.level ≤ root.level = all.0 in (omega (arith, here, low), by es all.1)

-- each block that the walks of an image's trees come to is on a level below 8
pub trees_low : (image : List ℕ) (whole : Walked) (trees : List Tree) → HasTrees image whole trees
    → AllByRecursion (λ (tree : Tree). AllByRecursion (λ v. v.level < 8) (visited whole.sup tree.0 tree.1)) trees
trees_low image whole trees has =
    let s = steps_of image whole has.walks in
    let supers = supers_low image whole.sup s.sup_is in
    subst (λ (ts : List Tree). AllByRecursion (λ (tree : Tree). AllByRecursion (λ v. v.level < 8) (visited whole.sup tree.0 tree.1)) ts)
    (sym has.trees_are) (
      tree_low whole.sup stored (chunk_tree_root whole.sup) supers.1,
      (tree_low whole.sup stored (root_tree_root whole.sup) supers.0, by has.roots (roots_low whole.sup whole.chunks image has.roots has.items)),
    )
  where
    stored : Stored
    stored = stored_in image whole.chunks whole.sup.nodesize

    by : (some : List RootAt) → AllByRecursion IsLow some
        → AllByRecursion (λ (tree : Tree). AllByRecursion (λ v. v.level < 8) (visited whole.sup tree.0 tree.1))
        (map (λ root. (stored_in image whole.chunks whole.sup.nodesize, named_root root)) some)
    by [] all = tt
    by (root ∷ some) all = (tree_low whole.sup stored (named_root root) all.0, by some all.1)
