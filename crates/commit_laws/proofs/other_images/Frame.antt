-- What is known of an image is known of each that has the same superblock and the same live blocks.
use Rattle.std.proofs.Common.{◌≡◌, ℕ, true, List, [], ◌∷◌, length, refl, ap, sym, subst, ◌∙◌, if◌then◌else◌}
use Rattle.std.specs.Prelude.{Some, Ok, Err, is_some, map, nat_lt}
use Rattle.std.specs.List.{AllByRecursion}
use Rattle.verdict.proofs.Lists.{all_map as each_map}
use Rattle.verdict.specs.Chunks.{place}
use Rattle.verdict.specs.Items.{is_multiple}
use Rattle.verdict.specs.Rules.{and_then, finding_or, image_finding}
use Rattle.verdict.specs.declared.finding.Family.TheVariants.{S}
use Rattle.verdict.specs.declared.place.Chunk.{Chunk}
use Rattle.verdict.specs.declared.place.Place.{Place}
use Rattle.verdict.specs.declared.place.Place.TheVariants.{Nowhere, One, Two}
use Rattle.super_reader.specs.declared.Super.{Super}
use Rattle.super_reader.specs.Superblock.{superblock_of}
use Rattle.volume_items.specs.MapRules.{map_finding}
use Rattle.node_reader.specs.Stored.{alike, bytes_at, least_difference, stored_in}
use Rattle.node_reader.specs.Stored.CopyFault.{NoPlace}
use Rattle.node_reader.specs.declared.expect.Expect.{Expect}
use Rattle.records.specs.Contents.{Contents, all_records, chunk_map_in, chunk_tree_root, contents, named_root, root_items_in, root_tree_root, roots_fault, superblock_in, tree_records}
use Rattle.records.specs.Context.{context_of}
use Rattle.records.specs.FullCheck.{checked_with, full_check, verdict_of}
use Rattle.records.specs.Postings.{account_fault}
use Rattle.records.specs.Takes.{held_after, with_chunk, with_root}
use Rattle.records.specs.Walk.{then_records, walk_in}
use Rattle.records.specs.WalkLaw.{StoredAlike, visited}
use Rattle.records.proofs.Alike.{walk_alike}
use Rattle.tree_laws.specs.ArrayLaw.{IsAsByAll}
use Rattle.tree_laws.specs.Keeping.{Stands, live_at}
use Rattle.tree_laws.specs.LivePairs.{Walked, live_in, table_of, walked}
use Rattle.tree_laws.specs.TableLaw.{Tree}
use Rattle.tree_laws.proofs.ArrayPlaces.{as_by_all}
use Rattle.tree_laws.proofs.Picking.{each_both}
use Rattle.tree_laws.proofs.Rooted.{table_stands}
use Rattle.tree_laws.proofs.Treed.{Steps, steps_of}
use Rattle.commit_laws.specs.Frame.{FrameLaw, HaveSame, HaveSameCopies}
use Rattle.commit_laws.proofs.Held.{holds}
use Rattle.volume_items.specs.declared.root_at.RootAt.{RootAt}

-- what all steps come to
walked_by : (image : List ℕ) (whole : Walked) → Steps image whole → walked image ≡ Ok whole
unfolding walked
walked_by image whole s = rw (s.sup_is, s.arrays, s.chunks_are, s.items, s.records) refl

contents_alike : (image other : List ℕ) (whole : Walked) (s : Steps image whole) (t : Steps other whole) → t.array ≡ s.array → t.roots ≡ s.roots
    → contents other ≡ contents image
unfolding contents
contents_alike image other whole s t array roots =
    rw (t.sup_is, t.arrays, t.chunks_are, t.items, t.records, s.sup_is, s.arrays, s.chunks_are, s.items, s.records, roots) refl

module _ (image other : List ℕ) (size : length other ≡ length image) where
  same_bytes : (n : ℕ) (at : Place) → HaveSameCopies n image other at → bytes_at n other at ≡ bytes_at n image at
  same_bytes n Nowhere same = refl
  same_bytes n (One first) same = λ i. Ok (same i)
  same_bytes n (Two first second) same = λ i. alike (same.0 i) (least_difference (same.0 i) (same.1 i))

  -- the same is stored at an address where each copy is the same
  same_stored : (chunks : List Chunk) (n address : ℕ) → HaveSameCopies n image other (place chunks address n (length image))
      → stored_in other chunks n address ≡ stored_in image chunks n address
  unfolding stored_in
  same_stored chunks n address same =
      ap (λ bytes. if is_multiple address then bytes else Err NoPlace)
      (ap (λ end. bytes_at n other (place chunks address n end)) size ∙ same_bytes n (place chunks address n (length image)) same)

  -- a walk is the same where that is so of each block that it comes to
  abbrev SameBy : List Chunk → ℕ → Expect → Type 0
  SameBy chunks n v = HaveSameCopies n image other (place chunks v.address n (length image))

  all_alike : (chunks : List Chunk) (n : ℕ) (es : List Expect) → AllByRecursion (SameBy chunks n) es
      → StoredAlike (stored_in image chunks n) (stored_in other chunks n) es
  all_alike chunks n [] all = tt
  all_alike chunks n (e ∷ es) all = (same_stored chunks n e.address all.0, all_alike chunks n es all.1)

  same_walk : (sup : Super) (chunks : List Chunk) (root : Expect)
      → AllByRecursion (SameBy chunks sup.nodesize) (visited sup (stored_in image chunks sup.nodesize) root)
      → walk_in sup chunks root other ≡ walk_in sup chunks root image
  unfolding walk_in
  same_walk sup chunks root all =
      walk_alike root.level sup (stored_in image chunks sup.nodesize) (stored_in other chunks sup.nodesize) root
      (all_alike chunks sup.nodesize (visited sup (stored_in image chunks sup.nodesize) root) all)

  same_super : HaveSame 4096 image other 65536 → superblock_in other ≡ superblock_in image
  unfolding superblock_in
  same_super same = λ i. if nat_lt (size i) 69632 then Err (image_finding S 1 (size i)) else superblock_of (same i)

  same_map : (sup : Super) (array : List Chunk) → walk_in sup array (chunk_tree_root sup) other ≡ walk_in sup array (chunk_tree_root sup) image
      → chunk_map_in sup array other ≡ chunk_map_in sup array image
  unfolding chunk_map_in
  same_map sup array same = λ i. and_then (held_after with_chunk [] (same i)) (λ chunks.
      and_then (finding_or (map_finding chunks array (size i)) (tt {0})) (λ _. Ok chunks))

  same_items : (sup : Super) (chunks : List Chunk) → walk_in sup chunks (root_tree_root sup) other ≡ walk_in sup chunks (root_tree_root sup) image
      → root_items_in sup chunks other ≡ root_items_in sup chunks image
  unfolding root_items_in
  same_items sup chunks same = λ i. and_then (held_after with_root [] (same i)) (λ roots.
      and_then (finding_or (roots_fault sup.compat_ro roots) (tt {0})) (λ _. Ok roots))

  module _ (whole : Walked)
      (copies : (tree address : ℕ) → is_some (table_of (live_in whole.seen) tree address) ≡ true
      → HaveSameCopies whole.sup.nodesize image other (place whole.chunks address whole.sup.nodesize (length image))) where
    abbrev StandsFor : Tree → Type 0
    StandsFor tree = Stands (table_of (live_in whole.seen)) whole.sup tree.0 tree.1

    -- it is so of each block of a tree for which the table stands
    same_each : (tree : Tree) → StandsFor tree → AllByRecursion (SameBy whole.chunks whole.sup.nodesize) (visited whole.sup tree.0 tree.1)
    same_each tree stands =
        each_map (λ v. table_of (live_in whole.seen) v.tree v.address ≡ Some (live_at whole.sup tree.0 v))
        (SameBy whole.chunks whole.sup.nodesize) (visited whole.sup tree.0 tree.1)
        (λ v is. copies v.tree v.address (rw is refl)) stands.each.each

    same_trees : (roots : List RootAt)
        → AllByRecursion StandsFor (map (λ root. (stored_in image whole.chunks whole.sup.nodesize, named_root root)) roots)
        → tree_records whole.sup whole.chunks roots other ≡ tree_records whole.sup whole.chunks roots image
    same_trees [] all = refl
    same_trees (root ∷ roots) all =
        let here =
        same_walk whole.sup whole.chunks (named_root root)
        (same_each (stored_in image whole.chunks whole.sup.nodesize, named_root root) all.0) in
        let rest = same_trees roots all.1 in
        λ i. then_records (here i) (rest i)

    -- the steps of one image are those of the other
    steps_same : HaveSame 4096 image other 65536 → walked image ≡ Ok whole → (s : Steps image whole)
        → (t : Steps other whole) × (t.array ≡ s.array) × (t.roots ≡ s.roots)
    unfolding all_records
    steps_same super is s =
        let sup = whole.sup in
        let n = sup.nodesize in
        let mine = stored_in image s.array n in
        let root = chunk_tree_root sup in
        let stand = table_stands image whole s.array s.roots is s.arrays s.items in
        let chunk : walk_in sup s.array root other ≡ walk_in sup s.array root image =
        same_walk sup s.array root
        (each_map (λ v. SameBy whole.chunks n v × IsAsByAll image whole s.array v) (SameBy s.array n) (visited sup mine root)
        (λ v h. subst (HaveSameCopies n image other) (sym h.1.stands) h.0)
        (each_both (SameBy whole.chunks n) (IsAsByAll image whole s.array) (visited sup mine root) (same_each (mine, root) stand.0)
        (as_by_all image whole s.array (record { walks = is; array_is = s.arrays })))) in
        let top : walk_in sup whole.chunks (root_tree_root sup) other ≡ walk_in sup whole.chunks (root_tree_root sup) image =
        same_walk sup whole.chunks (root_tree_root sup) (same_each (stored_in image whole.chunks n, root_tree_root sup) stand.1.0) in
        let trees = same_trees s.roots stand.1.1 in
        let all : all_records sup s.array whole.chunks s.roots other ≡ all_records sup s.array whole.chunks s.roots image =
        λ i. then_records (chunk i) (then_records (top i) (trees i)) in (
          record {
            sup_is = same_super super ∙ s.sup_is;
            array = s.array;
            arrays = s.arrays;
            chunks_are = same_map sup s.array chunk ∙ s.chunks_are;
            roots = s.roots;
            items = same_items sup whole.chunks top ∙ s.items;
            records = all ∙ s.records;
          },
          refl,
          refl,
        )

pub same_held : (image : List ℕ) (a b : Contents) → contents image ≡ Ok a → contents image ≡ Ok b → a ≡ b
same_held image a b x y = cc

same_check : (image other : List ℕ) → contents other ≡ contents image → full_check other ≡ full_check image
unfolding checked_with
same_check image other same =
    ap (λ held. verdict_of (and_then held (λ h. and_then (finding_or (account_fault (context_of h) h.records) (tt {0})) (λ _. Ok h.sup.generation))))
    same

pub frame : FrameLaw
frame image other k known agrees =
    let b = known.bases in
    let whole = b.trees in
    let held = holds image whole b.walks in
    let same : b.held ≡ held.0 = same_held image b.held held.0 b.holds held.1 in
    let sup : k.sup ≡ whole.sup = b.super_is ∙ (ap (λ (h : Contents). h.sup) same ∙ held.2.sup) in
    let chunks : k.chunks ≡ whole.chunks = b.chunks_are ∙ (ap (λ (h : Contents). h.chunks) same ∙ held.2.chunks) in
    let s = steps_of image whole b.walks in
    let t =
    steps_same image other agrees.size whole
    (λ tree address is. subst (λ (cs : List Chunk). HaveSameCopies whole.sup.nodesize image other (place cs address whole.sup.nodesize (length image))) chunks
    (subst (λ (x : Super). HaveSameCopies x.nodesize image other (place k.chunks address x.nodesize (length image))) sup
    (agrees.copies tree address (ap is_some (b.pairs_are tree address) ∙ is))))
    agrees.super b.walks s in
    let walks : walked other ≡ walked image = walked_by other whole t.0 ∙ sym b.walks in
    let hold : contents other ≡ contents image = contents_alike image other whole s t.0 t.1 t.2 in
    let check : full_check other ≡ full_check image = same_check image other hold in (
      check,
      walks,
      record {
        bases = record {
          generation = b.generation;
          accepted = check ∙ b.accepted;
          held = b.held;
          holds = hold ∙ b.holds;
          super_is = b.super_is;
          chunks_are = b.chunks_are;
          roots_are = b.roots_are;
          free_are = b.free_are;
          full_are = b.full_are;
          trees = whole;
          walks = walks ∙ b.walks;
          pairs_are = b.pairs_are;
        };
        sums = known.sums;
        spans = known.spans;
      },
    )
